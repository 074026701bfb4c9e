use Rattle.std.proofs.Common.{◌≡◌, ◌≤◌, suc, false, sym, subst}
use Rattle.std.proofs.lemmas.Result.{IfOk-weaker}
use Rattle.serde_json.specs.Data.{depth}
use Rattle.serde_json.specs.Written.{has_float}
use Rattle.xds_resource.specs.Resources.{max_nesting}
use Rattle.xds_message.proofs.StampedWriteLemmas.{has_float-write_object, depth-write_object}
use Rattle.xds_message.proofs.writes.object_of_write.Goals as goal

pub returns-clause-whole : goal.returns-clause-whole
returns-clause-whole g c =
    let whole = has_float-write_object g.T.ResourceType.TYPE c.args.write.now c.shared_body.ensures.writable in
    IfOk-weaker c.object_with.result _ _ (λ v is. subst (λ d. has_float d ≡ false) (sym is) whole) c.object_with.ensures.ok

pub returns-clause-shallow : goal.returns-clause-shallow
returns-clause-shallow g c =
    let shallow = depth-write_object g.T.ResourceType.TYPE c.args.write.now c.shared_body.ensures.writable in
    IfOk-weaker c.object_with.result _ _ (λ v is. subst (λ d. depth d ≤ suc max_nesting) (sym is) shallow) c.object_with.ensures.ok
