use Rattle.std.proofs.Common.{◌≡◌, [], Some, ap, sym, ◌∙◌}
use Rattle.std.specs.Option.{option_map}
use Rattle.std.proofs.lemmas.Result.{err_from_is_err_and}
use Rattle.xds_script.specs.Happenings as happenings
use Rattle.xds_script.specs.Words.{split_first, replica_number}
use Rattle.xds_script.specs.Commands.{Happens, read_first, resource_behind}
use Rattle.xds_script.proofs.Behind.{made_refused, behind_refused}
use Rattle.xds_script.proofs.texts.put.Goals as goal

pub returns-in_err-resource : goal.returns-in_err-resource
returns-in_err-resource c =
    let p = err_from_is_err_and c.from_residual-in_err-resource.result c.from_residual-in_err-resource.ensures.1 in
    let split : split_first c.args.words ≡ Some (c.in_ok-replica.replica.now, c.in_ok-replica.rest) = sym c.split_first.ensures ∙ ap (option_map (λ q. (q.0.now, q.1))) c.in_ok-replica.ensures.ok_part in
    let read : replica_number c.in_ok-replica.replica.now ≡ Some c.in_ok-replica-2.replica = sym c.replica_number.ensures ∙ c.in_ok-replica-2.ensures.ok_part in
    rw (p.1, p.2)
    (λ other. made_refused (λ q. Happens (happenings.Put q.0 q.1.0 q.1.1 [])) (read_first replica_number resource_behind c.args.words) _
    (behind_refused replica_number resource_behind c.args.words c.in_ok-replica.rest c.in_ok-replica.replica.now c.in_ok-replica-2.replica _ split read (c.in_err-resource.ensures other)))
