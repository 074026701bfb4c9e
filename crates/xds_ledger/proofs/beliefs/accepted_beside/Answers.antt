use Rattle.std.proofs.Common.{◌≡◌, [], sym, ap, ◌∙◌}
use Rattle.std.specs.FinMap as finmap
use Rattle.xds_resource.specs.Names.{pairs, put_all}
use Rattle.xds_ledger.specs.Parts.{kept_beside}
use Rattle.xds_ledger.proofs.Made.{accepted_made}
use Rattle.xds_ledger.proofs.beliefs.accepted_beside.Goals as goal

pub returns-clause-ok : goal.returns-clause-ok
returns-clause-ok c =
    let made = kept_beside c.args.whole c.args.sent.now in
    let all : c.loop-name.name-iterator ≡ [] = c.in-None.ensures.steps.0 in
    sym (ap (λ l. put_all made c.loop-name.next (pairs l)) all) ∙ c.loop-name.invariant
    ∙ ap (λ m. put_all made m (finmap.entries c.args.beliefs.now)) c.in_ok-next.ensures.ok ∙ accepted_made c.args.whole c.args.sent.now c.args.beliefs.now
