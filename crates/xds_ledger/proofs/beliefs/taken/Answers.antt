use Rattle.std.proofs.Common.{◌≡◌, List, String, Global, [], map, string_bytes, sym, ap, ◌∙◌}
use Rattle.xds_resource.specs.Names.{put_each}
use Rattle.xds_ledger.specs.Parts.{made_unsure}
use Rattle.xds_ledger.proofs.Made.{taken_made}
use Rattle.xds_ledger.proofs.beliefs.taken.Goals as goal

pub returns-clause-ok : goal.returns-clause-ok
returns-clause-ok g c =
    let made = made_unsure c.args.interest.now c.args.touched.now in
    let all : c.loop-name.name-iterator ≡ [] = c.in-None.ensures.steps.0 in
    sym (ap (λ l. put_each made c.loop-name.next (map string_bytes l)) all) ∙ c.loop-name.invariant
    ∙ ap (λ (l : List (String Global)). put_each made c.in_ok-next.next (map string_bytes l)) c.into_iter-name-iterator.ensures.into_iter_gives
    ∙ ap (λ m. put_each made m (map string_bytes c.args.mentioned)) c.in_ok-next.ensures.ok ∙ taken_made c.args.interest.now c.args.touched.now (map string_bytes c.args.mentioned) c.args.beliefs.now
