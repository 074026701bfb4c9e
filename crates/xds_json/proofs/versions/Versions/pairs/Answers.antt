use Rattle.std.proofs.Common.{string_bytes, sym, ◌∙◌}
use Rattle.std.proofs.lemmas.List.{append-nil}
use Rattle.xds_json.proofs.Lists.{map-moved}
use Rattle.xds_json.proofs.VersionLemmas.{entries_are}
use Rattle.xds_json.proofs.versions.Versions.pairs.Goals as goal

pub loop-name-init : goal.loop-name-init
loop-name-init c =
    rw (c.new-pairs.ensures.items, c.into_iter-name-iterator.ensures.into_iter_gives, c.iter-name-items.ensures.rest) (sym (entries_are c.self.inside.entries.entries c.args.self.now c.self.view_is c.self.invariant))

pub loop-name-preserved : goal.loop-name-preserved
loop-name-preserved c =
    let so_far = rw c.in-Some.ensures.steps at c.loop-name.invariant in
    let shown = map-moved (λ p. (p.0.now, p.1.now)) (λ e. (string_bytes e.0, string_bytes e.1)) c.loop-name.pairs.items (c.as_str.result, c.as_str-in-loop-name.result) (c.in-Some.name.now, c.in-Some.version.now) c.next.new.self (λ i. (c.as_str.ensures.value i, c.as_str-in-loop-name.ensures.value i)) in
    rw c.in_ok-push.ensures.items (shown ∙ so_far)

pub returns-clause-ok : goal.returns-clause-ok
returns-clause-ok c = sym (append-nil _) ∙ (rw c.in-None.ensures.steps.0 at c.loop-name.invariant)
