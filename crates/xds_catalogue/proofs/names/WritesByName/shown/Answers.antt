use Rattle.std.proofs.Common.{◌≡◌, ◌++◌, map, ap, sym, ◌∙◌, append-nil, None, Some, refl}
use Rattle.std.specs.List.{filter_map, cons_option}
use Rattle.std.specs.Option.{option_map}
use Rattle.std.specs.String.{string_bytes}
use Rattle.xds_catalogue.specs.Content.{live_at}
use Rattle.xds_catalogue.proofs.InOrder.{content-names, strings_ascend, filter_map-map, one_more}
use Rattle.xds_catalogue.proofs.names.WritesByName.shown.Goals as goal

pub loop-name-preserved : goal.loop-name-preserved
loop-name-preserved g c =
    let none : live_at c.args.self.now.entries (string_bytes c.in-Some.name.now) ≡ None = ap (live_at c.args.self.now.entries) (sym c.as_str.ensures.value) ∙ sym c.live.ensures ∙ ap (option_map (λ w. w.now)) c.in_default.is in
    ap (λ o. map (λ w. w.now) c.loop-name.shown.items ++ cons_option o (filter_map (λ k. live_at c.args.self.now.entries (string_bytes k)) c.next.new.self)) (sym none)
    ∙ ap (λ l. map (λ w. w.now) c.loop-name.shown.items ++ filter_map (λ k. live_at c.args.self.now.entries (string_bytes k)) l) (sym c.in-Some.ensures.steps) ∙ c.loop-name.invariant

pub loop-name-preserved-in-Continue-1 : goal.loop-name-preserved-in-Continue-1
loop-name-preserved-in-Continue-1 g c =
    let some : live_at c.args.self.now.entries (string_bytes c.in-Some.name.now) ≡ Some c.in-Some-live.write.now = ap (live_at c.args.self.now.entries) (sym c.as_str.ensures.value) ∙ sym c.live.ensures ∙ ap (option_map (λ w. w.now)) c.in-Some-live.is in
    one_more c.loop-name.shown.items c.push.new.self.items c.in-Some-live.write c.in-Some-live.write.now (filter_map (λ k. live_at c.args.self.now.entries (string_bytes k)) c.next.new.self) _ c.in_ok-push.ensures.items refl
    (ap (λ o. map (λ w. w.now) c.loop-name.shown.items ++ cons_option o (filter_map (λ k. live_at c.args.self.now.entries (string_bytes k)) c.next.new.self)) (sym some)
    ∙ ap (λ l. map (λ w. w.now) c.loop-name.shown.items ++ filter_map (λ k. live_at c.args.self.now.entries (string_bytes k)) l) (sym c.in-Some.ensures.steps) ∙ c.loop-name.invariant)

pub returns-clause-ok : goal.returns-clause-ok
returns-clause-ok g c =
    let gives = c.into_iter-name-iterator.ensures.into_iter_gives in
    let keys = c.names-names.result in
    sym (append-nil (map (λ w. w.now) c.loop-name.shown.items)) ∙ ap (λ l. map (λ w. w.now) c.loop-name.shown.items ++ filter_map (λ k. live_at c.args.self.now.entries (string_bytes k)) l) (sym c.in-None.ensures.steps.0) ∙ c.loop-name.invariant
    ∙ ap (filter_map (λ k. live_at c.args.self.now.entries (string_bytes k))) gives ∙ sym (filter_map-map (live_at c.args.self.now.entries) string_bytes keys)
    ∙ content-names c.args.self.now.entries c.args.interest.now (map string_bytes keys) c.requires.named c.requires.no_star c.names-names.ensures.names (strings_ascend keys c.names-names.ensures.ascending)
