use Rattle.std.proofs.Common.{◌≡◌, ◌&&◌, List, String, Global, [], map, string_bytes, sym, ap, ◌∙◌}
use Rattle.std.specs.List.{list_all}
use Rattle.xds_check.specs.LiveNames.{has_if_live}
use Rattle.xds_check.proofs.LiveNames.{by_items}
use Rattle.xds_check.proofs.judging.has_explicit.Goals as goal

pub returns-then-not-has_if_live : goal.returns-then-not-has_if_live
returns-then-not-has_if_live g c =
    let f = has_if_live c.args.catalogue.now.entries c.args.stated.now in
    sym (by_items f c.args.interest.now.names (map string_bytes c.names-name-items.result) c.names-name-items.ensures.names
    ∙ sym (ap (λ (l : List (String Global)). list_all f (map string_bytes l)) c.into_iter-name-iterator.ensures.into_iter_gives)
    ∙ c.loop-name.invariant ∙ ap (λ (l : List (String Global)). list_all f (map string_bytes l)) c.in-Some.ensures.steps
    ∙ ap (λ b. b && list_all f (map string_bytes c.next.new.self)) (ap f (sym c.as_str.ensures.value) ∙ sym c.has_if_live.ensures ∙ c.if-not-has_if_live.true))

pub returns : goal.returns
returns g c =
    let f = has_if_live c.args.catalogue.now.entries c.args.stated.now in
    let all : c.loop-name.name-iterator ≡ [] = c.in-None.ensures.steps.0 in
    sym (by_items f c.args.interest.now.names (map string_bytes c.names-name-items.result) c.names-name-items.ensures.names
    ∙ sym (ap (λ (l : List (String Global)). list_all f (map string_bytes l)) c.into_iter-name-iterator.ensures.into_iter_gives)
    ∙ c.loop-name.invariant ∙ ap (λ (l : List (String Global)). list_all f (map string_bytes l)) all)
