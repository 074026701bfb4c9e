use Rattle.std.proofs.Common.{◌∷◌, [], Ok, ap, sym, subst, ◌∙◌}
use Rattle.xds_catalogue.specs.Tables.{held_by, IsSound, with_write, without_number}
use Rattle.xds_catalogue.proofs.Joining.{below_top, joining-old, joining-news, joining-full}
use Rattle.xds_catalogue.proofs.Leftovers.{one_left, none_left_over}
use Rattle.xds_catalogue.proofs.Sound.{with_write-sound, without_number-sound, fresh}
use Rattle.xds_catalogue.proofs.batch.join.Goals as goal

pub put-requires-clause-fresh : goal.put-requires-clause-fresh
put-requires-clause-fresh g c = fresh _ _ c.requires

pub returns-in_default-clause-joins : goal.returns-in_default-clause-joins
returns-in_default-clause-joins g c =
    joining-old (held_by c.args.tables.now) c.args.write c.requires.named c.requires.short (sym c.in_default.ensures.news)

pub returns-then-changes-eq-MAX_COUNTER-clause-joins :
    goal.returns-then-changes-eq-MAX_COUNTER-clause-joins
returns-then-changes-eq-MAX_COUNTER-clause-joins g c = λ _.
    joining-full (held_by c.args.tables.now) c.args.write c.requires.named (sym c.changes.ensures ∙ c.if-changes-eq-MAX_COUNTER.true) (sym c.in-Some.ensures.news)

pub returns-in-Some-former-clause-sound : goal.returns-in-Some-former-clause-sound
returns-in-Some-former-clause-sound g c =
    subst IsSound (sym (c.remove_number.ensures ∙ ap (λ t. without_number t c.in-Some-former.number) c.in_ok-put.ensures.ok))
    (without_number-sound c.in-Some-former.number [] (with_write c.args.tables.now c.args.write)
    (with_write-sound [] (c.in-Some-former.number ∷ []) c.args.tables.now c.args.write c.requires (below_top _ _ c.requires.short (λ e. c.if-changes-eq-MAX_COUNTER.false (c.changes.ensures ∙ e))) c.in_ok-put.ensures.stamped (sym c.in-Some.ensures.news)
    (λ k. one_left _ c.in-Some-former.number k (sym c.in-Some.ensures.number ∙ c.in-Some-former.is))))

pub returns-in-Some-former-clause-joins : goal.returns-in-Some-former-clause-joins
returns-in-Some-former-clause-joins g c =
    joining-news (held_by c.args.tables.now) c.args.write c.requires.named (below_top _ _ c.requires.short (λ e. c.if-changes-eq-MAX_COUNTER.false (c.changes.ensures ∙ e))) (sym c.in-Some.ensures.news)
    ∙ ap (λ t. Ok (1, held_by t)) (sym (c.remove_number.ensures ∙ ap (λ t. without_number t c.in-Some-former.number) c.in_ok-put.ensures.ok))

pub returns-in_default-former-clause-sound : goal.returns-in_default-former-clause-sound
returns-in_default-former-clause-sound g c =
    subst IsSound (sym c.in_ok-put.ensures.ok)
    (with_write-sound [] [] c.args.tables.now c.args.write c.requires (below_top _ _ c.requires.short (λ e. c.if-changes-eq-MAX_COUNTER.false (c.changes.ensures ∙ e))) c.in_ok-put.ensures.stamped (sym c.in-Some.ensures.news)
    (λ k. none_left_over _ k (sym c.in-Some.ensures.number ∙ c.in_default-former.is)))

pub returns-in_default-former-clause-joins : goal.returns-in_default-former-clause-joins
returns-in_default-former-clause-joins g c =
    joining-news (held_by c.args.tables.now) c.args.write c.requires.named (below_top _ _ c.requires.short (λ e. c.if-changes-eq-MAX_COUNTER.false (c.changes.ensures ∙ e))) (sym c.in-Some.ensures.news)
    ∙ ap (λ t. Ok (1, held_by t)) (sym c.in_ok-put.ensures.ok)
