use Rattle.std.proofs.Common.{ℕ, List, sym, subst, ◌∙◌, refl}
use Rattle.std.specs.Prelude.{codes}
use Rattle.xds_resource.proofs.NameMaps.{bytes_eq_tells}
use Rattle.xds_check.specs.Words.{Finds}
use Rattle.xds_check.specs.Texts.{IsRequestOf}
use Rattle.xds_check.proofs.RulesLining.{no_request_kind}
use Rattle.xds_check.proofs.reading.asking.Goals as goal

pub returns-then-is_word : goal.returns-then-is_word
returns-then-is_word c =
    subst (λ (k : List ℕ). Finds (λ m. m) (IsRequestOf k c.args.json.now) c.sotw_asking.result) (sym (bytes_eq_tells c.args.kind.now (codes "1") (sym c.is_word.ensures ∙ c.if-is_word.true))) c.sotw_asking.ensures

pub returns-then-is_word-2 : goal.returns-then-is_word-2
returns-then-is_word-2 c =
    subst (λ (k : List ℕ). Finds (λ m. m) (IsRequestOf k c.args.json.now) c.delta_asking.result) (sym (bytes_eq_tells c.args.kind.now (codes "3") (sym c.is_word-2.ensures ∙ c.if-is_word-2.true))) c.delta_asking.ensures

pub returns : goal.returns
returns c = λ other. (refl, no_request_kind c.args.kind.now c.args.json.now (sym c.is_word.ensures ∙ c.if-is_word.false) (sym c.is_word-2.ensures ∙ c.if-is_word-2.false))
