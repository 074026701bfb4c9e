use Rattle.std.proofs.Common.{Bor, IfOk, List, Option, sym, subst, ℕ}
use Rattle.std.specs.Option.{option_map}
use Rattle.xds_script.specs.Words.{words_in}
use Rattle.xds_causes.specs.declared.cause.Cause.TheVariants.{WrongWords}
use Rattle.xds_causes.specs.Causes.{IsResourceCause}
use Rattle.xds_causes.proofs.Causing.{resource_fine, resource_refused}
use Rattle.xds_causes.proofs.cause.resource_cause.Goals as goal

pub returns-in-Ok-clause-cause : goal.returns-in-Ok-clause-cause
returns-in-Ok-clause-cause c =
    subst (λ (o : Option (Bor (List ℕ))). IsResourceCause (words_in (option_map (λ (s : Bor (List ℕ)). s.now) o)) WrongWords) (sym c.in-Some.is)
    (resource_fine c.in-Some.text.now _ _ c.in-Ok.ensures.read)

pub returns-in-Err-clause-cause : goal.returns-in-Err-clause-cause
returns-in-Err-clause-cause c =
    subst (λ (o : Option (Bor (List ℕ))). IfOk c.refused_cause.result (IsResourceCause (words_in (option_map (λ (s : Bor (List ℕ)). s.now) o)))) (sym c.in-Some.is)
    (resource_refused c.in-Some.text.now c.in-Err.refusal c.refused_cause.result c.in-Err.ensures.refused c.refused_cause.ensures.cause)
