-- What stands behind the first word is refused, and so is the whole.
use Rattle.std.proofs.Common.{◌≡◌, List, Option, Some, None, Ok, Err, ap, ◌∙◌}
use Rattle.std.specs.Option.{option_map, option_and_then, ok_or}
use Rattle.xds_resource.specs.declared.refusal.Refusal.{Refusal}
use Rattle.xds_resource.specs.declared.refusal.Refusal.TheVariants.{BadScript}
use Rattle.xds_script.specs.Words.{Text, split_first}
use Rattle.xds_script.specs.Commands.{read_first}

-- what is read, where it isn't refused
pub read_so : {A : Type 0} (o : Option A) (a : A) → ok_or o BadScript ≡ Ok a → o ≡ Some a
read_so None a is = cc
read_so (Some b) a is = let same : b ≡ a = cc in ap Some same

-- what is made of what is refused is refused, too
pub made_refused : {A B : Type 0} (f : A → B) (o : Option A) (e : Refusal) → ok_or o BadScript ≡ Err e → ok_or (option_map f o) BadScript ≡ Err e
made_refused f None e is = let same : BadScript ≡ e = cc in ap Err same
made_refused f (Some a) e is = cc

-- the words behind the first are refused
pub behind_refused : {A B : Type 0} (first : Text → Option A) (rest : List Text → Option B) (ws behind : List Text) (w : Text) (a : A) (e : Refusal)
    → split_first ws ≡ Some (w, behind) → first w ≡ Some a → ok_or (rest behind) BadScript ≡ Err e → ok_or (read_first first rest ws) BadScript ≡ Err e
behind_refused first rest ws behind w a e split read refused =
    ap (λ o. ok_or (option_and_then (λ p. option_and_then (λ x. option_map (λ b. (x, b)) (rest p.1)) (first p.0)) o) BadScript) split
    ∙ ap (λ o. ok_or (option_and_then (λ x. option_map (λ b. (x, b)) (rest behind)) o) BadScript) read
    ∙ made_refused (λ b. (a, b)) (rest behind) e refused
