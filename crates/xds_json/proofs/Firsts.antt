-- The first of two that is there.
use Rattle.std.proofs.Common.{◌≡◌, true, false, is_some, Option, Some, None, sym, ap, ◌∙◌}
use Rattle.std.specs.Option.{option_map}
use Rattle.xds_resource.specs.Fields.{first_of}

pub first_there : {A B : Type 0} (f : A → B) (o : Option A) (a b : Option B) → option_map f o ≡ a → is_some o ≡ true → first_of a b ≡ a
first_there f None a b is some = absurd cc
first_there f (Some x) a b is some = ap (λ o. first_of o b) (sym is) ∙ is

pub first_lacks : {A B : Type 0} (f : A → B) (o : Option A) (a b : Option B) → option_map f o ≡ a → is_some o ≡ false → first_of a b ≡ b
first_lacks f None a b is none = ap (λ o. first_of o b) (sym is)
first_lacks f (Some x) a b is none = absurd cc
