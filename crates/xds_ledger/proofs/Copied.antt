-- That a map whose entries are put one by one is the map that they are from.
use Rattle.std.proofs.Common.{◌≡◌, ℕ, List, Option, Some, None, refl, ap, ◌∙◌}
use Rattle.std.specs.Option.{option_or, option_and_then}
use Rattle.std.specs.FinMap as finmap
use Rattle.xds_resource.specs.Writes.{text_cmp}
use Rattle.xds_resource.specs.Names.{put_all}
use Rattle.xds_resource.proofs.NameMaps.{same_names}
use Rattle.xds_resource.proofs.MadeMaps.{get-put_all}

-- an entry as it is
abbrev pub itself : {X : Type 0} → List ℕ → X → Option X
itself name x = Some x

some_or_none : {X : Type 0} (o : Option X) → option_or (option_and_then (λ x. Some x) o) None ≡ o
some_or_none None = refl
some_or_none (Some x) = refl

pub all_copied : {X : Type 0} (m : finmap.FinMap text_cmp X) → put_all itself finmap.empty (finmap.entries m) ≡ m
all_copied m =
    same_names _ _ (λ q. get-put_all itself finmap.empty m q ∙ ap (option_or (option_and_then (λ x. Some x) (finmap.get m q))) (finmap.get-empty text_cmp q) ∙ some_or_none (finmap.get m q))
