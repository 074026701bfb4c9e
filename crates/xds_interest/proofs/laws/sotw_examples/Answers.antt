use Rattle.std.proofs.Common.{◌∷◌, [], false, ap}
use Rattle.xds_interest.specs.Examples.{a}
use Rattle.xds_interest.proofs.Texts.{from_list_same, or_twice}
use Rattle.xds_interest.proofs.laws.sotw_examples.Goals as goal

pub returns-clause-twice : goal.returns-clause-twice
returns-clause-twice c = ap (λ s. record { star = false; names = s; cluster = [] }) (from_list_same (a ∷ a ∷ []) (a ∷ []) (λ q. or_twice _))
