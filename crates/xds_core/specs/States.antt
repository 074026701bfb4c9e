-- How a stream of the program is seen. This project's own.
--     followed_of   a stream, be its variant decided or not, with its lists
use Rattle.xds_ledger.specs.declared.variant.VariantName.TheVariants as variants
use Rattle.xds_core.specs.declared.stream.Stage.{Stage}
use Rattle.xds_core.specs.declared.stream.Stage.TheVariants as stages
use Rattle.xds_core.specs.Talks.{Followed, followed_opening, followed}

abbrev pub followed_of : Stage → Followed
followed_of stages.Opening = followed_opening
followed_of (stages.Sotw talk) = followed variants.StateOfTheWorld talk
followed_of (stages.Delta talk) = followed variants.Delta talk
