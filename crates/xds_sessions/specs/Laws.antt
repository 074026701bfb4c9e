-- That a response says what its offer says. This project's own.
--     statements               the names that an offer states, each with the version that it states
--     ResponseStatesTheOffer   the resources of a response have the names that its offer states
use Rattle.std.specs.Prelude.{◌≡◌, ℕ, List, map, option_map}
use Rattle.std.specs.List.{filter_map}
use Rattle.std.specs.FinMap as finmap
use Rattle.xds_resource.specs.declared.types.TypeName.{TypeName}
use Rattle.xds_interest.specs.Interests.{Selection}
use Rattle.xds_catalogue.specs.Holdings.{Holdings, IsCatalogue}
use Rattle.xds_ledger.specs.declared.variant.VariantName.TheVariants.{Delta}
use Rattle.xds_ledger.specs.Owed.{Beliefs}
use Rattle.xds_ledger.specs.Offers.{Offer, offer, stated_version}
use Rattle.xds_sessions.specs.DeltaPolls.{response}

-- the names that an offer states, each with the version that it states
abbrev pub statements : Offer → List (List ℕ × List ℕ)
statements o = filter_map (λ e. option_map (λ version. (e.0, version)) (stated_version e.1)) (finmap.entries o)

-- rule: best-writes
-- The resources of a response have the names that its offer states, at the versions that it states, in the same order: all
-- of them are in the catalogue that the offer was made from.
abbrev pub ResponseStatesTheOffer : Type 0
ResponseStatesTheOffer =
    (replica : ℕ) (t : TypeName) (h : Holdings) (s : Selection) (b : Beliefs) (number : ℕ) → IsCatalogue h.entries
    → map (λ r. (r.name, r.version)) (response replica t h (offer Delta t s h.entries b) number).resources ≡ statements (offer Delta t s h.entries b)
