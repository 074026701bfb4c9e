-- What is known of offers. This project's own.
--     OfferSaysIt          an offer says of each name what it is to say
--     NothingOwed          where nothing that can be told is owed of any name that is known
--     OffersAreToldApart   offers are told apart
use Rattle.std.specs.Prelude.{◌≡◌, ℕ, List, true, false}
use Rattle.std.specs.FinMap as finmap
use Rattle.xds_resource.specs.declared.types.TypeName.{TypeName}
use Rattle.xds_interest.specs.Interests.{Selection}
use Rattle.xds_catalogue.specs.Holdings.{Entries}
use Rattle.xds_ledger.specs.declared.variant.VariantName.{VariantName}
use Rattle.xds_ledger.specs.Owed.{Beliefs, is_owed, something_owed}
use Rattle.xds_ledger.specs.Offers.{Offer, offered, offer, same_offer}

-- rule: whole-response
-- an offer says of each name what it is to say
abbrev pub OfferSaysIt : Type 0
OfferSaysIt = (v : VariantName) (t : TypeName) (s : Selection) (m : Entries) (b : Beliefs) (name : List ℕ) → finmap.get (offer v t s m b) name ≡ offered v t s m b name

-- rule: owed
-- where nothing that can be told is owed of any name that is known, nothing that can be told is owed of any name at all
abbrev pub NothingOwed : Type 0
NothingOwed = (v : VariantName) (t : TypeName) (s : Selection) (m : Entries) (b : Beliefs) (name : List ℕ) → something_owed v t s m b ≡ false → is_owed v t s m b name ≡ false

-- rule: refused-offer
-- offers are told apart
abbrev pub OffersAreToldApart : Type 0
OffersAreToldApart = (a b : Offer) → (same_offer a b ≡ true → a ≡ b) × (a ≡ b → same_offer a b ≡ true)
