-- Offers, name by name.
use Rattle.std.proofs.Common.{◌≡◌, ℕ, List, Bool, true, false, None, refl, ap, ◌∙◌}
use Rattle.std.specs.Prelude.{option_map, if◌then◌else◌}
use Rattle.std.specs.Option.{option_and_then, option_map_or}
use Rattle.std.specs.FinMap as finmap
use Rattle.xds_resource.specs.declared.types.TypeName.{TypeName}
use Rattle.xds_resource.proofs.NameMaps.{has_text, get-tabulated, absent_key, in_neither, cond_same}
use Rattle.xds_interest.specs.Interests.{Selection}
use Rattle.xds_catalogue.specs.Holdings.{Entries}
use Rattle.xds_ledger.specs.declared.variant.VariantName.{VariantName}
use Rattle.xds_ledger.specs.declared.entry.Due.TheVariants.{Stated}
use Rattle.xds_ledger.specs.Variants.{is_whole, is_told}
use Rattle.xds_ledger.specs.Owed.{Beliefs, version_shown, present, owed, owed_of, is_owed, something_owed, names_known}
use Rattle.xds_ledger.specs.Offers.{offered}
use Rattle.xds_ledger.specs.OfferLaws.{OfferSaysIt, NothingOwed}
use Rattle.xds_ledger.proofs.Choosing.{listed_fails}

pub present_absent : (s : Selection) (m : Entries) (q : List ℕ) → finmap.get m q ≡ None → present s m q ≡ None
present_absent s m q e = ap (option_and_then (version_shown s q)) e

-- nothing is owed of a name that neither knows
pub owed_absent : (s : Selection) (m : Entries) (b : Beliefs) (q : List ℕ) → finmap.get b q ≡ None → finmap.get m q ≡ None → owed_of s m b q ≡ None
owed_absent s m b q unheld unknown = (λ i. owed (unheld i) (present_absent s m q unknown i))

pub offered_absent : (v : VariantName) (t : TypeName) (s : Selection) (m : Entries) (b : Beliefs) (q : List ℕ) → finmap.get b q ≡ None → finmap.get m q ≡ None → offered v t s m b q ≡ None
offered_absent v t s m b q unheld unknown =
    (λ i. if is_whole v t then option_map Stated (present_absent s m q unknown i)
    else if option_map_or (is_told v t) (owed_absent s m b q unheld unknown i) false then owed_absent s m b q unheld unknown i else None)
    ∙ cond_same (is_whole v t) None

-- a name that isn't among those of which something may be owed
unknown_name : (m : Entries) (b : Beliefs) (q : List ℕ) → has_text (names_known m b) q ≡ false → (finmap.get b q ≡ None) × (finmap.get m q ≡ None)
unknown_name m b q e =
    let parts = in_neither (finmap.keys b) (finmap.keys m) q e in
    (absent_key b q parts.0, absent_key m q parts.1)

-- rule: whole-response
pub offer_says_it : OfferSaysIt
offer_says_it v t s m b q =
    get-tabulated (offered v t s m b) (names_known m b) q (λ e. offered_absent v t s m b q (unknown_name m b q e).0 (unknown_name m b q e).1)

not_owed_at : (v : VariantName) (t : TypeName) (s : Selection) (m : Entries) (b : Beliefs) (q : List ℕ) (known : Bool) → has_text (names_known m b) q ≡ known
    → something_owed v t s m b ≡ false → is_owed v t s m b q ≡ false
not_owed_at v t s m b q true known none = listed_fails (is_owed v t s m b) (names_known m b) q none known
not_owed_at v t s m b q false unknown none = ap (λ o. option_map_or (is_told v t) o false) (owed_absent s m b q (unknown_name m b q unknown).0 (unknown_name m b q unknown).1)

-- rule: owed
pub nothing_owed : NothingOwed
nothing_owed v t s m b q none = not_owed_at v t s m b q (has_text (names_known m b) q) refl none
