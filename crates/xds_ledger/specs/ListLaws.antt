-- What keeps a list sufficient, and what it then has. This project's own.
--     NewListFits                      a new list suffices where nothing is believed held, whatever the interest
--     WiderListFits                    a wider list suffices, too
--     RefreshedListFits                a list that suffices does so once it is refreshed
--     PrunedListFits                   a list that suffices does so once it is pruned
--     OwedIsListed                     once a list was refreshed, all that is owed is listed
--     LaterHoldingsFit                 a list that suffices at a catalogue suffices at a later one
--     JoinedIsLater                    a catalogue with more writes is a later one
use Rattle.std.specs.Prelude.{◌≡◌, ℕ, List, true}
use Rattle.std.specs.FinMap as finmap
use Rattle.xds_resource.specs.declared.types.TypeName.{TypeName}
use Rattle.xds_resource.specs.Writes.{StampedWrite}
use Rattle.xds_interest.specs.Interests.{Selection}
use Rattle.xds_catalogue.specs.Holdings.{Holdings, IsNumbered, IsCatalogue}
use Rattle.xds_catalogue.specs.Joins.{joined}
use Rattle.xds_ledger.specs.declared.variant.VariantName.{VariantName}
use Rattle.xds_ledger.specs.Owed.{Beliefs, is_owed}
use Rattle.xds_ledger.specs.Listed.{Listed, unlisted, is_listed, Fits, refreshed, pruned, IsWider, IsLater}

-- a new list suffices where nothing is believed held, whatever the interest
abbrev pub NewListFits : Type 0
NewListFits = (v : VariantName) (t : TypeName) (s : Selection) (h : Holdings) → Fits v t s h finmap.empty unlisted

-- a wider list suffices, too
abbrev pub WiderListFits : Type 0
WiderListFits = (v : VariantName) (t : TypeName) (s : Selection) (h : Holdings) (b : Beliefs) (l wide : Listed) → IsWider l wide → Fits v t s h b l → Fits v t s h b wide

-- and so does the list once it was refreshed, and once it was pruned
abbrev pub RefreshedListFits : Type 0
RefreshedListFits = (v : VariantName) (t : TypeName) (s : Selection) (h : Holdings) (b : Beliefs) (l : Listed) → IsNumbered h → Fits v t s h b l → Fits v t s h b (refreshed h l)

abbrev pub PrunedListFits : Type 0
PrunedListFits = (v : VariantName) (t : TypeName) (s : Selection) (h : Holdings) (b : Beliefs) (l : Listed) → Fits v t s h b l → Fits v t s h b (pruned v t s h b l)

-- rule: owed
-- once a list was refreshed, all that is owed is listed
abbrev pub OwedIsListed : Type 0
OwedIsListed =
    (v : VariantName) (t : TypeName) (s : Selection) (h : Holdings) (b : Beliefs) (l : Listed) (name : List ℕ) → IsNumbered h → Fits v t s h b l → is_owed v t s h.entries b name ≡ true
    → is_listed (refreshed h l) name ≡ true

-- a list that suffices at a catalogue suffices at it once writes came
abbrev pub LaterHoldingsFit : Type 0
LaterHoldingsFit = (v : VariantName) (t : TypeName) (s : Selection) (h later : Holdings) (b : Beliefs) (l : Listed) → IsLater h later → Fits v t s h b l → Fits v t s later b l

abbrev pub JoinedIsLater : Type 0
JoinedIsLater = (h : Holdings) (ws : List StampedWrite) → IsCatalogue h.entries → IsLater h (joined h ws)
