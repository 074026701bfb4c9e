-- What an offer says of a name against what is present: what it states is present at that version, and what it removes isn't.
use Rattle.std.proofs.Common.{◌≡◌, ℕ, List, Bool, true, false, ◌&&◌, ◌||◌, not, Option, Some, None, refl, sym, ap, ◌∙◌}
use Rattle.std.specs.Prelude.{if◌then◌else◌, is_some, bytes_eq, option_map}
use Rattle.std.specs.Option.{option_map_or, option_and_then}
use Rattle.std.specs.FinMap as finmap
use Rattle.xds_world.proofs.SettlingFaults.{whole_at}
use Rattle.xds_resource.specs.declared.types.TypeName.{TypeName}
use Rattle.xds_resource.specs.Types.{row}
use Rattle.xds_resource.specs.Writes.{StampedWrite, version_of}
use Rattle.xds_interest.specs.Interests.{Selection, covers}
use Rattle.xds_catalogue.specs.Holdings.{Entries}
use Rattle.xds_catalogue.specs.Content.{is_live}
use Rattle.xds_ledger.specs.declared.variant.VariantName.{VariantName}
use Rattle.xds_ledger.specs.declared.variant.VariantName.TheVariants.{StateOfTheWorld}
use Rattle.xds_ledger.specs.declared.entry.Entry.{Entry}
use Rattle.xds_ledger.specs.declared.entry.Entry.TheVariants.{Told, Unsure}
use Rattle.xds_ledger.specs.declared.entry.Due.{Due}
use Rattle.xds_ledger.specs.declared.entry.Due.TheVariants.{Stated, Removed}
use Rattle.xds_ledger.specs.Variants.{is_whole, is_told}
use Rattle.xds_ledger.specs.Owed.{Beliefs, live_version, version_shown, present_as, present, owed}
use Rattle.xds_ledger.specs.Offers.{Offer, offer}
use Rattle.xds_ledger.proofs.ByName.{offer_says_it}

-- ---- what is owed

owed_where : (e : Option Entry) (version : List ℕ) (d : Due) → owed e (Some version) ≡ Some d → d ≡ Stated version
owed_where None version d is = cc
owed_where (Some Unsure) version d is = cc
owed_where (Some (Told told)) version d is = told_where (bytes_eq told version) is
  where
    told_where : (same : Bool) → (if same then None else Some (Stated version)) ≡ Some d → d ≡ Stated version
    told_where true is = absurd cc
    told_where false is = cc

owed_gone : (e : Option Entry) (p : Option (List ℕ)) → owed e p ≡ Some Removed → p ≡ None
owed_gone e None is = refl
owed_gone None (Some version) is = absurd cc
owed_gone (Some Unsure) (Some version) is = absurd cc
owed_gone (Some (Told told)) (Some version) is = told_gone (bytes_eq told version) is
  where
    told_gone : (same : Bool) → (if same then None else Some (Stated version)) ≡ Some Removed → Some version ≡ None
    told_gone true is = absurd cc
    told_gone false is = absurd cc

owed_stated : (e : Option Entry) (p : Option (List ℕ)) (version : List ℕ) → owed e p ≡ Some (Stated version) → p ≡ Some version
owed_stated None None version is = absurd cc
owed_stated (Some Unsure) None version is = absurd cc
owed_stated (Some (Told told)) None version is = absurd cc
owed_stated e (Some u) version is = let same : Stated version ≡ Stated u = owed_where e u (Stated version) is in cc

chosen : (b : Bool) (o : Option Due) (d : Due) → (if b then o else None) ≡ Some d → (b ≡ true) × (o ≡ Some d)
chosen true o d is = (refl, is)
chosen false o d is = absurd cc

-- ---- what is offered

whole_where : (p : Option (List ℕ)) (version : List ℕ) (d : Due) → p ≡ Some version → option_map Stated p ≡ Some d → d ≡ Stated version
whole_where None version d there is = absurd cc
whole_where (Some u) version d there is = let same : u ≡ version = cc in let this : d ≡ Stated u = cc in this ∙ ap Stated same

whole_gone : (p : Option (List ℕ)) → option_map Stated p ≡ Some Removed → p ≡ None
whole_gone None is = refl
whole_gone (Some u) is = absurd cc

abbrev offered_as : Bool → VariantName → TypeName → Option Entry → Option (List ℕ) → Option Due
offered_as whole v t e p = if whole then option_map Stated p else if option_map_or (is_told v t) (owed e p) false then owed e p else None

-- what is present is stated, if anything is said of it
pub offered_where : (v : VariantName) (t : TypeName) (e : Option Entry) (p : Option (List ℕ)) (whole : Bool) (version : List ℕ) (d : Due) → p ≡ Some version → offered_as whole v t e p ≡ Some d → d ≡ Stated version
offered_where v t e p true version d there is = whole_where p version d there is
offered_where v t e p false version d there is = owed_where e version d (ap (owed e) (sym there) ∙ (chosen (option_map_or (is_told v t) (owed e p) false) (owed e p) d is).1)

pub offered_gone : (v : VariantName) (t : TypeName) (e : Option Entry) (p : Option (List ℕ)) (whole : Bool) → offered_as whole v t e p ≡ Some Removed → p ≡ None
offered_gone v t e p true is = whole_gone p is
offered_gone v t e p false is = owed_gone e p (chosen (option_map_or (is_told v t) (owed e p) false) (owed e p) Removed is).1

pub offered_stated : (v : VariantName) (t : TypeName) (e : Option Entry) (p : Option (List ℕ)) (whole : Bool) (version : List ℕ) → offered_as whole v t e p ≡ Some (Stated version) → p ≡ Some version
offered_stated v t e p true version is = whole_at p version is
offered_stated v t e p false version is = owed_stated e p version (chosen (option_map_or (is_told v t) (owed e p) false) (owed e p) (Stated version) is).1

-- ---- the same of an offer

module _ (v : VariantName) (t : TypeName) (s : Selection) (m : Entries) (b : Beliefs) where
  abbrev this_offer : Offer
  this_offer = offer v t s m b

  pub present_is_stated : (q version : List ℕ) (d : Due) → present s m q ≡ Some version → finmap.get this_offer q ≡ Some d → d ≡ Stated version
  present_is_stated q version d there is = offered_where v t (finmap.get b q) (present s m q) (is_whole v t) version d there (sym (offer_says_it v t s m b q) ∙ is)

  -- rule: no-live-removal
  pub removed_is_absent : (q : List ℕ) → finmap.get this_offer q ≡ Some Removed → present s m q ≡ None
  removed_is_absent q is = offered_gone v t (finmap.get b q) (present s m q) (is_whole v t) (sym (offer_says_it v t s m b q) ∙ is)

  pub stated_is_present : (q version : List ℕ) → finmap.get this_offer q ≡ Some (Stated version) → present s m q ≡ Some version
  stated_is_present q version is = offered_stated v t (finmap.get b q) (present s m q) (is_whole v t) version (sym (offer_says_it v t s m b q) ∙ is)

-- a response of the state of the world says nothing of what is absent
sotw_says : (t : TypeName) (e : Option Entry) (p : Option (List ℕ)) (complete : Bool) (d : Due) → (row t).is_complete ≡ complete → offered_as (not false && complete) StateOfTheWorld t e p ≡ Some d → (version : List ℕ) × (p ≡ Some version)
sotw_says t e (Some version) complete d is says = (version, refl)
sotw_says t e None true d is says = absurd cc
sotw_says t None None false d is says = absurd cc
sotw_says t (Some Unsure) None false d is says = absurd (untold ((row t).is_complete) is says)
  where
    untold : (c : Bool) → c ≡ false → (if (false || c) then Some Removed else None) ≡ Some d → ⊥
    untold true is says = cc
    untold false is says = cc
sotw_says t (Some (Told told)) None false d is says = absurd (untold ((row t).is_complete) is says)
  where
    untold : (c : Bool) → c ≡ false → (if (false || c) then Some Removed else None) ≡ Some d → ⊥
    untold true is says = cc
    untold false is says = cc

pub sotw_is_present : (t : TypeName) (s : Selection) (m : Entries) (b : Beliefs) (q : List ℕ) (d : Due) → finmap.get (offer StateOfTheWorld t s m b) q ≡ Some d → (version : List ℕ) × (present s m q ≡ Some version)
sotw_is_present t s m b q d is = sotw_says t (finmap.get b q) (present s m q) (row t).is_complete d refl (sym (offer_says_it StateOfTheWorld t s m b q) ∙ is)

-- ---- what is present

-- a live write, which the interest covers
pub record IsShown (s : Selection) (q : List ℕ) (o : Option StampedWrite) (version : List ℕ) : Type 0 where
  pub write : StampedWrite
  pub found : o ≡ Some write
  pub live : is_live write ≡ true
  pub covered : covers s q write.groups ≡ true
  pub version_is : version ≡ version_of write

live_by : (live : Bool) (u version : List ℕ) → (if live then Some u else None) ≡ Some version → (live ≡ true) × (version ≡ u)
live_by true u version is = (refl, cc)
live_by false u version is = absurd cc

covered_by : (covered : Bool) (p : Option (List ℕ)) (version : List ℕ) → (if covered then p else None) ≡ Some version → (covered ≡ true) × (p ≡ Some version)
covered_by true p version is = (refl, is)
covered_by false p version is = absurd cc

pub shown_by : (s : Selection) (q : List ℕ) (o : Option StampedWrite) (version : List ℕ) → option_and_then (version_shown s q) o ≡ Some version → IsShown s q o version
shown_by s q None version is = absurd cc
shown_by s q (Some w) version is =
    let covered = covered_by (covers s q w.groups) (live_version w) version is in
    let live = live_by (is_live w) (version_of w) version covered.1 in
    record { write = w; found = refl; live = live.0; covered = covered.0; version_is = live.1 }

both_on : (live covered : Bool) (u : List ℕ) → live ≡ true → covered ≡ true → (if covered then (if live then Some u else None) else None) ≡ Some u
both_on true true u l c = refl
both_on true false u l c = absurd cc
both_on false covered u l c = absurd cc

-- and such a write is present
pub present_by : (s : Selection) (m : Entries) (q : List ℕ) (w : StampedWrite) → finmap.get m q ≡ Some w → is_live w ≡ true → covers s q w.groups ≡ true → present s m q ≡ Some (version_of w)
present_by s m q w found live covered = ap (option_and_then (version_shown s q)) found ∙ both_on (is_live w) (covers s q w.groups) (version_of w) live covered

-- a name that is present is so at the version of the write that stands under it
pub present_of : (s : Selection) (q : List ℕ) (o : Option StampedWrite) → is_some (present_as s q o) ≡ true → (w : StampedWrite) × (present_as s q o ≡ Some (version_of w))
present_of s q None is = absurd cc
present_of s q (Some w) is = (w, at_its (is_live w) (covers s q w.groups) is)
  where
    at_its : (live covered : Bool) → is_some (if covered then (if live then Some (version_of w) else None) else None) ≡ true → (if covered then (if live then Some (version_of w) else None) else None) ≡ Some (version_of w)
    at_its true true is = refl
    at_its false true is = absurd cc
    at_its live false is = absurd cc
