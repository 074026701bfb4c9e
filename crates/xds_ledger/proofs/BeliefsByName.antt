-- Beliefs, name by name.
use Rattle.std.proofs.Common.{◌≡◌, ℕ, List, ◌++◌, Bool, true, false, cond, ◌||◌, ◌&&◌, not, Option, Some, None, sym, ap, ◌∙◌}
use Rattle.std.proofs.Math.Bool.{and-false}
use Rattle.std.specs.Prelude.{is_some, if◌then◌else◌}
use Rattle.std.specs.FinMap as finmap
use Rattle.std.specs.FinSet as set
use Rattle.xds_resource.proofs.NameMaps.{get-tabulated, has_text-items, absent_key, in_neither, cond_same}
use Rattle.xds_interest.specs.Interests.{reaches}
use Rattle.xds_interest.specs.Touches.{touches}
use Rattle.xds_ledger.specs.declared.entry.Entry.{Entry}
use Rattle.xds_ledger.specs.declared.entry.Entry.TheVariants.{Told, Unsure}
use Rattle.xds_ledger.specs.declared.entry.Due.{Due}
use Rattle.xds_ledger.specs.Believing.{was_touched, believed_accepted, believed_touched, believed_taken}
use Rattle.xds_ledger.specs.BeliefLaws.{AcceptedByName, TakenByName, UntouchedKeepsBelief, TouchedIsNotTold}

accepted_absent : (whole touched : Bool) (o : Option Due) (e : Option Entry) → o ≡ None → e ≡ None → believed_accepted whole touched o e ≡ None
accepted_absent whole touched o e unsaid unheld = (λ i. believed_accepted whole touched (unsaid i) (unheld i)) ∙ cond_same (whole && not touched) None

-- rule: accept-reject
pub accepted_by_name : AcceptedByName
accepted_by_name whole sent b q =
    get-tabulated (λ name. believed_accepted whole (was_touched sent name) (finmap.get sent.offer name) (finmap.get b name)) (finmap.keys sent.offer ++ finmap.keys b) q
    (λ e. let parts = in_neither (finmap.keys sent.offer) (finmap.keys b) q e in accepted_absent whole (was_touched sent q) _ _ (absent_key sent.offer q parts.0) (absent_key b q parts.1))

taken_absent : (touched reached mentioned : Bool) (e : Option Entry) → mentioned ≡ false → e ≡ None → (if touched then believed_touched reached mentioned e else e) ≡ None
taken_absent touched reached mentioned e unsaid unheld =
    (λ i. if touched then believed_touched reached (unsaid i) (unheld i) else unheld i) ∙ (λ i. if touched then (if and-false reached i then Some Unsure else None) else None) ∙ cond_same touched None

pub taken_by_name : TakenByName
taken_by_name s touched mentioned b q =
    get-tabulated (believed_taken s touched mentioned b) (set.items mentioned ++ finmap.keys b) q
    (λ e. let parts = in_neither (set.items mentioned) (finmap.keys b) q e in
    taken_absent (touches touched q) (reaches s q) (set.contains mentioned q) (finmap.get b q) (sym (has_text-items mentioned q) ∙ parts.0) (absent_key b q parts.1))

pub untouched_keeps_belief : UntouchedKeepsBelief
untouched_keeps_belief s touched mentioned b q e =
    taken_by_name s touched mentioned b q ∙ ap (λ x. if x then believed_touched (reaches s q) (set.contains mentioned q) (finmap.get b q) else finmap.get b q) e

unsure_is_not_told : (b : Bool) (version : List ℕ) → cond b (Some Unsure) None ≡ Some (Told version) → ⊥
unsure_is_not_told true version e = cc
unsure_is_not_told false version e = cc

pub touched_is_not_told : TouchedIsNotTold
touched_is_not_told s touched mentioned b q version e told =
    unsure_is_not_told (reaches s q && (set.contains mentioned q || is_some (finmap.get b q))) version
    (sym (taken_by_name s touched mentioned b q ∙ ap (λ x. if x then believed_touched (reaches s q) (set.contains mentioned q) (finmap.get b q) else finmap.get b q) e) ∙ told)
