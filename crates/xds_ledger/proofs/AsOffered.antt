-- That an offer which was accepted, with the differences of the names that were touched since, is what is believed then.
use Rattle.std.proofs.Common.{◌≡◌, ℕ, List, [], ◌∷◌, Bool, true, false, ◌||◌, Option, Some, None, refl, sym, ap, ◌∙◌}
use Rattle.std.specs.Prelude.{unwrap_or, is_some, option_map, if◌then◌else◌, IfSome}
use Rattle.std.specs.Option.{option_or, option_and_then}
use Rattle.std.specs.List.{list_any}
use Rattle.std.specs.FinMap as finmap
use Rattle.std.specs.FinSet as set
use Rattle.xds_resource.specs.declared.types.TypeName.{TypeName}
use Rattle.xds_resource.specs.Writes.{text_cmp}
use Rattle.xds_resource.specs.Names.{put_each}
use Rattle.xds_resource.proofs.NameMaps.{same_names}
use Rattle.xds_resource.proofs.MadeMaps.{get-put_all, get-put_each}
use Rattle.xds_interest.specs.Touches.{Touch, touches}
use Rattle.xds_interest.proofs.Texts.{contains-from_texts}
use Rattle.xds_ledger.specs.declared.variant.VariantName.{VariantName}
use Rattle.xds_ledger.specs.declared.entry.Entry.{Entry}
use Rattle.xds_ledger.specs.declared.entry.Due.{Due}
use Rattle.xds_ledger.specs.Variants.{is_whole}
use Rattle.xds_ledger.specs.Owed.{Beliefs}
use Rattle.xds_ledger.specs.Believing.{Sent, was_touched, once_told, believed_accepted, beliefs_accepted}
use Rattle.xds_ledger.specs.Overlay.{Differences, told_by, overlaid}
use Rattle.xds_ledger.specs.Accepting.{is_named_since, change_since, beside, kept_beside}
use Rattle.xds_ledger.specs.Ledgers.{Account, Names, answered, beliefs_after, taken}
use Rattle.xds_ledger.proofs.BeliefsByName.{accepted_by_name}
use Rattle.xds_ledger.proofs.Overlaying.{believed_at}
use Rattle.xds_ledger.proofs.Choosing.{first_false, second_false}

-- ---- touched names

first_of : (a b : Bool) → a ≡ false → (a || b) ≡ b
first_of true b e = absurd cc
first_of false b e = refl

-- a name is touched by itself, where no request touched all
pub named_if_touched : (ts : List Touch) (q : List ℕ) → list_any (λ t. t.all) ts ≡ false → list_any (λ t. touches t q) ts ≡ list_any (λ t. set.contains t.names q) ts
named_if_touched [] q none = refl
named_if_touched (t ∷ ts) q none =
    let first = first_false t.all (list_any (λ t. t.all) ts) none in
    let later = second_false t.all (list_any (λ t. t.all) ts) none in
    (λ i. first_of t.all (set.contains t.names q) first i || named_if_touched ts q later i)

-- once f was put at each of some names
pub names_put : (f : List ℕ → Option (Option Entry)) (old : Differences) (names : List (List ℕ)) (of : set.FinSet text_cmp) (q : List ℕ) → set.from_list names ≡ of
    → finmap.get (put_each f old names) q ≡ (if set.contains of q then option_or (f q) (finmap.get old q) else finmap.get old q)
names_put f old names of q is =
    get-put_each f old names q ∙ ap (λ b. if b then option_or (f q) (finmap.get old q) else finmap.get old q) (sym (contains-from_texts names q) ∙ ap (λ s. set.contains s q) is)

-- ---- one name

-- what a name makes that no request touched
abbrev kept_at : Bool → Option Due → Option Entry → Option (Option Entry)
kept_at whole o e = if whole then None else option_or (option_and_then (λ x. if is_some o then None else Some (Some x)) e) None

accept_step : (touched whole : Bool) (o : Option Due) (e : Option Entry)
    → unwrap_or (if touched then option_or (option_map Some (believed_accepted false true o e)) (kept_at whole o e) else kept_at whole o e) (option_and_then once_told o) ≡ believed_accepted whole touched o e
accept_step true whole (Some d) e = refl
accept_step true true None None = refl
accept_step true true None (Some x) = refl
accept_step true false None None = refl
accept_step true false None (Some x) = refl
accept_step false true (Some d) e = refl
accept_step false true None e = refl
accept_step false false (Some d) None = refl
accept_step false false (Some d) (Some x) = refl
accept_step false false None None = refl
accept_step false false None (Some x) = refl

get-kept : (whole : Bool) (sent : Sent) (b : Beliefs) (q : List ℕ) → finmap.get (kept_beside whole sent b) q ≡ kept_at whole (finmap.get sent.offer q) (finmap.get b q)
get-kept true sent b q = finmap.get-empty text_cmp q
get-kept false sent b q =
    get-put_all (beside sent) finmap.empty b q ∙ ap (option_or (option_and_then (beside sent q) (finmap.get b q))) (finmap.get-empty text_cmp q)

pub accepted_is : (whole : Bool) (sent : Sent) (b : Beliefs) (d : Differences) → list_any (λ t. t.all) sent.touched ≡ false
    → ((q : List ℕ) → finmap.get d q ≡ (if is_named_since sent q then option_or (change_since sent b q) (finmap.get (kept_beside whole sent b) q) else finmap.get (kept_beside whole sent b) q))
    → overlaid (told_by (Some sent.offer)) d ≡ beliefs_accepted whole sent b
accepted_is whole sent b d some is =
    same_names _ _ (λ q. believed_at (Some sent.offer) d q
    ∙ ap (λ o. unwrap_or o (option_and_then once_told (finmap.get sent.offer q)))
    (is q ∙ (λ i. if sym (named_if_touched sent.touched q some) i then option_or (change_since sent b q) (get-kept whole sent b q i) else get-kept whole sent b q i))
    ∙ accept_step (was_touched sent q) whole (finmap.get sent.offer q) (finmap.get b q)
    ∙ sym (accepted_by_name whole sent b q))

-- ---- an account

-- rule: accept-reject
pub taken_as_offered : (v : VariantName) (t : TypeName) (a out : Account) (o : Option Sent) (names : Names) (next new : Beliefs) → IfSome o (λ sent. next ≡ beliefs_accepted (is_whole v t) sent a.beliefs)
    → new ≡ beliefs_after names next → IfSome o (λ sent. out ≡ record (answered v t a sent false) { beliefs = a.beliefs }) → IfSome o (λ sent. record out { beliefs = new } ≡ taken (answered v t a sent false) names)
taken_as_offered v t a out None names next new told made settled = tt
taken_as_offered v t a out (Some sent) names next new told made settled =
    λ i. record (settled i) { beliefs = (made ∙ ap (beliefs_after names) told) i }
