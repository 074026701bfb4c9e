-- Two offers are equal where each says what the other says.
use Rattle.std.proofs.Common.{◌≡◌, ℕ, List, [], ◌∷◌, Bool, true, false, cond, ◌&&◌, Option, Some, None, refl, sym, ap, ◌∙◌}
use Rattle.std.specs.Prelude.{T, bytes_eq}
use Rattle.std.specs.Ordering.{eq_by_cmp, is_lt}
use Rattle.std.specs.Option.{option_map_or}
use Rattle.std.specs.List.{list_all}
use Rattle.std.specs.FinMap as finmap
use Rattle.std.specs.FinMap.Entries.{below_all, is_sorted}
use Rattle.std.proofs.lemmas.Map.Text.{is_eq-slice_cmp}
use Rattle.xds_resource.specs.Writes.{text_cmp}
use Rattle.xds_resource.proofs.MadeMaps.{less_is_no_tie}
use Rattle.xds_resource.proofs.NameMaps.{bytes_eq_same, bytes_eq_tells, bytes_eq_swap, same_names}
use Rattle.xds_resource.proofs.BoolsAndLists.{holds_first, holds_second}
use Rattle.xds_ledger.specs.declared.entry.Due.{Due}
use Rattle.xds_ledger.specs.declared.entry.Due.TheVariants.{Stated, Removed}
use Rattle.xds_ledger.specs.Offers.{Offer, same_due, is_within, same_offer}
use Rattle.xds_ledger.specs.OfferLaws.{OffersAreToldApart}
use Rattle.xds_interest.proofs.Choices.{and_first, and_second}

pub same_due_itself : (d : Due) → same_due d d ≡ true
same_due_itself (Stated v) = bytes_eq_same v
same_due_itself Removed = refl

pub same_due_tells : (d e : Due) → same_due d e ≡ true → d ≡ e
same_due_tells (Stated v) (Stated w) is = ap Stated (bytes_eq_tells v w is)
same_due_tells (Stated v) Removed is = absurd cc
same_due_tells Removed (Stated w) is = absurd cc
same_due_tells Removed Removed is = refl

-- whether a map says this of a name
abbrev says : Offer → List ℕ → Due → Bool
says b name d = option_map_or (same_due d) (finmap.get b name) false

said_at : (b : Offer) (e : List ℕ × Due) (es : List (List ℕ × Due)) (q : List ℕ) (d : Due) (tie : Bool) → bytes_eq q e.0 ≡ tie
    → says b e.0 e.1 ≡ true → (finmap.find text_cmp q es ≡ Some d → says b q d ≡ true) → cond tie (Some e.1) (finmap.find text_cmp q es) ≡ Some d → says b q d ≡ true
said_at b e es q d true here said later is =
    let same : e.1 ≡ d = cc in
    ap (λ n. says b n d) (bytes_eq_tells q e.0 here) ∙ sym (ap (says b e.0) same) ∙ said
said_at b e es q d false other said later is = later is

found_is_said : (b : Offer) (es : List (List ℕ × Due)) (q : List ℕ) (d : Due) → list_all (λ e. says b e.0 e.1) es ≡ true → finmap.find text_cmp q es ≡ Some d → says b q d ≡ true
found_is_said b [] q d all is = absurd cc
found_is_said b (e ∷ es) q d all is =
    said_at b e es q d (bytes_eq q e.0) refl (and_first (says b e.0 e.1) _ all) (found_is_said b es q d (and_second (says b e.0 e.1) _ all))
    (sym (ap (λ x. cond x (Some e.1) (finmap.find text_cmp q es)) (is_eq-slice_cmp q e.0)) ∙ is)

-- what a says, b says
within_says : (a b : Offer) (q : List ℕ) (d : Due) → is_within a b ≡ true → finmap.get a q ≡ Some d → says b q d ≡ true
within_says a b q d all is = found_is_said b (finmap.entries a) q d all (sym (finmap.get-entries a q) ∙ is)

agree : (o p : Option Due) → ((d : Due) → o ≡ Some d → option_map_or (same_due d) p false ≡ true) → ((d : Due) → p ≡ Some d → option_map_or (same_due d) o false ≡ true) → o ≡ p
agree None None left right = refl
agree None (Some d) left right = let e = right d refl in absurd cc
agree (Some d) None left right = let e = left d refl in absurd cc
agree (Some d) (Some e) left right = ap Some (same_due_tells d e (left d refl))

same_offer_tells : (a b : Offer) → same_offer a b ≡ true → a ≡ b
same_offer_tells a b is =
    same_names a b (λ q. agree (finmap.get a q) (finmap.get b q) (λ d. within_says a b q d (and_first _ _ is)) (λ d. within_says b a q d (and_second _ _ is)))

-- each of some entries, all above the key k, is found where k stands before them
abbrev FoundIn : List (List ℕ × Due) → List (List ℕ × Due) → Type 0
FoundIn all es = list_all (λ e. option_map_or (same_due e.1) (finmap.find text_cmp e.0 all) false) es ≡ true

past_first : (k : List ℕ) (x : Due) (all es : List (List ℕ × Due)) → T (below_all text_cmp k es) → FoundIn all es → FoundIn ((k, x) ∷ all) es
past_first k x all [] below found = refl
past_first k x all (e ∷ es) below found =
    let apart : eq_by_cmp text_cmp e.0 k ≡ false =
    is_eq-slice_cmp e.0 k ∙ bytes_eq_swap e.0 k ∙ sym (is_eq-slice_cmp k e.0) ∙ less_is_no_tie (text_cmp k e.0) (holds_first (is_lt (text_cmp k e.0)) (below_all text_cmp k es) below) in
    (λ i. (ap (λ b. option_map_or (same_due e.1) (cond b (Some x) (finmap.find text_cmp e.0 all)) false) apart ∙ and_first _ _ found) i
    && past_first k x all es (holds_second (is_lt (text_cmp k e.0)) (below_all text_cmp k es) below) (and_second (option_map_or (same_due e.1) (finmap.find text_cmp e.0 all) false) _ found) i)

found_in_itself : (es : List (List ℕ × Due)) → T (is_sorted text_cmp es) → FoundIn es es
found_in_itself [] sorted = refl
found_in_itself (e ∷ es) sorted =
    (λ i. (ap (λ b. option_map_or (same_due e.1) (cond b (Some e.1) (finmap.find text_cmp e.0 es)) false) (is_eq-slice_cmp e.0 e.0 ∙ bytes_eq_same e.0) ∙ same_due_itself e.1) i
    && past_first e.0 e.1 es es (holds_first (below_all text_cmp e.0 es) (is_sorted text_cmp es) sorted) (found_in_itself es (holds_second (below_all text_cmp e.0 es) (is_sorted text_cmp es) sorted)) i)

by_entries : (a : Offer) (es : List (List ℕ × Due)) → FoundIn (finmap.entries a) es → list_all (λ e. says a e.0 e.1) es ≡ true
by_entries a [] found = refl
by_entries a (e ∷ es) found =
    (λ i. (ap (λ o. option_map_or (same_due e.1) o false) (finmap.get-entries a e.0) ∙ and_first _ _ found) i
    && by_entries a es (and_second (option_map_or (same_due e.1) (finmap.find text_cmp e.0 (finmap.entries a)) false) _ found) i)

within_itself : (a : Offer) → is_within a a ≡ true
within_itself a = by_entries a (finmap.entries a) (found_in_itself (finmap.entries a) (finmap.entries_sorted a))

same_offer_itself : (a : Offer) → same_offer a a ≡ true
same_offer_itself a = (λ i. within_itself a i && within_itself a i)

-- rule: refused-offer
pub offers_are_told_apart : OffersAreToldApart
offers_are_told_apart a b = (same_offer_tells a b, λ same. ap (same_offer a) (sym same) ∙ same_offer_itself a)
