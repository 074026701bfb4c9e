-- Whether a line breaks a rule, by what is kept.
use Rattle.std.proofs.Common.{◌≡◌, ◌<◌, ◌≤◌, ℕ, zero, suc, ◌+◌, List, [], ◌∷◌, map, Bool, true, false, not, ◌&&◌, ◌||◌, Option, Some, None, nat_lt, refl, sym, ap, subst, ◌∙◌, arith, ltb-true, ltb-false}
use Rattle.std.specs.Prelude.{is_some, bytes_eq, if◌then◌else◌, IfSome}
use Rattle.std.specs.List.{list_any, list_all, filter}
use Rattle.std.specs.Option.{option_map_or, option_and_then, option_or, unwrap_or}
use Rattle.std.specs.FinMap as finmap
use Rattle.std.proofs.lemmas.Bool.{not-false, not-true}
use Rattle.xds_resource.specs.declared.types.TypeName.{TypeName}
use Rattle.xds_resource.specs.Writes.{StampedWrite, version_of}
use Rattle.xds_resource.proofs.MadeMaps.{EachFound, each_found}
use Rattle.xds_interest.specs.Interests.{Selection, covers, has_name}
use Rattle.xds_interest.specs.Asked.{Asked, delta_kept}
use Rattle.xds_interest.specs.Delta.{Mention}
use Rattle.xds_interest.proofs.Choices.{and_first, and_second}
use Rattle.xds_catalogue.specs.Content.{is_live, is_shown, if_live, live_at, content}
use Rattle.xds_catalogue.specs.Holdings.{Entries, IsCatalogue}
use Rattle.xds_ledger.specs.Offers.{Offer, same_offer}
use Rattle.xds_ledger.specs.Owed.{present_as}
use Rattle.xds_ledger.specs.Variants.{is_whole}
use Rattle.xds_ledger.proofs.Repeating.{named_passes, one_fails}
use Rattle.xds_ledger.proofs.SameOffers.{offers_are_told_apart}
use Rattle.xds_check.specs.declared.line.Line.{Line}
use Rattle.xds_check.specs.declared.rule.Rule.{Rule}
use Rattle.xds_check.specs.declared.rule.Rule.TheVariants.{FreshNonce, BestResources, CoveredResources, WholeResponse, RightRemovals, OneAtATime, NothingRefusedAgain, NothingPending}
use Rattle.xds_check.specs.Answers.{Answer, stated_names}
use Rattle.xds_check.specs.Lines.{standing, live, interest, is_used, cluster_on, has_asked, taken, sent, is_pending, refused_offer, offer_at, speaks_delta, mentions, is_mentioned, is_covered_as}
use Rattle.xds_check.specs.Lines as said
use Rattle.xds_check.specs.Rules.{place, is_put_by, HasReusedNonce, BreaksBestResources, StatesUncovered, LacksAName, RemovesShown, IsSecondAtATime, OffersRefused, LeavesPending, BreaksAtResponse}
use Rattle.xds_check.specs.Kept.{StreamTalk, Marks, is_marked, wanted, is_reused, breaks_best_resources, states_uncovered, lacks_one, lacks_a_name, is_shown_in, removes_shown, offers_refused, is_missed, none_missed, least}
use Rattle.xds_check.proofs.Talking.{wanted_is, stands_waits, stands_refused}
use Rattle.xds_check.proofs.Lining.{IsSpokenBy, offer_same}

-- a test that tells whether something holds
abbrev pub Tells : Bool → Type 0 → Type 0
Tells b P = (b ≡ true → P) × (b ≡ false → ¬ P)

pub never : {X : Type 0} → true ≡ false → X
never e = absurd cc

tells_same : (b c : Bool) → b ≡ c → Tells b (c ≡ true)
tells_same b c same = (λ is. sym same ∙ is, λ none_so is_so. never (sym is_so ∙ sym same ∙ none_so))

-- ---- the least rule

abbrev pub rule_at : ℕ → Rule
rule_at zero = FreshNonce
rule_at (suc zero) = FreshNonce
rule_at (suc (suc zero)) = BestResources
rule_at (suc (suc (suc zero))) = CoveredResources
rule_at (suc (suc (suc (suc zero)))) = WholeResponse
rule_at (suc (suc (suc (suc (suc zero))))) = RightRemovals
rule_at (suc (suc (suc (suc (suc (suc zero)))))) = OneAtATime
rule_at (suc (suc (suc (suc (suc (suc (suc zero))))))) = NothingRefusedAgain
rule_at (suc (suc (suc (suc (suc (suc (suc (suc n)))))))) = NothingPending

pub rule_at-place : (r : Rule) → rule_at (place r) ≡ r
rule_at-place FreshNonce = refl
rule_at-place BestResources = refl
rule_at-place CoveredResources = refl
rule_at-place WholeResponse = refl
rule_at-place RightRemovals = refl
rule_at-place OneAtATime = refl
rule_at-place NothingRefusedAgain = refl
rule_at-place NothingPending = refl

in_range : (r : Rule) → (1 ≤ place r) × (place r ≤ 8)
in_range FreshNonce = (omega arith, omega arith)
in_range BestResources = (omega arith, omega arith)
in_range CoveredResources = (omega arith, omega arith)
in_range WholeResponse = (omega arith, omega arith)
in_range RightRemovals = (omega arith, omega arith)
in_range OneAtATime = (omega arith, omega arith)
in_range NothingRefusedAgain = (omega arith, omega arith)
in_range NothingPending = (omega arith, omega arith)

-- what is told of a rule and of those below it
module _ (Broken : Rule → Type 0) where
  abbrev NoneBelow : ℕ → Type 0
  NoneBelow n = (o : Rule) → place o < n → ¬ (Broken o)

  first_below : NoneBelow 1
  first_below o lt = absurd (omega (arith, lt, (in_range o).0))

  no_other : (r o : Rule) (less : Bool) → nat_lt (place o) (place r) ≡ less → NoneBelow (place r) → ¬ (Broken r) → place o < place r + 1 → ¬ (Broken o)
  no_other r o true is below none_so lt = below o (ltb-true (place o) (place r) is)
  no_other r o false is below none_so lt =
      let same : place r ≡ place o = omega (arith, lt, ltb-false (place o) (place r) is) in
      subst (λ (x : Rule). ¬ (Broken x)) (sym (rule_at-place r) ∙ ap rule_at same ∙ rule_at-place o) none_so

  one_more : (r : Rule) → NoneBelow (place r) → ¬ (Broken r) → NoneBelow (place r + 1)
  one_more r below none_so o = no_other r o (nat_lt (place o) (place r)) refl below none_so

  none_of_all : NoneBelow 9 → (o : Rule) → ¬ (Broken o)
  none_of_all below o = below o (omega (arith, (in_range o).1))

-- the least rule that is broken is told, and none where none is
abbrev pub TellsLeast : (Rule → Type 0) → Option Rule → Type 0
TellsLeast Broken None = (o : Rule) → ¬ (Broken o)
TellsLeast Broken (Some r) = Broken r × ((o : Rule) → place o < place r → ¬ (Broken o))

abbrev first_of : Bool → Bool → Bool → Bool → Bool → Bool → Bool → Option Rule
first_of b1 b2 b3 b4 b5 b6 b7 =
    if b1 then Some FreshNonce
    else option_or (if b2 then Some BestResources else if b3 then Some CoveredResources else if b4 then Some WholeResponse else if b5 then Some RightRemovals else None)
    (if b6 then Some OneAtATime else if b7 then Some NothingRefusedAgain else None)

first_told : (Broken : Rule → Type 0) (b1 b2 b3 b4 b5 b6 b7 : Bool) → Tells b1 (Broken FreshNonce) → Tells b2 (Broken BestResources) → Tells b3 (Broken CoveredResources) → Tells b4 (Broken WholeResponse)
    → Tells b5 (Broken RightRemovals) → Tells b6 (Broken OneAtATime) → Tells b7 (Broken NothingRefusedAgain) → ¬ (Broken NothingPending) → TellsLeast Broken (first_of b1 b2 b3 b4 b5 b6 b7)
first_told B true b2 b3 b4 b5 b6 b7 d1 d2 d3 d4 d5 d6 d7 last = (d1.0 refl, first_below B)
first_told B false true b3 b4 b5 b6 b7 d1 d2 d3 d4 d5 d6 d7 last =
    let below2 = one_more B FreshNonce (first_below B) (d1.1 refl) in
    (d2.0 refl, below2)
first_told B false false true b4 b5 b6 b7 d1 d2 d3 d4 d5 d6 d7 last =
    let below2 = one_more B FreshNonce (first_below B) (d1.1 refl) in
    let below3 = one_more B BestResources below2 (d2.1 refl) in
    (d3.0 refl, below3)
first_told B false false false true b5 b6 b7 d1 d2 d3 d4 d5 d6 d7 last =
    let below2 = one_more B FreshNonce (first_below B) (d1.1 refl) in
    let below3 = one_more B BestResources below2 (d2.1 refl) in
    let below4 = one_more B CoveredResources below3 (d3.1 refl) in
    (d4.0 refl, below4)
first_told B false false false false true b6 b7 d1 d2 d3 d4 d5 d6 d7 last =
    let below2 = one_more B FreshNonce (first_below B) (d1.1 refl) in
    let below3 = one_more B BestResources below2 (d2.1 refl) in
    let below4 = one_more B CoveredResources below3 (d3.1 refl) in
    let below5 = one_more B WholeResponse below4 (d4.1 refl) in
    (d5.0 refl, below5)
first_told B false false false false false true b7 d1 d2 d3 d4 d5 d6 d7 last =
    let below2 = one_more B FreshNonce (first_below B) (d1.1 refl) in
    let below3 = one_more B BestResources below2 (d2.1 refl) in
    let below4 = one_more B CoveredResources below3 (d3.1 refl) in
    let below5 = one_more B WholeResponse below4 (d4.1 refl) in
    let below6 = one_more B RightRemovals below5 (d5.1 refl) in
    (d6.0 refl, below6)
first_told B false false false false false false true d1 d2 d3 d4 d5 d6 d7 last =
    let below2 = one_more B FreshNonce (first_below B) (d1.1 refl) in
    let below3 = one_more B BestResources below2 (d2.1 refl) in
    let below4 = one_more B CoveredResources below3 (d3.1 refl) in
    let below5 = one_more B WholeResponse below4 (d4.1 refl) in
    let below6 = one_more B RightRemovals below5 (d5.1 refl) in
    let below7 = one_more B OneAtATime below6 (d6.1 refl) in
    (d7.0 refl, below7)
first_told B false false false false false false false d1 d2 d3 d4 d5 d6 d7 last =
    let below2 = one_more B FreshNonce (first_below B) (d1.1 refl) in
    let below3 = one_more B BestResources below2 (d2.1 refl) in
    let below4 = one_more B CoveredResources below3 (d3.1 refl) in
    let below5 = one_more B WholeResponse below4 (d4.1 refl) in
    let below6 = one_more B RightRemovals below5 (d5.1 refl) in
    let below7 = one_more B OneAtATime below6 (d6.1 refl) in
    let below8 = one_more B NothingRefusedAgain below7 (d7.1 refl) in
    none_of_all B (one_more B NothingPending below8 last)

-- ---- a name that a whole response lacks

-- whether a write is shown, and its name isn't among some names
abbrev is_lacked : Selection → List (List ℕ) → StampedWrite → Bool
is_lacked s names w = is_shown s w && not (has_name names w.name)

lacked_case : (shown out : Bool) (rest : Bool) → not (not (shown && out) && rest) ≡ ((shown && out) || not rest)
lacked_case true true rest = refl
lacked_case true false rest = refl
lacked_case false out rest = refl

lacks_step : (s : Selection) (names : List (List ℕ)) (w : StampedWrite) (ws : List StampedWrite) (shown : Bool) → is_shown s w ≡ shown
    → lacks_one names (if shown then w ∷ filter (is_shown s) ws else filter (is_shown s) ws) ≡ ((shown && not (has_name names w.name)) || lacks_one names (filter (is_shown s) ws))
lacks_step s names w ws true is = refl
lacks_step s names w ws false is = refl

-- where one of the shown writes is lacking, by all entries
lacks_all : (s : Selection) (names : List (List ℕ)) (es : List (List ℕ × StampedWrite)) → lacks_one names (filter (is_shown s) (map (λ e. e.1) es)) ≡ not (list_all (λ e. not (is_lacked s names e.1)) es)
lacks_all s names [] = refl
lacks_all s names (e ∷ es) =
    lacks_step s names e.1 (map (λ e. e.1) es) (is_shown s e.1) refl
    ∙ ap (λ b. is_lacked s names e.1 || b) (lacks_all s names es)
    ∙ sym (lacked_case (is_shown s e.1) (not (has_name names e.1.name)) (list_all (λ e. not (is_lacked s names e.1)) es))

-- by names
abbrev keeps_name : Entries → Selection → List (List ℕ) → List ℕ → Bool
keeps_name m s names q = option_map_or (λ w. not (is_lacked s names w)) (finmap.get m q) true

by_names : (m : Entries) (s : Selection) (names : List (List ℕ)) (es : List (List ℕ × StampedWrite)) → EachFound m es → list_all (λ e. not (is_lacked s names e.1)) es ≡ list_all (λ e. keeps_name m s names e.0) es
by_names m s names [] found = refl
by_names m s names (e ∷ es) found = (λ i. option_map_or (λ w. not (is_lacked s names w)) (sym found.0 i) true && by_names m s names es found.1 i)

content_lacks : (m : Entries) (s : Selection) (names : List (List ℕ)) → lacks_one names (content m s) ≡ not (list_all (λ e. keeps_name m s names e.0) (finmap.entries m))
content_lacks m s names = lacks_all s names (finmap.entries m) ∙ ap not (by_names m s names (finmap.entries m) (each_found m))

abbrev if_so : StampedWrite → Bool → Option StampedWrite
if_so w l = if l then Some w else None

pub live_some : (w : StampedWrite) (l : Bool) → is_some (if_so w l) ≡ l
live_some w true = refl
live_some w false = refl

shown_by : (w : StampedWrite) (covered lives : Bool) (version : List ℕ) → is_some (if covered then (if lives then Some version else None) else None) ≡ (is_some (if lives then Some w else None) && covered)
shown_by w true true version = refl
shown_by w true false version = refl
shown_by w false true version = refl
shown_by w false false version = refl

-- what is present is live and covered
pub shown_parts : (s : Selection) (q : List ℕ) (o : Option StampedWrite) → is_some (present_as s q o) ≡ (is_some (option_and_then if_live o) && is_covered_as s q o)
shown_parts s q None = refl
shown_parts s q (Some w) = shown_by w (covers s q w.groups) (is_live w) (version_of w)

-- of a name with a write, that it is shown
shown_same : (m : Entries) (s : Selection) (q : List ℕ) (w : StampedWrite) → finmap.get m q ≡ Some w → w.name ≡ q → is_shown_in m s q ≡ is_shown s w
shown_same m s q w has named =
    shown_parts s q (finmap.get m q)
    ∙ (λ i. is_some (option_and_then if_live (has i)) && option_map_or (λ w. covers s q w.groups) (has i) false)
    ∙ (λ i. live_some w (is_live w) i && covers s (sym named i) w.groups)

shown_has : (m : Entries) (s : Selection) (q : List ℕ) (o : Option StampedWrite) → finmap.get m q ≡ o → is_shown_in m s q ≡ true → (w : StampedWrite) × (finmap.get m q ≡ Some w)
shown_has m s q None has shown = never (sym shown ∙ (λ i. is_some (present_as s q (has i))))
shown_has m s q (Some w) has shown = (w, has)

unkept : (m : Entries) (s : Selection) (names : List (List ℕ)) (catalogue : IsCatalogue m) (q : List ℕ) (o : Option StampedWrite) → finmap.get m q ≡ o → keeps_name m s names q ≡ false
    → (is_shown_in m s q ≡ true) × (has_name names q ≡ false)
unkept m s names catalogue q None has lacks = never (sym (ap (λ o. option_map_or (λ w. not (is_lacked s names w)) o true) has) ∙ lacks)
unkept m s names catalogue q (Some w) has lacks =
    let named : w.name ≡ q = subst (λ (o : Option StampedWrite). IfSome o (λ w. w.name ≡ q)) has (catalogue q) in
    let both : is_lacked s names w ≡ true = not-false (is_lacked s names w) (sym (ap (λ o. option_map_or (λ w. not (is_lacked s names w)) o true) has) ∙ lacks) in (
      shown_same m s q w has named ∙ and_first (is_shown s w) (not (has_name names w.name)) both,
      sym (ap (has_name names) named) ∙ not-true (has_name names w.name) (and_second (is_shown s w) (not (has_name names w.name)) both),
    )

-- a response that lacks one lacks a name that is shown
pub lacks_tells : (m : Entries) (s : Selection) (names : List (List ℕ)) → IsCatalogue m → lacks_one names (content m s) ≡ true → (q : List ℕ) × (is_shown_in m s q ≡ true) × (has_name names q ≡ false)
lacks_tells m s names catalogue lacks =
    let one = one_fails (keeps_name m s names) (finmap.entries m) (not-true _ (sym (content_lacks m s names) ∙ lacks)) in
    let both = unkept m s names catalogue one.0 (finmap.get m one.0) refl one.1 in
    (one.0, both.0, both.1)

lacked_now : (shown has : Bool) → not (shown && not has) ≡ true → shown ≡ true → has ≡ false → ⊥
lacked_now true true e s h = never h
lacked_now true false e s h = never (sym e)
lacked_now false has e s h = never (sym s)

-- and one that lacks none lacks no such name
pub lacks_none : (m : Entries) (s : Selection) (names : List (List ℕ)) → IsCatalogue m → lacks_one names (content m s) ≡ false → (q : List ℕ) → is_shown_in m s q ≡ true → has_name names q ≡ false → ⊥
lacks_none m s names catalogue none q shown absent =
    let has = shown_has m s q (finmap.get m q) refl shown in
    let w = has.0 in
    let named : w.name ≡ q = subst (λ (o : Option StampedWrite). IfSome o (λ w. w.name ≡ q)) has.1 (catalogue q) in
    let kept = named_passes (keeps_name m s names) m q w (not-false _ (sym (content_lacks m s names) ∙ none)) has.1 in
    lacked_now (is_shown s w) (has_name names w.name) (sym (ap (λ o. option_map_or (λ w. not (is_lacked s names w)) o true) has.1) ∙ kept)
    (sym (shown_same m s q w has.1 named) ∙ shown) (ap (has_name names) named ∙ absent)

-- rule: whole-response
whole_lacks : (whole lacks : Bool) → (whole && lacks) ≡ false → whole ≡ true → lacks ≡ false
whole_lacks true lacks e w = e
whole_lacks false lacks e w = never (sym w)

-- ---- an offer that was refused

none_some : (o : Offer) → ◌≡◌ {A = Option Offer} None (Some o) → ⊥
none_some o is = absurd cc

some_same : (r o : Offer) → Some r ≡ Some o → o ≡ r
some_same r o is = cc

refused_case : (o : Offer) (refused : Option Offer) → Tells (option_map_or (same_offer o) refused false) (refused ≡ Some o)
refused_case o None = (λ e. never (sym e), λ _ is. none_some o is)
refused_case o (Some r) = (
  λ e. ap Some (sym ((offers_are_told_apart o r).0 e)),
  λ e is. never (sym ((offers_are_told_apart o r).1 (some_same r o is)) ∙ e),
)

-- ---- the rules of a response

module _ (s : ℕ) (e : List Line) (held : Entries) (k : StreamTalk) (a : Answer) (spoken : IsSpokenBy s a.kind e k) (same : (q : List ℕ) → finmap.get held q ≡ standing a.kind e q) (catalogue : IsCatalogue held) where
  want : wanted k ≡ interest s a.kind e
  want = wanted_is a.kind (cluster_on s e) (has_asked s a.kind e) (taken s a.kind e) (sent s a.kind e) (is_pending s a.kind e) (is_used s e) k spoken

  shown_is : (q : List ℕ) → is_shown_in held (wanted k) q ≡ said.is_shown s a.kind e q
  shown_is q = (λ i. is_some (present_as (want i) q (same q i)))

  -- rule: new-nonce
  tells_nonce : Tells (is_reused k a.nonce) (HasReusedNonce e s a)
  tells_nonce = tells_same _ _ (ap (λ b. bytes_eq a.nonce [] || b) (spoken.used a.nonce))

  -- rule: best-writes
  tells_best : Tells (breaks_best_resources held a) (BreaksBestResources e a)
  tells_best = tells_same _ _ (λ i. list_any (λ x. not (option_map_or (is_put_by x) (option_and_then if_live (same x.name i)) false)) a.statements)

  -- rule: covered-only
  tells_covered : Tells (states_uncovered held (wanted k) a) (StatesUncovered e s a)
  tells_covered = tells_same _ _ (λ i. list_any (λ name. not (option_map_or (λ w. covers (want i) name w.groups) (same name i) false)) (stated_names a))

  -- rule: whole-response
  tells_whole : Tells (lacks_a_name a.kind held (wanted k) a) (LacksAName e s a)
  tells_whole = (
    λ is_so. let one = lacks_tells held (wanted k) (stated_names a) catalogue (and_second (is_whole a.variant a.kind) _ is_so) in
        (and_first (is_whole a.variant a.kind) _ is_so, one.0, sym (shown_is one.0) ∙ one.1, one.2),
    λ none_so lacks. lacks_none held (wanted k) (stated_names a) catalogue (whole_lacks (is_whole a.variant a.kind) _ none_so lacks.0) lacks.1 (shown_is lacks.1 ∙ lacks.2) lacks.3,
  )

  -- rule: no-live-removal
  tells_removals : Tells (removes_shown held (wanted k) a) (RemovesShown e s a)
  tells_removals = tells_same _ _ (λ i. list_any (λ q. shown_is q i) a.removed)

  -- rule: one-unanswered
  tells_order : Tells (is_some k.unanswered) (IsSecondAtATime e s a)
  tells_order = tells_same _ _ (stands_waits (sent s a.kind e) k.unanswered k.refused spoken.stands)

  refused_is : offers_refused held k a ≡ option_map_or (same_offer (offer_at e a)) (refused_offer (sent s a.kind e)) false
  refused_is = (λ i. option_map_or (same_offer (sym (offer_same a.kind e held a refl same) i)) (stands_refused (sent s a.kind e) k.unanswered k.refused spoken.stands i) false)

  -- rule: refused-offer
  tells_refused : Tells (offers_refused held k a) (OffersRefused e s a)
  tells_refused = subst (λ (b : Bool). Tells b (OffersRefused e s a)) (sym refused_is) (refused_case (offer_at e a) (refused_offer (sent s a.kind e)))

  pub judged : TellsLeast (λ r. BreaksAtResponse r e s a) (least a.kind held k a)
  judged =
      first_told (λ r. BreaksAtResponse r e s a) (is_reused k a.nonce) (breaks_best_resources held a) (states_uncovered held (wanted k) a) (lacks_a_name a.kind held (wanted k) a) (removes_shown held (wanted k) a)
      (is_some k.unanswered) (offers_refused held k a) tells_nonce tells_best tells_covered tells_whole tells_removals tells_order tells_refused (λ b. b)

-- ---- a name whose answer is missed

kept_begun : (t : TypeName) (c : List ℕ) (ms : List Mention) → (delta_kept t c ms).begun ≡ is_mentioned ms
kept_begun t c [] = refl
kept_begun t c (m ∷ ms) = refl

mark_there : (m : Marks) (q : List ℕ) (o : Option Bool) → finmap.get m q ≡ o → is_marked m q ≡ true → (b : Bool) × (finmap.get m q ≡ Some b)
mark_there m q None has marked = never (sym marked ∙ ap (λ o. unwrap_or o false) has)
mark_there m q (Some b) has marked = (b, has)

module _ (s : ℕ) (t : TypeName) (e : List Line) (held : Entries) (k : StreamTalk) (spoken : IsSpokenBy s t e k) (same : (q : List ℕ) → finmap.get held q ≡ standing t e q) where
  speaks : k.delta.begun ≡ speaks_delta s t e
  speaks = ap (λ (x : Asked). x.begun) spoken.delta ∙ kept_begun t (unwrap_or (cluster_on s e) []) (mentions (taken s t e))

  counts_is : (q : List ℕ) → (k.delta.begun || is_some (live_at held q)) ≡ (speaks_delta s t e || is_some (live t e q))
  counts_is q = (λ i. speaks i || is_some (option_and_then if_live (same q i)))

  -- where some answer is missed
  pub one_missed : none_missed held k ≡ false → LeavesPending e s t
  one_missed none =
      let one = one_fails (λ q. not (is_missed held k q)) (finmap.entries k.waiting) none in
      let missed = not-false (is_missed held k one.0) one.1 in
      record { name = one.0; pending = sym (spoken.waiting one.0) ∙ and_first (is_marked k.waiting one.0) _ missed; counts = sym (counts_is one.0) ∙ and_second (is_marked k.waiting one.0) _ missed }

  both_now : (a b : Bool) → a ≡ true → b ≡ true → not (a && b) ≡ true → ⊥
  both_now true true x y e = never (sym e)
  both_now true false x y e = never (sym y)
  both_now false b x y e = never (sym x)

  -- rule: awaited-names
  -- and where none is
  pub none_pending : none_missed held k ≡ true → ¬ (LeavesPending e s t)
  none_pending all p =
      let marked = spoken.waiting p.name ∙ p.pending in
      let there = mark_there k.waiting p.name (finmap.get k.waiting p.name) refl marked in
      both_now (is_marked k.waiting p.name) (k.delta.begun || is_some (live_at held p.name)) marked (counts_is p.name ∙ p.counts) (named_passes (λ q. not (is_missed held k q)) k.waiting p.name there.0 all there.1)
