-- That an offer is the next one again where both say the same of each name.
use Rattle.std.proofs.Common.{◌≡◌, ℕ, List, [], ◌∷◌, Bool, true, false, cond, ◌&&◌, ◌||◌, Option, Some, None, refl, sym, ap, ◌∙◌}
use Rattle.std.specs.Prelude.{bytes_eq, is_some, option_map, if◌then◌else◌}
use Rattle.std.specs.List.{list_all}
use Rattle.std.specs.FinMap as finmap
use Rattle.std.proofs.lemmas.Bool.{false_from_ne_true, true≢false, cond-false}
use Rattle.std.proofs.lemmas.Map.Text.{is_eq-slice_cmp}
use Rattle.xds_resource.specs.declared.types.TypeName.{TypeName}
use Rattle.xds_resource.specs.Writes.{text_cmp}
use Rattle.xds_resource.proofs.NameMaps.{bytes_eq_tells, same_names}
use Rattle.xds_interest.specs.Interests.{Selection}
use Rattle.xds_catalogue.specs.Holdings.{Holdings, Entries, IsNumbered}
use Rattle.xds_ledger.specs.declared.variant.VariantName.{VariantName}
use Rattle.xds_ledger.specs.declared.entry.Due.{Due}
use Rattle.xds_ledger.specs.declared.entry.Due.TheVariants.{Stated}
use Rattle.xds_ledger.specs.Variants.{is_whole}
use Rattle.xds_ledger.specs.Owed.{Beliefs, present, owed_of, is_owed}
use Rattle.xds_ledger.specs.Listed.{Listed, is_listed, is_since, Fits}
use Rattle.xds_ledger.specs.Offers.{Offer, offered, offer, same_offer}
use Rattle.xds_ledger.specs.Repeats.{same_saying, still_says, has_what_is_said}
use Rattle.xds_ledger.proofs.ByName.{present_absent, offer_says_it}
use Rattle.xds_ledger.proofs.Fitting.{none_at_first, past_if, unowed_else}
use Rattle.xds_ledger.proofs.SameOffers.{same_due_itself, same_due_tells, offers_are_told_apart}
use Rattle.xds_ledger.proofs.Choosing.{second_false}
use Rattle.xds_interest.proofs.Choices.{and_first, and_second}

same_itself : (o : Option Due) → same_saying o o ≡ true
same_itself None = refl
same_itself (Some d) = same_due_itself d

same_tells : (o p : Option Due) → same_saying o p ≡ true → o ≡ p
same_tells None None e = refl
same_tells None (Some d) e = absurd cc
same_tells (Some d) None e = absurd cc
same_tells (Some d) (Some e) is = ap Some (same_due_tells d e is)

passes_at : {X : Type 0} (p : List ℕ → Bool) (k q : List ℕ) (x y : X) (rest : Option X) (tie : Bool) → bytes_eq q k ≡ tie → p k ≡ true → (rest ≡ Some y → p q ≡ true) → cond tie (Some x) rest ≡ Some y → p q ≡ true
passes_at p k q x y rest true here passes later is = ap p (bytes_eq_tells q k here) ∙ passes
passes_at p k q x y rest false other passes later is = later is

found_passes : {X : Type 0} (p : List ℕ → Bool) (es : List (List ℕ × X)) (q : List ℕ) (x : X) → list_all (λ e. p e.0) es ≡ true → finmap.find text_cmp q es ≡ Some x → p q ≡ true
found_passes p [] q x all is = absurd cc
found_passes p (e ∷ es) q x all is =
    passes_at p e.0 q e.1 x (finmap.find text_cmp q es) (bytes_eq q e.0) refl (and_first (p e.0) _ all) (found_passes p es q x (and_second (p e.0) _ all))
    (sym (ap (λ b. cond b (Some e.1) (finmap.find text_cmp q es)) (is_eq-slice_cmp q e.0)) ∙ is)

-- a name of the map passes a test that all its names pass
pub named_passes : {X : Type 0} (p : List ℕ → Bool) (m : finmap.FinMap text_cmp X) (q : List ℕ) (x : X) → list_all (λ e. p e.0) (finmap.entries m) ≡ true → finmap.get m q ≡ Some x → p q ≡ true
named_passes p m q x all is = found_passes p (finmap.entries m) q x all (sym (finmap.get-entries m q) ∙ is)

fails_first : {X : Type 0} (p : List ℕ → Bool) (e : List ℕ × X) (es : List (List ℕ × X)) (b : Bool) → p e.0 ≡ b → (b && list_all (λ e. p e.0) es) ≡ false → ((list_all (λ e. p e.0) es ≡ false) → (name : List ℕ) × (p name ≡ false)) → (name : List ℕ) × (p name ≡ false)
fails_first p e es true here none later = later none
fails_first p e es false here none later = (e.0, here)

-- a test that not all names pass
pub one_fails : {X : Type 0} (p : List ℕ → Bool) (es : List (List ℕ × X)) → list_all (λ e. p e.0) es ≡ false → (name : List ℕ) × (p name ≡ false)
one_fails p [] none = absurd cc
one_fails p (e ∷ es) none = fails_first p e es (p e.0) refl none (one_fails p es)

module _ (refused : Offer) (v : VariantName) (t : TypeName) (s : Selection) (m : Entries) (b : Beliefs) where
  -- rule: refused-offer
  -- where they agree of each name, they are the same
  pub repeats_where : ((q : List ℕ) → still_says refused v t s m b q ≡ true) → same_offer (offer v t s m b) refused ≡ true
  repeats_where each =
      (offers_are_told_apart (offer v t s m b) refused).1
      (same_names (offer v t s m b) refused (λ q. offer_says_it v t s m b q ∙ sym (same_tells (finmap.get refused q) (offered v t s m b q) (each q))))

  -- rule: refused-offer
  -- where they don't agree of some name, they differ
  pub differs_where : (name : List ℕ) → still_says refused v t s m b name ≡ false → same_offer (offer v t s m b) refused ≡ false
  differs_where name apart =
      false_from_ne_true _ (λ same. true≢false (sym (same_itself (finmap.get refused name))
      ∙ ap (same_saying (finmap.get refused name)) (sym (sym (offer_says_it v t s m b name) ∙ ap (λ o. finmap.get o name) ((offers_are_told_apart (offer v t s m b) refused).0 same))) ∙ apart))

  -- what the entries of a map tell
  pub differs_among : {X : Type 0} (n : finmap.FinMap text_cmp X) → list_all (λ e. still_says refused v t s m b e.0) (finmap.entries n) ≡ false → false ≡ same_offer (offer v t s m b) refused
  differs_among n apart = let one = one_fails (still_says refused v t s m b) (finmap.entries n) apart in sym (differs_where one.0 one.1)

  -- rule: refused-offer
  -- where a name is to be said that the offer doesn't speak of, they differ
  pub differs_at : (name : List ℕ) → has_what_is_said refused v t s m b name ≡ false → same_offer (offer v t s m b) refused ≡ false
  differs_at name unsaid = differs_where name (second_false (is_some (finmap.get refused name)) _ unsaid)

  -- what the entries of a map tell of that
  pub differs_unsaid : {X : Type 0} (n : finmap.FinMap text_cmp X) → list_all (λ e. has_what_is_said refused v t s m b e.0) (finmap.entries n) ≡ false → false ≡ same_offer (offer v t s m b) refused
  differs_unsaid n apart = let one = one_fails (has_what_is_said refused v t s m b) (finmap.entries n) apart in sym (differs_at one.0 one.1)

-- ---- the names that aren't looked at

-- a whole response says nothing of a name without an entry in the catalogue, and another nothing of a name that is owed nothing
silent : (v : VariantName) (t : TypeName) (s : Selection) (h : Holdings) (b : Beliefs) (l : Listed) (q : List ℕ) (whole : Bool) → is_whole v t ≡ whole → IsNumbered h → Fits v t s h b l → is_listed l q ≡ false
    → is_since h (if whole then 0 else l.mark) q ≡ false → offered v t s h.entries b q ≡ None
silent v t s h b l q true whole numbered fits out unchanged =
    ap (λ w. if w then option_map Stated (present s h.entries q) else if is_owed v t s h.entries b q then owed_of s h.entries b q else None) whole
    ∙ ap (option_map Stated) (present_absent s h.entries q (none_at_first h q (past_if h 0 q numbered unchanged)))
silent v t s h b l q false partly numbered fits out unchanged =
    ap (λ w. if w then option_map Stated (present s h.entries q) else if is_owed v t s h.entries b q then owed_of s h.entries b q else None) partly
    ∙ cond-false (is_owed v t s h.entries b q) (owed_of s h.entries b q) None (unowed_else v t s h b l q numbered fits out unchanged)

module _ (v : VariantName) (t : TypeName) (s : Selection) (h : Holdings) (b : Beliefs) (l : Listed) (refused : Offer) (mark : ℕ) where
  abbrev test : List ℕ → Bool
  test q = still_says refused v t s h.entries b q

  abbrev has : List ℕ → Bool
  has q = has_what_is_said refused v t s h.entries b q

  -- of a name that the offer doesn't speak of
  unsaid_passes : (q : List ℕ) → finmap.get refused q ≡ None → has q ≡ true → test q ≡ true
  unsaid_passes q none passes = (λ i. is_some (sym none i) || test q) ∙ passes

  each_at : (q : List ℕ) (r : Option Due) (o : Option ℕ) (since : Bool) → finmap.get refused q ≡ r → finmap.get l.names q ≡ o → is_since h mark q ≡ since → mark ≡ (if is_whole v t then 0 else l.mark) → Fits v t s h b l → IsNumbered h
      → list_all (λ e. test e.0) (finmap.entries refused) ≡ true → list_all (λ e. has e.0) (finmap.entries l.names) ≡ true → ((name : List ℕ) → is_since h mark name ≡ true → has name ≡ true) → test q ≡ true
  each_at q (Some d) o since held there is from fits numbered said listed changed = named_passes test refused q d said held
  each_at q None (Some k) since none there is from fits numbered said listed changed = unsaid_passes q none (named_passes has l.names q k listed there)
  each_at q None None true none there is from fits numbered said listed changed = unsaid_passes q none (changed q is)
  each_at q None None false none there is from fits numbered said listed changed =
      λ i. same_saying (none i) (silent v t s h b l q (is_whole v t) refl numbered fits (ap is_some there) (ap (λ n. is_since h n q) (sym from) ∙ is) i)

  -- rule: refused-offer
  -- once they agree of each name that was refused or is listed, those that changed since decide
  pub others_decide : (result : Bool) → mark ≡ (if is_whole v t then 0 else l.mark) → Fits v t s h b l → list_all (λ e. test e.0) (finmap.entries refused) ≡ true → list_all (λ e. has e.0) (finmap.entries l.names) ≡ true
      → (result ≡ true → (name : List ℕ) → is_since h mark name ≡ true → has name ≡ true) → (result ≡ false → (name : List ℕ) × (has name ≡ false)) → (result ≡ true → IsNumbered h)
      → result ≡ same_offer (offer v t s h.entries b) refused
  others_decide true from fits said listed all one numbered =
      sym (repeats_where refused v t s h.entries b (λ q. each_at q (finmap.get refused q) (finmap.get l.names q) (is_since h mark q) refl refl refl from fits (numbered refl) said listed (all refl)))
  others_decide false from fits said listed all one numbered = let other = one refl in sym (differs_at refused v t s h.entries b other.0 other.1)
