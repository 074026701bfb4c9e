-- That what the code makes, write by write and entry by entry, is the offer.
use Rattle.std.proofs.Common.{◌≡◌, ℕ, List, [], ◌∷◌, map, Bool, true, false, cond, ◌&&◌, Option, Some, None, Result, Ok, Err, refl, sym, ap, subst, ◌∙◌}
use Rattle.std.specs.Prelude.{T, is_some, option_map, if◌then◌else◌, IfSome, IfOk}
use Rattle.std.specs.Option.{option_or, option_and_then}
use Rattle.std.specs.Ordering.{eq_by_cmp}
use Rattle.std.specs.List.{filter}
use Rattle.std.specs.FinMap as finmap
use Rattle.std.specs.FinMap.Entries.{below_all, is_sorted}
use Rattle.std.proofs.lemmas.Map.Text.{is_eq-slice_cmp}
use Rattle.std.proofs.lemmas.Bool.{cond-false}
use Rattle.xds_resource.specs.declared.refusal.Refusal.{Refusal}
use Rattle.xds_resource.specs.declared.types.TypeName.{TypeName}
use Rattle.xds_resource.specs.Writes.{StampedWrite, text_cmp, version_of}
use Rattle.xds_resource.specs.Names.{put_some, put_all}
use Rattle.xds_resource.proofs.NameMaps.{same_names, bytes_eq_same, bytes_eq_tells}
use Rattle.xds_resource.proofs.MadeMaps.{get-put_all, find_below}
use Rattle.xds_resource.proofs.BoolsAndLists.{holds_first, holds_second, option_or-None}
use Rattle.xds_interest.specs.Interests.{Selection, covers}
use Rattle.xds_catalogue.specs.Holdings.{Holdings, Entries, IsCatalogue, IsNumbered}
use Rattle.xds_catalogue.specs.Content.{is_live, is_shown, content}
use Rattle.xds_ledger.specs.declared.variant.VariantName.{VariantName}
use Rattle.xds_ledger.specs.declared.entry.Due.{Due}
use Rattle.xds_ledger.specs.declared.entry.Due.TheVariants.{Stated}
use Rattle.xds_ledger.specs.Variants.{is_whole}
use Rattle.xds_ledger.specs.Owed.{Beliefs, version_shown, present, owed_of, is_owed}
use Rattle.xds_ledger.specs.Listed.{Listed, is_since, Fits}
use Rattle.xds_ledger.specs.Offers.{Offer, offer}
use Rattle.xds_ledger.specs.OfferParts.{stated, put_writes, told_of}
use Rattle.xds_ledger.proofs.ByName.{offer_says_it}
use Rattle.xds_ledger.proofs.Fitting.{unowed_else}

-- ---- the content, as entries that are shown

abbrev EachNamed : List (List ℕ × StampedWrite) → Type 0
EachNamed [] = Unit {0}
EachNamed (e ∷ es) = (e.1.name ≡ e.0) × EachNamed es

abbrev AreNamed : List (List ℕ × StampedWrite) → Type 0
AreNamed es = (q : List ℕ) → IfSome (finmap.find text_cmp q es) (λ w. w.name ≡ q)

rest_named : (e : List ℕ × StampedWrite) (q : List ℕ) (r : Option StampedWrite) (tie : Bool) → (tie ≡ true → r ≡ None) → IfSome (cond tie (Some e.1) r) (λ w. w.name ≡ q) → IfSome r (λ w. w.name ≡ q)
rest_named e q r true none h = subst (λ o. IfSome o (λ w. w.name ≡ q)) (sym (none refl)) tt
rest_named e q r false none h = h

each_named : (es : List (List ℕ × StampedWrite)) → T (is_sorted text_cmp es) → AreNamed es → EachNamed es
each_named [] sorted named = tt
each_named (e ∷ es) sorted named =
    let below = holds_first (below_all text_cmp e.0 es) (is_sorted text_cmp es) sorted in (
      subst (λ b. IfSome (cond b (Some e.1) (finmap.find text_cmp e.0 es)) (λ w. w.name ≡ e.0)) (is_eq-slice_cmp e.0 e.0 ∙ bytes_eq_same e.0) (named e.0),
      each_named es (holds_second (below_all text_cmp e.0 es) (is_sorted text_cmp es) sorted)
          (λ q. rest_named e q (finmap.find text_cmp q es) (eq_by_cmp text_cmp q e.0)
          (λ tie. ap (λ n. finmap.find text_cmp n es) (bytes_eq_tells q e.0 (sym (is_eq-slice_cmp q e.0) ∙ tie)) ∙ find_below e.0 es below) (named q)),
    )

abbrev if_shown : Selection → (StampedWrite → Option Due) → List ℕ → StampedWrite → Option Due
if_shown s f name w = if is_shown s w then f w else None

shown_step : (s : Selection) (f : StampedWrite → Option Due) (o : Offer) (e : List ℕ × StampedWrite) (ws : List StampedWrite) (b : Bool) → e.1.name ≡ e.0
    → put_writes f o (cond b (e.1 ∷ ws) ws) ≡ put_writes f (put_some o e.0 (if b then f e.1 else None)) ws
shown_step s f o e ws true named = ap (λ n. put_writes f (put_some o n (f e.1)) ws) named
shown_step s f o e ws false named = refl

put_shown : (s : Selection) (f : StampedWrite → Option Due) (o : Offer) (es : List (List ℕ × StampedWrite)) → EachNamed es
    → put_writes f o (filter (is_shown s) (map (λ e. e.1) es)) ≡ put_all (if_shown s f) o es
put_shown s f o [] named = refl
put_shown s f o (e ∷ es) named =
    shown_step s f o e (filter (is_shown s) (map (λ e. e.1) es)) (is_shown s e.1) named.0 ∙ put_shown s f (put_some o e.0 (if_shown s f e.0 e.1)) es named.1

-- what the content leaves in a whole response
abbrev pub base : Selection → Entries → Offer
base s m = put_writes stated finmap.empty (content m s)

base_entries : (s : Selection) (m : Entries) → IsCatalogue m → base s m ≡ put_all (if_shown s stated) finmap.empty (finmap.entries m)
base_entries s m named =
    put_shown s stated finmap.empty (finmap.entries m)
    (each_named (finmap.entries m) (finmap.entries_sorted m) (λ q. subst (λ o. IfSome o (λ w. w.name ≡ q)) (finmap.get-entries m q) (named q)))

shown_cases : (live covered : Bool) (version : List ℕ) → option_or (if live && covered then Some (Stated version) else None) None ≡ option_map Stated (if covered then (if live then Some version else None) else None)
shown_cases true true version = refl
shown_cases true false version = refl
shown_cases false true version = refl
shown_cases false false version = refl

base_at : (s : Selection) (q : List ℕ) (o : Option StampedWrite) → IfSome o (λ w. w.name ≡ q) → option_or (option_and_then (if_shown s stated q) o) None ≡ option_map Stated (option_and_then (version_shown s q) o)
base_at s q None named = refl
base_at s q (Some w) named =
    ap (λ n. option_or (if is_live w && covers s n w.groups then Some (Stated (version_of w)) else None) None) named ∙ shown_cases (is_live w) (covers s q w.groups) (version_of w)

get-base : (s : Selection) (m : Entries) (q : List ℕ) → IsCatalogue m → finmap.get (base s m) q ≡ option_map Stated (present s m q)
get-base s m q named =
    ap (λ o. finmap.get o q) (base_entries s m named) ∙ get-put_all (if_shown s stated) finmap.empty m q
    ∙ ap (option_or (option_and_then (if_shown s stated q) (finmap.get m q))) (finmap.get-empty text_cmp q) ∙ base_at s q (finmap.get m q) (named q)

-- rule: whole-response
-- a response that is the whole states what is present
pub whole_offer_made : (v : VariantName) (t : TypeName) (s : Selection) (m : Entries) (b : Beliefs) → is_whole v t ≡ true → IsCatalogue m → base s m ≡ offer v t s m b
whole_offer_made v t s m b whole named =
    same_names _ _ (λ q. get-base s m q named ∙ sym (offer_says_it v t s m b q ∙ ap (λ w. if w then option_map Stated (present s m q) else told_of v t s m b q) whole))

-- the same from what the calls tell
pub whole_made : (t : TypeName) (s : Selection) (m : Entries) (ws : List StampedWrite) (o : Offer) → IsCatalogue m → ws ≡ content m s → o ≡ put_writes stated finmap.empty ws
    → (v : VariantName) (b : Beliefs) → is_whole v t ≡ true → o ≡ offer v t s m b
whole_made t s m ws o named shown made v b whole = made ∙ ap (put_writes stated finmap.empty) shown ∙ whole_offer_made v t s m b whole named

-- and of one variant
pub whole_of : (v : VariantName) (t : TypeName) (s : Selection) (m : Entries) (b : Beliefs) (r : Result Offer Refusal) → is_whole v t ≡ true → IfOk r (λ o. (v : VariantName) → (b : Beliefs) → is_whole v t ≡ true → o ≡ offer v t s m b)
    → IfOk r (λ o. o ≡ offer v t s m b)
whole_of v t s m b (Ok o) whole made = made v b whole
whole_of v t s m b (Err e) whole made = tt

-- ---- what is owed, of the listed names and of those that changed since

or_itself : {X : Type 0} (o : Option X) → option_or o o ≡ o
or_itself None = refl
or_itself (Some x) = refl

told_at : (told : Option Due) (o : Option ℕ) (since : Bool) → (is_some o ≡ false → since ≡ false → told ≡ None)
    → (if since then option_or told (option_or (option_and_then (λ number. told) o) None) else option_or (option_and_then (λ number. told) o) None) ≡ told
told_at told None true none = option_or-None told
told_at told None false none = sym (none refl refl)
told_at told (Some k) true none = ap (option_or told) (option_or-None told) ∙ or_itself told
told_at told (Some k) false none = option_or-None told

due_at : (v : VariantName) (t : TypeName) (s : Selection) (h : Holdings) (b : Beliefs) (l : Listed) (q : List ℕ) (due : Offer)
    → due ≡ put_all (λ name number. told_of v t s h.entries b name) finmap.empty (finmap.entries l.names)
    → finmap.get due q ≡ option_or (option_and_then (λ number. told_of v t s h.entries b q) (finmap.get l.names q)) None
due_at v t s h b l q due is =
    ap (λ (o : Offer). finmap.get o q) is ∙ get-put_all (λ name number. told_of v t s h.entries b name) finmap.empty l.names q
    ∙ ap (option_or (option_and_then (λ number. told_of v t s h.entries b q) (finmap.get l.names q))) (finmap.get-empty text_cmp q)

-- rule: whole-response
-- where a list suffices, that is the offer of a response that isn't the whole
pub partial_offer_made : (v : VariantName) (t : TypeName) (s : Selection) (h : Holdings) (b : Beliefs) (l : Listed) (mark : ℕ) (due said : Offer) → is_whole v t ≡ false → IsNumbered h → Fits v t s h b l → mark ≡ l.mark
    → due ≡ put_all (λ name number. told_of v t s h.entries b name) finmap.empty (finmap.entries l.names)
    → ((q : List ℕ) → finmap.get said q ≡ (if is_since h mark q then option_or (told_of v t s h.entries b q) (finmap.get due q) else finmap.get due q)) → said ≡ offer v t s h.entries b
partial_offer_made v t s h b l mark due said partly numbered fits from is made =
    same_names _ _ (λ q. made q
    ∙ (λ i. if is_since h (from i) q then option_or (told_of v t s h.entries b q) (due_at v t s h b l q due is i) else due_at v t s h b l q due is i)
    ∙ told_at (told_of v t s h.entries b q) (finmap.get l.names q) (is_since h l.mark q)
    (λ out unchanged. cond-false (is_owed v t s h.entries b q) (owed_of s h.entries b q) None (unowed_else v t s h b l q numbered fits out unchanged))
    ∙ sym (offer_says_it v t s h.entries b q ∙ ap (λ w. if w then option_map Stated (present s h.entries q) else told_of v t s h.entries b q) partly))
