-- That an incremental offer says something just where something is owed.
use Rattle.std.proofs.Common.{◌≡◌, ℕ, List, [], ◌∷◌, Bool, true, false, cond, ◌&&◌, ◌||◌, not, Option, Some, None, refl, sym, ap, ◌∙◌}
use Rattle.std.specs.Prelude.{is_some, if◌then◌else◌}
use Rattle.std.specs.List.{list_any}
use Rattle.std.specs.Option.{option_map_or}
use Rattle.std.specs.FinMap as finmap
use Rattle.std.proofs.lemmas.Map.Text.{is_eq-slice_cmp}
use Rattle.std.proofs.lemmas.Bool.{cond-false}
use Rattle.xds_resource.specs.declared.types.TypeName.{TypeName}
use Rattle.xds_resource.specs.Writes.{text_cmp}
use Rattle.xds_resource.proofs.NameMaps.{bytes_eq_same, same_names}
use Rattle.xds_interest.specs.Interests.{Selection}
use Rattle.xds_catalogue.specs.Holdings.{Entries}
use Rattle.xds_ledger.specs.declared.variant.VariantName.{VariantName}
use Rattle.xds_ledger.specs.declared.variant.VariantName.TheVariants.{StateOfTheWorld, Delta}
use Rattle.xds_ledger.specs.declared.entry.Due.{Due}
use Rattle.xds_ledger.specs.Variants.{is_delta, is_told, is_whole}
use Rattle.xds_ledger.specs.Owed.{Beliefs, is_owed, owed_of, names_known, something_owed}
use Rattle.xds_ledger.specs.Offers.{Offer, offer}
use Rattle.xds_ledger.proofs.ByName.{nothing_owed, offer_says_it}

-- ---- one name

some_said : (told : Due → Bool) (o : Option Due) → option_map_or told o false ≡ true → is_some (if option_map_or told o false then o else None) ≡ true
some_said told None owed = absurd cc
some_said told (Some due) owed = ap (λ b. is_some (if b then Some due else None)) owed

-- rule: owed
-- an incremental offer speaks of what is owed
pub owed_is_said : (v : VariantName) (t : TypeName) (s : Selection) (m : Entries) (b : Beliefs) (q : List ℕ) → is_delta v ≡ true → is_owed v t s m b q ≡ true → is_some (finmap.get (offer v t s m b) q) ≡ true
owed_is_said StateOfTheWorld t s m b q delta owed = absurd cc
owed_is_said Delta t s m b q delta owed = ap is_some (offer_says_it Delta t s m b q) ∙ some_said (is_told Delta t) (owed_of s m b q) owed

-- ---- all names

found_at : (p : List ℕ → Bool) (n : List ℕ) (ns : List (List ℕ)) (here : Bool) → p n ≡ here → (list_any p ns ≡ true → (q : List ℕ) × (p q ≡ true)) → (here || list_any p ns) ≡ true → (q : List ℕ) × (p q ≡ true)
found_at p n ns true passes later some = (n, passes)
found_at p n ns false fails later some = later some

one_found : (p : List ℕ → Bool) (ns : List (List ℕ)) → list_any p ns ≡ true → (q : List ℕ) × (p q ≡ true)
one_found p [] some = absurd cc
one_found p (n ∷ ns) some = found_at p n ns (p n) refl (one_found p ns) some

some_entry : (o : Offer) (q : List ℕ) (es : List (List ℕ × Due)) → finmap.entries o ≡ es → is_some (finmap.get o q) ≡ true → list_any (λ e. true) es ≡ true
some_entry o q [] none there = let never : false ≡ true = sym (ap (λ x. is_some x) (finmap.get-entries o q ∙ ap (finmap.find text_cmp q) none)) ∙ there in absurd cc
some_entry o q (e ∷ es) is there = refl

nothing_said : (t : TypeName) (s : Selection) (m : Entries) (b : Beliefs) → something_owed Delta t s m b ≡ false → offer Delta t s m b ≡ finmap.empty
nothing_said t s m b none =
    same_names _ _ (λ q. offer_says_it Delta t s m b q ∙ cond-false (is_owed Delta t s m b q) (owed_of s m b q) None (nothing_owed Delta t s m b q none) ∙ sym (finmap.get-empty text_cmp q))

no_entry : (o : Offer) (es : List (List ℕ × Due)) → finmap.entries o ≡ es → o ≡ finmap.empty → list_any (λ e. true) es ≡ false
no_entry o [] all none = refl
no_entry o (e ∷ es) all none =
    let here : finmap.get o e.0 ≡ Some e.1 =
    finmap.get-entries o e.0 ∙ ap (finmap.find text_cmp e.0) all ∙ ap (λ b. cond b (Some e.1) (finmap.find text_cmp e.0 es)) (is_eq-slice_cmp e.0 e.0 ∙ bytes_eq_same e.0) in
    let gone : finmap.get o e.0 ≡ None = ap (λ (x : Offer). finmap.get x e.0) none ∙ finmap.get-empty text_cmp e.0 in
    let never : None ≡ Some e.1 = sym gone ∙ here in absurd cc

no_less : (b : Bool) → b ≡ (b || false)
no_less true = refl
no_less false = refl

said_at : (t : TypeName) (s : Selection) (m : Entries) (b : Beliefs) (some : Bool) → something_owed Delta t s m b ≡ some → list_any (λ e. true) (finmap.entries (offer Delta t s m b)) ≡ some
said_at t s m b true owed =
    let one = one_found (is_owed Delta t s m b) (names_known m b) owed in
    some_entry (offer Delta t s m b) one.0 (finmap.entries (offer Delta t s m b)) refl (owed_is_said Delta t s m b one.0 refl one.1)
said_at t s m b false none = no_entry (offer Delta t s m b) (finmap.entries (offer Delta t s m b)) refl (nothing_said t s m b none)

-- rule: owed
-- an incremental offer says something where a response is due
pub says_what_is_due : (v : VariantName) (t : TypeName) (s : Selection) (m : Entries) (b : Beliefs) (o : Offer) (accepted : Bool) → is_delta v ≡ true → o ≡ offer v t s m b
    → list_any (λ e. true) (finmap.entries o) ≡ (something_owed v t s m b || (is_whole v t && not accepted))
says_what_is_due StateOfTheWorld t s m b o accepted delta is = absurd cc
says_what_is_due Delta t s m b o accepted delta is =
    ap (λ (x : Offer). list_any (λ e. true) (finmap.entries x)) is ∙ said_at t s m b (something_owed Delta t s m b) refl ∙ no_less (something_owed Delta t s m b)
