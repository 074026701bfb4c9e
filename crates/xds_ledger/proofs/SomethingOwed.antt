-- That the listed names, and those that changed since the mark, are all of which something may be owed.
use Rattle.std.proofs.Common.{◌≡◌, ℕ, List, [], ◌∷◌, map, Bool, true, false, ◌||◌, Option, Some, None, refl, sym, ap, ◌∙◌}
use Rattle.std.specs.Prelude.{is_some}
use Rattle.std.specs.List.{list_any}
use Rattle.std.specs.FinMap as finmap
use Rattle.xds_resource.specs.declared.types.TypeName.{TypeName}
use Rattle.xds_resource.specs.Writes.{text_cmp}
use Rattle.xds_resource.proofs.NameMaps.{has_text-keys}
use Rattle.xds_interest.specs.Interests.{Selection}
use Rattle.xds_catalogue.specs.Holdings.{Holdings, Entries, IsNumbered}
use Rattle.xds_ledger.specs.declared.variant.VariantName.{VariantName}
use Rattle.xds_ledger.specs.Owed.{Beliefs, is_owed, something_owed, names_known}
use Rattle.xds_ledger.specs.Listed.{Listed, is_listed, is_since, Fits}
use Rattle.xds_ledger.proofs.Choosing.{none_passes, listed_fails}
use Rattle.xds_ledger.proofs.ByName.{nothing_owed}
use Rattle.xds_ledger.proofs.Fitting.{unowed_else}

pub is_some_of : {X : Type 0} (o : Option X) → is_some o ≡ true → (x : X) × (o ≡ Some x)
is_some_of None e = absurd cc
is_some_of (Some x) e = (x, refl)

-- ---- a test of the names of a map

pub by_names : {X : Type 0} (p : List ℕ → Bool) (es : List (List ℕ × X)) → list_any (λ e. p e.0) es ≡ list_any p (map (λ e. e.0) es)
by_names p [] = refl
by_names p (e ∷ es) = ap (λ b. p e.0 || b) (by_names p es)

-- none of its names passes a test that none of its entries passes
pub named_fails : {X : Type 0} (p : List ℕ → Bool) (n : finmap.FinMap text_cmp X) (q : List ℕ) → list_any (λ e. p e.0) (finmap.entries n) ≡ false → is_some (finmap.get n q) ≡ true → p q ≡ false
named_fails p n q none there = listed_fails p (finmap.keys n) q (sym (by_names p (finmap.entries n)) ∙ none) (has_text-keys n q ∙ there)

first_passes : {X : Type 0} (p : List ℕ → Bool) (e : List ℕ × X) (es : List (List ℕ × X)) (b : Bool) → p e.0 ≡ b → (list_any (λ e. p e.0) es ≡ true → (name : List ℕ) × (p name ≡ true)) → (b || list_any (λ e. p e.0) es) ≡ true
    → (name : List ℕ) × (p name ≡ true)
first_passes p e es true here later some = (e.0, here)
first_passes p e es false here later some = later some

pub one_passes : {X : Type 0} (p : List ℕ → Bool) (es : List (List ℕ × X)) → list_any (λ e. p e.0) es ≡ true → (name : List ℕ) × (p name ≡ true)
one_passes p [] some = absurd cc
one_passes p (e ∷ es) some = first_passes p e es (p e.0) refl (one_passes p es) some

-- ---- what is owed

some_owed : (v : VariantName) (t : TypeName) (s : Selection) (m : Entries) (b : Beliefs) (name : List ℕ) (o : Bool) → something_owed v t s m b ≡ o → is_owed v t s m b name ≡ true → true ≡ o
some_owed v t s m b name true is owed = refl
some_owed v t s m b name false is owed = let never : false ≡ true = sym (nothing_owed v t s m b name is) ∙ owed in absurd cc

-- rule: owed
-- where one name is owed, something is
pub owed_found : (v : VariantName) (t : TypeName) (s : Selection) (m : Entries) (b : Beliefs) (name : List ℕ) → is_owed v t s m b name ≡ true → true ≡ something_owed v t s m b
owed_found v t s m b name = some_owed v t s m b name (something_owed v t s m b) refl

-- rule: owed
-- where a listed name is
pub owed_listed : (v : VariantName) (t : TypeName) (s : Selection) (m : Entries) (b : Beliefs) (l : Listed) → list_any (λ e. is_owed v t s m b e.0) (finmap.entries l.names) ≡ true → true ≡ something_owed v t s m b
owed_listed v t s m b l some = let one = one_passes (is_owed v t s m b) (finmap.entries l.names) some in owed_found v t s m b one.0 one.1

none_at : (v : VariantName) (t : TypeName) (s : Selection) (h : Holdings) (b : Beliefs) (l : Listed) (name : List ℕ) (listed since : Bool) → is_listed l name ≡ listed → is_since h l.mark name ≡ since → IsNumbered h → Fits v t s h b l
    → list_any (λ e. is_owed v t s h.entries b e.0) (finmap.entries l.names) ≡ false → ((q : List ℕ) → is_since h l.mark q ≡ true → is_owed v t s h.entries b q ≡ false) → is_owed v t s h.entries b name ≡ false
none_at v t s h b l name true since there is numbered fits none unchanged = named_fails (is_owed v t s h.entries b) l.names name none there
none_at v t s h b l name false true out is numbered fits none unchanged = unchanged name is
none_at v t s h b l name false false out is numbered fits none unchanged = unowed_else v t s h b l name numbered fits out is

-- rule: owed
-- where none is, those that changed since the mark decide
pub owed_else : (v : VariantName) (t : TypeName) (s : Selection) (h : Holdings) (b : Beliefs) (l : Listed) (result : Bool) → Fits v t s h b l → list_any (λ e. is_owed v t s h.entries b e.0) (finmap.entries l.names) ≡ false
    → (result ≡ true → (name : List ℕ) × (is_owed v t s h.entries b name ≡ true)) → (result ≡ false → (q : List ℕ) → is_since h l.mark q ≡ true → is_owed v t s h.entries b q ≡ false) → (result ≡ false → IsNumbered h)
    → result ≡ something_owed v t s h.entries b
owed_else v t s h b l true fits none found unchanged numbered = let one = found refl in owed_found v t s h.entries b one.0 one.1
owed_else v t s h b l false fits none found unchanged numbered =
    sym (none_passes (is_owed v t s h.entries b)
    (λ name. none_at v t s h b l name (is_listed l name) (is_since h l.mark name) refl refl (numbered refl) fits none (unchanged refl)) (names_known h.entries b))
