-- Lists of texts and the sets that they make.
use Rattle.std.proofs.Common.{◌≡◌, ℕ, List, [], ◌∷◌, map, Bool, true, false, cond, ◌||◌, refl, sym, ap, ◌∙◌, String, BTreeSet}
use Rattle.std.specs.List.{list_any, AllZip}
use Rattle.std.specs.Str.{bytes_eq}
use Rattle.std.specs.String.{string_bytes, string_cmp}
use Rattle.std.specs.Ordering.{nat_cmp, eq_by_cmp}
use Rattle.std.proofs.lemmas.Cmp.{nat_list_cmp_total}
use Rattle.std.specs.Cmp.Lexicographic.{slice_cmp}
use Rattle.std.specs.BTreeMap.{is_at}
use Rattle.std.specs.BTreeSet as sorted
use Rattle.std.specs.FinSet as set
use Rattle.std.proofs.lemmas.Map.Text.{is_eq-slice_cmp, btree_set_updates_text}
use Rattle.xds_resource.specs.Writes.{text_cmp}
use Rattle.xds_resource.proofs.NameMaps.{bytes_eq_swap}
use Rattle.xds_interest.specs.Interests.{has_name}

pub has_name-by_order : (xs : List (List ℕ)) (q : List ℕ) → list_any (eq_by_cmp text_cmp q) xs ≡ has_name xs q
has_name-by_order [] q = refl
has_name-by_order (x ∷ xs) q = (λ i. is_eq-slice_cmp q x i || has_name-by_order xs q i)

-- a set has the texts of the list that it is made of
pub contains-from_texts : (xs : List (List ℕ)) (q : List ℕ) → set.contains (set.from_list {R = text_cmp} xs) q ≡ has_name xs q
contains-from_texts xs q = set.contains-from_list nat_list_cmp_total xs q ∙ has_name-by_order xs q

-- lists that have the same texts make the same set
pub from_list_same : (xs ys : List (List ℕ)) → ((q : List ℕ) → has_name xs q ≡ has_name ys q) → set.from_list {R = text_cmp} xs ≡ set.from_list ys
from_list_same xs ys same =
    set.same_set nat_list_cmp_total (set.slice_cmp-IsAntisymmetric set.nat_cmp-IsAntisymmetric) _ _ (λ q. contains-from_texts xs q ∙ same q ∙ sym (contains-from_texts ys q))

-- the texts of a list of strings, as a sorted set looks them up
pub has_name-strings : {Y : Type 0} (ks : List (String Y)) (q : List ℕ) → has_name (map string_bytes ks) q ≡ list_any (is_at (λ k. slice_cmp nat_cmp q (string_bytes k))) ks
has_name-strings [] q = refl
has_name-strings (k ∷ ks) q = (λ i. sym (is_eq-slice_cmp q (string_bytes k)) i || has_name-strings ks q i)

cond_or : (b x : Bool) → cond b true x ≡ (b || x)
cond_or true x = refl
cond_or false x = refl

-- what a sorted set has after a string was put into it
pub has_name-inserted : {Y : Type 0} (s n : BTreeSet (String Y)) (k : String Y) (text : List ℕ) → string_bytes k ≡ text → sorted.Updates string_cmp s n k true → (q : List ℕ)
    → has_name (map string_bytes n.keys) q ≡ (bytes_eq q text || has_name (map string_bytes s.keys) q)
has_name-inserted s n k text is u q =
    has_name-strings n.keys q ∙ btree_set_updates_text (string_bytes k) s n true u q ∙ cond_or (bytes_eq (string_bytes k) q) (sorted.contains_text s q)
    ∙ (λ i. (bytes_eq_swap (string_bytes k) q ∙ ap (bytes_eq q) is) i || sym (has_name-strings s.keys q) i)

pub strings_of_clones : {Y : Type 0} (ks ls : List (String Y)) → AllZip (λ k l. string_bytes l ≡ string_bytes k) ks ls → map string_bytes ls ≡ map string_bytes ks
strings_of_clones [] [] h = refl
strings_of_clones [] (l ∷ ls) h = absurd h
strings_of_clones (k ∷ ks) [] h = absurd h
strings_of_clones (k ∷ ks) (l ∷ ls) h = (λ i. h.0 i ∷ strings_of_clones ks ls h.1 i)

pub or_twice : (b : Bool) → (b || (b || false)) ≡ (b || false)
or_twice true = refl
or_twice false = refl

-- a set has the texts that its items are
pub has_name-items : (s : set.FinSet text_cmp) (q : List ℕ) → has_name (set.items s) q ≡ set.contains s q
has_name-items s q = sym (has_name-by_order (set.items s) q) ∙ sym (set.contains-items s q)

-- sets of the same texts are equal
pub same_texts : (s n : set.FinSet text_cmp) → ((q : List ℕ) → set.contains s q ≡ set.contains n q) → s ≡ n
same_texts s n same = set.same_set nat_list_cmp_total (set.slice_cmp-IsAntisymmetric set.nat_cmp-IsAntisymmetric) s n same
