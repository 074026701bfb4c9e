-- A sorted map of texts as the finite map that contracts see, and as the members of an object.
use Rattle.std.proofs.Common.{◌≡◌, ℕ, List, [], ◌∷◌, ◌++◌, length, cond, Option, Some, None, String, Global, Ordering, Less, Equal, Greater, is_eq, string_bytes, string_cmp, nat_cmp, refl, sym, ap, ◌∙◌, subst}
use Rattle.std.specs.Prelude.{T}
use Rattle.std.specs.Option.{option_map}
use Rattle.std.specs.Ordering.{match_ordering, ordering_reverse}
use Rattle.std.specs.Cmp.Lexicographic.{slice_cmp}
use Rattle.std.specs.List.{AllZip, AllByRecursion}
use Rattle.std.specs.List.Sorted.{IsStrictlySortedBy}
use Rattle.std.specs.Map.{keys_of, lookup}
use Rattle.std.specs.BTreeMap.{insert_entry, is_at}
use Rattle.std.specs.FinMap as finmap
use Rattle.std.specs.FinMap.Entries.{by_order, is_sorted-put}
use Rattle.std.proofs.lemmas.Cmp.{nat_list_cmp_total}
use Rattle.std.proofs.lemmas.List.{length-map, nil_from_length}
use Rattle.serde_json.specs.Data.{Data, null, boolean, number, string, array, object, Members, member, put}
use Rattle.serde_json.specs.Find.{as_str}
use Rattle.serde_json.specs.View.{view, members_view}
use Rattle.serde_json.proofs.Views.{Entry}
use Rattle.xds_resource.specs.Writes.{text_cmp}
use Rattle.xds_json.specs.Versions.{VersionMap, pairs_of, text_members, versions_data, pairs_data}

abbrev pub Pair : Type 0
Pair = String Global × String Global

abbrev pub Texts : Type 0
Texts = List ℕ × List ℕ

-- ---- one more entry

pairs_of-match_ordering : (o : Ordering) (a b c : List Pair) → pairs_of (match_ordering o a b c) ≡ by_order o (pairs_of a) (pairs_of b) (pairs_of c)
pairs_of-match_ordering Less a b c = refl
pairs_of-match_ordering Equal a b c = refl
pairs_of-match_ordering Greater a b c = refl

pub pairs_of-insert_entry : (es : List Pair) (k v : String Global) → pairs_of (insert_entry string_cmp es k v) ≡ finmap.put text_cmp (string_bytes k) (string_bytes v) (pairs_of es)
pairs_of-insert_entry [] k v = refl
pairs_of-insert_entry (e ∷ es) k v =
    pairs_of-match_ordering (string_cmp k e.0) _ _ _
    ∙ ap (λ rest. by_order (string_cmp k e.0) ((string_bytes k, string_bytes v) ∷ pairs_of (e ∷ es)) ((string_bytes e.0, string_bytes v) ∷ pairs_of es) ((string_bytes e.0, string_bytes e.1) ∷ rest)) (pairs_of-insert_entry es k v)

abbrev pub Rises : List Texts → Type 0
Rises ps = T (finmap.is_sorted text_cmp ps)

pub Rises-insert_entry : (es fs : List Pair) (k v : String Global) → fs ≡ insert_entry string_cmp es k v → Rises (pairs_of es) → Rises (pairs_of fs)
Rises-insert_entry es fs k v is h = subst Rises (sym (ap pairs_of is ∙ pairs_of-insert_entry es k v)) (is_sorted-put text_cmp nat_list_cmp_total (string_bytes k) (string_bytes v) (pairs_of es) h)

pub from_sorted-insert_entry : (es fs : List Pair) (k v : String Global) (name version : List ℕ) → fs ≡ insert_entry string_cmp es k v → string_bytes k ≡ name → string_bytes v ≡ version → Rises (pairs_of es)
    → finmap.from_sorted {R = text_cmp} (pairs_of fs) ≡ finmap.insert (finmap.from_sorted (pairs_of es)) name version
from_sorted-insert_entry es fs k v name version is named told h =
    finmap.same_entries_map _ _ (
    finmap.entries-from_sorted text_cmp (pairs_of fs) (Rises-insert_entry es fs k v is h)
    ∙ ap pairs_of is ∙ pairs_of-insert_entry es k v
    ∙ (λ i. finmap.put text_cmp (named i) (told i) (sym (finmap.entries-from_sorted text_cmp (pairs_of es) h) i))
    ∙ sym (finmap.entries-insert nat_list_cmp_total (finmap.from_sorted (pairs_of es)) name version))

pub entries-empty : finmap.entries {X = List ℕ} {R = text_cmp} finmap.empty ≡ []
entries-empty = nil_from_length _ (sym (finmap.len-entries finmap.empty) ∙ finmap.len-empty text_cmp (List ℕ))

pub from_sorted-empty : (es : List Pair) → es ≡ [] → finmap.from_sorted {R = text_cmp} (pairs_of es) ≡ finmap.empty
from_sorted-empty es e = finmap.same_entries_map _ _ (ap (λ fs. finmap.entries (finmap.from_sorted {R = text_cmp} (pairs_of fs))) e ∙ finmap.entries-from_sorted text_cmp [] tt ∙ sym entries-empty)

pub entries_are : (es : List Pair) (m : VersionMap) → finmap.from_sorted (pairs_of es) ≡ m → Rises (pairs_of es) → finmap.entries m ≡ pairs_of es
entries_are es m is h = sym (ap finmap.entries is) ∙ finmap.entries-from_sorted text_cmp (pairs_of es) h

pairs_data-some : (ps : List Texts) → (length ps ≡ 0 → ⊥) → pairs_data ps ≡ Some (object (text_members ps))
pairs_data-some [] some = absurd (some refl)
pairs_data-some (p ∷ ps) some = refl

pub versions_data-some : (es : List Pair) (m : VersionMap) → finmap.from_sorted (pairs_of es) ≡ m → Rises (pairs_of es) → (length es ≡ 0 → ⊥) → versions_data m ≡ Some (object (text_members (pairs_of es)))
versions_data-some es m is h some = ap pairs_data (entries_are es m is h) ∙ pairs_data-some (pairs_of es) (λ none. some (sym (length-map es _) ∙ none))

pub versions_data-none : (es : List Pair) (m : VersionMap) → finmap.from_sorted (pairs_of es) ≡ m → Rises (pairs_of es) → length es ≡ 0 → versions_data m ≡ None
versions_data-none es m is h none = ap pairs_data (entries_are es m is h ∙ ap pairs_of (nil_from_length es none))

-- ---- look-ups and copies

find_step : (o : Ordering) (s : String Global) (rest : Option (String Global)) (found : Option (List ℕ)) → option_map string_bytes rest ≡ found → option_map string_bytes (cond (is_eq o) (Some s) rest) ≡ cond (is_eq o) (Some (string_bytes s)) found
find_step Less s rest found e = e
find_step Equal s rest found e = refl
find_step Greater s rest found e = e

pub find-pairs_of : (es : List Pair) (q : List ℕ) → option_map string_bytes (lookup (is_at (λ k. slice_cmp nat_cmp q (string_bytes k))) es) ≡ finmap.find text_cmp q (pairs_of es)
find-pairs_of [] q = refl
find-pairs_of (e ∷ es) q = find_step (slice_cmp nat_cmp q (string_bytes e.0)) e.1 _ _ (find-pairs_of es q)

pub get_is : (es : List Pair) (m : VersionMap) (q : List ℕ) → finmap.from_sorted (pairs_of es) ≡ m → Rises (pairs_of es) → option_map string_bytes (lookup (is_at (λ k. slice_cmp nat_cmp q (string_bytes k))) es) ≡ finmap.get m q
get_is es m q is h = find-pairs_of es q ∙ sym (finmap.get-from_sorted text_cmp (pairs_of es) q h) ∙ ap (λ n. finmap.get n q) is

pub pairs_of-clones : (es fs : List Pair) → AllZip (λ p q. (string_bytes q.0 ≡ string_bytes p.0) × (string_bytes q.1 ≡ string_bytes p.1)) es fs → pairs_of fs ≡ pairs_of es
pairs_of-clones [] [] h = refl
pairs_of-clones [] (f ∷ fs) h = absurd h
pairs_of-clones (e ∷ es) [] h = absurd h
pairs_of-clones (e ∷ es) (f ∷ fs) h = (λ i. (h.0.0 i, h.0.1 i) ∷ pairs_of-clones es fs h.1 i)

-- ---- members

text_members-by_order : (o : Ordering) (a b c : List Texts) → text_members (by_order o a b c) ≡ match_ordering o (text_members a) (text_members b) (text_members c)
text_members-by_order Less a b c = refl
text_members-by_order Equal a b c = refl
text_members-by_order Greater a b c = refl

pub text_members-put : (k v : List ℕ) (ps : List Texts) → text_members (finmap.put text_cmp k v ps) ≡ put k (string v) (text_members ps)
text_members-put k v [] = refl
text_members-put k v (p ∷ ps) = text_members-by_order (text_cmp k p.0) _ _ _ ∙ ap (λ rest. match_ordering (text_cmp k p.0) (member k (string v) (text_members (p ∷ ps))) (member p.0 (string v) (text_members ps)) (member p.0 (string p.1) rest)) (text_members-put k v ps)

below_middle : (first : Pair) (es : List Pair) (e : Pair) (more : List Pair) → AllByRecursion (λ y. string_cmp first.0 y ≡ Less) (keys_of (es ++ e ∷ more)) → string_cmp first.0 e.0 ≡ Less
below_middle first [] e more h = h.0
below_middle first (x ∷ es) e more h = below_middle first es e more h.1

-- a name above those before it goes last
pub text_put_last : (done : List Pair) (e : Pair) (more : List Pair) → IsStrictlySortedBy string_cmp (keys_of (done ++ e ∷ more))
    → put (string_bytes e.0) (string (string_bytes e.1)) (text_members (pairs_of done)) ≡ text_members (pairs_of (done ++ e ∷ []))
unfolding IsStrictlySortedBy
text_put_last [] e more h = refl
text_put_last (first ∷ done) e more h =
    let above : slice_cmp nat_cmp (string_bytes e.0) (string_bytes first.0) ≡ Greater =
    nat_list_cmp_total.antisymm (string_bytes e.0) (string_bytes first.0) ∙ ap ordering_reverse (below_middle first done e more h.0) in
    rw above (ap (member (string_bytes first.0) (string (string_bytes first.1))) (text_put_last done e more h.1))

-- where one member is no text, the members are no texts
pub no_text_members : (done : List Entry) (e : Entry) (more : List Entry) → as_str (view e.1) ≡ None → (ps : List Texts) → members_view (done ++ e ∷ more) ≡ text_members ps → ⊥
no_text_members [] e more other [] h = cc
no_text_members [] e more other (p ∷ ps) h = cc
no_text_members (d ∷ done) e more other [] h = cc
no_text_members (d ∷ done) e more other (p ∷ ps) h = no_text_members done e more other ps cc

pub text_members-injective : (ps qs : List Texts) → text_members ps ≡ text_members qs → ps ≡ qs
text_members-injective [] [] e = refl
text_members-injective [] (q ∷ qs) e = cc
text_members-injective (p ∷ ps) [] e = cc
text_members-injective (p ∷ ps) (q ∷ qs) e =
    let rest = text_members-injective ps qs cc in
    let name : p.0 ≡ q.0 = cc in
    let told : p.1 ≡ q.1 = cc in
    (λ i. (name i, told i) ∷ rest i)

as_str_is : (d : Data) (text : List ℕ) → Some text ≡ as_str d → d ≡ string text
as_str_is null text e = cc
as_str_is (boolean b) text e = cc
as_str_is (number n) text e = cc
as_str_is (string s) text e = cc
as_str_is (array ds) text e = cc
as_str_is (object ms) text e = cc

-- one more member that is a text
pub text_members-insert : (ms after : Members) (k text : List ℕ) (d : Data) (m n : VersionMap) → put k d ms ≡ after → ms ≡ text_members (finmap.entries m) → Some text ≡ as_str d → n ≡ finmap.insert m k text → after ≡ text_members (finmap.entries n)
text_members-insert ms after k text d m n last so_far is stored =
    sym last ∙ (λ i. put k (as_str_is d text is i) (so_far i)) ∙ sym (text_members-put k text (finmap.entries m)) ∙ ap text_members (sym (finmap.entries-insert nat_list_cmp_total m k text)) ∙ ap (λ x. text_members (finmap.entries x)) (sym stored)
