-- The texts of a list in ascending order, each once.
use Rattle.std.proofs.Common.{◌≡◌, ℕ, List, [], ◌∷◌, map, Bool, true, false, cond, not, ◌||◌, Bor, refl, sym, ap, subst, ◌∙◌, IsPermutation, IsSorted, String}
use Rattle.std.specs.declared.cmp.Ordering.{Ordering}
use Rattle.std.specs.declared.cmp.Ordering.TheVariants.{Less}
use Rattle.std.specs.List.{list_any, dedup, dedup_from, AllByRecursion}
use Rattle.std.specs.List.Retain.{IsFiltered, DiffersFromLast}
use Rattle.std.specs.List.Sorted.{IsStrictlySortedBy}
use Rattle.std.specs.Str.{bytes_eq}
use Rattle.std.specs.String.{string_bytes}
use Rattle.std.specs.FinSet as set
use Rattle.std.proofs.lemmas.Cmp.{on_total, nat_list_cmp_total}
use Rattle.std.proofs.lemmas.List.Filters.{dedup_is}
use Rattle.std.proofs.lemmas.List.Kept.{IsStrictlySortedBy-dedup}
use Rattle.std.proofs.lemmas.List.Sorted.{list_any-IsPermutation}
use Rattle.std.proofs.lemmas.Map.Text.{is_eq-slice_cmp}
use Rattle.std.proofs.lemmas.Bool.{or_parts}
use Rattle.std.proofs.Math.Bool.{or_self_left}
use Rattle.xds_resource.specs.declared.types.TypeName.{TypeName}
use Rattle.xds_resource.specs.Writes.{text_cmp}
use Rattle.xds_resource.proofs.NameMaps.{bytes_eq_tells, texts_of}
use Rattle.xds_interest.specs.Interests.{is_star, has_name, names_among}
use Rattle.xds_interest.specs.SotW.{sotw_interest}
use Rattle.xds_interest.proofs.Texts.{from_list_same}

-- whether two references show the same
abbrev pub same_text : Bor (List ℕ) → Bor (List ℕ) → Bool
same_text x y = bytes_eq x.now y.now

-- their order
abbrev pub text_order : Bor (List ℕ) → Bor (List ℕ) → Ordering
text_order x y = text_cmp x.now y.now

has_seen : (xs : List (Bor (List ℕ))) (q : List ℕ) → has_name (texts_of xs) q ≡ list_any (λ s. bytes_eq q s.now) xs
has_seen [] q = refl
has_seen (x ∷ xs) q = ap (λ b. bytes_eq q x.now || b) (has_seen xs q)

has_shuffled : (xs ys : List (Bor (List ℕ))) (q : List ℕ) → IsPermutation xs ys → has_name (texts_of ys) q ≡ has_name (texts_of xs) q
has_shuffled xs ys q shuffled = has_seen ys q ∙ sym (list_any-IsPermutation (λ s. bytes_eq q s.now) xs ys shuffled) ∙ sym (has_seen xs q)

-- the next text is the last one again, or it isn't
once_more : (k x : Bor (List ℕ)) (xs : List (Bor (List ℕ))) (q : List ℕ) (b : Bool) → same_text x k ≡ b → ((k : Bor (List ℕ)) → has_name (texts_of (dedup_from same_text k xs)) q ≡ (bytes_eq q k.now || has_name (texts_of xs) q))
    → has_name (texts_of (cond b (dedup_from same_text k xs) (k ∷ dedup_from same_text x xs))) q ≡ (bytes_eq q k.now || (bytes_eq q x.now || has_name (texts_of xs) q))
once_more k x xs q true same rest =
    rest k ∙ sym (or_self_left (bytes_eq q k.now) (has_name (texts_of xs) q)) ∙ ap (λ y. bytes_eq q k.now || (bytes_eq q y || has_name (texts_of xs) q)) (sym (bytes_eq_tells x.now k.now same))
once_more k x xs q false other rest = ap (λ b. bytes_eq q k.now || b) (rest x)

has_once_from : (xs : List (Bor (List ℕ))) (q : List ℕ) (k : Bor (List ℕ)) → has_name (texts_of (dedup_from same_text k xs)) q ≡ (bytes_eq q k.now || has_name (texts_of xs) q)
has_once_from [] q k = refl
has_once_from (x ∷ xs) q k = once_more k x xs q (same_text x k) refl (has_once_from xs q)

has_once : (xs : List (Bor (List ℕ))) (q : List ℕ) → has_name (texts_of (dedup same_text xs)) q ≡ has_name (texts_of xs) q
has_once [] q = refl
has_once (x ∷ xs) q = has_once_from xs q x

-- sorted, and each once, the texts are the same
pub seen_in_order : {Y : Type 0} (texts : List (String Y)) (all sorted once : List (Bor (List ℕ))) → texts_of all ≡ map string_bytes texts → IsPermutation all sorted → IsFiltered (DiffersFromLast same_text) [] sorted once
    → set.from_list {R = text_cmp} (texts_of once) ≡ set.from_list (map string_bytes texts)
seen_in_order texts all sorted once is shuffled alone =
    from_list_same (texts_of once) (map string_bytes texts)
    (λ q. ap (λ l. has_name (texts_of l) q) (dedup_is same_text sorted once alone) ∙ has_once sorted q ∙ has_shuffled all sorted q shuffled ∙ ap (λ l. has_name l q) is)

below_seen : (k : Bor (List ℕ)) (xs : List (Bor (List ℕ))) → AllByRecursion (λ y. text_order k y ≡ Less) xs → AllByRecursion (λ y. text_cmp k.now y ≡ Less) (texts_of xs)
below_seen k [] h = tt
below_seen k (x ∷ xs) h = (h.0, below_seen k xs h.1)

seen_ascend : (xs : List (Bor (List ℕ))) → IsStrictlySortedBy text_order xs → IsStrictlySortedBy text_cmp (texts_of xs)
unfolding IsStrictlySortedBy
seen_ascend [] h = tt
seen_ascend (x ∷ xs) h = (below_seen x xs h.0, seen_ascend xs h.1)

-- and they ascend
pub ascend_in_order : (sorted once : List (Bor (List ℕ))) → IsSorted text_order sorted → IsFiltered (DiffersFromLast same_text) [] sorted once → IsStrictlySortedBy text_cmp (texts_of once)
ascend_in_order sorted once up alone =
    subst (λ l. IsStrictlySortedBy text_cmp (texts_of l)) (sym (dedup_is same_text sorted once alone))
    (seen_ascend (dedup same_text sorted) (IsStrictlySortedBy-dedup (on_total (λ (s : Bor (List ℕ)). s.now) nat_list_cmp_total) (λ x y. sym (is_eq-slice_cmp x.now y.now)) sorted up))

-- ---- a list without the star

kept_plain : (t : TypeName) (x : List ℕ) (rest names : List (List ℕ)) (b : Bool) → is_star t x ≡ b → b ≡ false → rest ≡ names → cond (not (is_star t x)) (x ∷ rest) rest ≡ x ∷ names
kept_plain t x rest names b is plain same = ap (λ c. cond (not c) (x ∷ rest) rest) (is ∙ plain) ∙ ap (λ l. x ∷ l) same

pub all_names : (t : TypeName) (texts : List (List ℕ)) → list_any (is_star t) texts ≡ false → names_among t texts ≡ texts
all_names t [] plain = refl
all_names t (x ∷ xs) plain =
    let each = or_parts (is_star t x) (list_any (is_star t) xs) plain in
    kept_plain t x (names_among t xs) xs (is_star t x) refl each.0 (all_names t xs each.1)

-- where the first list isn't the star, its texts are the explicit names
pub named_of_first : (t : TypeName) (texts : List (List ℕ)) → (sotw_interest t (texts ∷ [])).star ≡ false → (sotw_interest t (texts ∷ [])).names ≡ set.from_list texts
named_of_first t [] plain = refl
named_of_first t (x ∷ xs) plain = ap (λ l. set.from_list l) (all_names t (x ∷ xs) plain)
