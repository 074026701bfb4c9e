-- How deep an object of fields nests, and that it holds no float where its fields hold none.
use Rattle.std.proofs.Common.{◌≡◌, ℕ, zero, suc, ◌≤◌, ℤ, pos, negsuc, List, [], ◌∷◌, false, map, Option, Some, None, option_map, All, Ordering, Less, Equal, Greater, refl, arith}
use Rattle.std.proofs.lemmas.Bool.{or_parts, or_from}
use Rattle.std.specs.Prelude.{⊤}
use Rattle.std.specs.Ordering.{match_ordering}
use Rattle.serde_json.specs.Data.{Data, string, Members, no_members, member, put, depth, items_depth, members_depth}
use Rattle.serde_json.specs.View.{items_of}
use Rattle.serde_json.specs.Written.{has_float, items_have_float, members_have_float}
use Rattle.xds_json.specs.Parts.{Identity, Failure}
use Rattle.xds_json.specs.WrittenFields.{text_data, list_data, code_data, put_set, members_set, Fields, identity_fields, identity_object, failure_fields, failure_object}

-- ---- depth

members_depth-match_ordering : (o : Ordering) (a b c : Members) (n : ℕ) → members_depth a ≤ n → members_depth b ≤ n → members_depth c ≤ n → members_depth (match_ordering o a b c) ≤ n
members_depth-match_ordering Less a b c n p q r = p
members_depth-match_ordering Equal a b c n p q r = q
members_depth-match_ordering Greater a b c n p q r = r

pub members_depth-put : (k : List ℕ) (d : Data) (ms : Members) (n : ℕ) → depth d ≤ n → members_depth ms ≤ n → members_depth (put k d ms) ≤ n
members_depth-put k d no_members n p q = omega arith
members_depth-put k d (member l e ms) n p q =
    members_depth-match_ordering _ (member k d (member l e ms)) (member l d ms) (member l e (put k d ms)) n (omega arith) (omega arith) (omega (arith, members_depth-put k d ms n p (omega arith)))

abbrev pub IsWithin : ℕ → Option Data → Type 0
IsWithin n None = ⊤
IsWithin n (Some d) = depth d ≤ n

-- each value that is set nests at most this deep
abbrev pub AllWithin : ℕ → Fields → Type 0
AllWithin n [] = ⊤
AllWithin n (f ∷ fs) = IsWithin n f.1 × AllWithin n fs

members_depth-put_set : (k : List ℕ) (o : Option Data) (ms : Members) (n : ℕ) → IsWithin n o → members_depth ms ≤ n → members_depth (put_set k o ms) ≤ n
members_depth-put_set k None ms n p q = q
members_depth-put_set k (Some d) ms n p q = members_depth-put k d ms n p q

pub members_depth-members_set : (fs : Fields) (n : ℕ) → AllWithin n fs → members_depth (members_set fs) ≤ n
members_depth-members_set [] n h = omega arith
members_depth-members_set (f ∷ fs) n h = members_depth-put_set f.0 f.1 (members_set fs) n h.0 (members_depth-members_set fs n h.1)

pub IsWithin-text_data : (s : List ℕ) (n : ℕ) → IsWithin n (text_data s)
IsWithin-text_data [] n = tt
IsWithin-text_data (c ∷ cs) n = omega arith

pub IsWithin-list_data : (ds : List Data) (n : ℕ) → items_depth (items_of ds) ≤ n → IsWithin (suc n) (list_data ds)
IsWithin-list_data [] n h = tt
IsWithin-list_data (d ∷ ds) n h = omega arith

-- ---- floats

members_have_float-match_ordering : (o : Ordering) (a b c : Members) → members_have_float a ≡ false → members_have_float b ≡ false → members_have_float c ≡ false → members_have_float (match_ordering o a b c) ≡ false
members_have_float-match_ordering Less a b c p q r = p
members_have_float-match_ordering Equal a b c p q r = q
members_have_float-match_ordering Greater a b c p q r = r

pub members_have_float-put : (k : List ℕ) (d : Data) (ms : Members) → has_float d ≡ false → members_have_float ms ≡ false → members_have_float (put k d ms) ≡ false
members_have_float-put k d no_members p q = or_from _ _ p refl
members_have_float-put k d (member l e ms) p q =
    let parts = or_parts (has_float e) (members_have_float ms) q in
    members_have_float-match_ordering _ (member k d (member l e ms)) (member l d ms) (member l e (put k d ms)) (or_from _ _ p q) (or_from _ _ p parts.1) (or_from _ _ parts.0 (members_have_float-put k d ms p parts.1))

abbrev pub HasNoFloat : Option Data → Type 0
HasNoFloat None = ⊤
HasNoFloat (Some d) = has_float d ≡ false

abbrev pub AllHaveNoFloat : Fields → Type 0
AllHaveNoFloat [] = ⊤
AllHaveNoFloat (f ∷ fs) = HasNoFloat f.1 × AllHaveNoFloat fs

members_have_float-put_set : (k : List ℕ) (o : Option Data) (ms : Members) → HasNoFloat o → members_have_float ms ≡ false → members_have_float (put_set k o ms) ≡ false
members_have_float-put_set k None ms p q = q
members_have_float-put_set k (Some d) ms p q = members_have_float-put k d ms p q

pub members_have_float-members_set : (fs : Fields) → AllHaveNoFloat fs → members_have_float (members_set fs) ≡ false
members_have_float-members_set [] h = refl
members_have_float-members_set (f ∷ fs) h = members_have_float-put_set f.0 f.1 (members_set fs) h.0 (members_have_float-members_set fs h.1)

pub HasNoFloat-text_data : (s : List ℕ) → HasNoFloat (text_data s)
HasNoFloat-text_data [] = tt
HasNoFloat-text_data (c ∷ cs) = refl

pub HasNoFloat-list_data : (ds : List Data) → items_have_float (items_of ds) ≡ false → HasNoFloat (list_data ds)
HasNoFloat-list_data [] h = tt
HasNoFloat-list_data (d ∷ ds) h = h

-- ---- lists, item by item

pub all_later : (P : Data → Type 0) (d : Data) (ds : List Data) → All P (d ∷ ds) → All P ds
all_later P d ds h = λ k e below. h (suc k) e (omega arith)

pub items_depth-items_of : (ds : List Data) (n : ℕ) → All (λ d. depth d ≤ n) ds → items_depth (items_of ds) ≤ n
items_depth-items_of [] n h = omega arith
items_depth-items_of (d ∷ ds) n h = omega (arith, h 0 d (omega arith), items_depth-items_of ds n (all_later (λ e. depth e ≤ n) d ds h))

pub items_have_float-items_of : (ds : List Data) → All (λ d. has_float d ≡ false) ds → items_have_float (items_of ds) ≡ false
items_have_float-items_of [] h = refl
items_have_float-items_of (d ∷ ds) h = or_from _ _ (h 0 d (omega arith)) (items_have_float-items_of ds (all_later (λ e. has_float e ≡ false) d ds h))

-- ---- texts, codes and the parts of requests

pub items_depth-texts : (ss : List (List ℕ)) → items_depth (items_of (map string ss)) ≤ 0
items_depth-texts [] = omega arith
items_depth-texts (s ∷ ss) = omega (arith, items_depth-texts ss)

pub items_have_float-texts : (ss : List (List ℕ)) → items_have_float (items_of (map string ss)) ≡ false
items_have_float-texts [] = refl
items_have_float-texts (s ∷ ss) = items_have_float-texts ss

IsWithin-code_data : (z : ℤ) → IsWithin 0 (code_data z)
IsWithin-code_data (pos zero) = tt
IsWithin-code_data (pos (suc n)) = omega arith
IsWithin-code_data (negsuc n) = omega arith

HasNoFloat-code_data : (z : ℤ) → HasNoFloat (code_data z)
HasNoFloat-code_data (pos zero) = tt
HasNoFloat-code_data (pos (suc n)) = refl
HasNoFloat-code_data (negsuc n) = refl

pub IsWithin-identity : (m : Option Identity) → IsWithin 1 (option_map identity_object m)
IsWithin-identity None = tt
IsWithin-identity (Some a) =
    let within = members_depth-members_set (identity_fields a) 0 (IsWithin-text_data a.id 0, (IsWithin-text_data a.cluster 0, tt)) in
    omega arith

pub IsWithin-failure : (m : Option Failure) → IsWithin 1 (option_map failure_object m)
IsWithin-failure None = tt
IsWithin-failure (Some a) =
    let within = members_depth-members_set (failure_fields a) 0 (IsWithin-code_data a.code, (IsWithin-text_data a.message 0, tt)) in
    omega arith

pub HasNoFloat-identity : (m : Option Identity) → HasNoFloat (option_map identity_object m)
HasNoFloat-identity None = tt
HasNoFloat-identity (Some a) = members_have_float-members_set (identity_fields a) (HasNoFloat-text_data a.id, (HasNoFloat-text_data a.cluster, tt))

pub HasNoFloat-failure : (m : Option Failure) → HasNoFloat (option_map failure_object m)
HasNoFloat-failure None = tt
HasNoFloat-failure (Some a) = members_have_float-members_set (failure_fields a) (HasNoFloat-code_data a.code, (HasNoFloat-text_data a.message, tt))
