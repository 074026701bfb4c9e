-- A member that is put where it belongs.
use Rattle.std.proofs.Common.{◌≡◌, ◌<◌, ◌≤◌, ℕ, zero, suc, List, [], ◌∷◌, ◌++◌, length, get_or, take, drop, Ordering, Less, Equal, Greater, nat_cmp, refl, ap, ◌∙◌, arith}
use Rattle.std.proofs.lemmas.Cmp.{nat_list_cmp_total}
use Rattle.std.specs.List.{AllByRecursion}
use Rattle.std.specs.Ordering.{match_ordering, ordering_reverse}
use Rattle.std.specs.Cmp.Lexicographic.{slice_cmp}
use Rattle.json.specs.Json.{Json, Members, no_members, member}
use Rattle.json.specs.Tree.{depth, members_depth}
use Rattle.json.specs.Value.{value_view, members_view}
use Rattle.serde_json.specs.Data.{put}
use Rattle.xds_json.specs.Ordered.{ComesFirst, IsOrdered, AreInOrder, meaning, members_meaning}
use Rattle.xds_json.specs.Placed.{Entry, IsPlace, placed}
use Rattle.xds_json.proofs.Meanings.{turned}

-- ---- the order stays

ComesFirst-before : (k l : List ℕ) (ms : Members) → slice_cmp nat_cmp k l ≡ Less → ComesFirst l ms → ComesFirst k ms
ComesFirst-before k l no_members h f = tt
ComesFirst-before k l (member m j ms) h f = (nat_list_cmp_total.trans k l m h f.0, ComesFirst-before k l ms h f.1)

pub back : (k l : List ℕ) → slice_cmp nat_cmp k l ≡ Greater → slice_cmp nat_cmp l k ≡ Less
back k l h = nat_list_cmp_total.antisymm l k ∙ ap ordering_reverse h

ComesFirst-at : (l k : List ℕ) (j : Json) (m : List ℕ) (i : Json) (ms : Members) (o : Ordering) → slice_cmp nat_cmp l k ≡ Less → ComesFirst l (member m i ms) → ComesFirst l (placed k j ms)
    → ComesFirst l (match_ordering o (member k j (member m i ms)) (member m j ms) (member m i (placed k j ms)))
ComesFirst-at l k j m i ms Less h f rest = (h, f)
ComesFirst-at l k j m i ms Equal h f rest = f
ComesFirst-at l k j m i ms Greater h f rest = (f.0, rest)

ComesFirst-placed : (l k : List ℕ) (j : Json) (ms : Members) → slice_cmp nat_cmp l k ≡ Less → ComesFirst l ms → ComesFirst l (placed k j ms)
ComesFirst-placed l k j no_members h f = (h, tt)
ComesFirst-placed l k j (member m i ms) h f = ComesFirst-at l k j m i ms (slice_cmp nat_cmp k m) h f (ComesFirst-placed l k j ms h f.1)

AreInOrder-at : (k : List ℕ) (j : Json) (l : List ℕ) (i : Json) (ms : Members) (o : Ordering) → slice_cmp nat_cmp k l ≡ o → IsOrdered j → AreInOrder (member l i ms) → AreInOrder (placed k j ms)
    → AreInOrder (match_ordering o (member k j (member l i ms)) (member l j ms) (member l i (placed k j ms)))
AreInOrder-at k j l i ms Less is h f rest = (h, (is, ComesFirst-before k l ms is f.1), f)
AreInOrder-at k j l i ms Equal is h f rest = (h, f.1, f.2)
AreInOrder-at k j l i ms Greater is h f rest = (f.0, ComesFirst-placed l k j ms (back k l is) f.1, rest)

pub AreInOrder-placed : (k : List ℕ) (j : Json) (ms : Members) → IsOrdered j → AreInOrder ms → AreInOrder (placed k j ms)
AreInOrder-placed k j no_members h f = (h, tt, tt)
AreInOrder-placed k j (member l i ms) h f = AreInOrder-at k j l i ms (slice_cmp nat_cmp k l) refl h f (AreInOrder-placed k j ms h f.2)

-- ---- what it reads as

members_meaning-match : (o : Ordering) (a b c : Members) → members_meaning (match_ordering o a b c) ≡ match_ordering o (members_meaning a) (members_meaning b) (members_meaning c)
members_meaning-match Less a b c = refl
members_meaning-match Equal a b c = refl
members_meaning-match Greater a b c = refl

pub members_meaning-placed : (k : List ℕ) (j : Json) (ms : Members) → members_meaning (placed k j ms) ≡ put k (meaning j) (members_meaning ms)
members_meaning-placed k j no_members = refl
members_meaning-placed k j (member l i ms) = members_meaning-match (slice_cmp nat_cmp k l) _ _ _ ∙ rw (members_meaning-placed k j ms)

-- ---- how deep it is

members_depth-at : (k : List ℕ) (j : Json) (l : List ℕ) (i : Json) (ms : Members) (n : ℕ) (o : Ordering) → depth j ≤ n → members_depth (member l i ms) ≤ n → members_depth (placed k j ms) ≤ n
    → members_depth (match_ordering o (member k j (member l i ms)) (member l j ms) (member l i (placed k j ms))) ≤ n
members_depth-at k j l i ms n Less h f rest = omega arith
members_depth-at k j l i ms n Equal h f rest = omega arith
members_depth-at k j l i ms n Greater h f rest = omega arith

pub members_depth-placed : (k : List ℕ) (j : Json) (ms : Members) (n : ℕ) → depth j ≤ n → members_depth ms ≤ n → members_depth (placed k j ms) ≤ n
members_depth-placed k j no_members n h f = omega arith
members_depth-placed k j (member l i ms) n h f = members_depth-at k j l i ms n (slice_cmp nat_cmp k l) h f (members_depth-placed k j ms n h (omega arith))

-- ---- where it is

first_at : (k : List ℕ) (es : List Entry) (i : ℕ) (e : Entry) → ComesFirst k (members_view es) → i < length es → slice_cmp nat_cmp k (get_or es i e).0.now ≡ Less
first_at k [] i e f h = absurd (omega arith)
first_at k (x ∷ es) zero e f h = f.0
first_at k (x ∷ es) (suc i) e f h = first_at k es i e f.1 (omega arith)

-- the first comes before a key that comes after the one before its place
behind : (k : List ℕ) (x : Entry) (es : List Entry) (at : ℕ) → ComesFirst x.0.now (members_view es) → IsPlace k (x ∷ es) (suc at) → slice_cmp nat_cmp x.0.now k ≡ Less
behind k x es zero f place = place.after 0 refl x
behind k x es (suc i) f place =
    let within = place.within in
    let below = first_at x.0.now es i x f (omega arith) in
    nat_list_cmp_total.trans x.0.now (get_or es i x).0.now k below (place.after (suc i) refl x)

pub placed_at : (e : Entry) (es : List Entry) (at : ℕ) → AreInOrder (members_view es) → IsPlace e.0.now es at
    → members_view (take at es ++ e ∷ drop at es) ≡ placed e.0.now (value_view e.1) (members_view es)
placed_at e [] zero f place = refl
placed_at e [] (suc at) f place = let within = place.within in absurd (omega arith)
placed_at e (x ∷ es) zero f place = rw place.before.0
placed_at e (x ∷ es) (suc at) f place =
    let within = place.within in
    let rest : IsPlace e.0.now es at = record { within = omega arith; after = λ i is d. place.after (suc i) (ap suc is) d; before = place.before } in
    rw (turned e.0.now x.0.now (behind e.0.now x es at f.1 place)) (ap (member x.0.now (value_view x.1)) (placed_at e es at f.2 rest))

-- ---- looking for it from the end

-- the key comes before each of them
abbrev pub AreBehind : List ℕ → List Entry → Type 0
AreBehind k es = AllByRecursion (λ e. slice_cmp nat_cmp k e.0.now ≡ Less) es

pub one_back : (k : List ℕ) (es : List Entry) (i : ℕ) (e : Entry) → i < length es → slice_cmp nat_cmp k (get_or es i e).0.now ≡ Less → AreBehind k (drop (suc i) es) → AreBehind k (drop i es)
one_back k [] i e h less later = absurd (omega arith)
one_back k (x ∷ es) zero e h less later = (less, later)
one_back k (x ∷ es) (suc i) e h less later = one_back k es i e (omega arith) less later

pub get_or_any : (es : List Entry) (i : ℕ) (d e : Entry) → i < length es → get_or es i d ≡ get_or es i e
get_or_any [] i d e h = absurd (omega arith)
get_or_any (x ∷ es) zero d e h = refl
get_or_any (x ∷ es) (suc i) d e h = get_or_any es i d e (omega arith)
