-- Batches: their writes in order and by type, what spells them, and that their objects are shallow and hold no float.
use Rattle.std.proofs.Common.{◌≡◌, ◌≢◌, ◌⊎◌, ℕ, ◌+◌, ◌<◌, suc, ◌≤◌, List, [], ◌∷◌, ◌++◌, length, map, take, drop, get_or, true, false, Bool, cond, All, Some, Result, codes, inl, inr, refl, sym, ap, ◌∙◌, subst, arith, append_assoc}
use Rattle.std.specs.List.{AllZip, filter, flat_map}
use Rattle.std.proofs.lemmas.List.{append-nil, map-append, take_more, take-append-drop}
use Rattle.std.proofs.lemmas.List.Elements.{filter-append, All-append, All-map, All-head, All-tail, All-nil}
use Rattle.std.proofs.lemmas.Bool.{or_from}
use Rattle.serde_json.specs.Data.{Data, array, depth, items_depth}
use Rattle.serde_json.specs.Find.{get}
use Rattle.serde_json.specs.View.{items_of}
use Rattle.serde_json.specs.Written.{has_float, items_have_float}
use Rattle.xds_resource.specs.Fields.{field}
use Rattle.xds_resource.specs.declared.refusal.Refusal.{Refusal}
use Rattle.xds_resource.specs.declared.types.TypeName.{TypeName}
use Rattle.xds_resource.specs.declared.types.TypeName.TheVariants.{Cluster, Endpoint, Listener, Route, Secret}
use Rattle.xds_resource.specs.PerType.{PerType, at, with_at}
use Rattle.xds_resource.specs.Resources.{max_nesting}
use Rattle.xds_resource.specs.TypedWrites.{TypedWrite, writes_of}
use Rattle.xds_resource.specs.Types.{types, is_same_type}
use Rattle.xds_resource.specs.Writes.{StampedWrite}
use Rattle.xds_resource.proofs.TypesApart.{same_type, same_at_each_type, at-with_at, at-with_at_other, at-per_type}
use Rattle.xds_json.specs.Spelling.{IsObject, IsOrDefault, Reads, set_value}
use Rattle.xds_json.specs.WrittenFields.{list_data}
use Rattle.xds_json.proofs.FieldsReadBack.{get_member-members_set}
use Rattle.xds_json.proofs.FieldsWithin.{members_depth-members_set, members_have_float-members_set, IsWithin-list_data, HasNoFloat-list_data}
use Rattle.xds_json.proofs.Lists.{items_of-injective, IsArrayOf, Reads-same, map-twice}
use Rattle.xds_json.proofs.OneField.{IsOrDefault-unique}
use Rattle.xds_message.specs.Batches.{by_type, typed, in_order, AreWrites, SpellsBatch, SpellsOneBatch, batch_fields, batch_object, IsSound, IsBatchSpelledByItsObject, IsBatchOfItsWrites}
use Rattle.xds_message.specs.StampedWrites.{IsSpelledBy, write_object}
use Rattle.xds_message.proofs.ReadGroups.{same_twice}
use Rattle.xds_message.proofs.StampedWriteLemmas.{SpellsWrite-unique, SpellsWrite-write_object, has_float-write_object, depth-write_object, first_of-None}

-- ---- the writes of a type among others

pub writes_of-append : (t : TypeName) (xs ys : List TypedWrite) → writes_of t (xs ++ ys) ≡ writes_of t xs ++ writes_of t ys
writes_of-append t xs ys =
    ap (map (λ (y : TypedWrite). y.1)) (filter-append (λ (y : TypedWrite). is_same_type y.0 t) xs ys)
    ∙ map-append (λ (y : TypedWrite). y.1) (filter (λ (y : TypedWrite). is_same_type y.0 t) xs) (filter (λ (y : TypedWrite). is_same_type y.0 t) ys)

one_if : (b : Bool) (x : TypedWrite) (ws : List TypedWrite) → map (λ (y : TypedWrite). y.1) (cond b (x ∷ ws) ws) ≡ cond b (x.1 ∷ map (λ (y : TypedWrite). y.1) ws) (map (λ (y : TypedWrite). y.1) ws)
one_if true x ws = refl
one_if false x ws = refl

writes_of-cons : (t : TypeName) (x : TypedWrite) (ws : List TypedWrite) → writes_of t (x ∷ ws) ≡ cond (is_same_type x.0 t) (x.1 ∷ writes_of t ws) (writes_of t ws)
writes_of-cons t x ws = one_if (is_same_type x.0 t) x (filter (λ (y : TypedWrite). is_same_type y.0 t) ws)

-- one write more, at the end
module _ (ws : List TypedWrite) (t : TypeName) (w : StampedWrite) where
  pushed : (s : TypeName) → ((t ≡ s) × (is_same_type t s ≡ true)) ⊎ ((t ≢ s) × (is_same_type t s ≡ false)) → writes_of s ws ++ cond (is_same_type t s) (w ∷ []) [] ≡ at (with_at (by_type ws) t (at (by_type ws) t ++ w ∷ [])) s
  pushed s (inl same) =
      ap (λ b. writes_of s ws ++ cond b (w ∷ []) []) same.1
      ∙ ap (λ ys. ys ++ w ∷ []) (sym (at-per_type (λ u. writes_of u ws) s))
      ∙ subst (λ u. at (by_type ws) s ++ w ∷ [] ≡ at (with_at (by_type ws) u (at (by_type ws) u ++ w ∷ [])) s) (sym same.0) (sym (at-with_at (by_type ws) s (at (by_type ws) s ++ w ∷ [])))
  pushed s (inr other) =
      ap (λ b. writes_of s ws ++ cond b (w ∷ []) []) other.1
      ∙ append-nil (writes_of s ws)
      ∙ sym (at-per_type (λ u. writes_of u ws) s)
      ∙ sym (at-with_at_other (by_type ws) t (at (by_type ws) t ++ w ∷ []) s (λ e. other.0 (sym e)))

  pub by_type-push : by_type (ws ++ (t, w) ∷ []) ≡ with_at (by_type ws) t (at (by_type ws) t ++ w ∷ [])
  by_type-push =
      same_at_each_type (by_type (ws ++ (t, w) ∷ [])) (with_at (by_type ws) t (at (by_type ws) t ++ w ∷ []))
      (λ s. at-per_type (λ u. writes_of u (ws ++ (t, w) ∷ [])) s ∙ writes_of-append s ws ((t, w) ∷ []) ∙ ap (λ ys. writes_of s ws ++ ys) (writes_of-cons s (t, w) []) ∙ pushed s (same_type t s))

-- ---- all writes of a batch

no_writes : (b : Bool) → ◌≡◌ {A = List StampedWrite} [] (cond b [] [])
no_writes true = refl
no_writes false = refl

one_or_none : (b : Bool) (w : StampedWrite) (ws : List StampedWrite) → cond b (w ∷ cond b ws []) (cond b ws []) ≡ cond b (w ∷ ws) []
one_or_none true w ws = refl
one_or_none false w ws = refl

writes_of-typed : (t u : TypeName) (ws : List StampedWrite) → writes_of t (typed u ws) ≡ cond (is_same_type u t) ws []
writes_of-typed t u [] = no_writes (is_same_type u t)
writes_of-typed t u (w ∷ ws) =
    writes_of-cons t (u, w) (typed u ws) ∙ ap (λ ys. cond (is_same_type u t) (w ∷ ys) ys) (writes_of-typed t u ws) ∙ one_or_none (is_same_type u t) w ws

writes_of-each : (b : PerType (List StampedWrite)) (t : TypeName) (ts : List TypeName) → writes_of t (flat_map (λ u. typed u (at b u)) ts) ≡ flat_map (λ u. cond (is_same_type u t) (at b u) []) ts
writes_of-each b t [] = refl
writes_of-each b t (u ∷ ts) =
    writes_of-append t (typed u (at b u)) (flat_map (λ s. typed s (at b s)) ts)
    ∙ ap (λ ys. ys ++ writes_of t (flat_map (λ s. typed s (at b s)) ts)) (writes_of-typed t u (at b u))
    ∙ ap (λ ys. cond (is_same_type u t) (at b u) [] ++ ys) (writes_of-each b t ts)

one_of_them : (b : PerType (List StampedWrite)) (t : TypeName) → flat_map (λ u. cond (is_same_type u t) (at b u) []) types ≡ at b t
one_of_them b Cluster = append-nil b.cluster
one_of_them b Endpoint = append-nil b.endpoint
one_of_them b Listener = append-nil b.listener
one_of_them b Route = append-nil b.route
one_of_them b Secret = append-nil b.secret

pub writes_of-in_order : (b : PerType (List StampedWrite)) (t : TypeName) → writes_of t (in_order b) ≡ at b t
writes_of-in_order b t = writes_of-each b t types ∙ one_of_them b t

pub by_type-in_order : (b : PerType (List StampedWrite)) → IsBatchOfItsWrites b
by_type-in_order b = same_at_each_type (by_type (in_order b)) b (λ t. at-per_type (λ u. writes_of u (in_order b)) t ∙ writes_of-in_order b t)

-- what is known of the writes of each type is known of all
All-typed : (P : TypedWrite → Type 0) (t : TypeName) (ws : List StampedWrite) → All (λ w. P (t, w)) ws → All P (typed t ws)
All-typed P t ws h = All-map P (λ w. (t, w)) ws h

pub All-in_order : (P : TypedWrite → Type 0) (b : PerType (List StampedWrite)) → All (λ w. P (Cluster, w)) b.cluster → All (λ w. P (Endpoint, w)) b.endpoint → All (λ w. P (Listener, w)) b.listener
    → All (λ w. P (Route, w)) b.route → All (λ w. P (Secret, w)) b.secret → All P (in_order b)
All-in_order P b c e l r s =
    All-append P (typed Cluster b.cluster) _ (All-typed P Cluster b.cluster c)
    (All-append P (typed Endpoint b.endpoint) _ (All-typed P Endpoint b.endpoint e)
    (All-append P (typed Listener b.listener) _ (All-typed P Listener b.listener l)
    (All-append P (typed Route b.route) _ (All-typed P Route b.route r)
    (All-append P (typed Secret b.secret) _ (All-typed P Secret b.secret s) (All-nil P)))))

-- a list to which there came, type by type, what is made of each write
module _ {X : Type 0} (f : TypedWrite → X) (b : PerType (List StampedWrite)) where
  abbrev pub made : TypeName → List X
  made t = map (λ w. f (t, w)) (at b t)

  map-typed : (t : TypeName) (rest : List TypedWrite) → map f (typed t (at b t) ++ rest) ≡ made t ++ map f rest
  map-typed t rest = map-append f (typed t (at b t)) rest ∙ ap (λ ys. ys ++ map f rest) (sym (map-twice (λ w. (t, w)) f (at b t)))

  one_more : (ys : List X) (t : TypeName) (rest : List TypedWrite) → ys ++ map f (typed t (at b t) ++ rest) ≡ (ys ++ made t) ++ map f rest
  one_more ys t rest = ap (λ zs. ys ++ zs) (map-typed t rest) ∙ sym (append_assoc ys (made t) (map f rest))

  pub map-in_order : (c e l r s : List X) → c ≡ made Cluster → e ≡ c ++ made Endpoint → l ≡ e ++ made Listener → r ≡ l ++ made Route → s ≡ r ++ made Secret → s ≡ map f (in_order b)
  map-in_order c e l r s ec ee el er es =
      let rest_s : List TypedWrite = [] in
      let rest_r = typed Secret b.secret ++ rest_s in
      let rest_l = typed Route b.route ++ rest_r in
      let rest_e = typed Listener b.listener ++ rest_l in
      let rest_c = typed Endpoint b.endpoint ++ rest_e in
      sym (
      map-typed Cluster rest_c ∙ ap (λ ys. ys ++ map f rest_c) (sym ec)
      ∙ one_more c Endpoint rest_e ∙ ap (λ ys. ys ++ map f rest_e) (sym ee)
      ∙ one_more e Listener rest_l ∙ ap (λ ys. ys ++ map f rest_l) (sym el)
      ∙ one_more l Route rest_r ∙ ap (λ ys. ys ++ map f rest_r) (sym er)
      ∙ one_more r Secret rest_s ∙ ap (λ ys. ys ++ map f rest_s) (sym es)
      ∙ append-nil s
      )

-- ---- a value spells one batch at most

each_unique : (ds : List Data) (vs ws : List TypedWrite) → AllZip IsSpelledBy ds vs → AllZip IsSpelledBy ds ws → vs ≡ ws
each_unique [] [] [] p q = refl
each_unique [] [] (w ∷ ws) p q = absurd q
each_unique [] (v ∷ vs) ws p q = absurd p
each_unique (d ∷ ds) [] ws p q = absurd p
each_unique (d ∷ ds) (v ∷ vs) [] p q = absurd q
each_unique (d ∷ ds) (v ∷ vs) (w ∷ ws) p q =
    let same = SpellsWrite-unique d v.0 w.0 v.1 w.1 p.0 q.0 in
    let rest = each_unique ds vs ws p.1 q.1 in
    (λ i. (same.0 i, same.1 i) ∷ rest i)

pub same_items : (d : Data) (ds es : List Data) → d ≡ array (items_of ds) → d ≡ array (items_of es) → ds ≡ es
same_items d ds es p q = let same = sym p ∙ q in items_of-injective ds es cc

listed_once : (d : Data) (vs ws : List TypedWrite) → IsArrayOf IsSpelledBy d vs → IsArrayOf IsSpelledBy d ws → vs ≡ ws
listed_once d vs ws p q = each_unique q.0 vs ws (subst (λ ds. AllZip IsSpelledBy ds vs) (same_items d p.0 q.0 p.1 q.1) p.2) q.2

pub SpellsBatch-unique : (d : Data) → SpellsOneBatch d
SpellsBatch-unique d a b p q =
    let same = IsOrDefault-unique [] _ listed_once _ p.writes.0 q.writes.0 p.writes.1 q.writes.1 in
    sym p.writes.2 ∙ ap by_type same ∙ q.writes.2

-- ---- the written object

each_spelled : (xs : List TypedWrite) → All IsSound xs → AllZip IsSpelledBy (map (λ x. write_object x.0 x.1) xs) xs
each_spelled [] h = tt
each_spelled (x ∷ xs) h =
    let sound = All-head IsSound x xs h in
    (SpellsWrite-write_object x.0 x.1 sound.writable sound.stamped, each_spelled xs (All-tail IsSound x xs h))

AreWrites-list_data : (xs : List TypedWrite) → All IsSound xs → AreWrites (list_data (map (λ x. write_object x.0 x.1) xs)) xs
AreWrites-list_data [] h = refl
AreWrites-list_data (x ∷ xs) h = (map (λ x. write_object x.0 x.1) (x ∷ xs), refl, each_spelled (x ∷ xs) h)

pub SpellsBatch-batch_object : (b : PerType (List StampedWrite)) → IsBatchSpelledByItsObject b
SpellsBatch-batch_object b h =
    let listed = list_data (map (λ x. write_object x.0 x.1) (in_order b)) in
    record {
      is_object = refl;
      writes = (
        in_order b,
        subst (λ o. AreWrites o (in_order b)) (sym (get_member-members_set (codes "writes") (batch_fields b) ∙ first_of-None listed)) (AreWrites-list_data (in_order b) h),
        by_type-in_order b,
      );
    }

items_depth-objects : (xs : List TypedWrite) → All IsSound xs → items_depth (items_of (map (λ x. write_object x.0 x.1) xs)) ≤ suc max_nesting
items_depth-objects [] h = omega arith
items_depth-objects (x ∷ xs) h = omega (arith, depth-write_object x.0 x.1 (All-head IsSound x xs h).writable, items_depth-objects xs (All-tail IsSound x xs h))

items_have_float-objects : (xs : List TypedWrite) → All IsSound xs → items_have_float (items_of (map (λ x. write_object x.0 x.1) xs)) ≡ false
items_have_float-objects [] h = refl
items_have_float-objects (x ∷ xs) h = or_from _ _ (has_float-write_object x.0 x.1 (All-head IsSound x xs h).writable) (items_have_float-objects xs (All-tail IsSound x xs h))

-- a batch nests two levels more than its writes
pub depth-batch_object : (b : PerType (List StampedWrite)) → All IsSound (in_order b) → depth (batch_object b) ≤ suc (suc (suc max_nesting))
depth-batch_object b h =
    let within = members_depth-members_set (batch_fields b) (suc (suc max_nesting)) (IsWithin-list_data _ (suc max_nesting) (items_depth-objects (in_order b) h), tt) in
    omega arith

pub has_float-batch_object : (b : PerType (List StampedWrite)) → All IsSound (in_order b) → has_float (batch_object b) ≡ false
has_float-batch_object b h = members_have_float-members_set (batch_fields b) (HasNoFloat-list_data _ (items_have_float-objects (in_order b) h), tt)

-- ---- lists that are gone through

-- one element more
pub map-take-more : {X Y : Type 0} (f : X → Y) (xs : List X) (i : ℕ) (x : X) → i < length xs → x ≡ get_or xs i x → map f (take (i + 1) xs) ≡ map f (take i xs) ++ f x ∷ []
map-take-more f xs i x within is = ap (map f) (take_more xs i x within ∙ ap (λ y. take i xs ++ y ∷ []) (sym is)) ∙ map-append f (take i xs) (x ∷ [])

-- what stands before an element, and what behind it
pub around : {X Y : Type 0} (f : X → Y) (xs : List X) (i : ℕ) (x : X) → i < length xs → x ≡ get_or xs i x → map f xs ≡ map f (take i xs) ++ f x ∷ map f (drop (i + 1) xs)
around f xs i x within is =
    ap (map f) (sym (take-append-drop (i + 1) xs)) ∙ map-append f (take (i + 1) xs) (drop (i + 1) xs) ∙ ap (λ ys. ys ++ map f (drop (i + 1) xs)) (map-take-more f xs i x within is)
    ∙ append_assoc (map f (take i xs)) (f x ∷ []) (map f (drop (i + 1) xs))

-- ---- what is read of a value

items_spell : (ds : List Data) (ws : List TypedWrite) → IsArrayOf IsSpelledBy (array (items_of ds)) ws → AllZip IsSpelledBy ds ws
items_spell ds ws h = subst (λ es. AllZip IsSpelledBy es ws) (same_items (array (items_of ds)) h.0 ds h.1 refl) h.2

-- the batch of the values of an array is the batch that an object with that array spells
pub Reads-batch : {X : Type 0} (d : Data) (ds : List Data) (view_of : X → PerType (List StampedWrite)) (r : Result X Refusal) → IsObject d → Some (array (items_of ds)) ≡ set_value (field (codes "writes") (codes "writes") d)
    → Reads (λ b. (ws : List TypedWrite) × AllZip IsSpelledBy ds ws × (by_type ws ≡ b)) view_of r → Reads (SpellsBatch d) view_of r
Reads-batch d ds view_of r is_object found h =
    let set : Some (array (items_of ds)) ≡ set_value (get (codes "writes") d) = found ∙ ap set_value (same_twice (get (codes "writes") d)) in
    Reads-same (λ b. (ws : List TypedWrite) × AllZip IsSpelledBy ds ws × (by_type ws ≡ b)) (SpellsBatch d) view_of r
    (λ b w. record { is_object = is_object; writes = (w.0, subst (λ o. IsOrDefault [] (IsArrayOf IsSpelledBy) o w.0) set (ds, refl, w.1), w.2) })
    (λ b s. (s.writes.0, items_spell ds s.writes.0 (subst (λ o. IsOrDefault [] (IsArrayOf IsSpelledBy) o s.writes.0) (sym set) s.writes.1), s.writes.2))
    h
