-- What a replica holds and the writes that the lines of its trace say: the best of each name, of each type; and each goes by the
-- name of its body.
use Rattle.std.proofs.Common.{◌≡◌, ◌≢◌, ◌⊎◌, inl, inr, ℕ, zero, suc, List, [], ◌∷◌, ◌++◌, map, reverse, Bool, true, false, Option, Some, None, refl, sym, ap, subst, ◌∙◌, arith, append-nil}
use Rattle.std.specs.Prelude.{if◌then◌else◌, bytes_eq, IfSome, All}
use Rattle.std.specs.List.{flat_map}
use Rattle.std.specs.FinMap as finmap
use Rattle.std.specs.Ordering.{is_lt}
use Rattle.std.proofs.lemmas.Grind.{reverse_onto}
use Rattle.xds_resource.specs.declared.types.TypeName.{TypeName}
use Rattle.xds_resource.specs.declared.types.TypeName.TheVariants.{Cluster, Endpoint, Listener, Route, Secret}
use Rattle.xds_resource.specs.PerType.{at, with_at}
use Rattle.xds_resource.specs.Types.{types, is_same_type}
use Rattle.xds_resource.specs.Best.{greater, if_named, best}
use Rattle.xds_resource.specs.Writes.{StampedWrite, write_cmp}
use Rattle.xds_resource.proofs.BestWrites.{best_of_both, greater-comm}
use Rattle.xds_resource.proofs.TypesApart.{same_type, at-with_at, at-with_at_other}
use Rattle.xds_catalogue.specs.Holdings.{Holdings, IsCatalogue, catalogue_of}
use Rattle.xds_catalogue.specs.Joins.{joined}
use Rattle.xds_catalogue.proofs.Catalogues.{get-catalogue_of, catalogue_of-IsCatalogue, same_catalogue, catalogue_of-entries}
use Rattle.xds_core.specs.Stores.{Store, Batch, merged}
use Rattle.xds_check.specs.declared.line.Line.{Line}
use Rattle.xds_check.specs.Lines.{write_at, writes_in, standing}
use Rattle.xds_trace.specs.Making.{Naming, IsCalled, write_line, batch_lines}
use Rattle.std.proofs.lemmas.List.Elements.{All-head, All-tail}
use Rattle.std.proofs.lemmas.List.Concat.{flat_map-append}

-- a store holds the best of the writes that the lines say
pub record Holds (named : Naming) (store : Store) (ls : List Line) : Type 0 where
  pub entries : (t : TypeName) → (at store t).entries ≡ catalogue_of (writes_in t ls)
  pub called : (t : TypeName) (q : List ℕ) → IfSome (finmap.get (at store t).entries q) (IsCalled named t)

module _ {named : Naming} {store : Store} {ls : List Line} (holds : Holds named store ls) where
  pub held_is : (t : TypeName) (q : List ℕ) → finmap.get (at store t).entries q ≡ standing t ls q
  held_is t q = ap (λ m. finmap.get m q) (holds.entries t) ∙ get-catalogue_of (writes_in t ls) q

  pub held_catalogue : (t : TypeName) → IsCatalogue (at store t).entries
  held_catalogue t = subst IsCatalogue (sym (holds.entries t)) (catalogue_of-IsCatalogue (writes_in t ls))

-- ---- names

either_max : (P : StampedWrite → Type 0) (v w : StampedWrite) (b : Bool) → P v → P w → P (if b then v else w)
either_max P v w true p q = p
either_max P v w false p q = q

greater_one : (P : StampedWrite → Type 0) (a b : Option StampedWrite) → IfSome a P → IfSome b P → IfSome (greater a b) P
greater_one P None b p q = q
greater_one P (Some v) None p q = p
greater_one P (Some v) (Some w) p q = either_max P v w (is_lt (write_cmp w v)) p q

named_one : (P : StampedWrite → Type 0) (q : List ℕ) (w : StampedWrite) (same : Bool) → P w → IfSome (if same then Some w else None) P
named_one P q w true p = p
named_one P q w false p = tt

pub best_one : (P : StampedWrite → Type 0) (ws : List StampedWrite) (q : List ℕ) → All P ws → IfSome (best ws q) P
best_one P [] q all = tt
best_one P (w ∷ ws) q all =
    greater_one P (if_named q w) (best ws q) (named_one P q w (bytes_eq w.name q) (All-head P w ws all)) (best_one P ws q (All-tail P w ws all))

-- what is held once more writes came
called_joined : (named : Naming) (t : TypeName) (h : Holdings) (known ws : List StampedWrite) (q : List ℕ) → h.entries ≡ catalogue_of known → IfSome (finmap.get h.entries q) (IsCalled named t) → All (IsCalled named t) ws
    → IfSome (finmap.get (joined h ws).entries q) (IsCalled named t)
called_joined named t h known ws q is old new =
    subst (λ o. IfSome o (IsCalled named t)) (sym (ap (λ m. finmap.get (catalogue_of (finmap.values m ++ ws)) q) is ∙ ap (λ m. finmap.get m q) (catalogue_of-entries known ws) ∙ get-catalogue_of (known ++ ws) q ∙ best_of_both known ws q))
    (greater_one (IsCalled named t) (best known q) (best ws q) (subst (λ o. IfSome o (IsCalled named t)) (ap (λ m. finmap.get m q) is ∙ get-catalogue_of known q) old) (best_one (IsCalled named t) ws q new))

-- ---- entries

-- more writes, as the lines say them
entries_joined : (h : Holdings) (known ws said : List StampedWrite) → h.entries ≡ catalogue_of known → ((q : List ℕ) → best said q ≡ best ws q) → (joined h ws).entries ≡ catalogue_of (said ++ known)
entries_joined h known ws said is same =
    ap (λ m. catalogue_of (finmap.values m ++ ws)) is ∙ catalogue_of-entries known ws
    ∙ same_catalogue (known ++ ws) (said ++ known)
    (λ q. best_of_both known ws q ∙ ap (greater (best known q)) (sym (same q)) ∙ greater-comm (best known q) (best said q) ∙ sym (best_of_both said known q))

line_says : (t u : TypeName) (w : StampedWrite) → write_at t (write_line u w) ≡ (if is_same_type u t then w ∷ [] else [])
line_says t Cluster w = refl
line_says t Endpoint w = refl
line_says t Listener w = refl
line_says t Route w = refl
line_says t Secret w = refl

-- ---- one write

module _ (named : Naming) (store : Store) (ls : List Line) (u : TypeName) (w : StampedWrite) (holds : Holds named store ls) (called : IsCalled named u w) where
  abbrev written_store : Store
  written_store = with_at store u (joined (at store u) (w ∷ []))

  one_entries : (t : TypeName) → ((u ≡ t) × (is_same_type u t ≡ true)) ⊎ ((u ≢ t) × (is_same_type u t ≡ false)) → (at written_store t).entries ≡ catalogue_of (writes_in t (write_line u w ∷ ls))
  one_entries t (inl same) =
      subst (λ v. (at written_store v).entries ≡ catalogue_of (w ∷ writes_in v ls)) same.0
      (ap (λ (h : Holdings). h.entries) (at-with_at store u (joined (at store u) (w ∷ []))) ∙ entries_joined (at store u) (writes_in u ls) (w ∷ []) (w ∷ []) (holds.entries u) (λ q. refl))
      ∙ ap (λ l. catalogue_of (l ++ writes_in t ls)) (sym (line_says t u w ∙ ap (λ b. if b then w ∷ [] else []) same.1))
  one_entries t (inr other) =
      ap (λ (h : Holdings). h.entries) (at-with_at_other store u (joined (at store u) (w ∷ [])) t (λ e. other.0 (sym e))) ∙ holds.entries t
      ∙ ap (λ l. catalogue_of (l ++ writes_in t ls)) (sym (line_says t u w ∙ ap (λ b. if b then w ∷ [] else []) other.1))

  one_called : (t : TypeName) (q : List ℕ) → ((u ≡ t) × (is_same_type u t ≡ true)) ⊎ ((u ≢ t) × (is_same_type u t ≡ false)) → IfSome (finmap.get (at written_store t).entries q) (IsCalled named t)
  one_called t q (inl same) =
      subst (λ v. IfSome (finmap.get (at written_store v).entries q) (IsCalled named v)) same.0
      (subst (λ (h : Holdings). IfSome (finmap.get h.entries q) (IsCalled named u)) (sym (at-with_at store u (joined (at store u) (w ∷ []))))
      (called_joined named u (at store u) (writes_in u ls) (w ∷ []) q (holds.entries u) (holds.called u q) (only called)))
    where
      only : IsCalled named u w → All (IsCalled named u) (w ∷ [])
      only c zero d lt = c
      only c (suc k) d lt = absurd (omega (arith, lt))
  one_called t q (inr other) =
      subst (λ (h : Holdings). IfSome (finmap.get h.entries q) (IsCalled named t)) (sym (at-with_at_other store u (joined (at store u) (w ∷ [])) t (λ e. other.0 (sym e)))) (holds.called t q)

  pub holds_one : Holds named written_store (write_line u w ∷ ls)
  holds_one = record { entries = λ t. one_entries t (same_type u t); called = λ t q. one_called t q (same_type u t) }

-- ---- a batch

flat_map-flat_map : {X Y Z : Type 0} (g : Y → List Z) (h : X → List Y) (us : List X) → flat_map g (flat_map h us) ≡ flat_map (λ u. flat_map g (h u)) us
flat_map-flat_map g h [] = refl
flat_map-flat_map g h (u ∷ us) = flat_map-append g (h u) (flat_map h us) ∙ ap (λ l. flat_map g (h u) ++ l) (flat_map-flat_map g h us)

one_picked : (b : Bool) (w : StampedWrite) (ws : List StampedWrite) → (if b then w ∷ [] else []) ++ (if b then ws else []) ≡ (if b then w ∷ ws else [])
one_picked true w ws = refl
one_picked false w ws = refl

none_picked : (b : Bool) → ◌≡◌ {A = List StampedWrite} (if b then [] else []) []
none_picked true = refl
none_picked false = refl

picked : (t u : TypeName) (ws : List StampedWrite) → flat_map (write_at t) (map (write_line u) ws) ≡ (if is_same_type u t then ws else [])
picked t u [] = sym (none_picked (is_same_type u t))
picked t u (w ∷ ws) = (λ i. line_says t u w i ++ picked t u ws i) ∙ one_picked (is_same_type u t) w ws

picked_of : (b : Batch) (t : TypeName) → flat_map (λ u. if is_same_type u t then at b u else []) types ≡ at b t
picked_of b Cluster = append-nil (at b Cluster)
picked_of b Endpoint = append-nil (at b Endpoint)
picked_of b Listener = append-nil (at b Listener)
picked_of b Route = append-nil (at b Route)
picked_of b Secret = append-nil (at b Secret)

batch_says : (b : Batch) (t : TypeName) → flat_map (write_at t) (batch_lines b) ≡ at b t
batch_says b t = flat_map-flat_map (write_at t) (λ u. map (write_line u) (at b u)) types ∙ (λ i. flat_map (λ u. picked t u (at b u) i) types) ∙ picked_of b t

best_reversed : (f : Line → List StampedWrite) (xs : List Line) (q : List ℕ) → best (flat_map f (reverse xs)) q ≡ best (flat_map f xs) q
best_reversed f [] q = refl
best_reversed f (x ∷ xs) q =
    ap (λ l. best (flat_map f l) q) (reverse_onto xs x []) ∙ ap (λ l. best l q) (flat_map-append f (reverse xs) (x ∷ []) ∙ ap (λ l. flat_map f (reverse xs) ++ l) (append-nil (f x)))
    ∙ best_of_both (flat_map f (reverse xs)) (f x) q ∙ ap (λ o. greater o (best (f x) q)) (best_reversed f xs q) ∙ greater-comm (best (flat_map f xs) q) (best (f x) q) ∙ sym (best_of_both (f x) (flat_map f xs) q)

merged_at : (store : Store) (b : Batch) (t : TypeName) → at (merged store b) t ≡ joined (at store t) (at b t)
merged_at store b Cluster = refl
merged_at store b Endpoint = refl
merged_at store b Listener = refl
merged_at store b Route = refl
merged_at store b Secret = refl

pub holds_merged : (named : Naming) (store : Store) (ls : List Line) (b : Batch) → Holds named store ls → ((t : TypeName) → All (IsCalled named t) (at b t)) → Holds named (merged store b) (reverse (batch_lines b) ++ ls)
holds_merged named store ls b holds called = record {
  entries = λ t.
      ap (λ (h : Holdings). h.entries) (merged_at store b t)
      ∙ entries_joined (at store t) (writes_in t ls) (at b t) (flat_map (write_at t) (reverse (batch_lines b))) (holds.entries t) (λ q. best_reversed (write_at t) (batch_lines b) q ∙ ap (λ l. best l q) (batch_says b t))
      ∙ ap catalogue_of (sym (flat_map-append (write_at t) (reverse (batch_lines b)) ls));
  called = λ t q.
      subst (λ (h : Holdings). IfSome (finmap.get h.entries q) (IsCalled named t)) (sym (merged_at store b t))
      (called_joined named t (at store t) (writes_in t ls) (at b t) q (holds.entries t) (holds.called t q) (called t));
}

-- a line that says no write
pub holds_unwritten : (named : Naming) (store : Store) (ls : List Line) (l : Line) → ((t : TypeName) → write_at t l ≡ []) → Holds named store ls → Holds named store (l ∷ ls)
holds_unwritten named store ls l none holds = record { entries = λ t. holds.entries t ∙ ap (λ ws. catalogue_of (ws ++ writes_in t ls)) (sym (none t)); called = holds.called }
