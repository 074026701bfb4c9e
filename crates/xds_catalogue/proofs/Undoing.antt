-- Changes that are taken back leave the maps as they were.
use Rattle.std.proofs.Common.{◌≡◌, inl, inr, ℕ, ◌+◌, List, [], ◌∷◌, ◌++◌, Bool, true, false, Option, Some, None, refl, sym, ap, ◌∙◌}
use Rattle.std.specs.Prelude.{is_some, if◌then◌else◌}
use Rattle.std.specs.Option.{option_map}
use Rattle.std.specs.Cmp.{nat_cmp_total}
use Rattle.std.specs.FinMap as finmap
use Rattle.std.specs.FinMap.{nat_cmp-IsAntisymmetric}
use Rattle.std.proofs.lemmas.Cmp.{nat_list_cmp_total}
use Rattle.xds_resource.specs.Writes.{StampedWrite}
use Rattle.xds_resource.proofs.WriteTies.{text_cmp-IsAntisymmetric}
use Rattle.xds_catalogue.specs.Tables.{NumberedWrite, Named, with_name, with_former, TwoMaps, PutAside, IsPutAside, with_write, with_counts, taken_back, all_taken_back}
use Rattle.xds_catalogue.proofs.Lookups.{insert-same, remove-none, insert-insert, remove-insert, get-inserted}

pub all_taken_back-push : (t : TwoMaps) (ds : List PutAside) (d : PutAside) → all_taken_back t (ds ++ d ∷ []) ≡ all_taken_back (taken_back t d) ds
all_taken_back-push t [] d = refl
all_taken_back-push t (x ∷ ds) d = ap (λ s. taken_back s x) (all_taken_back-push t ds d)

-- the counts have no part in it
pub counts-past : (t : TwoMaps) (ds : List PutAside) (changes greatest : ℕ) → with_counts (all_taken_back t ds) changes greatest ≡ all_taken_back (with_counts t changes greatest) ds
counts-past t [] changes greatest = refl
counts-past t (d ∷ ds) changes greatest = ap (λ s. taken_back s d) (counts-past t ds changes greatest)

same_or_put : (n : Named) (name : List ℕ) (e : NumberedWrite) (b : Bool) → with_name n name e ≡ n → (if b then with_name n name e else n) ≡ n
same_or_put n name e true same = same
same_or_put n name e false same = refl

-- what stands there already
with_former-same : (n : Named) (name : List ℕ) (o : Option NumberedWrite) → option_map (λ e. e.write) o ≡ finmap.get n.entries name → option_map (λ e. e.change) o ≡ finmap.get n.latest name → with_former n name o ≡ n
with_former-same n name None write change = λ i. record {
  entries = remove-none nat_list_cmp_total text_cmp-IsAntisymmetric n.entries name (sym write) i;
  latest = remove-none nat_list_cmp_total text_cmp-IsAntisymmetric n.latest name (sym change) i;
}
with_former-same n name (Some e) write change =
    same_or_put n name e (is_some (finmap.get n.entries name)) (λ i. record {
      entries = insert-same nat_list_cmp_total text_cmp-IsAntisymmetric n.entries name e.write (sym write) i;
      latest = insert-same nat_list_cmp_total text_cmp-IsAntisymmetric n.latest name e.change (sym change) i;
    })

stands_there : (n : Named) (name : List ℕ) (x : NumberedWrite) → is_some (finmap.get (with_name n name x).entries name) ≡ true
stands_there n name x = elim (get-inserted nat_list_cmp_total text_cmp-IsAntisymmetric n.entries name x.write name) [
  | inl (here, has) ↦ ap is_some has
  | inr (other, keeps) ↦ absurd (other refl)
]

-- what stood there before another write was put there
with_former-put : (n : Named) (name : List ℕ) (x : NumberedWrite) (o : Option NumberedWrite) → option_map (λ e. e.write) o ≡ finmap.get n.entries name → option_map (λ e. e.change) o ≡ finmap.get n.latest name
    → with_former (with_name n name x) name o ≡ n
with_former-put n name x None write change = λ i. record {
  entries = remove-insert nat_list_cmp_total text_cmp-IsAntisymmetric n.entries name x.write (sym write) i;
  latest = remove-insert nat_list_cmp_total text_cmp-IsAntisymmetric n.latest name x.change (sym change) i;
}
with_former-put n name x (Some e) write change =
    ap (λ b. if b then with_name (with_name n name x) name e else with_name n name x) (stands_there n name x)
    ∙ (λ i. record {
      entries = insert-insert nat_list_cmp_total text_cmp-IsAntisymmetric n.entries name x.write e.write (sym write) i;
      latest = insert-insert nat_list_cmp_total text_cmp-IsAntisymmetric n.latest name x.change e.change (sym change) i;
    })

-- a change that was not made
pub taken_back-same : (t : TwoMaps) (w : StampedWrite) (d : PutAside) → IsPutAside t w d → finmap.get t.numbers (t.changes + 1) ≡ None → taken_back t d ≡ t
taken_back-same t w d aside fresh = λ i. record {
  named = (ap (λ name. with_former t.named name d.former) aside.name ∙ with_former-same t.named w.name d.former aside.write aside.change) i;
  numbers = (ap (finmap.remove t.numbers) aside.number ∙ remove-none nat_cmp_total nat_cmp-IsAntisymmetric t.numbers (t.changes + 1) fresh) i;
  changes = t.changes;
  greatest = t.greatest;
}

-- rule: refused-event
-- one that was made
pub taken_back-put : (t : TwoMaps) (w : StampedWrite) (d : PutAside) (changes greatest : ℕ) → IsPutAside t w d → finmap.get t.numbers (t.changes + 1) ≡ None
    → with_counts (taken_back (with_write t w) d) changes greatest ≡ with_counts t changes greatest
taken_back-put t w d changes greatest aside fresh = λ i. record {
  named = (ap (λ name. with_former (with_write t w).named name d.former) aside.name ∙ with_former-put t.named w.name (record { write = w; change = t.changes + 1 }) d.former aside.write aside.change) i;
  numbers = (ap (finmap.remove (with_write t w).numbers) aside.number ∙ remove-insert nat_cmp_total nat_cmp-IsAntisymmetric t.numbers (t.changes + 1) w.name fresh) i;
  changes = changes;
  greatest = greatest;
}

-- the same after changes before it
pub all_taken_back-same : (t : TwoMaps) (w : StampedWrite) (ds : List PutAside) (d : PutAside) (changes greatest : ℕ) → IsPutAside t w d → finmap.get t.numbers (t.changes + 1) ≡ None
    → with_counts (all_taken_back t (ds ++ d ∷ [])) changes greatest ≡ with_counts (all_taken_back t ds) changes greatest
all_taken_back-same t w ds d changes greatest aside fresh =
    ap (λ s. with_counts s changes greatest) (all_taken_back-push t ds d ∙ ap (λ s. all_taken_back s ds) (taken_back-same t w d aside fresh))

-- rule: refused-event
pub all_taken_back-put : (t : TwoMaps) (w : StampedWrite) (ds : List PutAside) (d : PutAside) (changes greatest : ℕ) → IsPutAside t w d → finmap.get t.numbers (t.changes + 1) ≡ None
    → with_counts (all_taken_back (with_write t w) (ds ++ d ∷ [])) changes greatest ≡ with_counts (all_taken_back t ds) changes greatest
all_taken_back-put t w ds d changes greatest aside fresh =
    ap (λ s. with_counts s changes greatest) (all_taken_back-push (with_write t w) ds d) ∙ counts-past (taken_back (with_write t w) d) ds changes greatest
    ∙ ap (λ s. all_taken_back s ds) (taken_back-put t w d changes greatest aside fresh) ∙ sym (counts-past t ds changes greatest)
