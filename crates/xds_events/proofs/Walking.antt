-- A walk over the changes of a catalogue: what it found up to a number, and at its end.
use Rattle.std.proofs.Common.{◌≡◌, ℕ, ◌<◌, ◌≤◌, List, Bool, true, false, cond, Option, Some, None, refl, sym, ap, subst, ◌∙◌, inl, inr, arith}
use Rattle.std.specs.Prelude.{bytes_eq, nat_lt, IfSome}
use Rattle.std.specs.Option.{option_map_or}
use Rattle.std.specs.FinMap as finmap
use Rattle.std.proofs.lemmas.Bool.{cases_lt, lt-ltb, le-ltb}
use Rattle.xds_ledger.proofs.Walking.{never_both, onward_to, not_before, not_itself, later_yet, same_at}
use Rattle.xds_resource.specs.Writes.{StampedWrite, text_cmp}
use Rattle.xds_resource.proofs.NameMaps.{get-insert, same_names, bytes_eq_same, bytes_eq_tells}
use Rattle.xds_resource.proofs.WriteTies.{text_cmp-IsAntisymmetric}
use Rattle.xds_catalogue.specs.Holdings.{Holdings, Entries, IsNumbered}
use Rattle.xds_catalogue.specs.Next.{NoneAfter, IsNextChange}
use Rattle.xds_events.specs.Since.{is_above}

-- What is found at a name, by the number of its latest change: what stands there, once the walk came by that number.
abbrev pub Found : ℕ → ℕ → Option StampedWrite → Option StampedWrite → Option ℕ → Type 0
Found mark last here stands None = here ≡ None
Found mark last here stands (Some k) = (k ≤ mark → here ≡ None) × (last < k → here ≡ None) × (mark < k → k ≤ last → here ≡ stands)

-- what a walk from the mark found, up to the last number that it came by
pub record IsWalkedTo (h : Holdings) (mark last : ℕ) (m : Entries) : Type 0 where
  pub onward : mark ≤ last
  pub found : (q : List ℕ) → Found mark last (finmap.get m q) (finmap.get h.entries q) (finmap.get h.latest q)

same_number : (k : ℕ) → k ≤ k
same_number k = omega arith

none_yet : (mark : ℕ) (here stands : Option StampedWrite) (o : Option ℕ) → here ≡ None → Found mark mark here stands o
none_yet mark here stands None none = none
none_yet mark here stands (Some k) none = (λ _. none, λ _. none, λ above below. absurd (never_both mark k above below))

-- rule: marks
pub walk_begins : (h : Holdings) (mark : ℕ) → IsWalkedTo h mark mark finmap.empty
walk_begins h mark = record { onward = same_number mark; found = λ q. none_yet mark _ (finmap.get h.entries q) (finmap.get h.latest q) (finmap.get-empty text_cmp q) }

-- the name that the walk comes by
found_here : (mark last number : ℕ) (here stands : Option StampedWrite) → mark ≤ last → last < number → here ≡ stands → Found mark number here stands (Some number)
found_here mark last number here stands onward above is = (λ before. absurd (not_before mark last number onward above before), λ later. absurd (not_itself number later), λ _ _. is)

-- and any other
found_there : (mark last number : ℕ) (here stands : Option StampedWrite) (o : Option ℕ) → last < number → (IfSome o (λ k. last < k → number ≤ k)) → (o ≡ Some number → ⊥) → Found mark last here stands o → Found mark number here stands o
found_there mark last number here stands None above least other found = found
found_there mark last number here stands (Some k) above least other found = (
  found.0,
  λ later. found.1 (later_yet last number k above later),
  λ past upto.
      elim (cases_lt last k) [
        | inl next ↦ absurd (other (ap Some (same_at number k (least next) upto)))
        | inr before ↦ found.2 past before
      ],
)

module _ (h : Holdings) (mark : ℕ) where
  found_at : (last number : ℕ) (w : StampedWrite) (m : Entries) (q : List ℕ) (same : Bool) → bytes_eq w.name q ≡ same → IsNumbered h → IsNextChange h last number w → IsWalkedTo h mark last m
      → Found mark number (cond same (Some w) (finmap.get m q)) (finmap.get h.entries q) (finmap.get h.latest q)
  found_at last number w m q true same numbered next walked =
      let is : w.name ≡ q = bytes_eq_tells w.name q same in
      subst (λ o. Found mark number (Some w) (finmap.get h.entries q) o) (sym (sym (ap (finmap.get h.latest) is) ∙ next.numbered))
      (found_here mark last number (Some w) (finmap.get h.entries q) walked.onward next.above (sym (sym (ap (finmap.get h.entries) is) ∙ next.stands)))
  found_at last number w m q false same numbered next walked =
      found_there mark last number (finmap.get m q) (finmap.get h.entries q) (finmap.get h.latest q) next.above (next.least q)
      (λ there. differs w.name q same (numbered.apart w.name q number next.numbered there)) (walked.found q)
    where
      differs : (n q : List ℕ) → bytes_eq n q ≡ false → n ≡ q → ⊥
      differs n q other is = let never : false ≡ true = sym other ∙ ap (bytes_eq n) (sym is) ∙ bytes_eq_same n in absurd cc

  -- rule: marks
  pub walk_on : (last number : ℕ) (w : StampedWrite) (m : Entries) → IsNumbered h → IsNextChange h last number w → IsWalkedTo h mark last m → IsWalkedTo h mark number (finmap.insert m w.name w)
  walk_on last number w m numbered next walked = record {
    onward = onward_to mark last number walked.onward next.above;
    found = λ q. subst (λ here. Found mark number here (finmap.get h.entries q) (finmap.get h.latest q)) (sym (get-insert m w.name w q)) (found_at last number w m q (bytes_eq w.name q) refl numbered next walked);
  }

  all_found : (last : ℕ) (here stands : Option StampedWrite) (o : Option ℕ) → IfSome o (λ k. k ≤ last) → Found mark last here stands o → here ≡ cond (option_map_or (nat_lt mark) o false) stands None
  all_found last here stands None all found = found
  all_found last here stands (Some k) all found =
      elim (cases_lt mark k) [
        | inl above ↦ found.2 above all ∙ ap (λ b. cond b stands None) (sym (lt-ltb mark k above))
        | inr below ↦ found.0 below ∙ ap (λ b. cond b stands None) (sym (le-ltb mark k below))
      ]

  -- rule: marks
  -- where nothing changed after that, it found all that changed after the mark
  pub walk_ends : (last : ℕ) (m : Entries) → NoneAfter h last → IsWalkedTo h mark last m → m ≡ finmap.retain_keys h.entries (is_above h mark)
  walk_ends last m none walked =
      same_names m (finmap.retain_keys h.entries (is_above h mark))
      (λ q. all_found last (finmap.get m q) (finmap.get h.entries q) (finmap.get h.latest q) (none q) (walked.found q)
      ∙ sym (finmap.get-retain_keys h.entries (is_above h mark) q (λ x tied. ap (is_above h mark) (sym (text_cmp-IsAntisymmetric q x tied)))))

-- the walk as its calls leave it
pub walk_further : (h : Holdings) (mark last number : ℕ) (w copy : StampedWrite) (name : List ℕ) (m left : Entries) → IsNumbered h → IsNextChange h last number w → name ≡ w.name → copy ≡ w → left ≡ finmap.insert m name copy
    → IsWalkedTo h mark last m → IsWalkedTo h mark number left
walk_further h mark last number w copy name m left numbered next named same put walked =
    subst (IsWalkedTo h mark number) (sym (put ∙ (λ i. finmap.insert m (named i) (same i)))) (walk_on h mark last number w m numbered next walked)
