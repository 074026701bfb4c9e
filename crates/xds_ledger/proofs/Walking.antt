-- A walk over the changes of a catalogue above a mark, which puts something at each name: what a map has up to a number, and at
-- the end.
use Rattle.std.proofs.Common.{◌≡◌, ℕ, ◌<◌, ◌≤◌, List, Bool, true, false, cond, Option, Some, None, refl, sym, ap, subst, ◌∙◌, inl, inr, arith}
use Rattle.std.specs.Prelude.{bytes_eq, nat_lt, if◌then◌else◌, IfSome}
use Rattle.std.specs.Option.{option_or, option_map_or}
use Rattle.std.specs.FinMap as finmap
use Rattle.std.proofs.lemmas.Bool.{cases_lt, lt-ltb, le-ltb}
use Rattle.xds_resource.specs.Writes.{StampedWrite, text_cmp}
use Rattle.xds_resource.specs.Names.{put_some}
use Rattle.xds_resource.proofs.NameMaps.{get-put_some, bytes_eq_same, bytes_eq_tells}
use Rattle.xds_catalogue.specs.Holdings.{Holdings, IsNumbered}
use Rattle.xds_catalogue.specs.Next.{NoneAfter, IsNextChange}
use Rattle.xds_ledger.specs.Listed.{is_since}
use Rattle.xds_ledger.proofs.Choosing.{le-itself}

-- What is found at a name, by the number of its latest change: what is to be there, once the walk came by that number, and what
-- was there before.
abbrev pub Found : {X : Type 0} → ℕ → ℕ → Option X → Option X → Option X → Option ℕ → Type 0
Found mark last here old wanted None = here ≡ old
Found mark last here old wanted (Some k) = (k ≤ mark → here ≡ old) × (last < k → here ≡ old) × (mark < k → k ≤ last → here ≡ wanted)

-- what a walk from the mark made of a map, which puts f at each name, up to the last number that it came by
pub record IsWalkedTo {X : Type 0} (h : Holdings) (mark last : ℕ) (f : List ℕ → Option X) (before m : finmap.FinMap text_cmp X) : Type 0 where
  pub onward : mark ≤ last
  pub found : (q : List ℕ) → Found mark last (finmap.get m q) (finmap.get before q) (option_or (f q) (finmap.get before q)) (finmap.get h.latest q)

pub never_both : (mark k : ℕ) → mark < k → k ≤ mark → ⊥
never_both mark k above below = omega arith

none_yet : {X : Type 0} (mark : ℕ) (old wanted : Option X) (o : Option ℕ) → Found mark mark old old wanted o
none_yet mark old wanted None = refl
none_yet mark old wanted (Some k) = (λ _. refl, λ _. refl, λ above below. absurd (never_both mark k above below))

pub onward_to : (mark last number : ℕ) → mark ≤ last → last < number → mark ≤ number
onward_to mark last number before above = omega arith

pub not_before : (mark last number : ℕ) → mark ≤ last → last < number → number ≤ mark → ⊥
not_before mark last number onward above before = omega arith

pub not_itself : (k : ℕ) → k < k → ⊥
not_itself k below = omega arith

pub later_yet : (last number k : ℕ) → last < number → number < k → last < k
later_yet last number k above later = omega arith

pub same_at : (number k : ℕ) → number ≤ k → k ≤ number → k ≡ number
same_at number k low high = omega arith

-- the name that the walk comes by
found_here : {X : Type 0} (mark last number : ℕ) (here old wanted : Option X) → mark ≤ last → last < number → here ≡ wanted → Found mark number here old wanted (Some number)
found_here mark last number here old wanted onward above is = (λ before. absurd (not_before mark last number onward above before), λ later. absurd (not_itself number later), λ _ _. is)

-- and any other
found_there : {X : Type 0} (mark last number : ℕ) (here old wanted : Option X) (o : Option ℕ) → last < number → IfSome o (λ k. last < k → number ≤ k) → (o ≡ Some number → ⊥) → Found mark last here old wanted o
    → Found mark number here old wanted o
found_there mark last number here old wanted None above least other found = found
found_there mark last number here old wanted (Some k) above least other found = (
  found.0,
  λ later. found.1 (later_yet last number k above later),
  λ past upto.
      elim (cases_lt last k) [
        | inl next ↦ absurd (other (ap Some (same_at number k (least next) upto)))
        | inr before ↦ found.2 past before
      ],
)

differs : (n q : List ℕ) → bytes_eq n q ≡ false → n ≡ q → ⊥
differs n q other is = let never : false ≡ true = sym other ∙ ap (bytes_eq n) (sym is) ∙ bytes_eq_same n in absurd cc

module _ {X : Type 0} (h : Holdings) (mark : ℕ) (f : List ℕ → Option X) (before : finmap.FinMap text_cmp X) where
  abbrev Walked : ℕ → finmap.FinMap text_cmp X → Type 0
  Walked last m = IsWalkedTo h mark last f before m

  pub walk_begins : Walked mark before
  walk_begins = record { onward = le-itself mark; found = λ q. none_yet mark (finmap.get before q) (option_or (f q) (finmap.get before q)) (finmap.get h.latest q) }

  -- what is at a name that the walk comes by only now
  old_here : (last number : ℕ) (w : StampedWrite) (m : finmap.FinMap text_cmp X) → IsNextChange h last number w → Walked last m → finmap.get m w.name ≡ finmap.get before w.name
  old_here last number w m next walked =
      (subst (Found mark last (finmap.get m w.name) (finmap.get before w.name) (option_or (f w.name) (finmap.get before w.name))) next.numbered (walked.found w.name)).1 next.above

  found_at : (last number : ℕ) (w : StampedWrite) (m : finmap.FinMap text_cmp X) (q : List ℕ) (same : Bool) → bytes_eq w.name q ≡ same → IsNumbered h → IsNextChange h last number w → Walked last m
      → Found mark number (cond same (option_or (f w.name) (finmap.get m q)) (finmap.get m q)) (finmap.get before q) (option_or (f q) (finmap.get before q)) (finmap.get h.latest q)
  found_at last number w m q true same numbered next walked =
      let is : w.name ≡ q = bytes_eq_tells w.name q same in
      subst (λ n. Found mark number (option_or (f w.name) (finmap.get m n)) (finmap.get before n) (option_or (f n) (finmap.get before n)) (finmap.get h.latest n)) is
      (subst (λ o. Found mark number (option_or (f w.name) (finmap.get m w.name)) (finmap.get before w.name) (option_or (f w.name) (finmap.get before w.name)) o) (sym next.numbered)
      (found_here mark last number (option_or (f w.name) (finmap.get m w.name)) (finmap.get before w.name) (option_or (f w.name) (finmap.get before w.name)) walked.onward next.above
      (ap (option_or (f w.name)) (old_here last number w m next walked))))
  found_at last number w m q false same numbered next walked =
      found_there mark last number (finmap.get m q) (finmap.get before q) (option_or (f q) (finmap.get before q)) (finmap.get h.latest q) next.above (next.least q)
      (λ there. differs w.name q same (numbered.apart w.name q number next.numbered there)) (walked.found q)

  pub walk_on : (last number : ℕ) (w : StampedWrite) (m : finmap.FinMap text_cmp X) → IsNumbered h → IsNextChange h last number w → Walked last m → Walked number (put_some m w.name (f w.name))
  walk_on last number w m numbered next walked = record {
    onward = onward_to mark last number walked.onward next.above;
    found = λ q. subst (λ here. Found mark number here (finmap.get before q) (option_or (f q) (finmap.get before q)) (finmap.get h.latest q)) (sym (get-put_some m w.name (f w.name) q))
        (found_at last number w m q (bytes_eq w.name q) refl numbered next walked);
  }

  -- the walk as its calls leave it
  pub walk_further : (last number : ℕ) (w : StampedWrite) (name : List ℕ) (o : Option X) (m left : finmap.FinMap text_cmp X) → IsNumbered h → IsNextChange h last number w → name ≡ w.name → o ≡ f name → left ≡ put_some m name o
      → Walked last m → Walked number left
  walk_further last number w name o m left numbered next named same put walked =
      subst (Walked number) (sym (put ∙ (λ i. put_some m (named i) ((same ∙ ap f named) i)))) (walk_on last number w m numbered next walked)

  all_found : (last : ℕ) (here old wanted : Option X) (o : Option ℕ) → IfSome o (λ k. k ≤ last) → Found mark last here old wanted o → here ≡ (if option_map_or (nat_lt mark) o false then wanted else old)
  all_found last here old wanted None all found = found
  all_found last here old wanted (Some k) all found =
      elim (cases_lt mark k) [
        | inl above ↦ found.2 above all ∙ ap (λ b. if b then wanted else old) (sym (lt-ltb mark k above))
        | inr below ↦ found.0 below ∙ ap (λ b. if b then wanted else old) (sym (le-ltb mark k below))
      ]

  -- where nothing changed after that, it came by all that changed after the mark
  pub walk_ends : (last : ℕ) (m : finmap.FinMap text_cmp X) → NoneAfter h last → Walked last m
      → (q : List ℕ) → finmap.get m q ≡ (if is_since h mark q then option_or (f q) (finmap.get before q) else finmap.get before q)
  walk_ends last m none walked q = all_found last (finmap.get m q) (finmap.get before q) (option_or (f q) (finmap.get before q)) (finmap.get h.latest q) (none q) (walked.found q)
