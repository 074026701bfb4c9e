-- A response's resources, looked at one by one.
use Rattle.std.proofs.Common.{◌≡◌, ℕ, ◌+◌, ◌<◌, ◌≤◌, List, map, drop, length, get_or, Option, Some, None, sym, ap, ◌∙◌}
use Rattle.std.specs.Option.{option_or}
use Rattle.std.proofs.lemmas.List.{drop_all}
use Rattle.xds_resource.specs.declared.types.TypeName.{TypeName}
use Rattle.xds_resource.proofs.BoolsAndLists.{drop_here}
use Rattle.xds_cache.specs.Shelves.{Wants, Cache}
use Rattle.xds_cache.specs.Faults.{Test, Stated, fault_of, and_stated, first_fault, stated_by}

module _ {A B : Type 0} (v : A → B) (st : B → Stated) (t : TypeName) (test : Test) (removed : Wants) (xs : List A) (i : ℕ) where
  abbrev faults : Cache → List A → Option (List ℕ)
  faults now l = first_fault t test removed now (map st (map v l))

  abbrev states : Cache → List A → Cache
  states now l = stated_by t now (map st (map v l))

  -- rule: whole-or-nothing
  pub fault_more : (x : A) (now next : Cache) (w : Option (List ℕ)) → i < length xs → x ≡ get_or xs i x → fault_of t test removed now (st (v x)) ≡ None → next ≡ and_stated t now (st (v x))
      → faults now (drop i xs) ≡ w → faults next (drop (i + 1) xs) ≡ w
  fault_more x now next w within is none stated so_far =
      sym (ap (faults now) (drop_here xs i x x within is) ∙ (λ j. option_or (none j) (faults (sym stated j) (drop (i + 1) xs)))) ∙ so_far

  -- rule: whole-or-nothing
  pub stated_more : (x : A) (now next : Cache) (w : Cache) → i < length xs → x ≡ get_or xs i x → next ≡ and_stated t now (st (v x))
      → states now (drop i xs) ≡ w → states next (drop (i + 1) xs) ≡ w
  stated_more x now next w within is stated so_far =
      sym (ap (states now) (drop_here xs i x x within is) ∙ (λ j. states (sym stated j) (drop (i + 1) xs))) ∙ so_far

  -- rule: whole-or-nothing
  pub fault_here : (x : A) (now : Cache) (w o : Option (List ℕ)) (f : List ℕ) → i < length xs → x ≡ get_or xs i x → o ≡ fault_of t test removed now (st (v x)) → o ≡ Some f
      → faults now (drop i xs) ≡ w → o ≡ w
  fault_here x now w o f within is told some so_far =
      some ∙ ap (λ p. option_or p (faults (and_stated t now (st (v x))) (drop (i + 1) xs))) (sym some ∙ told) ∙ sym (ap (faults now) (drop_here xs i x x within is)) ∙ so_far

  pub fault_nowhere : (now : Cache) (w : Option (List ℕ)) → length xs ≤ i → faults now (drop i xs) ≡ w → None ≡ w
  fault_nowhere now w all so_far = sym (ap (faults now) (drop_all i xs all)) ∙ so_far

  pub stated_all : (now : Cache) (w : Cache) → length xs ≤ i → states now (drop i xs) ≡ w → now ≡ w
  stated_all now w all so_far = sym (ap (states now) (drop_all i xs all)) ∙ so_far
