-- A catalogue that is looked at in the order of its changes, from a mark on: something is known of each name up to a number.
use Rattle.std.proofs.Common.{◌≡◌, ℕ, ◌<◌, ◌≤◌, List, true, false, Option, Some, None, refl, sym, ap, subst, ◌∙◌, inl, inr, arith}
use Rattle.std.specs.Prelude.{nat_lt, IfSome}
use Rattle.std.specs.Option.{option_map_or}
use Rattle.std.specs.FinMap as finmap
use Rattle.std.proofs.lemmas.Bool.{cases_lt, le-ltb}
use Rattle.xds_resource.specs.Writes.{StampedWrite}
use Rattle.xds_catalogue.specs.Holdings.{Holdings, IsNumbered}
use Rattle.xds_catalogue.specs.Next.{NoneAfter, IsNextChange}
use Rattle.xds_ledger.specs.Listed.{is_since}
use Rattle.xds_ledger.proofs.Walking.{never_both}

-- P holds of each name whose latest change has a number above the mark and up to this one.
abbrev pub LookedAt : (List ℕ → Type 0) → Holdings → ℕ → ℕ → Type 0
LookedAt P h mark after = (name : List ℕ) (k : ℕ) → finmap.get h.latest name ≡ Some k → mark < k → k ≤ after → P name

same_number : (k number : ℕ) → k ≤ number → number ≤ k → k ≡ number
same_number k number low high = omega arith

module _ (P : List ℕ → Type 0) (h : Holdings) (mark : ℕ) where
  pub none_looked_at : LookedAt P h mark mark
  none_looked_at name k is from none = absurd (never_both mark k from none)

  pub one_looked_at : (after number : ℕ) (w : StampedWrite) → IsNumbered h → IsNextChange h after number w → P w.name → LookedAt P h mark after → LookedAt P h mark number
  one_looked_at after number w numbered next here before name k is from low =
      elim (cases_lt after k) [
        | inl later ↦
            let least : number ≤ k = subst (λ o. IfSome o (λ k. after < k → number ≤ k)) is (next.least name) later in
            subst P (sym (numbered.apart name w.name number (is ∙ ap Some (same_number k number low least)) next.numbered)) here
        | inr earlier ↦ before name k is from earlier
      ]

  since_number : (k : ℕ) → nat_lt mark k ≡ true → mark < k
  since_number k since = elim (cases_lt mark k) [
    | inl above ↦ above
    | inr below ↦ let never : true ≡ false = sym since ∙ le-ltb mark k below in absurd cc
  ]

  all_at : (after : ℕ) (name : List ℕ) (o : Option ℕ) → finmap.get h.latest name ≡ o → option_map_or (nat_lt mark) o false ≡ true → IfSome o (λ k. k ≤ after) → LookedAt P h mark after → P name
  all_at after name None is since none before = absurd cc
  all_at after name (Some k) is since none before = before name k is (since_number k since) none

  -- P holds of each name that changed since
  pub all_looked_at : (after : ℕ) → NoneAfter h after → LookedAt P h mark after → (name : List ℕ) → is_since h mark name ≡ true → P name
  all_looked_at after none before name since = all_at after name (finmap.get h.latest name) refl since (none name) before
