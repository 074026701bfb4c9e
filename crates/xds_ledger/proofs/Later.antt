-- That a catalogue to which writes came is a later one, write by write.
use Rattle.std.proofs.Common.{◌≡◌, ◌≢◌, inl, inr, ℕ, ◌+◌, ◌≤◌, List, [], ◌∷◌, Bool, true, false, Option, Some, None, refl, sym, subst, ◌∙◌, arith}
use Rattle.std.specs.Prelude.{IsSomeAnd}
use Rattle.std.specs.FinMap as finmap
use Rattle.std.proofs.lemmas.Cmp.{nat_list_cmp_total}
use Rattle.std.proofs.lemmas.Option.{none-some}
use Rattle.xds_resource.specs.Writes.{StampedWrite}
use Rattle.xds_resource.proofs.WriteTies.{text_cmp-IsAntisymmetric}
use Rattle.xds_catalogue.specs.Holdings.{Holdings, IsCatalogue}
use Rattle.xds_catalogue.specs.Changes.{surpasses}
use Rattle.xds_catalogue.specs.Joins.{joined}
use Rattle.xds_catalogue.proofs.Catalogues.{catalogue_of-IsCatalogue}
use Rattle.xds_catalogue.proofs.Joining.{joined_again}
use Rattle.xds_catalogue.proofs.Lookups.{get-inserted}
use Rattle.xds_catalogue.proofs.OneWrite.{changed, joined-news, joined-old, joined-none}
use Rattle.xds_ledger.specs.Listed.{IsPast, IsLater}
use Rattle.xds_ledger.specs.ListLaws.{JoinedIsLater}
use Rattle.xds_ledger.proofs.Choosing.{le-itself, le-onward}

some_within : (o : Option ℕ) (m n : ℕ) → m ≤ n → IsSomeAnd o (λ k. (1 ≤ k) × (k ≤ m)) → IsSomeAnd o (λ k. (1 ≤ k) × (k ≤ n))
some_within None m n low there = absurd there
some_within (Some k) m n low there = let to = there.1 in (there.0, omega arith)

-- what isn't above a mark isn't above a greater one
pub past_more : (h : Holdings) (m n : ℕ) (name : List ℕ) → m ≤ n → IsPast h m name → IsPast h n name
past_more h m n name low (inl absent) = inl absent
past_more h m n name low (inr there) = inr (some_within (finmap.get h.latest name) m n low there)

pub later_itself : (h : Holdings) → IsLater h h
later_itself h = record { grows = le-itself h.changes; past = λ name mark low past. past; same = λ name past. refl }

pub later_on : (a b c : Holdings) → IsLater a b → IsLater b c → IsLater a c
later_on a b c first second = record {
  grows = le-onward a.changes b.changes c.changes first.grows second.grows;
  past = λ name mark low past. first.past name mark low (second.past name mark (le-onward mark a.changes b.changes low first.grows) past);
  same = λ name past.
      second.same name (past_more c a.changes b.changes name first.grows past) ∙ first.same name (second.past name a.changes first.grows past);
}

-- ---- one write that changes an entry

too_great : (c mark : ℕ) → mark ≤ c → c + 1 ≤ mark → ⊥
too_great c mark low high = omega arith

new_number : (o : Option ℕ) (c mark : ℕ) → o ≡ Some (c + 1) → mark ≤ c → IsSomeAnd o (λ k. (1 ≤ k) × (k ≤ mark)) → ⊥
new_number o c mark is low there = too_great c mark low (subst (λ p. IsSomeAnd p (λ k. (1 ≤ k) × (k ≤ mark))) is there).1

other_past : (h : Holdings) (w : StampedWrite) (mark : ℕ) (name : List ℕ) → mark ≤ h.changes → IsPast (changed h w) mark name → w.name ≢ name
other_past h w mark name low (inl absent) named = elim (get-inserted nat_list_cmp_total text_cmp-IsAntisymmetric h.entries w.name w name) [
  | inl (here, has) ↦ none-some w (sym absent ∙ has)
  | inr (other, has) ↦ other named
]
other_past h w mark name low (inr there) named = elim (get-inserted nat_list_cmp_total text_cmp-IsAntisymmetric h.latest w.name (h.changes + 1) name) [
  | inl (here, has) ↦ new_number _ h.changes mark has low there
  | inr (other, has) ↦ other named
]

entry_stays : (h : Holdings) (w : StampedWrite) (name : List ℕ) → w.name ≢ name → finmap.get (changed h w).entries name ≡ finmap.get h.entries name
entry_stays h w name apart = elim (get-inserted nat_list_cmp_total text_cmp-IsAntisymmetric h.entries w.name w name) [
  | inl (here, has) ↦ absurd (apart here)
  | inr (other, has) ↦ has
]

number_stays : (h : Holdings) (w : StampedWrite) (name : List ℕ) → w.name ≢ name → finmap.get (changed h w).latest name ≡ finmap.get h.latest name
number_stays h w name apart = elim (get-inserted nat_list_cmp_total text_cmp-IsAntisymmetric h.latest w.name (h.changes + 1) name) [
  | inl (here, has) ↦ absurd (apart here)
  | inr (other, has) ↦ has
]

past_at : (h : Holdings) (w : StampedWrite) (mark : ℕ) (name : List ℕ) → w.name ≢ name → IsPast (changed h w) mark name → IsPast h mark name
past_at h w mark name apart (inl absent) = inl (sym (entry_stays h w name apart) ∙ absent)
past_at h w mark name apart (inr there) = inr (subst (λ o. IsSomeAnd o (λ k. (1 ≤ k) × (k ≤ mark))) (number_stays h w name apart) there)

one_more : (c : ℕ) → c ≤ c + 1
one_more c = omega arith

later_changed : (h : Holdings) (w : StampedWrite) → IsLater h (changed h w)
later_changed h w = record {
  grows = one_more h.changes;
  past = λ name mark low past. past_at h w mark name (other_past h w mark name low past) past;
  same = λ name past. entry_stays h w name (other_past h w h.changes name (le-itself h.changes) past);
}

-- ---- any writes

one_later : (h : Holdings) (w : StampedWrite) (b : Bool) → surpasses w (finmap.get h.entries w.name) ≡ b → IsCatalogue h.entries → IsLater h (joined h (w ∷ []))
one_later h w true above named = subst (IsLater h) (sym (joined-news h w named above)) (later_changed h w)
one_later h w false below named = subst (IsLater h) (sym (joined-old h w named below)) (later_itself h)

pub joined_is_later : JoinedIsLater
joined_is_later h [] named = subst (IsLater h) (sym (joined-none h named)) (later_itself h)
joined_is_later h (w ∷ ws) named =
    let next : Holdings = joined h (w ∷ []) in
    subst (IsLater h) (joined_again h (w ∷ []) ws)
    (later_on h next (joined next ws) (one_later h w (surpasses w (finmap.get h.entries w.name)) refl named) (joined_is_later next ws (catalogue_of-IsCatalogue _)))
