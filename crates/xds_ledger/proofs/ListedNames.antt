-- Which names are listed, once those were put that requests touched.
use Rattle.std.proofs.Common.{◌≡◌, inl, inr, ℕ, List, Bool, true, false, ◌||◌, Some, None, Result, Ok, Err, sym, ap, subst, ◌∙◌}
use Rattle.std.specs.Prelude.{is_some, IfSome, IfOk}
use Rattle.std.specs.List.{list_any}
use Rattle.std.specs.FinMap as finmap
use Rattle.std.specs.FinSet as set
use Rattle.xds_resource.specs.declared.refusal.Refusal.{Refusal}
use Rattle.xds_resource.specs.declared.types.TypeName.{TypeName}
use Rattle.xds_resource.specs.Writes.{text_cmp}
use Rattle.xds_interest.proofs.Texts.{contains-from_texts}
use Rattle.xds_ledger.specs.Listed.{Listed, is_listed, from_mark}
use Rattle.xds_ledger.specs.declared.variant.VariantName.{VariantName}
use Rattle.xds_ledger.specs.Accepting.{is_named_since}
use Rattle.xds_ledger.specs.Ledgers.{Sent, Names, was_touched}
use Rattle.xds_ledger.specs.Lists.{Books, ListsNames, ListsNext, with_names}
use Rattle.xds_ledger.proofs.AsOffered.{named_if_touched}
use Rattle.xds_ledger.proofs.Suffices.{listed_with, mark_with}

-- once some names were put
pub mark_of_names : (old new : Listed) (names : List (List ℕ)) → new ≡ with_names old names → new.mark ≡ old.mark
mark_of_names old new names is = ap (λ (l : Listed). l.mark) is ∙ mark_with old names

pub listed_of_names : (old new : Listed) (names : List (List ℕ)) (of : set.FinSet text_cmp) → set.from_list names ≡ of → new ≡ with_names old names → (q : List ℕ) → is_listed new q ≡ (set.contains of q || is_listed old q)
listed_of_names old new names of are is q =
    ap (λ (l : Listed). is_listed l q) is ∙ listed_with old names q ∙ ap (λ b. b || is_listed old q) (sym (contains-from_texts names q) ∙ ap (λ s. set.contains s q) are)

-- at first none is listed
pub none_listed : (mark : ℕ) (l : Listed) (q : List ℕ) → l ≡ from_mark mark → is_listed l q ≡ false
none_listed mark l q is = ap (λ (x : Listed). is_listed x q) is ∙ ap is_some (finmap.get-empty text_cmp q)

-- the list once the unanswered response was accepted, with the touched names alone
pub touched_are_listed : (v : VariantName) (t : TypeName) (b : Books) (accepting : Bool) (names : Names) (sent : Sent) (m : ℕ) (r : Result Listed Refusal) → accepting ≡ true → names.touched.all ≡ false
    → b.account.sent ≡ Some sent → b.listed.sent_mark ≡ Some m → list_any (λ x. x.all) sent.touched ≡ false → IfOk r (λ l. l.mark ≡ m)
    → IfOk r (λ l. (q : List ℕ) → is_listed l q ≡ false → (is_named_since sent q ≡ false) × (set.contains names.touched.names q ≡ false) × (finmap.get names.versions q ≡ None))
    → IfOk r (λ l. ListsNext v t b accepting names l)
touched_are_listed v t b accepting names sent m (Err e) accepted none here there some mark known = tt
touched_are_listed v t b accepting names sent m (Ok l) accepted none here there some mark known = inl (record {
  accepted = accepted;
  mark = there ∙ ap Some (sym mark);
  since = subst (λ o. IfSome o (λ x. (name : List ℕ) → is_listed l name ≡ false → was_touched x name ≡ false)) (sym here) (λ name out. named_if_touched sent.touched name some ∙ (known name out).0);
  untouched = λ name out. (λ i. none i || (known name out).1 i);
  unsaid = λ name out. (known name out).2;
})

-- or with all of which the request may change what is owed
pub wider_is_listed : (v : VariantName) (t : TypeName) (b : Books) (accepting was : Bool) (names : Names) (r : Result Listed Refusal) → was ≡ accepting → IfOk r (λ l. ListsNames v t b was names l) → IfOk r (λ l. ListsNext v t b accepting names l)
wider_is_listed v t b accepting was names (Err e) same lists_it = tt
wider_is_listed v t b accepting was names (Ok l) same lists_it = inr (subst (λ x. ListsNames v t b x names l) same lists_it)
