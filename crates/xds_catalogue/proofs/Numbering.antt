-- The numbers of entries, over whole lists of writes.
use Rattle.std.proofs.Common.{◌≡◌, ◌⊎◌, inl, inr, ℕ, ◌+◌, ◌≤◌, List, [], ◌∷◌, ◌++◌, Bool, true, false, cond, Option, Some, None, refl, sym, ap, subst, ◌∙◌, arith, append_assoc, append-nil}
use Rattle.std.specs.Prelude.{bytes_eq, is_some, IfSome, if◌then◌else◌}
use Rattle.std.specs.Ordering.{is_eq}
use Rattle.std.specs.FinMap as finmap
use Rattle.std.proofs.lemmas.Bool.{true≢false}
use Rattle.std.proofs.lemmas.Cmp.{nat_list_cmp_total}
use Rattle.std.proofs.lemmas.Map.Text.{is_eq-slice_cmp}
use Rattle.std.proofs.lemmas.Slice.Eq.{bytes_eq-Decides}
use Rattle.std.proofs.lemmas.Option.{same_Some}
use Rattle.std.proofs.Math.Nat.{add_assoc}
use Rattle.xds_resource.specs.Writes.{StampedWrite, text_cmp}
use Rattle.xds_resource.proofs.WriteTies.{text_cmp-IsAntisymmetric}
use Rattle.xds_catalogue.specs.Holdings.{Holdings, IsCatalogue, IsNumbered, nothing_held}
use Rattle.xds_catalogue.specs.Changes.{surpasses, is_news, changes_after, change_list, NoneChanges, IsLastChange}
use Rattle.xds_catalogue.specs.Joins.{joined}
use Rattle.xds_catalogue.specs.Laws.{EntriesAreNumbered, NoChangeKeepsNumbers, NumberIsOfTheLast}
use Rattle.xds_catalogue.proofs.Joining.{joined_again}
use Rattle.xds_catalogue.proofs.Lookups.{get-inserted, from_own_entries}
use Rattle.xds_catalogue.proofs.OneWrite.{changed, joined-news, joined-old, joined-none}

pub some_from : {X : Type 0} (o : Option X) (x : X) (P : X → Type 0) → o ≡ Some x → IfSome o P → P x
some_from o x P is h = subst (λ r. IfSome r P) is h

pub if_some : {X : Type 0} (o : Option X) (P : X → Type 0) → ((x : X) → o ≡ Some x → P x) → IfSome o P
if_some None P h = tt
if_some (Some x) P h = h x refl

named_changed : (h : Holdings) (w : StampedWrite) → IsCatalogue h.entries → IsCatalogue (changed h w).entries
named_changed h w named q = elim (get-inserted nat_list_cmp_total text_cmp-IsAntisymmetric h.entries w.name w q) [
  | inl (here, has) ↦ subst (λ o. IfSome o (λ v. v.name ≡ q)) (sym has) here
  | inr (other, has) ↦ subst (λ o. IfSome o (λ v. v.name ≡ q)) (sym has) (named q)
]

each_changed : (h : Holdings) (w : StampedWrite) → IsNumbered h → (q : List ℕ) → is_some (finmap.get (changed h w).latest q) ≡ is_some (finmap.get (changed h w).entries q)
each_changed h w numbered q = elim (get-inserted nat_list_cmp_total text_cmp-IsAntisymmetric h.entries w.name w q) [
  | inl (here, has) ↦ elim (get-inserted nat_list_cmp_total text_cmp-IsAntisymmetric h.latest w.name (h.changes + 1) q) [
    | inl (again, number) ↦ ap is_some number ∙ sym (ap is_some has)
    | inr (other, number) ↦ absurd (other here)
  ]
  | inr (other, has) ↦ elim (get-inserted nat_list_cmp_total text_cmp-IsAntisymmetric h.latest w.name (h.changes + 1) q) [
    | inl (here, number) ↦ absurd (other here)
    | inr (again, number) ↦ ap is_some number ∙ numbered.each q ∙ sym (ap is_some has)
  ]
]

counted_changed : (h : Holdings) (w : StampedWrite) → IsNumbered h → (q : List ℕ) (k : ℕ) → finmap.get (changed h w).latest q ≡ Some k → (1 ≤ k) × (k ≤ h.changes + 1)
counted_changed h w numbered q k is = elim (get-inserted nat_list_cmp_total text_cmp-IsAntisymmetric h.latest w.name (h.changes + 1) q) [
  | inl (here, has) ↦ let same : h.changes + 1 ≡ k = same_Some _ _ (sym has ∙ is) in (omega arith, omega arith)
  | inr (other, has) ↦
      let old = some_from _ k (λ k. (1 ≤ k) × (k ≤ h.changes)) (sym has ∙ is) (numbered.counted q) in
      let to = old.1 in
      (old.0, omega arith)
]

-- an entry has the new number, or it keeps its own, which is no greater than the changes before
new_or_old : (h : Holdings) (w : StampedWrite) → IsNumbered h → (q : List ℕ) (k : ℕ) → finmap.get (changed h w).latest q ≡ Some k → ((w.name ≡ q) × (k ≡ h.changes + 1)) ⊎ ((k ≤ h.changes) × (finmap.get h.latest q ≡ Some k))
new_or_old h w numbered q k is = elim (get-inserted nat_list_cmp_total text_cmp-IsAntisymmetric h.latest w.name (h.changes + 1) q) [
  | inl (here, has) ↦ inl (here, same_Some _ _ (sym is ∙ has))
  | inr (other, has) ↦ inr ((some_from _ k (λ k. (1 ≤ k) × (k ≤ h.changes)) (sym has ∙ is) (numbered.counted q)).1, sym has ∙ is)
]

apart_changed : (h : Holdings) (w : StampedWrite) → IsNumbered h → (p q : List ℕ) (k : ℕ) → finmap.get (changed h w).latest p ≡ Some k → finmap.get (changed h w).latest q ≡ Some k → p ≡ q
apart_changed h w numbered p q k at_p at_q = elim (new_or_old h w numbered p k at_p) [
  | inl (here, new) ↦ elim (new_or_old h w numbered q k at_q) [
    | inl (there, again) ↦ sym here ∙ there
    | inr (old, has) ↦ absurd (omega arith)
  ]
  | inr (old, has) ↦ elim (new_or_old h w numbered q k at_q) [
    | inl (there, new) ↦ absurd (omega arith)
    | inr (older, had) ↦ numbered.apart p q k has had
  ]
]

numbered_changed : (h : Holdings) (w : StampedWrite) → IsNumbered h → IsNumbered (changed h w)
numbered_changed h w numbered = record {
  each = each_changed h w numbered;
  counted = λ q. if_some _ (λ k. (1 ≤ k) × (k ≤ h.changes + 1)) (counted_changed h w numbered q);
  apart = apart_changed h w numbered;
}

-- one write, whether it is news or not
one_numbered : (h : Holdings) (w : StampedWrite) (b : Bool) → surpasses w (finmap.get h.entries w.name) ≡ b → IsCatalogue h.entries → IsNumbered h → IsCatalogue (joined h (w ∷ [])).entries × IsNumbered (joined h (w ∷ []))
one_numbered h w true above named numbered =
    let is = joined-news h w named above in
    (subst (λ k. IsCatalogue k.entries) (sym is) (named_changed h w named), subst IsNumbered (sym is) (numbered_changed h w numbered))
one_numbered h w false below named numbered =
    let is = joined-old h w named below in
    (subst (λ k. IsCatalogue k.entries) (sym is) named, subst IsNumbered (sym is) numbered)

-- rule: marks
pub entries_are_numbered : EntriesAreNumbered
entries_are_numbered h [] named numbered = subst IsNumbered (sym (joined-none h named)) numbered
entries_are_numbered h (w ∷ ws) named numbered =
    let one = one_numbered h w _ refl named numbered in
    subst IsNumbered (joined_again h (w ∷ []) ws) (entries_are_numbered (joined h (w ∷ [])) ws one.0 one.1)

pub nothing_numbered : IsNumbered nothing_held
nothing_numbered = record {
  each = λ q. ap is_some (finmap.get-empty text_cmp q) ∙ sym (ap is_some (finmap.get-empty text_cmp q));
  counted = λ q. subst (λ o. IfSome o (λ k. (1 ≤ k) × (k ≤ 0))) (sym (finmap.get-empty text_cmp q)) tt;
  apart = λ p q k at_p at_q. none_there p q k (sym (finmap.get-empty text_cmp p) ∙ at_p);
}
  where
    none_there : (p q : List ℕ) (k : ℕ) → None ≡ Some k → p ≡ q
    none_there p q k e = absurd cc

pub neither : (b : Bool) (n : ℕ) → (if b then 1 else 0) + n ≡ 0 → (b ≡ false) × (n ≡ 0)
neither true n e = absurd (omega arith)
neither false n e = (refl, omega arith)

nothing_after : (l here : List (List ℕ × ℕ)) → l ≡ [] → here ≡ [] → l ++ here ≡ []
nothing_after l here e f = (λ i. e i ++ f i)

-- where nothing changes, there are no changes to list
change_list-none : (before : List StampedWrite) (n : ℕ) (ws : List StampedWrite) → changes_after before ws ≡ 0 → change_list before n ws ≡ []
change_list-none before n [] none = refl
change_list-none before n (w ∷ ws) none =
    let parts = neither (is_news before w) (changes_after (before ++ w ∷ []) ws) none in
    nothing_after _ _ (change_list-none (before ++ w ∷ []) (n + (if is_news before w then 1 else 0)) ws parts.1) (ap (λ b. if b then (w.name, n + 1) ∷ [] else []) parts.0)

-- rule: marks
pub no_change_keeps_numbers : NoChangeKeepsNumbers
no_change_keeps_numbers h ws none = ap (λ l. finmap.from_entries (l ++ finmap.entries h.latest)) (change_list-none (finmap.values h.entries) h.changes ws none) ∙ from_own_entries h.latest

-- what is found in a list of changes
abbrev Told : List StampedWrite → ℕ → List StampedWrite → List ℕ → Type 0
Told before n ws name =
    (NoneChanges before ws name × (finmap.find text_cmp name (change_list before n ws) ≡ None))
    ⊎ ((k : ℕ) × IsLastChange before ws name k × (finmap.find text_cmp name (change_list before n ws) ≡ Some (n + k)))

no_split : (front : List StampedWrite) (w : StampedWrite) (back : List StampedWrite) → [] ≡ front ++ w ∷ back → ⊥
no_split [] w back e = cc
no_split (x ∷ front) w back e = cc

left_at : (n : ℕ) (o p : Option ℕ) (k : ℕ) (b : Bool) → (o ≡ Some k → p ≡ Some k) → cond b (Some n) o ≡ Some k → cond b (Some n) p ≡ Some k
left_at n o p k true rest e = e
left_at n o p k false rest e = rest e

right_at : (n : ℕ) (o p r : Option ℕ) (b : Bool) → (o ≡ None → p ≡ r) → cond b (Some n) o ≡ None → cond b (Some n) p ≡ r
right_at n o p r true rest e = absurd cc
right_at n o p r false rest e = rest e

find_left : (xs ys : List (List ℕ × ℕ)) (q : List ℕ) (k : ℕ) → finmap.find text_cmp q xs ≡ Some k → finmap.find text_cmp q (xs ++ ys) ≡ Some k
find_left [] ys q k e = absurd cc
find_left (x ∷ xs) ys q k e = left_at x.1 (finmap.find text_cmp q xs) (finmap.find text_cmp q (xs ++ ys)) k (is_eq (text_cmp q x.0)) (λ h. find_left xs ys q k h) e

find_right : (xs ys : List (List ℕ × ℕ)) (q : List ℕ) → finmap.find text_cmp q xs ≡ None → finmap.find text_cmp q (xs ++ ys) ≡ finmap.find text_cmp q ys
find_right [] ys q e = refl
find_right (x ∷ xs) ys q e = right_at x.1 (finmap.find text_cmp q xs) (finmap.find text_cmp q (xs ++ ys)) (finmap.find text_cmp q ys) (is_eq (text_cmp q x.0)) (λ h. find_right xs ys q h) e

-- a later write was the last to change the entry
later : (before : List StampedWrite) (n : ℕ) (x : StampedWrite) (ws : List StampedWrite) (name : List ℕ) (k : ℕ) → IsLastChange (before ++ x ∷ []) ws name k
    → IsLastChange before (x ∷ ws) name ((if is_news before x then 1 else 0) + k)
later before n x ws name k is = record {
  front = x ∷ is.front;
  write = is.write;
  back = is.back;
  splits = ap (λ l. x ∷ l) is.splits;
  named = is.named;
  changes = ap (λ b. is_news b is.write) (sym (append_assoc before (x ∷ []) is.front)) ∙ is.changes;
  last = subst (λ b. NoneChanges (b ++ is.write ∷ []) is.back name) (append_assoc before (x ∷ []) is.front) is.last;
  counts = ap (λ m. (if is_news before x then 1 else 0) + m) is.counts;
}

one_counts : (b : Bool) → b ≡ true → 1 ≡ (if b then 1 else 0) + 0
one_counts b e = sym (ap (λ b. (if b then 1 else 0) + 0) e)

-- this one was
this_one : (before : List StampedWrite) (x : StampedWrite) (ws : List StampedWrite) (name : List ℕ) → x.name ≡ name → is_news before x ≡ true → NoneChanges (before ++ x ∷ []) ws name → IsLastChange before (x ∷ ws) name 1
this_one before x ws name named news none = record {
  front = [];
  write = x;
  back = ws;
  splits = refl;
  named = named;
  changes = ap (λ b. is_news b x) (append-nil before) ∙ news;
  last = subst (λ b. NoneChanges (b ++ x ∷ []) ws name) (sym (append-nil before)) none;
  counts = one_counts (is_news before x) news;
}

heads : (x y : StampedWrite) (xs ys : List StampedWrite) → x ∷ xs ≡ y ∷ ys → (y ≡ x) × (xs ≡ ys)
heads x y xs ys e = (cc, cc)

-- none was
none_more : (before : List StampedWrite) (x : StampedWrite) (ws : List StampedWrite) (name : List ℕ) → (x.name ≡ name → is_news before x ≡ false) → NoneChanges (before ++ x ∷ []) ws name → NoneChanges before (x ∷ ws) name
none_more before x ws name here none [] w back splits named =
    let same = (heads x w ws back splits).0 in
    (λ i. is_news (append-nil before i) (same i)) ∙ here (ap (λ v. v.name) (sym same) ∙ named)
none_more before x ws name here none (y ∷ front) w back splits named =
    let rest = heads x y ws (front ++ w ∷ back) splits in
    ap (λ b. is_news b w) (ap (λ v. before ++ v ∷ front) rest.0 ∙ sym (append_assoc before (x ∷ []) front)) ∙ none front w back rest.1 named

told_more : (before : List StampedWrite) (n : ℕ) (x : StampedWrite) (ws : List StampedWrite) (name : List ℕ) (b t : Bool) → is_news before x ≡ b → bytes_eq name x.name ≡ t
    → Told (before ++ x ∷ []) (n + (if is_news before x then 1 else 0)) ws name → Told before n (x ∷ ws) name
told_more before n x ws name b t news tie (inr (k, is, found)) =
    let one = (if is_news before x then 1 else 0) in
    inr (one + k, later before n x ws name k is, find_left _ _ name _ found ∙ ap Some (add_assoc n one k))
told_more before n x ws name true true news tie (inl (none, missing)) =
    let named : x.name ≡ name = sym ((bytes_eq-Decides name x.name).0 tie) in
    inr (1, this_one before x ws name named news none, find_right _ _ name missing ∙ ap (λ b. finmap.find text_cmp name (if b then (x.name, n + 1) ∷ [] else [])) news ∙ ap (λ b. cond b (Some (n + 1)) None) (is_eq-slice_cmp name x.name ∙ tie))
told_more before n x ws name true false news tie (inl (none, missing)) =
    let other : x.name ≡ name → is_news before x ≡ false = λ named. absurd (true≢false (sym ((bytes_eq-Decides name x.name).1 (sym named)) ∙ tie)) in
    inl (none_more before x ws name other none, find_right _ _ name missing ∙ ap (λ b. finmap.find text_cmp name (if b then (x.name, n + 1) ∷ [] else [])) news ∙ ap (λ b. cond b (Some (n + 1)) None) (is_eq-slice_cmp name x.name ∙ tie))
told_more before n x ws name false t news tie (inl (none, missing)) =
    inl (none_more before x ws name (λ _. news) none, find_right _ _ name missing ∙ ap (λ b. finmap.find text_cmp name (if b then (x.name, n + 1) ∷ [] else [])) news)

told : (before : List StampedWrite) (n : ℕ) (ws : List StampedWrite) (name : List ℕ) → Told before n ws name
told before n [] name = inl (λ front w back splits named. absurd (no_split front w back splits), refl)
told before n (x ∷ ws) name = told_more before n x ws name _ _ refl refl (told (before ++ x ∷ []) (n + (if is_news before x then 1 else 0)) ws name)

-- rule: marks
pub number_is_of_the_last : NumberIsOfTheLast
number_is_of_the_last h ws name =
    let list = change_list (finmap.values h.entries) h.changes ws in
    let get = finmap.get-from_entries nat_list_cmp_total (list ++ finmap.entries h.latest) name in
    elim (told (finmap.values h.entries) h.changes ws name) [
      | inl (none, missing) ↦ inl (none, get ∙ find_right list (finmap.entries h.latest) name missing ∙ sym (finmap.get-entries h.latest name))
      | inr (k, is, found) ↦ inr (k, is, get ∙ find_left list (finmap.entries h.latest) name _ found)
    ]
