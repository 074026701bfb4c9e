-- What one write changes, and what a list of changes has.
use Rattle.std.proofs.Common.{◌≡◌, ℕ, ◌+◌, List, [], ◌∷◌, ◌++◌, Bool, true, false, cond, Option, Some, refl, sym, ap, subst, ◌∙◌, arith, append_assoc, append-nil}
use Rattle.std.specs.Prelude.{bytes_eq, IfSome, if◌then◌else◌}
use Rattle.std.specs.FinMap as finmap
use Rattle.std.proofs.lemmas.Cmp.{nat_list_cmp_total}
use Rattle.std.proofs.Math.Nat.{add_assoc}
use Rattle.xds_resource.specs.Writes.{StampedWrite, text_cmp}
use Rattle.xds_resource.specs.Best.{greater, best}
use Rattle.xds_resource.proofs.BestWrites.{best_of_both}
use Rattle.xds_catalogue.specs.Holdings.{Entries, Latest, Holdings, nothing_held, catalogue_of, IsCatalogue}
use Rattle.xds_catalogue.specs.Changes.{surpasses, is_news, changes_after, change_list}
use Rattle.xds_catalogue.specs.Joins.{joined}
use Rattle.xds_catalogue.proofs.Catalogues.{tie-bytes_eq, get-catalogue_of, best-values, same_entries}
use Rattle.xds_catalogue.proofs.News.{best-push_named, best-push_other, best-push_old}
use Rattle.xds_catalogue.proofs.Lookups.{from_own_entries}

pub is_news-held : (m : Entries) (w : StampedWrite) → IsCatalogue m → is_news (finmap.values m) w ≡ surpasses w (finmap.get m w.name)
is_news-held m w named = ap (surpasses w) (best-values m named w.name)

-- what stands once a write was put there
abbrev pub changed : Holdings → StampedWrite → Holdings
changed h w = record { entries = finmap.insert h.entries w.name w; changes = h.changes + 1; latest = finmap.insert h.latest w.name (h.changes + 1) }

put_at : (m : Entries) (w : StampedWrite) (q : List ℕ) (b : Bool) → IsCatalogue m → is_news (finmap.values m) w ≡ true → bytes_eq w.name q ≡ b
    → best (finmap.values m ++ w ∷ []) q ≡ cond b (Some w) (finmap.get m q)
put_at m w q true named news is = best-push_named (finmap.values m) w q is news
put_at m w q false named news is = best-push_other (finmap.values m) w q is ∙ best-values m named q

pub entries-news : (m : Entries) (w : StampedWrite) → IsCatalogue m → is_news (finmap.values m) w ≡ true → catalogue_of (finmap.values m ++ w ∷ []) ≡ finmap.insert m w.name w
entries-news m w named news =
    same_entries _ _ (λ q. get-catalogue_of (finmap.values m ++ w ∷ []) q ∙ put_at m w q (bytes_eq w.name q) named news refl
    ∙ ap (λ b. cond b (Some w) (finmap.get m q)) (sym (tie-bytes_eq q w.name)) ∙ sym (finmap.get-insert nat_list_cmp_total m w.name w q))

entries-old : (m : Entries) (w : StampedWrite) → IsCatalogue m → is_news (finmap.values m) w ≡ false → catalogue_of (finmap.values m ++ w ∷ []) ≡ m
entries-old m w named old = same_entries _ _ (λ q. get-catalogue_of (finmap.values m ++ w ∷ []) q ∙ best-push_old (finmap.values m) w q old ∙ best-values m named q)

entries-none : (m : Entries) → IsCatalogue m → catalogue_of (finmap.values m ++ []) ≡ m
entries-none m named = same_entries _ _ (λ q. get-catalogue_of (finmap.values m ++ []) q ∙ ap (λ l. best l q) (append-nil (finmap.values m)) ∙ best-values m named q)

latest-news : (l : Latest) (name : List ℕ) (n : ℕ) (b : Bool) → b ≡ true → finmap.from_entries {R = text_cmp} ((if b then (name, n + 1) ∷ [] else []) ++ finmap.entries l) ≡ finmap.insert l name (n + 1)
latest-news l name n true e = ap (λ m. finmap.insert m name (n + 1)) (from_own_entries l)
latest-news l name n false e = absurd cc

latest-old : (l : Latest) (name : List ℕ) (n : ℕ) (b : Bool) → b ≡ false → finmap.from_entries {R = text_cmp} ((if b then (name, n + 1) ∷ [] else []) ++ finmap.entries l) ≡ l
latest-old l name n true e = absurd cc
latest-old l name n false e = from_own_entries l

counted : (n : ℕ) (b : Bool) → b ≡ true → n + ((if b then 1 else 0) + 0) ≡ n + 1
counted n b e = ap (λ b. n + ((if b then 1 else 0) + 0)) e ∙ (omega arith)

counted_not : (n : ℕ) (b : Bool) → b ≡ false → n + ((if b then 1 else 0) + 0) ≡ n
counted_not n b e = ap (λ b. n + ((if b then 1 else 0) + 0)) e ∙ (omega arith)

-- a write that is news stands, and the change is counted
pub joined-news : (h : Holdings) (w : StampedWrite) → IsCatalogue h.entries → surpasses w (finmap.get h.entries w.name) ≡ true → joined h (w ∷ []) ≡ changed h w
joined-news h w named above =
    let news : is_news (finmap.values h.entries) w ≡ true = is_news-held h.entries w named ∙ above in
    λ i. record {
      entries = entries-news h.entries w named news i;
      changes = counted h.changes (is_news (finmap.values h.entries) w) news i;
      latest = latest-news h.latest w.name h.changes (is_news (finmap.values h.entries) w) news i;
    }

-- one that is none changes nothing
pub joined-old : (h : Holdings) (w : StampedWrite) → IsCatalogue h.entries → surpasses w (finmap.get h.entries w.name) ≡ false → joined h (w ∷ []) ≡ h
joined-old h w named below =
    let old : is_news (finmap.values h.entries) w ≡ false = is_news-held h.entries w named ∙ below in
    λ i. record {
      entries = entries-old h.entries w named old i;
      changes = counted_not h.changes (is_news (finmap.values h.entries) w) old i;
      latest = latest-old h.latest w.name h.changes (is_news (finmap.values h.entries) w) old i;
    }

add_none : (n : ℕ) → n + 0 ≡ n
add_none n = omega arith

-- nor does no write
pub joined-none : (h : Holdings) → IsCatalogue h.entries → joined h [] ≡ h
joined-none h named = λ i. record { entries = entries-none h.entries named i; changes = add_none h.changes i; latest = from_own_entries h.latest i }

pub joined-nothing : joined nothing_held [] ≡ nothing_held
joined-nothing = joined-none nothing_held (λ q. subst (λ o. IfSome o (λ w. w.name ≡ q)) (sym (finmap.get-empty text_cmp q)) tt)

-- the changes depend on what was best before alone
pub change_list-same : (a b : List StampedWrite) (n : ℕ) (ws : List StampedWrite) → ((q : List ℕ) → best a q ≡ best b q) → change_list a n ws ≡ change_list b n ws
change_list-same a b n [] same = refl
change_list-same a b n (w ∷ ws) same = λ i.
    change_list_from (same w.name i) (change_list-same (a ++ w ∷ []) (b ++ w ∷ []) (n + (if surpasses w (same w.name i) then 1 else 0)) ws (λ q. best_of_both a (w ∷ []) q ∙ ap (λ o. greater o (best (w ∷ []) q)) (same q) ∙ sym (best_of_both b (w ∷ []) q)) i)
  where
    change_list_from : Option StampedWrite → List (List ℕ × ℕ) → List (List ℕ × ℕ)
    change_list_from o rest = rest ++ (if surpasses w o then (w.name, n + 1) ∷ [] else [])

-- one list after another
pub change_list-append : (before : List StampedWrite) (n : ℕ) (v w : List StampedWrite) → change_list before n (v ++ w) ≡ change_list (before ++ v) (n + changes_after before v) w ++ change_list before n v
change_list-append before n [] w = (λ i. change_list (sym (append-nil before) i) (sym (add_none n) i) w) ∙ sym (append-nil _)
change_list-append before n (x ∷ v) w =
    let one = (if is_news before x then 1 else 0) in
    let here = (if is_news before x then (x.name, n + 1) ∷ [] else []) in
    ap (λ l. l ++ here) (change_list-append (before ++ x ∷ []) (n + one) v w)
    ∙ append_assoc (change_list ((before ++ x ∷ []) ++ v) ((n + one) + changes_after (before ++ x ∷ []) v) w) (change_list (before ++ x ∷ []) (n + one) v) here
    ∙ (λ i. change_list (append_assoc before (x ∷ []) v i) (add_assoc n one (changes_after (before ++ x ∷ []) v) i) w ++ (change_list (before ++ x ∷ []) (n + one) v ++ here))
