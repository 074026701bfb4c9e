-- Which writes of a list are news.
use Rattle.std.proofs.Common.{◌≡◌, ℕ, ◌+◌, ◌≤◌, suc, List, [], ◌∷◌, ◌++◌, length, Bool, true, false, cond, Option, Some, None, refl, sym, ap, ◌∙◌, arith, append_assoc, append-nil}
use Rattle.std.proofs.lemmas.Slice.Eq.{bytes_eq-Decides}
use Rattle.std.proofs.Math.Nat.{add_assoc}
use Rattle.std.specs.Prelude.{bytes_eq, if◌then◌else◌}
use Rattle.std.specs.declared.cmp.Ordering.{Ordering}
use Rattle.std.specs.declared.cmp.Ordering.TheVariants.{Less, Equal, Greater}
use Rattle.std.specs.Ordering.{is_lt, is_gt}
use Rattle.xds_resource.specs.Writes.{StampedWrite, write_cmp}
use Rattle.xds_resource.specs.Best.{greater, if_named, best}
use Rattle.xds_resource.proofs.BestWrites.{best_of_both, greater-None}
use Rattle.xds_resource.proofs.WriteTies.{write_cmp-IsAntisymmetric}
use Rattle.xds_catalogue.specs.Changes.{surpasses, is_news, changes_after}

-- what counts as news depends on what was best before alone
pub changes_after-same : (a b ws : List StampedWrite) → ((q : List ℕ) → best a q ≡ best b q) → changes_after a ws ≡ changes_after b ws
changes_after-same a b [] same = refl
changes_after-same a b (w ∷ ws) same = λ i.
    (if surpasses w (same w.name i) then 1 else 0)
    + changes_after-same (a ++ w ∷ []) (b ++ w ∷ []) ws (λ q. best_of_both a (w ∷ []) q ∙ ap (λ o. greater o (best (w ∷ []) q)) (same q) ∙ sym (best_of_both b (w ∷ []) q)) i

zero_more : (n : ℕ) → n ≡ 0 + n
zero_more n = omega arith

-- one list after another
pub changes_after-append : (before v w : List StampedWrite) → changes_after before (v ++ w) ≡ changes_after before v + changes_after (before ++ v) w
changes_after-append before [] w = ap (λ b. changes_after b w) (sym (append-nil before)) ∙ zero_more _
changes_after-append before (x ∷ v) w =
    let n = (if is_news before x then 1 else 0) in
    ap (λ k. n + k) (changes_after-append (before ++ x ∷ []) v w ∙ ap (λ b. changes_after (before ++ x ∷ []) v + changes_after b w) (append_assoc before (x ∷ []) v))
    ∙ sym (add_assoc n _ _)

at_most_one : (b : Bool) (k n : ℕ) → k ≤ n → (if b then 1 else 0) + k ≤ suc n
at_most_one true k n h = omega arith
at_most_one false k n h = omega arith

-- each write is one change at most
pub changes_after-le : (before ws : List StampedWrite) → changes_after before ws ≤ length ws
changes_after-le before [] = omega arith
changes_after-le before (w ∷ ws) = at_most_one (is_news before w) _ _ (changes_after-le (before ++ w ∷ []) ws)

-- one write more
pub best-push : (ws : List StampedWrite) (w : StampedWrite) (q : List ℕ) → best (ws ++ w ∷ []) q ≡ greater (best ws q) (if_named q w)
best-push ws w q = best_of_both ws (w ∷ []) q ∙ ap (greater (best ws q)) (greater-None (if_named q w))

not_less : (o : Ordering) → is_gt o ≡ true → is_lt o ≡ false
not_less Less e = absurd cc
not_less Equal e = absurd cc
not_less Greater e = refl

pub greater_news : (w : StampedWrite) (o : Option StampedWrite) → surpasses w o ≡ true → greater o (Some w) ≡ Some w
greater_news w None e = refl
greater_news w (Some h) e = ap (λ b. Some (cond b h w)) (not_less (write_cmp w h) e)

greater_old_at : (w h : StampedWrite) (o : Ordering) → write_cmp w h ≡ o → is_gt o ≡ false → Some (cond (is_lt o) h w) ≡ Some h
greater_old_at w h Less is e = refl
greater_old_at w h Equal is e = ap Some (write_cmp-IsAntisymmetric w h is)
greater_old_at w h Greater is e = absurd cc

pub greater_old : (w : StampedWrite) (o : Option StampedWrite) → surpasses w o ≡ false → greater o (Some w) ≡ o
greater_old w None e = absurd cc
greater_old w (Some h) e = greater_old_at w h (write_cmp w h) refl e

pub best-push_named : (ws : List StampedWrite) (w : StampedWrite) (q : List ℕ) → bytes_eq w.name q ≡ true → is_news ws w ≡ true → best (ws ++ w ∷ []) q ≡ Some w
best-push_named ws w q named news =
    best-push ws w q ∙ ap (λ b. greater (best ws q) (if b then Some w else None)) named ∙ ap (λ n. greater (best ws n) (Some w)) (sym ((bytes_eq-Decides w.name q).0 named))
    ∙ greater_news w (best ws w.name) news

pub best-push_other : (ws : List StampedWrite) (w : StampedWrite) (q : List ℕ) → bytes_eq w.name q ≡ false → best (ws ++ w ∷ []) q ≡ best ws q
best-push_other ws w q other = best-push ws w q ∙ ap (λ b. greater (best ws q) (if b then Some w else None)) other ∙ greater-None (best ws q)

old_push : (ws : List StampedWrite) (w : StampedWrite) (q : List ℕ) (b : Bool) → bytes_eq w.name q ≡ b → is_news ws w ≡ false → best (ws ++ w ∷ []) q ≡ best ws q
old_push ws w q true named old =
    best-push ws w q ∙ ap (λ b. greater (best ws q) (if b then Some w else None)) named ∙ ap (λ n. greater (best ws n) (Some w)) (sym ((bytes_eq-Decides w.name q).0 named))
    ∙ greater_old w (best ws w.name) old ∙ ap (best ws) ((bytes_eq-Decides w.name q).0 named)
old_push ws w q false other old = best-push_other ws w q other

-- what is no news changes nothing
pub best-push_old : (ws : List StampedWrite) (w : StampedWrite) (q : List ℕ) → is_news ws w ≡ false → best (ws ++ w ∷ []) q ≡ best ws q
best-push_old ws w q old = old_push ws w q (bytes_eq w.name q) refl old
