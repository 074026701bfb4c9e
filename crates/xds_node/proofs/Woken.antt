-- A list of which one element after another is changed by a function.
use Rattle.std.proofs.Common.{◌≡◌, ℕ, ◌+◌, ◌<◌, List, [], ◌∷◌, ◌++◌, map, length, take, drop, get_or, set, sym, ap, ◌∙◌, arith, append_assoc}
use Rattle.std.proofs.lemmas.List.{take_more, drop_more, map-append, length-map, length-take, get_or_at}
use Rattle.std.proofs.Math.Seq.{set-append_seam}

pub changed_more : {X : Type 0} (f : X → X) (xs ys : List X) (i : ℕ) (x y : X) → i < length xs → ys ≡ map f (take i xs) ++ drop i xs → y ≡ f (get_or ys i x)
    → set ys i y ≡ map f (take (i + 1) xs) ++ drop (i + 1) xs
changed_more f xs ys i x y within so_far changed =
    let z = get_or xs i x in
    let first = map f (take i xs) in
    let rest = drop (i + 1) xs in
    let long : length first ≡ i = omega (arith, length-map (take i xs) f, length-take i xs) in
    let split : ys ≡ first ++ z ∷ rest = so_far ∙ ap (λ l. first ++ l) (drop_more xs i x within) in
    let same : get_or ys i x ≡ z = ap (λ l. get_or l i x) split ∙ get_or_at first z rest x i (omega (arith, long)) in
    ap (λ l. set l i y) split ∙ ap (λ k. set (first ++ z ∷ rest) k y) (sym long) ∙ set-append_seam first z rest y ∙ ap (λ v. first ++ v ∷ rest) (changed ∙ ap f same)
    ∙ sym (append_assoc first (f z ∷ []) rest) ∙ ap (λ l. l ++ rest) (sym (ap (map f) (take_more xs i x within) ∙ map-append f (take i xs) (z ∷ [])))
