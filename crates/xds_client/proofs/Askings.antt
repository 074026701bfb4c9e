-- The frames of first requests.
use Rattle.std.proofs.Common.{◌≡◌, ◌⊎◌, ◌<◌, ◌+◌, ℕ, List, ◌∷◌, ◌++◌, inl, inr, length, map, get_or, drop, sym, ap, subst, ◌∙◌, append_assoc, arith}
use Rattle.std.specs.Prelude.{All}
use Rattle.std.proofs.lemmas.List.{get_or-map, length-map, drop_more}
use Rattle.std.proofs.lemmas.List.Elements.{All-cons, All-get_or}
use Rattle.xds_resource.specs.declared.refusal.Refusal.{Refusal}
use Rattle.xds_resource.specs.declared.refusal.Refusal.TheVariants.{OutOfMemory, FrameTooLong}
use Rattle.xds_frames.specs.Frames.{frame_bytes}
use Rattle.xds_client.specs.declared.subscription.StreamVariant.{StreamVariant}
use Rattle.xds_client.specs.declared.subscription.Subscription.{Subscription}
use Rattle.xds_client.specs.Subscribing.{Fits, OpeningFits, asked, asking, first_texts, wanting}
use Rattle.xds_client.specs.Turning.{IsUntellable}

module _ {X : Type 0} (v : StreamVariant) (f : X → List ℕ) (xs : List X) (i : ℕ) (x : X) (text : List ℕ) (within : i < length xs) (at : x ≡ get_or xs i x) (is : text ≡ f x) where
  -- one of the texts is too long, or there was no memory
  pub one_untellable : (e : Refusal) → IsUntellable v text e → (e ≡ OutOfMemory) ⊎ ((e ≡ FrameTooLong) × ¬ All (Fits v) (map f xs))
  one_untellable e (inl memory) = inl memory
  one_untellable e (inr (long, not_fit)) =
      inr (
        long,
        λ all. not_fit (
            subst (Fits v) (get_or-map f xs i x text within ∙ ap f (sym at) ∙ sym is)
            (All-get_or (Fits v) (map f xs) i text (omega (arith, within, length-map xs f)) all)
            ),
      )

  -- one more, where what is left fits and is said behind what was
  pub one_asked : (bytes next whole : List ℕ) (All₀ : Type 0) → Fits v text × (next ≡ bytes ++ frame_bytes (asking v text))
      → (All (Fits v) (map f (drop i xs)) → All₀) × (bytes ++ asked v (map f (drop i xs)) ≡ whole)
      → (All (Fits v) (map f (drop (i + 1) xs)) → All₀) × (next ++ asked v (map f (drop (i + 1) xs)) ≡ whole)
  one_asked bytes next whole All₀ (fits, pushed) (all, so_far) = (
    λ rest. all (subst (λ (l : List X). All (Fits v) (map f l)) (sym more) (All-cons (Fits v) (f x) (map f (drop (i + 1) xs)) (subst (Fits v) is fits) rest)),
    ap (λ (b : List ℕ). b ++ asked v (map f (drop (i + 1) xs))) (pushed ∙ ap (λ (t : List ℕ). bytes ++ frame_bytes (asking v t)) is)
        ∙ append_assoc bytes (frame_bytes (asking v (f x))) (asked v (map f (drop (i + 1) xs)))
        ∙ ap (λ (l : List X). bytes ++ asked v (map f l)) (sym more)
        ∙ so_far,
  )
    where
      more : drop i xs ≡ x ∷ drop (i + 1) xs
      more = drop_more xs i x within ∙ ap (λ y. y ∷ drop (i + 1) xs) (sym at)

-- what isn't said for want of room or memory, of a wish
pub unopened : (n : Subscription) (v : StreamVariant) (texts : List (List ℕ)) (e : Refusal) → n.variant ≡ v → texts ≡ first_texts (wanting n v) v
    → (e ≡ OutOfMemory) ⊎ ((e ≡ FrameTooLong) × ¬ All (Fits v) texts) → (e ≡ OutOfMemory) ⊎ ((e ≡ FrameTooLong) × ¬ OpeningFits n)
unopened n v texts e same are (inl memory) = inl memory
unopened n v texts e same are (inr (long, not_all)) =
    inr (
      long,
      λ fits. not_all (subst (λ (l : List (List ℕ)). All (Fits v) l) (sym are) (subst (λ (z : StreamVariant). All (Fits z) (first_texts (wanting n z) z)) same fits)),
    )
