-- The first requests on a stream, made type by type.
use Rattle.std.proofs.Common.{◌≡◌, ℕ, ◌+◌, ◌<◌, ◌≤◌, List, [], ◌∷◌, ◌++◌, drop, length, get_or, Bool, true, false, sym, ap, ◌∙◌, append_assoc}
use Rattle.std.specs.Prelude.{if◌then◌else◌}
use Rattle.std.proofs.lemmas.List.{drop_all, append-nil}
use Rattle.xds_resource.specs.declared.types.TypeName.{TypeName}
use Rattle.xds_resource.proofs.BoolsAndLists.{drop_here}
use Rattle.xds_cache.specs.Shelves.{wants_some}
use Rattle.xds_cache.specs.Clients.{Client, shelf}
use Rattle.xds_cache.specs.Sends.{first_requests, is_greeted}

module _ {X : Type 0} (make : TypeName → Bool → X) (c : Client) (ts : List TypeName) (i : ℕ) (greeted : Bool) where
  pub asked_more : (t d : TypeName) (so_far next w : List X) (q : X) → i < length ts → t ≡ get_or ts i d → wants_some (shelf c t).wants ≡ true → q ≡ make t greeted → next ≡ so_far ++ q ∷ []
      → so_far ++ first_requests make c greeted (drop i ts) ≡ w → next ++ first_requests make c true (drop (i + 1) ts) ≡ w
  asked_more t d so_far next w q within is wanted made pushed before =
      ap (λ l. l ++ first_requests make c true (drop (i + 1) ts)) pushed
      ∙ append_assoc so_far (q ∷ []) (first_requests make c true (drop (i + 1) ts))
      ∙ ap (λ x. so_far ++ (x ∷ first_requests make c true (drop (i + 1) ts))) made
      ∙ sym (ap (λ l. so_far ++ first_requests make c greeted l) (drop_here ts i t d within is)
      ∙ ap (λ b. so_far ++ (if b then make t greeted ∷ first_requests make c true (drop (i + 1) ts) else first_requests make c greeted (drop (i + 1) ts))) wanted)
      ∙ before

  pub passed_over : (t d : TypeName) (so_far w : List X) → i < length ts → t ≡ get_or ts i d → wants_some (shelf c t).wants ≡ false
      → so_far ++ first_requests make c greeted (drop i ts) ≡ w → so_far ++ first_requests make c greeted (drop (i + 1) ts) ≡ w
  passed_over t d so_far w within is unwanted before =
      sym (ap (λ l. so_far ++ first_requests make c greeted l) (drop_here ts i t d within is)
      ∙ ap (λ b. so_far ++ (if b then make t greeted ∷ first_requests make c true (drop (i + 1) ts) else first_requests make c greeted (drop (i + 1) ts))) unwanted)
      ∙ before

  pub all_asked : (so_far w : List X) → length ts ≤ i → so_far ++ first_requests make c greeted (drop i ts) ≡ w → so_far ≡ w
  all_asked so_far w all before = sym (append-nil so_far) ∙ sym (ap (λ l. so_far ++ first_requests make c greeted l) (drop_all i ts all)) ∙ before

module _ (c : Client) (ts : List TypeName) (i : ℕ) (greeted : Bool) where
  pub greeted_more : (t d : TypeName) (w b : Bool) → i < length ts → t ≡ get_or ts i d → wants_some (shelf c t).wants ≡ b
      → is_greeted c greeted (drop i ts) ≡ w → is_greeted c (if b then true else greeted) (drop (i + 1) ts) ≡ w
  greeted_more t d w b within is wanted before =
      sym (ap (is_greeted c greeted) (drop_here ts i t d within is) ∙ ap (λ x. is_greeted c (if x then true else greeted) (drop (i + 1) ts)) wanted) ∙ before

  pub all_greeted : (w : Bool) → length ts ≤ i → is_greeted c greeted (drop i ts) ≡ w → greeted ≡ w
  all_greeted w all before = sym (ap (is_greeted c greeted) (drop_all i ts all)) ∙ before
