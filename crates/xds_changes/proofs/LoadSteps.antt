-- What the changes of a file come to.
use Rattle.std.proofs.Common.{◌≡◌, ◌⊎◌, ◌∙◌, ℕ, List, [], ◌∷◌, Option, None, Some, Result, Ok, Err, inl, inr, refl, sym, ap, subst}
use Rattle.std.specs.Prelude.{IfErr, IfOk, IfSome, IsSome, option_map}
use Rattle.std.specs.Io.KnownBytes.{Consumes, IsAtEnd}
use Rattle.xds_resource.specs.declared.refusal.Refusal.{Refusal}
use Rattle.xds_resource.specs.declared.refusal.Refusal.TheVariants.{OutOfMemory}
use Rattle.xds_notes.specs.declared.ending.End.{End}
use Rattle.xds_notes.specs.declared.ending.End.TheVariants.{Streams, Stopped, Line, Refused}
use Rattle.xds_events.specs.Stores.{Batch, Store, all_entries}
use Rattle.xds_changes.specs.declared.loading.Loader.{Loader}
use Rattle.xds_changes.specs.Changes.{Written}
use Rattle.xds_changes.specs.Handing.{AllHanded, StopsInput, TakesAll}
use Rattle.xds_changes.specs.Loads.{HasLoaded, IsLoaded, IsRefused, IsUnmade, Takes, all_loaded, end_by, loading, so_far, then_loaded}

-- ---- none is refused

-- what was refused stays so
none_before : (old new : Option Refusal) → (IsSome old → new ≡ old) → new ≡ None → old ≡ None
none_before None new stays none = refl
none_before (Some e) new stays none = absurd (never e (sym (stays refl) ∙ none))
  where
    never : (e : Refusal) → Some e ≡ None → ⊥
    never e is = cc

-- rule: loaded-first
-- none was refused on the way, where none is at the end
none_on_the_way : (s t : Loader) (ws : List Written) → AllHanded Takes s t ws → (so_far t).refused ≡ None → (so_far s).refused ≡ None
none_on_the_way s t [] is none = ap (λ l. (so_far l).refused) (sym is) ∙ none
none_on_the_way s t (w ∷ ws) h none =
    let step = h.1.2 in
    none_before (so_far s).refused (so_far h.0).refused (λ some. ap (λ l. l.refused) (step.stays some)) (none_on_the_way h.0 t ws h.2 none)

-- one change was made, and this is what the others come to
then_all : (first replicas : ℕ) (s u : Store) (r : Result Store Refusal) (w : Written) (ws : List Written) → loading first replicas s w ≡ Ok u → all_loaded first replicas u ws ≡ r
    → all_loaded first replicas s (w ∷ ws) ≡ r
then_all first replicas s u r w ws one others = ap (then_loaded (λ (v : Store). all_loaded first replicas v ws)) one ∙ others

-- rule: loaded-first
-- where none is refused at the end, all were made, one after another
all_are_made : (s t : Loader) (ws : List Written) → AllHanded Takes s t ws → (so_far t).refused ≡ None → all_loaded s.first s.replicas s.held ws ≡ Ok t.held
all_are_made s t [] is none = ap (λ (l : Loader). Ok l.held) (sym is)
all_are_made s t (w ∷ ws) h none =
    let u = h.0 in
    let rest = all_are_made u t ws h.2 none in
    let one = h.1.2.done (none_on_the_way u t ws h.2 none) in
    then_all s.first s.replicas s.held u.held (Ok t.held) w ws one (subst (λ f. all_loaded f s.replicas u.held ws ≡ Ok t.held) h.1.0 (subst (λ r. all_loaded u.first r u.held ws ≡ Ok t.held) h.1.1 rest))

-- ---- one is refused

-- why changes come to this refusal
abbrev IsWhy : ℕ → ℕ → Store → List Written → Refusal → Type 0
IsWhy first replicas start ws e = (all_loaded first replicas start ws ≡ Err e) ⊎ ((e ≡ OutOfMemory) × IsUnmade first replicas start ws)

-- the first change is refused
now_refused : (first replicas : ℕ) (s : Store) (w : Written) (ws : List Written) (e : Refusal) → (e ≡ OutOfMemory) ⊎ (loading first replicas s w ≡ Err e) → IsWhy first replicas s (w ∷ ws) e
now_refused first replicas s w ws e (inl memory) = inr (memory, record { made = []; unmade = w; behind = ws; changes_are = refl; held = s; loaded = refl })
now_refused first replicas s w ws e (inr refused) = inl (ap (then_loaded (λ (v : Store). all_loaded first replicas v ws)) refused)

-- one change was made, and the others come to this refusal
later_refused : (first replicas : ℕ) (s u : Store) (w : Written) (ws : List Written) (e : Refusal) → loading first replicas s w ≡ Ok u → IsWhy first replicas u ws e → IsWhy first replicas s (w ∷ ws) e
later_refused first replicas s u w ws e one (inl refused) = inl (then_all first replicas s u (Err e) w ws one refused)
later_refused first replicas s u w ws e one (inr (memory, unmade)) = inr (
  memory,
  record {
    made = w ∷ unmade.made;
    unmade = unmade.unmade;
    behind = unmade.behind;
    changes_are = ap (λ vs. w ∷ vs) unmade.changes_are;
    held = unmade.held;
    loaded = then_all first replicas s u (Ok unmade.held) w unmade.made one unmade.loaded;
  },
)

-- what was refused is so at the end
stays_refused : (s t : Loader) (ws : List Written) (e : Refusal) → AllHanded Takes s t ws → (so_far s).refused ≡ Some e → (so_far t).refused ≡ Some e
stays_refused s t [] e is some = ap (λ l. (so_far l).refused) is ∙ some
stays_refused s t (w ∷ ws) e h some =
    let stays = h.1.2.stays (subst (λ o. IsSome o) (sym some) refl) in
    stays_refused h.0 t ws e h.2 (ap (λ l. l.refused) stays ∙ some)

same_refusal : (e f : Refusal) → Some e ≡ Some f → e ≡ f
same_refusal e f is = cc

never_some : (e : Refusal) → Some e ≡ None → ⊥
never_some e is = cc

-- why one is refused at the end, by whether the first was
by_first : (s u t : Loader) (w : Written) (ws : List Written) (e : Refusal) (o : Option Refusal) → (so_far u).refused ≡ o → Takes s u w → AllHanded Takes u t ws → (so_far s).refused ≡ None
    → (so_far t).refused ≡ Some e → ((so_far u).refused ≡ None → IsWhy u.first u.replicas u.held ws e) → IsWhy s.first s.replicas s.held (w ∷ ws) e
by_first s u t w ws e None is step rest none some others =
    let moved = subst (λ f. IsWhy f s.replicas u.held ws e) step.0 (subst (λ r. IsWhy u.first r u.held ws e) step.1 (others is)) in
    later_refused s.first s.replicas s.held u.held w ws e (step.2.done is) moved
by_first s u t w ws e (Some f) is step rest none some others =
    let same = same_refusal f e (sym (stays_refused u t ws f rest is) ∙ some) in
    let why = subst (λ (o : Option Refusal). IfSome o (λ x. (x ≡ OutOfMemory) ⊎ (loading s.first s.replicas s.held w ≡ Err x))) is (step.2.refused none) in
    now_refused s.first s.replicas s.held w ws e (subst (λ (x : Refusal). (x ≡ OutOfMemory) ⊎ (loading s.first s.replicas s.held w ≡ Err x)) same why)

-- rule: loaded-first
-- why one is refused at the end, where none was at the start
why_refused : (s t : Loader) (ws : List Written) (e : Refusal) → AllHanded Takes s t ws → (so_far s).refused ≡ None → (so_far t).refused ≡ Some e → IsWhy s.first s.replicas s.held ws e
why_refused s t [] e is none some = absurd (never_some e (sym some ∙ ap (λ l. (so_far l).refused) is ∙ none))
why_refused s t (w ∷ ws) e h none some = by_first s h.0 t w ws e (so_far h.0).refused refl h.1 h.2 none some (λ first. why_refused h.0 t ws e h.2 first some)

-- ---- all of them

module _ (first replicas : ℕ) (start : Store) (before after : Option (List ℕ)) where
  -- what was taken to the end of an input
  abbrev AreRead : Loader → Loader → Type 0
  AreRead s t = (came : List ℕ) × Consumes before after came × IsAtEnd after × TakesAll Takes s t came

  -- where nothing was made yet
  abbrev IsNew : Loader → Type 0
  IsNew s = (s.first ≡ first) × (s.replicas ≡ replicas) × (s.held ≡ start) × (s.refused ≡ None)

  are_made : (s : Loader) (held : Store) (ws : List Written) → IsNew s → all_loaded s.first s.replicas s.held ws ≡ Ok held → all_loaded first replicas start ws ≡ Ok held
  are_made s held ws begun all = (λ i. all_loaded (sym begun.0 i) (sym begun.1 i) (sym begun.2 i) ws) ∙ all

  are_refused : (s : Loader) (ws : List Written) (e : Refusal) → IsNew s → IsWhy s.first s.replicas s.held ws e → IsWhy first replicas start ws e
  are_refused s ws e begun why =
      subst (λ f. IsWhy f replicas start ws e) begun.0 (subst (λ r. IsWhy s.first r start ws e) begun.1 (subst (λ (h : Store). IsWhy s.first s.replicas h ws e) begun.2 why))

  is_loaded : (s t : Loader) (b : Batch) → IsNew s → AreRead s t → t.refused ≡ None → b ≡ all_entries t.held → IsLoaded first replicas start before after b
  is_loaded s t b begun (came, read, at_end, all) none is = record {
    came = came;
    read = read;
    at_end = at_end;
    changes = all.changes;
    taken = all.taken;
    held = t.held;
    loaded = are_made s t.held all.changes begun (all_are_made s t all.changes all.handed (ap (option_map (λ p. p.1)) none));
    batch_is = is;
  }

  is_refused : (s t : Loader) (refused : ℕ × Refusal) → IsNew s → AreRead s t → t.refused ≡ Some refused → IsRefused first replicas start before after refused.1
  is_refused s t refused begun (came, read, at_end, all) some = record {
    came = came;
    read = read;
    at_end = at_end;
    changes = all.changes;
    taken = all.taken;
    why = are_refused s all.changes refused.1 begun (why_refused s t all.changes refused.1 all.handed (ap (option_map (λ p. p.1)) begun.3) (ap (option_map (λ p. p.1)) some));
  }

  -- where the loader says why not
  not_loaded : (s t : Loader) (o : Option (ℕ × Refusal)) → IsNew s → AreRead s t → t.refused ≡ o → HasLoaded first replicas start before after (Err (end_by o))
  not_loaded s t None begun are none = inr (refl, all_entries t.held, is_loaded s t (all_entries t.held) begun are none refl)
  not_loaded s t (Some refused) begun are some = inr (is_refused s t refused begun are some)

  -- where an input was read to its end
  pub has_loaded : (s t : Loader) (r : Result Batch End) → IsNew s → AreRead s t → IfOk r (λ b. (t.refused ≡ None) × (b ≡ all_entries t.held)) → IfErr r (λ e. e ≡ end_by t.refused)
      → HasLoaded first replicas start before after r
  has_loaded s t (Ok b) begun are ok refused = is_loaded s t b begun are ok.0 ok.1
  has_loaded s t (Err e) begun are ok refused = subst (λ (x : End). HasLoaded first replicas start before after (Err x)) (sym refused) (not_loaded s t t.refused begun are refl)

  -- where it wasn't
  pub has_stopped : (s t : Loader) (end : End) → StopsInput Takes s t before after end → HasLoaded first replicas start before after (Err end)
  has_stopped s t (Line line e) (came, read, some) = inl (record { came = came; read = read; changes = some.changes; count = some.count; refused = some.refused; line_is = some.line_is })
  has_stopped s t (Refused e) (came, read, device, some) = inl (device, record { came = came; read = read; changes = some.changes; count = some.count; left = some.left; ended = some.ended })
  has_stopped s t Streams stops = absurd stops
  has_stopped s t Stopped stops = absurd stops
