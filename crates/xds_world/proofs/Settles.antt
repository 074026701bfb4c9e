-- What was done so far to settle a client of a type, in a world that runs.
use Rattle.std.proofs.Common.{◌≡◌, inl, inr, ℕ, suc, ◌+◌, ◌<◌, ◌≤◌, List, [], ◌∷◌, ◌++◌, Bool, true, false, Some, None, refl, sym, ap, subst, ◌∙◌, length, drop, arith}
use Rattle.std.specs.Prelude.{is_some}
use Rattle.std.proofs.lemmas.List.{append-nil, append_assoc}
use Rattle.std.proofs.lemmas.List.Folds.{list_any-append}
use Rattle.std.proofs.Math.Seq.{drop-append_seam}
use Rattle.std.proofs.Math.Bool.{or-false, or-true}
use Rattle.xds_resource.specs.declared.types.TypeName.{TypeName}
use Rattle.xds_cache.specs.Faults.{Test}
use Rattle.xds_script.specs.Happenings.{Happening, Up, Poll, Down, PutsAResource}
use Rattle.xds_world.specs.Worlds.{World, happens, empty_world, after, world}
use Rattle.xds_world.specs.Claims.{PutResources, is_settled}
use Rattle.xds_world.specs.Settling.{next_to_settle, gave_nothing, link_in, is_held_back, taken_now, responses_taken, Then, Done, IsAtEnd, IsAtStop, IsSettling, IsStopped, HasSettled, HasStopped, IsQuietFor}
use Rattle.xds_world.proofs.SettlingWalks.{Walked, walked_then, walked_more}
use Rattle.xds_world.proofs.SettlingEnds.{two_responses_suffice, quiet_at_the_end}
use Rattle.xds_world.proofs.SettlingMoves.{is_poll}
use Rattle.xds_world.proofs.SettlingStops.{stops_where_spent}
use Rattle.xds_world.proofs.SettlingSettles.{settles_where_all_is_taken}
use Rattle.xds_world.proofs.SettlingRefused.{unsettled_has_refused}
use Rattle.xds_world.proofs.SettlingPolls.{walked_takes_two, taken_more, polls, second_poll_is_the_last}
use Rattle.xds_world.specs.declared.link.Step.{Step}
use Rattle.xds_world.specs.declared.link.Step.TheVariants as steps
use Rattle.xds_world.specs.Settled.{IsSettledByTaking, IsSettledOrHeldBack}
use Rattle.xds_world.specs.Steps.{event_for}
use Rattle.xds_world.specs.Played.{IsWorldOf, HasStepped}
use Rattle.xds_world.proofs.Plays.{played_one, after_both}
use Rattle.xds_world.proofs.Weights.{weight, up_lightens, down_lightens, poll_burdens}
use Rattle.xds_ledger.proofs.SomethingOwed.{is_some_of}
use Rattle.xds_world.proofs.SettlingSessions.{never_both}

-- what was done since, from the world of a list to another, with how many responses of the type taken
pub record Settles (test : Test) (c : ℕ) (t : TypeName) (before now : List Happening) (x : World) (responses : ℕ) : Type 0 where
  pub more : List Happening
  pub longer : now ≡ before ++ more
  pub walked : Walked test c t (world test before) more x
  pub counts : responses ≡ responses_taken test c t (world test before) more
  pub put : PutResources before
  pub played : IsWorldOf test x now

-- what is put in a step of settling: nothing
puts_nothing : (c : ℕ) (t : TypeName) (step : Step) → PutsAResource (event_for c t step)
puts_nothing c t steps.Up = tt
puts_nothing c t steps.Poll = tt
puts_nothing c t steps.Down = tt

-- and so all is still played
pub still_played : (test : Test) (c : ℕ) (t : TypeName) (now later : List Happening) (x y : World) (step : Step) → IsWorldOf test x now → HasStepped test x now true y later (event_for c t step) → IsWorldOf test y later
still_played test c t now later x y step is stepped = played_one test x y now later (event_for c t step) true is (puts_nothing c t step) stepped.0 stepped.1

pub settles_more : (test : Test) (c : ℕ) (t : TypeName) (before now later : List Happening) (x y : World) (responses taken : ℕ) (step : Step) → Settles test c t before now x responses → next_to_settle x c t ≡ Some (event_for c t step)
    → HasStepped test x now true y later (event_for c t step) → gave_nothing t (event_for c t step) (link_in y c) ≡ false → taken ≡ taken_now c t x (event_for c t step) → Settles test c t before later y (responses + taken)
settles_more test c t before now later x y responses taken step is next stepped gave takes =
    let h : Happening = event_for c t step in
    record {
      more = is.more ++ h ∷ [];
      longer = stepped.1 ∙ ap (λ l. l ++ h ∷ []) is.longer ∙ append_assoc before is.more (h ∷ []);
      walked = walked_more test c t (world test before) is.more x h y is.walked next stepped.0 gave;
      counts = (λ i. is.counts i + takes i) ∙ sym (taken_more test c t (world test before) is.more x h is.walked);
      put = is.put;
      played = still_played test c t now later x y step is.played stepped;
    }

-- a client takes few responses
pub settles_few : (test : Test) (c : ℕ) (t : TypeName) (before now : List Happening) (x : World) (responses : ℕ) → Settles test c t before now x responses → responses ≤ 2
settles_few test c t before now x responses is = subst (λ n. n ≤ 2) (sym is.counts) (walked_takes_two test c t before is.more x is.put is.walked)

-- ---- where it ends

-- nothing is to be done any more
pub settles_done : (test : Test) (c : ℕ) (t : TypeName) (before now : List Happening) (x : World) (responses : ℕ) (settled : Bool) → Settles test c t before now x responses → next_to_settle x c t ≡ None → settled ≡ is_settled x c t → HasSettled test c t before now settled responses
settles_done test c t before now x responses settled is nothing tells = record {
  more = is.more;
  longer = is.longer;
  steps = subst (IsSettling test c t (world test before)) (append-nil is.more) (walked_then (IsAtEnd c t) test c t (world test before) is.more x [] is.walked (inr nothing));
  tells = tells ∙ ap (λ w. is_settled w c t) is.played.world;
  counts = is.counts;
}

-- a poll gave nothing
pub settles_held : (test : Test) (c : ℕ) (t : TypeName) (before now later : List Happening) (x y : World) (responses taken : ℕ) (settled : Bool) (step : Step) → Settles test c t before now x responses → next_to_settle x c t ≡ Some (event_for c t step)
    → HasStepped test x now true y later (event_for c t step) → gave_nothing t (event_for c t step) (link_in y c) ≡ true → taken ≡ taken_now c t x (event_for c t step) → settled ≡ is_settled y c t
    → HasSettled test c t before later settled (responses + taken)
settles_held test c t before now later x y responses taken settled step is next stepped gave takes tells =
    let h : Happening = event_for c t step in
    let played : IsWorldOf test y later = still_played test c t now later x y step is.played stepped in
    record {
      more = is.more ++ h ∷ [];
      longer = stepped.1 ∙ ap (λ l. l ++ h ∷ []) is.longer ∙ append_assoc before is.more (h ∷ []);
      steps = walked_then (IsAtEnd c t) test c t (world test before) is.more x (h ∷ []) is.walked
          (refl, (next, subst (λ o. Then o (λ z. Done (IsAtEnd c t) test c t (gave_nothing t h (link_in z c)) z [])) (sym stepped.0) (inl gave)));
      tells = tells ∙ ap (λ w. is_settled w c t) played.world;
      counts = (λ i. is.counts i + takes i) ∙ sym (taken_more test c t (world test before) is.more x h is.walked);
    }

-- what is to be done next isn't possible
pub settles_stopped : (test : Test) (c : ℕ) (t : TypeName) (before now later : List Happening) (x y : World) (responses : ℕ) (step : Step) → Settles test c t before now x responses → next_to_settle x c t ≡ Some (event_for c t step)
    → HasStepped test x now false y later (event_for c t step) → HasStopped test c t before later
settles_stopped test c t before now later x y responses step is next stepped = record {
  more = is.more;
  longer = stepped.2 ∙ is.longer;
  steps = subst (IsStopped test c t (world test before)) (append-nil is.more)
      (walked_then (IsAtStop test c t) test c t (world test before) is.more x [] is.walked (stops_where_spent test now x c t (event_for c t step) is.played.put is.played.world next stepped.0));
}

-- ---- what it comes to

pub settled_few : (test : Test) (c : ℕ) (t : TypeName) (before later : List Happening) (settled : Bool) (responses : ℕ) → PutResources before → HasSettled test c t before later settled responses → responses ≤ 2
settled_few test c t before later settled responses put is = subst (λ n. n ≤ 2) (sym is.counts) (two_responses_suffice test before put c t is.more is.steps)

pub settled_quiet : (test : Test) (c : ℕ) (t : TypeName) (before later : List Happening) (settled : Bool) (responses : ℕ) → PutResources before → HasSettled test c t before later settled responses → IsQuietFor (world test later) c t
settled_quiet test c t before later settled responses put is l linked =
    quiet_at_the_end test before put c t is.more l is.steps (ap (λ w. link_in w c) (sym (after_both test empty_world before is.more) ∙ ap (world test) (sym is.longer)) ∙ linked)

pub settled_taking : (test : Test) (c : ℕ) (t : TypeName) (before later : List Happening) (settled : Bool) (responses : ℕ) → PutResources before → HasSettled test c t before later settled responses → IsSettledByTaking test c t before settled
settled_taking test c t before later settled responses put is r linked takes =
    is.tells ∙ ap (λ w. is_settled w c t) (ap (world test) is.longer ∙ after_both test empty_world before is.more) ∙ settles_where_all_is_taken test before put c r t is.more linked takes is.steps

pub settled_or_held_back : (test : Test) (c : ℕ) (t : TypeName) (before later : List Happening) (settled : Bool) (responses : ℕ) → PutResources before → is_some (link_in (world test before) c) ≡ true
    → HasSettled test c t before later settled responses → IsSettledOrHeldBack test c t later settled
settled_or_held_back test c t before later settled responses put linked is not_settled =
    let left : world test later ≡ after test (world test before) is.more = ap (world test) is.longer ∙ after_both test empty_world before is.more in
    let l = is_some_of (link_in (world test before) c) linked in
    ap (λ w. is_held_back w c t) left
    ∙ unsettled_has_refused test before put c t is.more l.0 is.steps l.1 (sym (is.tells ∙ ap (λ w. is_settled w c t) left) ∙ not_settled)

-- ---- that it ends

-- a poll that gives a response comes once, and all else makes what is under way less
abbrev pub load : Bool → ℕ → ℕ
load true n = n
load false n = n + 4

abbrev pub left_to_do : ℕ → List Happening → List Happening → World → ℕ
left_to_do c before now x = load (polls (drop (length before) now)) (weight x c)

left_is : (c : ℕ) (before now more : List Happening) (x : World) → now ≡ before ++ more → left_to_do c before now x ≡ load (polls more) (weight x c)
left_is c before now more x longer = ap (λ l. load (polls l) (weight x c)) (ap (drop (length before)) longer ∙ drop-append_seam before more)

lighter : (b : Bool) (m n : ℕ) → suc m ≡ n → load b m < load b n
lighter true m n is = omega (arith, is)
lighter false m n is = omega (arith, is)

-- each step leaves less to do
falls_by : (test : Test) (c : ℕ) (t : TypeName) (before now : List Happening) (x y : World) (responses : ℕ) (step : Step) → (is : Settles test c t before now x responses) → next_to_settle x c t ≡ Some (event_for c t step)
    → happens test x (event_for c t step) ≡ Some y → gave_nothing t (event_for c t step) (link_in y c) ≡ false → load (polls (is.more ++ event_for c t step ∷ [])) (weight y c) < load (polls is.more) (weight x c)
falls_by test c t before now x y responses steps.Up is next happened gave =
    subst (λ b. load b (weight y c) < load (polls is.more) (weight x c)) (sym (list_any-append is_poll is.more (Up c ∷ []) ∙ or-false (polls is.more)))
    (lighter (polls is.more) (weight y c) (weight x c) (up_lightens test x y c happened))
falls_by test c t before now x y responses steps.Down is next happened gave =
    subst (λ b. load b (weight y c) < load (polls is.more) (weight x c)) (sym (list_any-append is_poll is.more (Down c ∷ []) ∙ or-false (polls is.more)))
    (lighter (polls is.more) (weight y c) (weight x c) (down_lightens test x y c happened))
falls_by test c t before now x y responses steps.Poll is next happened gave =
    subst (λ b. load b (weight y c) < load (polls is.more) (weight x c)) (sym (list_any-append is_poll is.more (Poll c (Some t) ∷ []) ∙ or-true (polls is.more))) (by_polls (polls is.more) refl)
  where
    by_polls : (b : Bool) → polls is.more ≡ b → weight y c < load b (weight x c)
    by_polls true polled = absurd (never_both (gave_nothing t (Poll c (Some t)) (link_in y c)) (second_poll_is_the_last test c t before is.more x y is.put is.walked polled next happened) gave)
    by_polls false polled = let more = poll_burdens test x y c (Some t) happened in omega (arith, more)

pub falls : (test : Test) (c : ℕ) (t : TypeName) (before now later : List Happening) (x y : World) (responses : ℕ) (step : Step) → Settles test c t before now x responses → next_to_settle x c t ≡ Some (event_for c t step)
    → HasStepped test x now true y later (event_for c t step) → gave_nothing t (event_for c t step) (link_in y c) ≡ false → left_to_do c before later y < left_to_do c before now x
falls test c t before now later x y responses step is next stepped gave =
    let h : Happening = event_for c t step in
    let longer = stepped.1 ∙ ap (λ l. l ++ h ∷ []) is.longer ∙ append_assoc before is.more (h ∷ []) in
    subst (λ n. left_to_do c before later y < n) (sym (left_is c before now is.more x is.longer))
    (subst (λ n. n < load (polls is.more) (weight x c)) (sym (left_is c before later (is.more ++ h ∷ []) y longer)) (falls_by test c t before now x y responses step is next stepped.0 gave))
