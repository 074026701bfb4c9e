-- Settling a client of a type takes at most two of its responses, and the second poll is the last.
use Rattle.std.proofs.Common.{◌≡◌, inl, inr, ℕ, ◌+◌, ◌≤◌, List, [], ◌∷◌, ◌++◌, Bool, true, false, ◌||◌, Option, Some, None, refl, sym, ap, subst, ◌∙◌, arith, append-nil}
use Rattle.std.specs.Prelude.{if◌then◌else◌}
use Rattle.std.specs.Option.{option_map_or}
use Rattle.std.specs.List.{list_any}
use Rattle.xds_resource.specs.declared.types.TypeName.{TypeName}
use Rattle.xds_cache.specs.Faults.{Test}
use Rattle.xds_script.specs.Happenings.{Happening, Poll}
use Rattle.xds_world.specs.Worlds.{World, empty_world, happens, world}
use Rattle.xds_world.specs.Knows.{TypedWrite, Knowledge, nothing_known, known_after, made_after}
use Rattle.xds_world.specs.Claims.{PutResources}
use Rattle.xds_world.specs.Settling.{brings, link_in, next_to_settle, gave_nothing, Done, taken_now, responses_taken}
use Rattle.xds_world.proofs.Sure.{Sure, sure, sure_after}
use Rattle.xds_world.proofs.SettlingWalks.{Walked, then_there, walked_then}
use Rattle.xds_world.proofs.SettlingSessions.{IsReady, never_both, ready_sends_none, waits_once_sent, done_once_answered}
use Rattle.xds_world.proofs.LinkTakes.{spoken}
use Rattle.xds_world.proofs.SettlingSteps.{Spot, spot_of}
use Rattle.xds_world.proofs.SettlingMoves.{next_links, next_is, OneOfThree, one_of_three, puts_nothing, is_poll, session_at, held_at, Stays, Takes, Sends, Ends, Moved, next_moved}

-- ---- worlds as they come

-- all that is kept of a world, whatever is known in it
abbrev pub IsSure : World → Type 0
IsSure w = (k : Knowledge) × (all : List TypedWrite) × Sure w k all

pub world_sure : (test : Test) (before : List Happening) → PutResources before → IsSure (world test before)
world_sure test before put = (known_after test empty_world nothing_known before, made_after test empty_world [] before, sure test before put)

-- a client that is to be settled, and what is done next
pub record Next (test : Test) (w : World) (c : ℕ) (t : TypeName) (h : Happening) : Type 0 where
  pub spot : Spot w c
  pub three : OneOfThree c t spot.link h

pub next_there : (test : Test) (w : World) (c : ℕ) (t : TypeName) (h : Happening) → IsSure w → next_to_settle w c t ≡ Some h → Next test w c t h
next_there test w c t h all is =
    let made = (next_links w c t h is).1 in
    let spot = spot_of w all.1 c made.0 all.2.fine made.1 in
    record { spot = spot; three = one_of_three c t spot.link h spot.link.up (brings t spot.link) refl refl (next_is w c t h spot is) }

pub three_at : (w : World) (c : ℕ) (t : TypeName) (h : Happening) (s : Spot w c) → next_to_settle w c t ≡ Some h → OneOfThree c t s.link h
three_at w c t h s is = one_of_three c t s.link h s.link.up (brings t s.link) refl refl (next_is w c t h s is)

-- what is kept is kept by what is done next
pub sure_next : (test : Test) (w y : World) (c : ℕ) (t : TypeName) (h : Happening) (s : Spot w c) → OneOfThree c t s.link h → happens test w h ≡ Some y → IsSure w → IsSure y
sure_next test w y c t h s three is all =
    subst IsSure (ap (λ o. option_map_or (λ x. x) o w) is)
    (known_after test w all.0 (h ∷ []), made_after test w all.1 (h ∷ []), sure_after test (h ∷ []) w all.0 all.1 (puts_nothing c t s.link h three, tt) all.2)

-- ---- ready: a response of what the replica holds was sent

abbrev pub ReadyAt : (w : World) (c : ℕ) → TypeName → Spot w c → Type 0
ReadyAt w c t s = IsReady (spoken s.peer.kind) t (session_at w c t s) (held_at w c t s)

-- what is the same of two spots but the session
ready_by : (w y : World) (c : ℕ) (t : TypeName) (s : Spot w c) (z : Spot y c) → z.peer.kind ≡ s.peer.kind → held_at y c t z ≡ held_at w c t s → IsReady (spoken s.peer.kind) t (session_at y c t z) (held_at w c t s) → ReadyAt y c t z
ready_by w y c t s z kind held ready =
    subst (λ k. IsReady (spoken k) t (session_at y c t z) (held_at y c t z)) (sym kind) (subst (IsReady (spoken s.peer.kind) t (session_at y c t z)) (sym held) ready)

stays_ready : (w y : World) (c : ℕ) (t : TypeName) (h : Happening) (s : Spot w c) (m : Moved w y c t h s) → Stays w y c t h s m.spot → ReadyAt w c t s → ReadyAt y c t m.spot
stays_ready w y c t h s m stays ready = ready_by w y c t s m.spot m.kind m.held (subst (λ a. IsReady (spoken s.peer.kind) t a (held_at w c t s)) (sym stays.2) ready)

takes_ready : (w y : World) (c : ℕ) (t : TypeName) (h : Happening) (s : Spot w c) (m : Moved w y c t h s) → Takes w y c t h s m.spot → ReadyAt w c t s → ReadyAt y c t m.spot
takes_ready w y c t h s m takes (inl waits) = ready_by w y c t s m.spot m.kind m.held (inr (done_once_answered (spoken s.peer.kind) t (session_at w c t s) (session_at y c t m.spot) (held_at w c t s) waits takes.2))
takes_ready w y c t h s m takes (inr done) = absurd (never takes.2.sent (sym done.0 ∙ takes.2.has))
  where
    never : {X : Type 0} (x : X) → ◌≡◌ {A = Option X} None (Some x) → ⊥
    never x e = cc

sends_ready : (w y : World) (c : ℕ) (t : TypeName) (h : Happening) (s : Spot w c) (m : Moved w y c t h s) → Sends w y c t h s m.spot → ReadyAt y c t m.spot
sends_ready w y c t h s m sends =
    ready_by w y c t s m.spot m.kind m.held
    (subst (λ a. IsReady (spoken s.peer.kind) t a (held_at w c t s)) (sym sends.left) (inl (waits_once_sent (spoken s.peer.kind) t (session_at w c t s) (held_at w c t s) sends.offer sends.number sends.due)))

-- ---- how many responses are taken

abbrev count : Bool → ℕ
count b = if b then 1 else 0

count_is : (b : Bool) → count b ≤ 1
count_is true = omega arith
count_is false = omega arith

-- nothing is done once a poll gave nothing
nothing_more : (Ends : Bool → World → Type 0) (test : Test) (c : ℕ) (t : TypeName) (y : World) (hs : List Happening) → Done Ends test c t true y hs → responses_taken test c t y hs ≡ 0
nothing_more Ends test c t y [] done = refl
nothing_more Ends test c t y (h ∷ hs) done = let never : true ≡ false = done.0 in absurd cc

at_most : (Ends : Bool → World → Type 0) (test : Test) (c : ℕ) (t : TypeName) (y : World) (hs : List Happening) (held : Bool) (n : ℕ) → Done Ends test c t held y hs → (Done Ends test c t false y hs → responses_taken test c t y hs ≤ n) → responses_taken test c t y hs ≤ n
at_most Ends test c t y hs true n done rest = let none = nothing_more Ends test c t y hs done in omega (arith, none)
at_most Ends test c t y hs false n done rest = rest done

taken_first : (test : Test) (c : ℕ) (t : TypeName) (w y : World) (h : Happening) (hs : List Happening) → happens test w h ≡ Some y → responses_taken test c t w (h ∷ hs) ≡ taken_now c t w h + responses_taken test c t y hs
taken_first test c t w y h hs is = ap (λ o. taken_now c t w h + option_map_or (λ x. responses_taken test c t x hs) o 0) is

-- once ready, no more than is under way
pub ready_takes : (Ends : Bool → World → Type 0) (test : Test) (c : ℕ) (t : TypeName) (hs : List Happening) (w : World) (s : Spot w c) → IsSure w → ReadyAt w c t s → Done Ends test c t false w hs → responses_taken test c t w hs ≤ count (brings t s.link)
ready_takes Ends test c t [] w s all ready done = omega arith
ready_takes Ends test c t (h ∷ hs) w s all ready done =
    let there = then_there (happens test w h) (λ x. Done Ends test c t (gave_nothing t h (link_in x c)) x hs) done.1.1 in
    let y : World = there.0 in
    let three = three_at w c t h s done.1.0 in
    let m = next_moved test w y all.1 c t h s three there.1 all.2.fine in
    let first = taken_first test c t w y h hs there.1 in
    let later = λ (ready_then : ReadyAt y c t m.spot). at_most Ends test c t y hs (gave_nothing t h (link_in y c)) (count (brings t m.spot.link)) there.2 (ready_takes Ends test c t hs y m.spot (sure_next test w y c t h s three there.1 all) ready_then) in
    elim m.how [
      | inl stays ↦ (let rest = later (stays_ready w y c t h s m stays ready) in let same = ap count stays.3 in omega (arith, first, rest, same, stays.1))
      | inr (inl takes) ↦ (let rest = later (takes_ready w y c t h s m takes ready) in let before = ap count takes.3 in let then_none = ap count takes.4 in omega (arith, first, rest, before, then_none, takes.1))
      | inr (inr (inl sends)) ↦ absurd (ready_sends_none (spoken s.peer.kind) t (session_at w c t s) (held_at w c t s) sends.offer ready sends.due)
      | inr (inr (inr ends)) ↦ (let none = nothing_more Ends test c t y hs (subst (λ b. Done Ends test c t b y hs) ends.1 there.2) in omega (arith, first, none, ends.0))
    ]

-- before, one more
pub spot_takes : (Ends : Bool → World → Type 0) (test : Test) (c : ℕ) (t : TypeName) (hs : List Happening) (w : World) (s : Spot w c) → IsSure w → Done Ends test c t false w hs → responses_taken test c t w hs ≤ 1 + count (brings t s.link)
spot_takes Ends test c t [] w s all done = omega arith
spot_takes Ends test c t (h ∷ hs) w s all done =
    let there = then_there (happens test w h) (λ x. Done Ends test c t (gave_nothing t h (link_in x c)) x hs) done.1.1 in
    let y : World = there.0 in
    let three = three_at w c t h s done.1.0 in
    let m = next_moved test w y all.1 c t h s three there.1 all.2.fine in
    let first = taken_first test c t w y h hs there.1 in
    let next_sure = sure_next test w y c t h s three there.1 all in
    let later = at_most Ends test c t y hs (gave_nothing t h (link_in y c)) (1 + count (brings t m.spot.link)) there.2 (spot_takes Ends test c t hs y m.spot next_sure) in
    elim m.how [
      | inl stays ↦ (let same = ap count stays.3 in omega (arith, first, later, same, stays.1))
      | inr (inl takes) ↦ (let before = ap count takes.3 in let then_none = ap count takes.4 in omega (arith, first, later, before, then_none, takes.1))
      | inr (inr (inl sends)) ↦
          (let rest = at_most Ends test c t y hs (gave_nothing t h (link_in y c)) (count (brings t m.spot.link)) there.2 (ready_takes Ends test c t hs y m.spot next_sure (sends_ready w y c t h s m sends)) in
          let then_one = ap count sends.after in omega (arith, first, rest, then_one, sends.takes))
      | inr (inr (inr ends)) ↦ (let none = nothing_more Ends test c t y hs (subst (λ b. Done Ends test c t b y hs) ends.1 there.2) in omega (arith, first, none, ends.0))
    ]

pub takes_two : (Ends : Bool → World → Type 0) (test : Test) (c : ℕ) (t : TypeName) (hs : List Happening) (w : World) → IsSure w → Done Ends test c t false w hs → responses_taken test c t w hs ≤ 2
takes_two Ends test c t [] w all done = omega arith
takes_two Ends test c t (h ∷ hs) w all done =
    let next = next_there test w c t h all done.1.0 in
    let most = spot_takes Ends test c t (h ∷ hs) w next.spot all done in let one = count_is (brings t next.spot.link) in omega (arith, most, one)

-- ---- what was done while no poll gave nothing

abbrev any_end : Bool → World → Type 0
any_end held w = held ≡ held

pub walked_takes_two : (test : Test) (c : ℕ) (t : TypeName) (before hs : List Happening) (x : World) → PutResources before → Walked test c t (world test before) hs x → responses_taken test c t (world test before) hs ≤ 2
walked_takes_two test c t before hs x put walked =
    let two = takes_two any_end test c t (hs ++ []) (world test before) (world_sure test before put) (walked_then any_end test c t (world test before) hs x [] walked refl) in
    subst (λ ks. responses_taken test c t (world test before) ks ≤ 2) (append-nil hs) two

no_rest : (test : Test) (c : ℕ) (t : TypeName) (w : World) (h : Happening) (o : Option World) → taken_now c t w h + option_map_or (λ x. responses_taken test c t x []) o 0 ≡ taken_now c t w h
no_rest test c t w h None = omega arith
no_rest test c t w h (Some x) = omega arith

pub taken_more : (test : Test) (c : ℕ) (t : TypeName) (w : World) (hs : List Happening) (x : World) (h : Happening) → Walked test c t w hs x → responses_taken test c t w (hs ++ h ∷ []) ≡ responses_taken test c t w hs + taken_now c t x h
taken_more test c t w [] x h walked = let first = no_rest test c t w h (happens test w h) in let same = ap (λ y. taken_now c t y h) walked in omega (arith, first, same)
taken_more test c t w (g ∷ hs) x h walked =
    let there = then_there (happens test w g) (λ y. (gave_nothing t g (link_in y c) ≡ false) × Walked test c t y hs x) walked.1 in
    let y : World = there.0 in
    let first = taken_first test c t w y g (hs ++ h ∷ []) there.1 in
    let again = taken_first test c t w y g hs there.1 in
    let rest = taken_more test c t y hs x h there.2.1 in omega (arith, first, again, rest)

-- ---- the second poll is the last

abbrev pub polls : List Happening → Bool
polls hs = list_any is_poll hs

abbrev pub IsReadyWorld : ℕ → TypeName → World → Type 0
IsReadyWorld c t x = (s : Spot x c) × ReadyAt x c t s × IsSure x

-- once ready, so it stays
walked_ready : (test : Test) (c : ℕ) (t : TypeName) (hs : List Happening) (w x : World) (s : Spot w c) → IsSure w → ReadyAt w c t s → Walked test c t w hs x → IsReadyWorld c t x
walked_ready test c t [] w x s all ready walked = subst (IsReadyWorld c t) walked (s, ready, all)
walked_ready test c t (h ∷ hs) w x s all ready walked =
    let there = then_there (happens test w h) (λ y. (gave_nothing t h (link_in y c) ≡ false) × Walked test c t y hs x) walked.1 in
    let y : World = there.0 in
    let three = three_at w c t h s walked.0 in
    let m = next_moved test w y all.1 c t h s three there.1 all.2.fine in
    let later = λ (ready_then : ReadyAt y c t m.spot). walked_ready test c t hs y x m.spot (sure_next test w y c t h s three there.1 all) ready_then there.2.1 in
    elim m.how [
      | inl stays ↦ later (stays_ready w y c t h s m stays ready)
      | inr (inl takes) ↦ later (takes_ready w y c t h s m takes ready)
      | inr (inr (inl sends)) ↦ absurd (ready_sends_none (spoken s.peer.kind) t (session_at w c t s) (held_at w c t s) sends.offer ready sends.due)
      | inr (inr (inr ends)) ↦ absurd (never_both (gave_nothing t h (link_in y c)) ends.1 there.2.0)
    ]

-- and so it is after a poll
polled_ready : (test : Test) (c : ℕ) (t : TypeName) (hs : List Happening) (w x : World) → IsSure w → Walked test c t w hs x → polls hs ≡ true → IsReadyWorld c t x
polled_ready test c t [] w x all walked polled = absurd cc
polled_ready test c t (h ∷ hs) w x all walked polled =
    let there = then_there (happens test w h) (λ y. (gave_nothing t h (link_in y c) ≡ false) × Walked test c t y hs x) walked.1 in
    let y : World = there.0 in
    let next = next_there test w c t h all walked.0 in
    let s = next.spot in
    let m = next_moved test w y all.1 c t h s next.three there.1 all.2.fine in
    let next_sure = sure_next test w y c t h s next.three there.1 all in
    let later = λ (quiet : is_poll h ≡ false). polled_ready test c t hs y x next_sure there.2.1 (ap (λ b. b || polls hs) (sym quiet) ∙ polled) in
    elim m.how [
      | inl stays ↦ later stays.0
      | inr (inl takes) ↦ later takes.0
      | inr (inr (inl sends)) ↦ walked_ready test c t hs y x m.spot next_sure (sends_ready w y c t h s m sends) there.2.1
      | inr (inr (inr ends)) ↦ absurd (never_both (gave_nothing t h (link_in y c)) ends.1 there.2.0)
    ]

-- a client of which a poll gave a response isn't sent another: its replica has nothing more to tell, or what it would tell was refused
pub second_poll_is_the_last : (test : Test) (c : ℕ) (t : TypeName) (before hs : List Happening) (x y : World) → PutResources before → Walked test c t (world test before) hs x → polls hs ≡ true → next_to_settle x c t ≡ Some (Poll c (Some t))
    → happens test x (Poll c (Some t)) ≡ Some y → gave_nothing t (Poll c (Some t)) (link_in y c) ≡ true
second_poll_is_the_last test c t before hs x y put walked polled next is =
    let ready = polled_ready test c t hs (world test before) x (world_sure test before put) walked polled in
    let h : Happening = Poll c (Some t) in
    let s = ready.0 in
    let all = ready.2 in
    let m = next_moved test x y all.1 c t h s (three_at x c t h s next) is all.2.fine in
    elim m.how [
      | inl stays ↦ absurd (never_both (is_poll h) refl stays.0)
      | inr (inl takes) ↦ absurd (never_both (is_poll h) refl takes.0)
      | inr (inr (inl sends)) ↦ absurd (ready_sends_none (spoken s.peer.kind) t (session_at x c t s) (held_at x c t s) sends.offer ready.1 sends.due)
      | inr (inr (inr ends)) ↦ ends.1
    ]
