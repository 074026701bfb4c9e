-- Settling a client of a type: its replica takes what the client asked for, answers until it owes nothing of the type, and the
-- client takes the answers. This project's own.
--     brings                    whether a response of the type is under way
--     polls_unless              the client takes what comes, where a response is under way, and else is polled for
--     next_on                   while a request is under way, the replica takes it
--     link_in                   the stream of a client that has one
--     next_to_settle            what is done next to settle a client of a type
--     gave_nothing              whether a poll was the last that happened, and gave no response
--     Then                      there is a value, and this holds of it
--     Done                      that these are done, one after the other
--     IsAtEnd                   where settling ends: a poll gave nothing, or nothing is to be done
--     says_of_stream            what f says of the stream of a client, beside what its replica holds
--     lacks_number              whether a response of the type is to be sent on a stream that has no number left for it
--     is_spent_for              whether the responses on the stream of a client are spent, and one of the type is due
--     IsAtStop                  where settling gets no further
--     IsSettling                that these settle a client of a type, as far as polls help
--     IsStopped                 that these are done to settle a client of a type
--     IsAddedToSettle           what a line of a script that settles a client of a type adds to what happened
--     would_repeat              whether what a replica would send on a stream is what the client refused last
--     is_held_back              whether the next response of the type to a client is held back
--     takes_one                 how many responses of the type a client takes from the front of a queue
--     taken_now                 responses of the type that the client takes in what happens
--     responses_taken           responses of the type that a client takes while it is being settled
--     HasSettled                what settling a client of a type leaves, in words of what happened
--     IsQuietFor                nothing of the type is under way to or from a client
--     HasStopped                what settling leaves where it gets no further
--     TwoResponsesSuffice       settling a client of a type takes at most two of its responses
--     QuietAtTheEnd             and where it ends nothing of the type is under way
--     UnsettledHasRefused       and a client that isn't settled where it ends refused what its replica would send it
--     StopsWhereSpent           and what is to be done next to settle a client is possible
--     SettlesWhereAllIsTaken    a client whose test takes all is settled where settling ends
use Rattle.std.specs.Prelude.{◌≡◌, ◌⊎◌, ℕ, ◌+◌, ◌≤◌, List, [], ◌∷◌, ◌++◌, ◌==◌, Bool, true, false, ◌&&◌, not, if◌then◌else◌, Option, Some, None, is_some, option_map}
use Rattle.std.specs.Option.{option_and_then, option_map_or}
use Rattle.std.specs.List.{list_any}
use Rattle.std.specs.FinMap as finmap
use Rattle.xds_resource.specs.declared.types.TypeName.{TypeName}
use Rattle.xds_resource.specs.Types.{is_same_type}
use Rattle.xds_resource.specs.PerType.{at}
use Rattle.xds_resource.specs.Stamps.{max_counter}
use Rattle.xds_message.specs.declared.draft.Draft.{Draft}
use Rattle.xds_message.specs.DraftTexts.{kind_of}
use Rattle.xds_ledger.specs.Offers.{offer}
use Rattle.xds_ledger.specs.Ledgers.{is_refused}
use Rattle.xds_core.specs.Stores.{Store}
use Rattle.xds_core.specs.Streams.{Stream, Message, to_send}
use Rattle.xds_cache.specs.Faults.{Test}
use Rattle.xds_script.specs.Happenings.{Happening, Up, Poll, Down}
use Rattle.xds_world.specs.Worlds.{World, Site, Link, world, after, happens}
use Rattle.xds_world.specs.Knows.{knows, wants, cluster, link}
use Rattle.xds_world.specs.Claims.{writes_of, TakesAll, is_quiet, is_settled}

-- whether a response of the type is under way
abbrev pub brings : TypeName → Link → Bool
brings t l = list_any (λ d. is_same_type (kind_of d) t) l.down

abbrev pub polls_unless : Bool → ℕ → TypeName → Happening
polls_unless true c t = Down c
polls_unless false c t = Poll c (Some t)

-- while a request is under way, the replica takes it; else while a response of the type is, the client takes what comes first;
-- else the replica is polled for the type
abbrev pub next_on : ℕ → TypeName → Link → List Message → Happening
next_on c t l (m ∷ ms) = Up c
next_on c t l [] = polls_unless (brings t l) c t

-- the stream of a client that has one
abbrev pub link_in : World → ℕ → Option Link
link_in w c = option_and_then (λ p. p.link) (finmap.get w.peers c)

-- what is done next to settle a client of a type; nothing once it is settled, or where it has no stream
abbrev pub next_to_settle : World → ℕ → TypeName → Option Happening
next_to_settle w c t = if is_settled w c t then None else option_map (λ l. next_on c t l l.up) (link_in w c)

-- whether a poll was the last that happened, and gave no response
abbrev pub gave_nothing : TypeName → Happening → Option Link → Bool
gave_nothing t (Poll c which) (Some l) = not (brings t l)
gave_nothing t h o = false

abbrev pub Then : {S : Type 0} → Option S → (S → Type 0) → Type 0
Then None P = ⊥
Then (Some x) P = P x

-- That these are done, one after the other, in a world in which the last poll gave nothing or not, and that `Ends` holds where they
-- end. Each is what is done next, and possible; nothing is done once a poll gave nothing.
abbrev pub Done : (Bool → World → Type 0) → Test → ℕ → TypeName → Bool → World → List Happening → Type 0
Done Ends test c t held w [] = Ends held w
Done Ends test c t held w (h ∷ hs) = (held ≡ false) × ((next_to_settle w c t ≡ Some h) × Then (happens test w h) (λ x. Done Ends test c t (gave_nothing t h (link_in x c)) x hs))

-- where settling ends: a poll gave nothing, or nothing is to be done
abbrev pub IsAtEnd : ℕ → TypeName → Bool → World → Type 0
IsAtEnd c t held w = (held ≡ true) ⊎ (next_to_settle w c t ≡ None)

-- what f says of the stream of a client, beside what its replica holds; false where it has none
abbrev pub says_of_stream : (Store → Stream → Bool) → World → ℕ → Bool
says_of_stream f w c =
    option_map_or (λ l. option_map_or (λ (s : Site). option_map_or (f s.core.store) (finmap.get s.core.streams l.stream) false) (finmap.get w.sites l.replica) false) (link_in w c) false

-- whether a response of the type is to be sent on a stream that has no number left for it
abbrev pub lacks_number : TypeName → Store → Stream → Bool
lacks_number t store x = x.count == max_counter && is_some (to_send store x t)

-- Whether the responses on the stream of a client are spent, and one of the type is due.
abbrev pub is_spent_for : World → ℕ → TypeName → Bool
is_spent_for w c t = says_of_stream (lacks_number t) w c

-- Where settling gets no further: the replica is to be polled, and that isn't possible, since the responses on the stream are
-- spent and one of the type is due.
abbrev pub IsAtStop : Test → ℕ → TypeName → Bool → World → Type 0
IsAtStop test c t held w =
    (held ≡ false) × (next_to_settle w c t ≡ Some (Poll c (Some t))) × (happens test w (Poll c (Some t)) ≡ None) × (is_spent_for w c t ≡ true)

-- That these settle a client of a type, as far as polls help: until it is settled, or a poll gives nothing, since what the replica
-- would send is what the client refused.
abbrev pub IsSettling : Test → ℕ → TypeName → World → List Happening → Type 0
IsSettling test c t w hs = Done (IsAtEnd c t) test c t false w hs

-- that these are done to settle a client of a type, and that the poll that is to be done next isn't possible
abbrev pub IsStopped : Test → ℕ → TypeName → World → List Happening → Type 0
IsStopped test c t w hs = Done (IsAtStop test c t) test c t false w hs

-- What a line of a script that settles a client of a type adds to what happened: nothing where the client has no stream, and else
-- what settles it, as far as possible.
abbrev pub IsAddedToSettle : Test → ℕ → TypeName → List Happening → List Happening → Type 0
IsAddedToSettle test c t hs more =
    ((link_in (world test hs) c ≡ None) × (more ≡ [])) ⊎ (IsSettling test c t (world test hs) more ⊎ IsStopped test c t (world test hs) more)

-- ---- what is held back

-- rule: refused-offer
-- whether what a replica would send on a stream is what the client refused last
abbrev pub would_repeat : TypeName → Store → Stream → Bool
would_repeat t store x =
    let s = at x.sessions t in
    option_map_or (λ v. is_refused s.account (offer v t s.asked.interest (at store t).entries s.account.beliefs)) x.variant false

-- rule: refused-offer
-- Whether the next response of the type to a client is held back: it is what the client refused last.
abbrev pub is_held_back : World → ℕ → TypeName → Bool
is_held_back w c t = says_of_stream (would_repeat t) w c

-- ---- how many responses of the type were taken

abbrev pub takes_one : TypeName → List Draft → ℕ
takes_one t [] = 0
takes_one t (d ∷ ds) = if is_same_type (kind_of d) t then 1 else 0

-- responses of the type that the client takes in what happens
abbrev pub taken_now : ℕ → TypeName → World → Happening → ℕ
taken_now c t w (Down d) = option_map_or (λ l. takes_one t l.down) (link_in w c) 0
taken_now c t w h = 0

-- responses of the type that a client takes while it is being settled
abbrev pub responses_taken : Test → ℕ → TypeName → World → List Happening → ℕ
responses_taken test c t w [] = 0
responses_taken test c t w (h ∷ hs) = taken_now c t w h + option_map_or (λ x. responses_taken test c t x hs) (happens test w h) 0

-- What settling a client of a type leaves, in words of what happened: what was added, whether the client is settled, and how many
-- responses of the type it took.
pub record HasSettled (test : Test) (c : ℕ) (t : TypeName) (before : List Happening) (after : List Happening) (settled : Bool) (responses : ℕ) : Type 0 where
  pub more : List Happening
  pub longer : after ≡ before ++ more
  pub steps : IsSettling test c t (world test before) more
  pub tells : settled ≡ is_settled (world test after) c t
  pub counts : responses ≡ responses_taken test c t (world test before) more

-- nothing of the type is under way to or from a client
abbrev pub IsQuietFor : World → ℕ → TypeName → Type 0
IsQuietFor w c t = (l : Link) → link_in w c ≡ Some l → is_quiet t l ≡ true

-- what settling leaves where it gets no further
pub record HasStopped (test : Test) (c : ℕ) (t : TypeName) (before : List Happening) (after : List Happening) : Type 0 where
  pub more : List Happening
  pub longer : after ≡ before ++ more
  pub steps : IsStopped test c t (world test before) more

-- ---- what settling comes to

-- Settling a client of a type takes at most two of its responses: one that may be under way, and one of what its replica holds.
abbrev pub TwoResponsesSuffice : Test → List Happening → Type 0
TwoResponsesSuffice test hs =
    (c : ℕ) (t : TypeName) (more : List Happening) → IsSettling test c t (world test hs) more → responses_taken test c t (world test hs) more ≤ 2

-- and where it ends nothing of the type is under way
abbrev pub QuietAtTheEnd : Test → List Happening → Type 0
QuietAtTheEnd test hs =
    (c : ℕ) (t : TypeName) (more : List Happening) (l : Link) → IsSettling test c t (world test hs) more → link_in (after test (world test hs) more) c ≡ Some l → is_quiet t l ≡ true

-- and a client that isn't settled where it ends refused what its replica would send it
abbrev pub UnsettledHasRefused : Test → List Happening → Type 0
UnsettledHasRefused test hs =
    (c : ℕ) (t : TypeName) (more : List Happening) (l : Link) → IsSettling test c t (world test hs) more → link_in (world test hs) c ≡ Some l
    → is_settled (after test (world test hs) more) c t ≡ false → is_held_back (after test (world test hs) more) c t ≡ true

-- and what is to be done next to settle a client is possible, but for a poll where the responses on its stream are spent
abbrev pub StopsWhereSpent : Test → List Happening → Type 0
StopsWhereSpent test hs =
    (c : ℕ) (t : TypeName) (h : Happening) → next_to_settle (world test hs) c t ≡ Some h → happens test (world test hs) h ≡ None
    → (h ≡ Poll c (Some t)) × (is_spent_for (world test hs) c t ≡ true)

-- A client whose test takes all that it is to show of what its replica knows is settled where settling ends.
abbrev pub SettlesWhereAllIsTaken : Test → List Happening → Type 0
SettlesWhereAllIsTaken test hs =
    (c r : ℕ) (t : TypeName) (more : List Happening) → link test hs c ≡ Some r → TakesAll test t (writes_of t (knows test hs r)) (cluster test hs c) (wants test hs c t)
    → IsSettling test c t (world test hs) more → is_settled (after test (world test hs) more) c t ≡ true
