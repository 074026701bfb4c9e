-- What a replica answers to an event, and what it is then: one function of its state and the event. A refused event changes
-- nothing. The protocol is that of Envoy's "xDS REST and gRPC protocol"; replicas and their merge are this project's own.
--     Core, core_code           a replica: its number, its catalogues, its streams
--     fresh                     a replica at which nothing happened
--     Step                      what an event is answered, and what is left
--     with_stream               with what a stream is then
--     on_stream                 what f makes of an open stream
--     opening_step              a stream opens: it answers the stream's number, and what is left
--     stream_step               the step of an event that changes one stream
--     close_step                the step that closes a stream
--     write_step                the step of an own write
--     merge_step                the step that merges a batch
--     rested                    what a client is answered that polls without a stream
--     step                      what an event is answered and leaves, or why it is refused
use Rattle.std.specs.Prelude.{ℕ, ◌+◌, ◌==◌, List, [], ◌∷◌, Option, Result, Ok, Err, refl}
use Rattle.std.specs.Coded.{Coded, code_by, coded×, coded_ℕ}
use Rattle.std.specs.Ordering.{nat_cmp}
use Rattle.std.specs.Option.{option_map_or}
use Rattle.std.specs.FinMap as finmap
use Rattle.xds_resource.specs.declared.types.TypeName.{TypeName}
use Rattle.xds_resource.specs.declared.refusal.Refusal.{Refusal}
use Rattle.xds_resource.specs.declared.refusal.Refusal.TheVariants.{CounterSpent, NoStream}
use Rattle.xds_resource.specs.PerType.{PerType, per_type_code, at, each}
use Rattle.xds_resource.specs.Refusals.{unless_refused}
use Rattle.xds_resource.specs.Stamps.{max_counter}
use Rattle.xds_catalogue.specs.Holdings.{Holdings, holdings_code, nothing_held}
use Rattle.xds_message.specs.Drafts.{Drafted}
use Rattle.xds_sessions.specs.Rest.{asked_once, unless_present}
use Rattle.xds_events.specs.Stores.{Store, Batch, merging, putting_at, deleting_at, all_entries, if_done}
use Rattle.xds_events.specs.Since.{changed_since, marks_of}
use Rattle.xds_events.specs.Streams.{Stream, stream_code, opening, requested, looked_at, polled_first, owes_some}
use Rattle.xds_events.specs.Events.{Event, Open, Request, Poll, Owes, Close, Put, Delete, Merge, Snapshot, Rest, Since, Reply, Opened, Answered, Polled, Owed, Closed, Written, Merged, Entries, Rested, Changed}

pub record Core : Type 0 where
  -- the number of the replica
  pub replica : ℕ
  pub store : Store
  -- how many streams were opened
  pub opened : ℕ
  -- the open streams
  pub streams : finmap.FinMap nat_cmp Stream

abbrev pub core_code : Coded Core
core_code =
    code_by (ℕ × (PerType Holdings × (ℕ × finmap.FinMap nat_cmp Stream))) (coded× coded_ℕ (coded× (per_type_code holdings_code) (coded× coded_ℕ (finmap.code coded_ℕ stream_code))))
    (λ c. (c.replica, (c.store, (c.opened, c.streams)))) (λ p. record { replica = p.0; store = p.1.0; opened = p.1.1.0; streams = p.1.1.1 }) (λ _. refl)

-- a replica at which nothing happened
abbrev pub fresh : ℕ → Core
fresh replica = record { replica = replica; store = each nothing_held; opened = 0; streams = finmap.empty }

-- what an event is answered, and what is left
abbrev pub Step : Type 0
Step = Result (Reply × Core) Refusal

-- with what a stream is then
abbrev pub with_stream : Core → ℕ → Stream → Core
with_stream c n s = record c { streams = finmap.insert c.streams n s }

-- what f makes of an open stream
abbrev pub on_stream : Core → ℕ → (Stream → Step) → Step
on_stream c n f = option_map_or f (finmap.get c.streams n) (Err NoStream)

-- a stream opens: it answers the stream's number, and what is left
abbrev pub opening_step : Core → Step
opening_step c =
    unless_refused ((c.opened == max_counter, CounterSpent) ∷ []) (Opened (c.opened + 1), record c { opened = c.opened + 1; streams = finmap.insert c.streams (c.opened + 1) opening })

-- what a stream answers, and what is left
abbrev pub stream_step : {X : Type 0} → Core → ℕ → (X → Reply) → (Stream → Result (X × Stream) Refusal) → Step
stream_step c n reply f = on_stream c n (λ s. if_done (λ p. (reply p.0, with_stream c n p.1)) (f s))

abbrev pub close_step : Core → ℕ → Step
close_step c n = on_stream c n (λ s. Ok (Closed, record c { streams = finmap.remove c.streams n }))

-- a write of this replica
abbrev pub write_step : Core → Result (ℕ × Store) Refusal → Step
write_step c r = if_done (λ p. (Written p.0 c.replica, record c { store = p.1 })) r

abbrev pub merge_step : Core → Batch → Step
merge_step c b = if_done (λ p. (Merged p.0, record c { store = p.1 })) (merging c.store b)

-- rule: not-modified
-- What a client is answered that polls without a stream: all that the interest of its one list covers, or none where it asks for
-- all of the type and the version that it kept is the present one.
abbrev pub rested : Core → TypeName → List (List ℕ) → List ℕ → List ℕ → Option Drafted
rested c t names version cluster = unless_present c.replica t (at c.store t) (asked_once t names cluster) version

-- rule: refused-event
abbrev pub step : Core → Event → Step
step c Open = opening_step c
step c (Request n m) = stream_step c n Answered (λ s. requested s m)
step c (Poll n which) = stream_step c n Polled (λ s. polled_first c.replica c.store s (looked_at which))
step c (Owes n which) = on_stream c n (λ s. Ok (Owed (owes_some c.store s (looked_at which)), c))
step c (Close n) = close_step c n
step c (Put t r groups) = write_step c (putting_at c.store t r groups c.replica)
step c (Delete t name) = write_step c (deleting_at c.store t name c.replica)
step c (Merge b) = merge_step c b
step c Snapshot = Ok (Entries (all_entries c.store), c)
step c (Rest t names version cluster) = Ok (Rested (rested c t names version cluster), c)
step c (Since marks) = Ok (Changed (changed_since c.store marks) (marks_of c.store), c)
