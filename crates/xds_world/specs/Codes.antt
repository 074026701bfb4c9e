-- Codes of what happens at a replica, and of the parts of a world: each as the tuple of its fields, a choice as a sum. This
-- project's own.
--     outcome_flag                     an outcome as a flag
--     flagged_outcome                  the outcome of a flag
--     outcome_again                    an outcome is that of its flag
--     outcome_code                     the code of an outcome
--     later_refusal                    the refusal of a number from 9 on
--     numbered_refusal                 the refusal of a number
--     refusal_again                    a refusal is that of its number
--     refusal_code                     the code of a refusal
--     batch_code                       the code of a batch
--     AtStream                         the parts of an event of a stream
--     OfStore                          the parts of an event at the catalogues: a put, a deletion, a merge
--     Looks                            a look at what is held: a poll without a stream, or marks
--     EventParts                       the parts of an event of a stream, of the store, or of a look
--     event_parts                      an event as its parts
--     event_of_parts                   the event of some parts
--     event_again                      an event is that of its parts
--     which_code                       the code of one type, or of all
--     looks_code                       the code of a look
--     event_code                       the code of an event
--     Numbers                          a number, by whether it is a stream's, a count of changes
--     Looked                           what was looked at: the answer to a poll without a stream, or what changed
--     ReplyParts                       the parts of a reply
--     reply_parts                      a reply as its parts
--     reply_of_parts                   the reply of some parts
--     reply_again                      a reply is that of its parts
--     reply_code                       the code of a reply
--     record_code                      the code of a record
--     site_code                        the code of a replica with its journal
--     world_code                       the code of a world
use Rattle.std.specs.Prelude.{◌≡◌, ◌⊎◌, ℕ, ◌==◌, List, Bool, true, false, if◌then◌else◌, Option, Some, None, Result, refl}
use Rattle.std.proofs.Common.{inl, inr}
use Rattle.std.specs.Coded.{Coded, code_by, coded×, coded⊎, coded_ℕ, coded_bool, coded_list, coded_option, coded_result}
use Rattle.std.specs.Ordering.{nat_cmp}
use Rattle.std.specs.FinMap as finmap
use Rattle.xds_resource.specs.declared.types.TypeName.{TypeName}
use Rattle.xds_resource.specs.declared.refusal.Refusal.{Refusal}
use Rattle.xds_resource.specs.declared.refusal.Refusal.TheVariants as refusals
use Rattle.xds_resource.specs.PerType.{PerType, per_type_code}
use Rattle.xds_resource.specs.Refusals.{number_of}
use Rattle.xds_resource.specs.Resources.{NamedBody, named_body_code}
use Rattle.xds_resource.specs.Writes.{write_code}
use Rattle.xds_message.specs.declared.draft.Draft.{Draft}
use Rattle.xds_message.specs.Drafts.{Drafted}
use Rattle.xds_ledger.specs.declared.outcome.Outcome.{Outcome}
use Rattle.xds_ledger.specs.declared.outcome.Outcome.TheVariants.{Taken, Ignored}
use Rattle.xds_core.specs.Stores.{Batch}
use Rattle.xds_core.specs.Streams.{Message}
use Rattle.xds_core.specs.Events as events
use Rattle.xds_core.specs.Events.{Event, Reply}
use Rattle.xds_core.specs.Legal.{Record}
use Rattle.xds_core.specs.Steps.{Core, core_code}
use Rattle.xds_world.specs.Worlds.{Site, Peer, World}
use Rattle.xds_world.specs.PeerCodes.{text_code, type_code, message_code, drafted_code, draft_code, peer_code}

-- ---- choices without fields, by number

abbrev pub outcome_flag : Outcome → Bool
outcome_flag Taken = true
outcome_flag Ignored = false

abbrev pub flagged_outcome : Bool → Outcome
flagged_outcome true = Taken
flagged_outcome false = Ignored

abbrev pub outcome_again : (o : Outcome) → flagged_outcome (outcome_flag o) ≡ o
outcome_again Taken = refl
outcome_again Ignored = refl

abbrev pub outcome_code : Coded Outcome
outcome_code = code_by Bool coded_bool outcome_flag flagged_outcome outcome_again

abbrev pub later_refusal : ℕ → Refusal
later_refusal n =
    if n == 9 then refusals.NotFound
    else if n == 10 then refusals.CounterSpent
    else if n == 11 then refusals.BadStamp
    else if n == 12 then refusals.NoStream
    else if n == 13 then refusals.WrongVariant
    else if n == 14 then refusals.NonceSpent
    else if n == 15 then refusals.EmptyFrame
    else if n == 16 then refusals.FrameTooLong
    else if n == 17 then refusals.UnknownKind
    else if n == 18 then refusals.Truncated
    else if n == 19 then refusals.Device
    else if n == 20 then refusals.JournalFull
    else if n == 21 then refusals.BadScript
    else if n == 22 then refusals.BadTrace
    else if n == 23 then refusals.Gap
    else refusals.BadGroup

abbrev pub numbered_refusal : ℕ → Refusal
numbered_refusal n =
    if n == 1 then refusals.NotJson
    else if n == 2 then refusals.TooDeep
    else if n == 3 then refusals.NotWhole
    else if n == 4 then refusals.BadResource
    else if n == 5 then refusals.BadName
    else if n == 6 then refusals.TooLong
    else if n == 7 then refusals.BadMessage
    else if n == 8 then refusals.OutOfMemory
    else later_refusal n

abbrev pub refusal_again : (e : Refusal) → numbered_refusal (number_of e) ≡ e
refusal_again refusals.NotJson = refl
refusal_again refusals.TooDeep = refl
refusal_again refusals.NotWhole = refl
refusal_again refusals.BadResource = refl
refusal_again refusals.BadName = refl
refusal_again refusals.TooLong = refl
refusal_again refusals.BadMessage = refl
refusal_again refusals.OutOfMemory = refl
refusal_again refusals.NotFound = refl
refusal_again refusals.CounterSpent = refl
refusal_again refusals.BadStamp = refl
refusal_again refusals.NoStream = refl
refusal_again refusals.WrongVariant = refl
refusal_again refusals.NonceSpent = refl
refusal_again refusals.EmptyFrame = refl
refusal_again refusals.FrameTooLong = refl
refusal_again refusals.UnknownKind = refl
refusal_again refusals.Truncated = refl
refusal_again refusals.Device = refl
refusal_again refusals.JournalFull = refl
refusal_again refusals.BadScript = refl
refusal_again refusals.BadTrace = refl
refusal_again refusals.Gap = refl
refusal_again refusals.BadGroup = refl

abbrev pub refusal_code : Coded Refusal
refusal_code = code_by ℕ coded_ℕ number_of numbered_refusal refusal_again

-- ---- events of a replica, and what they are answered

abbrev pub batch_code : Coded Batch
batch_code = per_type_code (coded_list write_code)

abbrev pub AtStream : Type 0
AtStream = (ℕ × Message) ⊎ ((ℕ × Option TypeName) ⊎ ((ℕ × Option TypeName) ⊎ ℕ))

abbrev pub OfStore : Type 0
OfStore = (TypeName × (NamedBody × List (List ℕ))) ⊎ ((TypeName × List ℕ) ⊎ Batch)

-- a look at what is held: a poll without a stream, or marks
abbrev pub Looks : Type 0
Looks = (TypeName × (List (List ℕ) × (List ℕ × List ℕ))) ⊎ PerType ℕ

-- an event of a stream or of the store, or a look at it; with a flag those that say no more
abbrev pub EventParts : Type 0
EventParts = AtStream ⊎ (OfStore ⊎ (Bool ⊎ Looks))

abbrev pub event_parts : Event → EventParts
event_parts events.Open = inr (inr (inl true))
event_parts (events.Request n m) = inl (inl (n, m))
event_parts (events.Poll n which) = inl (inr (inl (n, which)))
event_parts (events.Owes n which) = inl (inr (inr (inl (n, which))))
event_parts (events.Close n) = inl (inr (inr (inr n)))
event_parts (events.Put t r groups) = inr (inl (inl (t, (r, groups))))
event_parts (events.Delete t name) = inr (inl (inr (inl (t, name))))
event_parts (events.Merge b) = inr (inl (inr (inr b)))
event_parts events.Snapshot = inr (inr (inl false))
event_parts (events.Rest t names version cluster) = inr (inr (inr (inl (t, (names, (version, cluster))))))
event_parts (events.Since marks) = inr (inr (inr (inr marks)))

abbrev pub event_of_parts : EventParts → Event
event_of_parts (inl (inl p)) = events.Request p.0 p.1
event_of_parts (inl (inr (inl p))) = events.Poll p.0 p.1
event_of_parts (inl (inr (inr (inl p)))) = events.Owes p.0 p.1
event_of_parts (inl (inr (inr (inr n)))) = events.Close n
event_of_parts (inr (inl (inl p))) = events.Put p.0 p.1.0 p.1.1
event_of_parts (inr (inl (inr (inl p)))) = events.Delete p.0 p.1
event_of_parts (inr (inl (inr (inr b)))) = events.Merge b
event_of_parts (inr (inr (inl true))) = events.Open
event_of_parts (inr (inr (inl false))) = events.Snapshot
event_of_parts (inr (inr (inr (inl p)))) = events.Rest p.0 p.1.0 p.1.1.0 p.1.1.1
event_of_parts (inr (inr (inr (inr marks)))) = events.Since marks

abbrev pub event_again : (e : Event) → event_of_parts (event_parts e) ≡ e
event_again events.Open = refl
event_again (events.Request n m) = refl
event_again (events.Poll n which) = refl
event_again (events.Owes n which) = refl
event_again (events.Close n) = refl
event_again (events.Put t r groups) = refl
event_again (events.Delete t name) = refl
event_again (events.Merge b) = refl
event_again events.Snapshot = refl
event_again (events.Rest t names version cluster) = refl
event_again (events.Since marks) = refl

abbrev pub which_code : Coded (ℕ × Option TypeName)
which_code = coded× coded_ℕ (coded_option type_code)

abbrev pub looks_code : Coded Looks
looks_code = coded⊎ (coded× type_code (coded× (coded_list text_code) (coded× text_code text_code))) (per_type_code coded_ℕ)

abbrev pub event_code : Coded Event
event_code =
    code_by EventParts
    (coded⊎ (coded⊎ (coded× coded_ℕ message_code) (coded⊎ which_code (coded⊎ which_code coded_ℕ))) (coded⊎ (coded⊎ (coded× type_code (coded× named_body_code (coded_list text_code))) (coded⊎ (coded× type_code text_code) batch_code)) (coded⊎ coded_bool looks_code)))
    event_parts event_of_parts event_again

-- a number, by whether it is a stream's, a count of changes, or a stamp with its writer
abbrev pub Numbers : Type 0
Numbers = ℕ ⊎ (ℕ ⊎ (ℕ × ℕ))

-- what was looked at: the answer to a poll without a stream, or what changed
abbrev pub Looked : Type 0
Looked = Option Drafted ⊎ (Batch × PerType ℕ)

-- and what became of a request, whether something is owed, or that a stream is closed, which is none
abbrev pub ReplyParts : Type 0
ReplyParts = Numbers ⊎ ((Outcome ⊎ Option Bool) ⊎ (Option Draft ⊎ (Batch ⊎ Looked)))

abbrev pub reply_parts : Reply → ReplyParts
reply_parts (events.Opened n) = inl (inl n)
reply_parts (events.Answered o) = inr (inl (inl o))
reply_parts (events.Polled d) = inr (inr (inl d))
reply_parts (events.Owed b) = inr (inl (inr (Some b)))
reply_parts events.Closed = inr (inl (inr None))
reply_parts (events.Written counter writer) = inl (inr (inr (counter, writer)))
reply_parts (events.Merged n) = inl (inr (inl n))
reply_parts (events.Entries b) = inr (inr (inr (inl b)))
reply_parts (events.Rested d) = inr (inr (inr (inr (inl d))))
reply_parts (events.Changed b marks) = inr (inr (inr (inr (inr (b, marks)))))

abbrev pub reply_of_parts : ReplyParts → Reply
reply_of_parts (inl (inl n)) = events.Opened n
reply_of_parts (inl (inr (inl n))) = events.Merged n
reply_of_parts (inl (inr (inr p))) = events.Written p.0 p.1
reply_of_parts (inr (inl (inl o))) = events.Answered o
reply_of_parts (inr (inl (inr (Some b)))) = events.Owed b
reply_of_parts (inr (inl (inr None))) = events.Closed
reply_of_parts (inr (inr (inl d))) = events.Polled d
reply_of_parts (inr (inr (inr (inl b)))) = events.Entries b
reply_of_parts (inr (inr (inr (inr (inl d))))) = events.Rested d
reply_of_parts (inr (inr (inr (inr (inr p))))) = events.Changed p.0 p.1

abbrev pub reply_again : (r : Reply) → reply_of_parts (reply_parts r) ≡ r
reply_again (events.Opened n) = refl
reply_again (events.Answered o) = refl
reply_again (events.Polled d) = refl
reply_again (events.Owed b) = refl
reply_again events.Closed = refl
reply_again (events.Written counter writer) = refl
reply_again (events.Merged n) = refl
reply_again (events.Entries b) = refl
reply_again (events.Rested d) = refl
reply_again (events.Changed b marks) = refl

abbrev pub reply_code : Coded Reply
reply_code =
    code_by ReplyParts
    (coded⊎ (coded⊎ coded_ℕ (coded⊎ coded_ℕ (coded× coded_ℕ coded_ℕ))) (coded⊎ (coded⊎ outcome_code (coded_option coded_bool)) (coded⊎ (coded_option draft_code) (coded⊎ batch_code (coded⊎ (coded_option drafted_code) (coded× batch_code (per_type_code coded_ℕ)))))))
    reply_parts reply_of_parts reply_again

abbrev pub record_code : Coded Record
record_code = code_by (Event × Result Reply Refusal) (coded× event_code (coded_result reply_code refusal_code)) (λ r. (r.event, r.answer)) (λ p. record { event = p.0; answer = p.1 }) (λ _. refl)

-- ---- the parts of a world

abbrev pub site_code : Coded Site
site_code = code_by (Core × List Record) (coded× core_code (coded_list record_code)) (λ s. (s.core, s.journal)) (λ p. record { core = p.0; journal = p.1 }) (λ _. refl)

abbrev pub world_code : Coded World
world_code =
    code_by (finmap.FinMap nat_cmp Site × (finmap.FinMap nat_cmp Peer × List (ℕ × Batch))) (coded× (finmap.code coded_ℕ site_code) (coded× (finmap.code coded_ℕ peer_code) (coded_list (coded× coded_ℕ batch_code))))
    (λ w. (w.sites, (w.peers, w.pool))) (λ p. record { sites = p.0; peers = p.1.0; pool = p.1.1 }) (λ _. refl)
