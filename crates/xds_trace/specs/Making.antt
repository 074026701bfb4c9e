-- The lines that what happened at a replica makes in a trace: each write that it took, each stream that it opened or closed, each
-- request that it took or ignored, each response that it sent, and that it owes a stream nothing of a type. What is refused makes
-- none. This project's own.
--     Naming                           how resources are called, by their types and their bodies
--     name_read                        the name of a resource, and none where there is none
--     own_names                        the name by which the body of a resource calls it
--     IsCalled                         a write of a type whose body, if it has one, goes by the write's name
--     IsWellNamed                      an event whose bodies go by the names that it gives
--     IsSound                          an event as the calls take it: its resources and its writes are such as are read
--     asking_of                        a request
--     statement_of                     a resource of a response of the state of the world
--     labelled_of                      a resource of a delta response
--     answer_of                        the response of a draft
--     write_line                       the line of a write
--     batch_lines                      the lines of a batch
--     open_lines                       the line of an opened stream
--     put_lines                        the line of a put
--     delete_lines                     the line of a deletion
--     sent_lines                       the line of a response, if one was sent
--     response_lines                   the line of what a poll gave
--     idle_lines                       that nothing is owed of a type; what is said of all types at once makes no line
--     answered_lines                   the lines of an event that was answered so
--     lines_by                         the lines of an event by its answer; a refused one has none
--     lines_of                         the lines of a record
--     trace_by                         the trace of some records
--     trace_of                         the same, where bodies go by their own names
-- a write of a type, as one of any
pub use Rattle.xds_resource.specs.Any.{any_write}
use Rattle.std.specs.Prelude.{◌≡◌, ℕ, List, [], ◌∷◌, map, false, Option, Some, None, Result, Ok, Err, IfSome, All, ⊤}
use Rattle.std.specs.List.{flat_map}
use Rattle.xds_resource.specs.declared.types.TypeName.{TypeName}
use Rattle.xds_resource.specs.declared.refusal.Refusal.{Refusal}
use Rattle.xds_resource.specs.PerType.{at}
use Rattle.xds_resource.specs.Resources.{NamedBody, IsCanonical, IsWritable, written, deleted, from_value, value_of}
use Rattle.xds_resource.specs.Types.{types}
use Rattle.xds_resource.specs.Writes.{StampedWrite}
use Rattle.xds_message.specs.declared.draft.Draft.{Draft}
use Rattle.xds_message.specs.declared.draft.Draft.TheVariants as drafts
use Rattle.xds_message.specs.Drafts.{DraftedResource}
use Rattle.xds_ledger.specs.declared.variant.VariantName.TheVariants.{StateOfTheWorld, Delta}
use Rattle.xds_core.specs.Stores.{Batch}
use Rattle.xds_core.specs.Streams as streams
use Rattle.xds_core.specs.Streams.{Message}
use Rattle.xds_core.specs.Events.{Event, Open, Request, Poll, Owes, Close, Put, Delete, Merge, Snapshot, Rest, Since, Reply, Opened, Polled, Owed, Written}
use Rattle.xds_core.specs.Legal.{Record}
use Rattle.xds_check.specs.declared.asking.Asking.{Asking}
use Rattle.xds_check.specs.declared.asking.Asking.TheVariants as askings
use Rattle.xds_check.specs.declared.line.Line.{Line}
use Rattle.xds_check.specs.declared.line.Line.TheVariants as lines
use Rattle.xds_check.specs.Answers.{Statement, Answer}

-- ---- names

-- how resources are called, by their types and their bodies
abbrev pub Naming : Type 0
Naming = TypeName → List ℕ → List ℕ

-- the name of a resource, and none where there is none
abbrev pub name_read : {E : Type 0} → Result NamedBody E → List ℕ
name_read (Ok r) = r.name
name_read (Err e) = []

-- the name by which the body of a resource calls it
abbrev pub own_names : Naming
own_names t body = name_read (from_value t (value_of body))

-- a write of a type whose body, if it has one, goes by the write's name
abbrev pub IsCalled : Naming → TypeName → StampedWrite → Type 0
IsCalled named t w = IfSome w.body (λ body. named t body ≡ w.name)

-- an event whose bodies go by the names that it gives
abbrev pub IsWellNamed : Naming → Event → Type 0
IsWellNamed named (Put t r groups) = named t r.body ≡ r.name
IsWellNamed named (Merge b) = (t : TypeName) → All (IsCalled named t) (at b t)
IsWellNamed named e = ⊤

-- an event as the calls take it: its resources and its writes are such as are read
abbrev pub IsSound : Event → Type 0
IsSound (Put t r groups) = IsCanonical t r
IsSound (Merge b) = (t : TypeName) → All (IsWritable t) (at b t)
IsSound e = ⊤

-- ---- what the program's values are in a trace

-- a request
abbrev pub asking_of : Message → Asking
asking_of (streams.Sotw m) = askings.Sotw m
asking_of (streams.Delta m) = askings.Delta m

-- a resource of a response of the state of the world
abbrev pub statement_of : Naming → TypeName → List ℕ → Statement
statement_of named t body = record { name = named t body; body = body; label = None }

-- a resource of a delta response
abbrev pub labelled_of : Naming → TypeName → DraftedResource → Statement
labelled_of named t r = record { name = named t r.body; body = r.body; label = Some (record { name = r.name; version = r.version }) }

-- a response
abbrev pub answer_of : Naming → Draft → Answer
answer_of named (drafts.Sotw d) = record {
  variant = StateOfTheWorld;
  kind = d.kind;
  version_info = d.version_info;
  nonce = d.nonce;
  statements = map (statement_of named d.kind) d.bodies;
  removed = [];
}
answer_of named (drafts.Delta d) = record {
  variant = Delta;
  kind = d.kind;
  version_info = d.system_version_info;
  nonce = d.nonce;
  statements = map (labelled_of named d.kind) d.resources;
  removed = d.removed_resources;
}

-- ---- lines

abbrev pub write_line : TypeName → StampedWrite → Line
write_line t w = lines.Write (any_write t w)

-- the writes of a batch, type by type in the order of the table
abbrev pub batch_lines : Batch → List Line
batch_lines b = flat_map (λ t. map (write_line t) (at b t)) types

abbrev pub open_lines : Reply → List Line
open_lines (Opened n) = lines.Open n ∷ []
open_lines reply = []

abbrev pub put_lines : TypeName → NamedBody → List (List ℕ) → Reply → List Line
put_lines t r groups (Written counter writer) = write_line t (written counter writer r groups) ∷ []
put_lines t r groups reply = []

abbrev pub delete_lines : TypeName → List ℕ → Reply → List Line
delete_lines t name (Written counter writer) = write_line t (deleted counter writer name) ∷ []
delete_lines t name reply = []

abbrev pub sent_lines : Naming → ℕ → Option Draft → List Line
sent_lines named n None = []
sent_lines named n (Some d) = lines.Response n (answer_of named d) ∷ []

abbrev pub response_lines : Naming → ℕ → Reply → List Line
response_lines named n (Polled sent) = sent_lines named n sent
response_lines named n reply = []

-- rule: awaited-names
-- that nothing is owed of a type; what is said of all types at once makes no line
abbrev pub idle_lines : ℕ → Option TypeName → Reply → List Line
idle_lines n (Some t) (Owed false) = lines.Idle n t ∷ []
idle_lines n (Some t) reply = []
idle_lines n None reply = []

-- the lines of an event that was answered so
abbrev pub answered_lines : Naming → Event → Reply → List Line
answered_lines named Open reply = open_lines reply
answered_lines named (Request n m) reply = lines.Request n (asking_of m) ∷ []
answered_lines named (Poll n which) reply = response_lines named n reply
answered_lines named (Owes n which) reply = idle_lines n which reply
answered_lines named (Close n) reply = lines.Close n ∷ []
answered_lines named (Put t r groups) reply = put_lines t r groups reply
answered_lines named (Delete t name) reply = delete_lines t name reply
answered_lines named (Merge b) reply = batch_lines b
answered_lines named Snapshot reply = []
answered_lines named (Rest t names version cluster) reply = []
answered_lines named (Since marks) reply = []

abbrev pub lines_by : Naming → Event → Result Reply Refusal → List Line
lines_by named e (Ok reply) = answered_lines named e reply
lines_by named e (Err refusal) = []

-- the lines of a record
abbrev pub lines_of : Naming → Record → List Line
lines_of named r = lines_by named r.event r.answer

-- the trace of some records
abbrev pub trace_by : Naming → List Record → List Line
trace_by named rs = flat_map (lines_of named) rs

-- the same, where bodies go by their own names
abbrev pub trace_of : List Record → List Line
trace_of rs = trace_by own_names rs
