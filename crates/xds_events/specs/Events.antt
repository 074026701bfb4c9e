-- What happens at a replica, and what it answers. This project's own.
--     Event                    what may happen at a replica; a poll or a look at what is owed is of one type, or of all
--     Reply                    what an event is answered
use Rattle.std.specs.Prelude.{ℕ, List, Bool, Option}
use Rattle.xds_resource.specs.declared.types.TypeName.{TypeName}
use Rattle.xds_resource.specs.PerType.{PerType}
use Rattle.xds_resource.specs.Resources.{NamedBody}
use Rattle.xds_message.specs.declared.draft.Draft.{Draft}
use Rattle.xds_message.specs.Drafts.{Drafted}
use Rattle.xds_ledger.specs.declared.outcome.Outcome.{Outcome}
use Rattle.xds_events.specs.Stores.{Batch}
use Rattle.xds_events.specs.Streams.{Message}

-- Streams go by their numbers; a poll or a look at what is owed is of one type, or of all.
pub data Event : Type 0 where
  Open : Event
  Request : ℕ → Message → Event
  Poll : ℕ → Option TypeName → Event
  Owes : ℕ → Option TypeName → Event
  Close : ℕ → Event
  -- a resource, in these groups
  Put : TypeName → NamedBody → List (List ℕ) → Event
  Delete : TypeName → List ℕ → Event
  Merge : Batch → Event
  Snapshot : Event
  -- one poll of a client without a stream: its list of names, the version that it kept, and the text of its cluster
  Rest : TypeName → List (List ℕ) → List ℕ → List ℕ → Event
  -- marks, of each type a count of changes
  Since : PerType ℕ → Event

pub data Reply : Type 0 where
  -- the number of the stream
  Opened : ℕ → Reply
  Answered : Outcome → Reply
  Polled : Option Draft → Reply
  Owed : Bool → Reply
  Closed : Reply
  -- the counter and the writer of the write that was made
  Written : ℕ → ℕ → Reply
  -- how many entries were added or replaced
  Merged : ℕ → Reply
  Entries : Batch → Reply
  -- none where nothing changed since the version that the client kept
  Rested : Option Drafted → Reply
  -- the entries that changed after the marks, and the counts of changes now
  Changed : Batch → PerType ℕ → Reply
