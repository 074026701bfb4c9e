-- How the values of the program are seen as events, replies and records. This project's own.
--     event_of                        an event, as the definitions have it
--     reply_of                        a reply, as the definitions have it
--     answer_of                       an answer, as the definitions have it
--     record_of                       a record, as the definitions have it
use Rattle.std.specs.Prelude.{map, string_bytes, Result, Ok, Err}
use Rattle.xds_resource.specs.Any.{resource_type, named_body}
pub use Rattle.xds_events.specs.StreamsSeen.{message_of}
use Rattle.xds_events.specs.Counts.{counts_of}
use Rattle.xds_events.specs.Events as events
use Rattle.xds_events.specs.Legal.{Record}
use Rattle.xds_events.specs.declared.event.Event.{Event}
use Rattle.xds_events.specs.declared.event.Event.TheVariants as happenings
use Rattle.xds_events.specs.declared.event.Record as made
use Rattle.xds_events.specs.declared.event.Reply.{Reply}
use Rattle.xds_events.specs.declared.event.Reply.TheVariants as replies

abbrev pub event_of : Event → events.Event
event_of happenings.Open = events.Open
event_of (happenings.Request stream request) = events.Request stream (message_of request)
event_of (happenings.Poll stream kind) = events.Poll stream kind
event_of (happenings.Owes stream kind) = events.Owes stream kind
event_of (happenings.Close stream) = events.Close stream
event_of (happenings.Put resource groups) = events.Put (resource_type resource) (named_body resource) groups
event_of (happenings.Delete kind name) = events.Delete kind (string_bytes name)
event_of (happenings.Merge batch) = events.Merge batch
event_of happenings.Snapshot = events.Snapshot
event_of (happenings.Rest kind names version cluster) = events.Rest kind (map string_bytes names.items) (string_bytes version) (string_bytes cluster)
event_of (happenings.Since marks) = events.Since (counts_of marks)

abbrev pub reply_of : Reply → events.Reply
reply_of (replies.Opened stream) = events.Opened stream
reply_of (replies.Answered outcome) = events.Answered outcome
reply_of (replies.Polled response) = events.Polled response
reply_of (replies.Owed owed) = events.Owed owed
reply_of replies.Closed = events.Closed
reply_of (replies.Written stamp) = events.Written stamp.counter stamp.writer
reply_of (replies.Merged changes) = events.Merged changes
reply_of (replies.Entries batch) = events.Entries batch
reply_of (replies.Rested response) = events.Rested response
reply_of (replies.Changed batch marks) = events.Changed batch (counts_of marks)

abbrev pub answer_of : {E : Type 0} → Result Reply E → Result events.Reply E
answer_of (Ok reply) = Ok (reply_of reply)
answer_of (Err refusal) = Err refusal

-- a record of the program
abbrev pub record_of : made.Record → Record
record_of r = record { event = event_of r.event; answer = answer_of r.answer }
