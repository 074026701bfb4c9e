-- How the events of the program are seen as happenings. This project's own.
--     wish_of                  what a client wishes, as the definitions have it
--     happening_of             what happens, as the definitions have it
use Rattle.std.specs.Prelude.{map, string_bytes}
use Rattle.xds_resource.specs.Any.{resource_type, named_body}
use Rattle.xds_script.specs.declared.event.Wish.{Wish}
use Rattle.xds_script.specs.declared.event.Wish.TheVariants as wishes
use Rattle.xds_script.specs.declared.event.WorldEvent.{WorldEvent}
use Rattle.xds_script.specs.declared.event.WorldEvent.TheVariants as events
use Rattle.xds_script.specs.Happenings as happenings
use Rattle.xds_script.specs.Happenings.{Happening}

abbrev pub wish_of : Wish → happenings.Wish
wish_of (wishes.Names names) = happenings.Names (map string_bytes names.items)
wish_of (wishes.Edits subscribe unsubscribe) = happenings.Edits (map string_bytes subscribe.items) (map string_bytes unsubscribe.items)

abbrev pub happening_of : WorldEvent → Happening
happening_of (events.AddReplica replica) = happenings.AddReplica replica
happening_of (events.AddClient client kind cluster) = happenings.AddClient client kind (string_bytes cluster)
happening_of (events.Put replica resource groups) = happenings.Put replica (resource_type resource) (named_body resource) groups
happening_of (events.Delete replica kind name) = happenings.Delete replica kind (string_bytes name)
happening_of (events.Snapshot replica) = happenings.Snapshot replica
happening_of (events.Merge replica batch) = happenings.Merge replica batch
happening_of (events.Connect client replica) = happenings.Connect client replica
happening_of (events.Change client kind wish) = happenings.Change client kind (wish_of wish)
happening_of (events.Up client) = happenings.Up client
happening_of (events.Poll client which) = happenings.Poll client which
happening_of (events.Down client) = happenings.Down client
happening_of (events.Lose client) = happenings.Lose client
happening_of (events.RestPoll client replica kind answer) = happenings.RestPoll client replica kind answer
