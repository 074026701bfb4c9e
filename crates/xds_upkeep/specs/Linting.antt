-- What is live at a replica, and the references that lead nowhere once changes are made over it. This project's own.
--     Live            writes of live resources, by type and name
--     with_any        these, once a write is among them, if it puts a resource
--     with_writes     these, once writes of a type are
--     live_of         these, once the writes of a batch are that are of these types
--     live_in         the live resources of a batch
--     looked_write    the write of a resource that is looked at: its stamp and its groups count for nothing
--     looked_event    what is looked at of what happens: a put without its groups, or a deletion
--     applied         these, once this happens
--     all_applied     these, once all this happens
--     LineSet         lines, each once, in their order
--     leads_line      the line of a reference that leads nowhere
--     marked          what stands at a line that is there
--     lines_of        the lines of all references that lead nowhere
--     new_lines       those of them that aren't among others, with their ends
--     lines_after     the lines of references that lead nowhere once all this happens over what a batch holds, and don't before
use Rattle.std.specs.Prelude.{ℕ, List, [], ◌∷◌, ◌++◌, Option, Some, None, is_some, codes, if◌then◌else◌, map}
use Rattle.std.specs.FinMap as finmap
use Rattle.std.specs.FinSet as set
use Rattle.xds_resource.specs.declared.types.TypeName.{TypeName}
use Rattle.xds_resource.specs.declared.any.AnyWrite.{AnyWrite}
use Rattle.xds_resource.specs.Any.{any_write, write_type, stamped_write}
use Rattle.xds_resource.specs.Names.{put_each}
use Rattle.xds_resource.specs.PerType.{at}
use Rattle.xds_resource.specs.Resources.{NamedBody, written}
use Rattle.xds_resource.specs.Types.{types}
use Rattle.xds_resource.specs.Writes.{StampedWrite, text_cmp}
use Rattle.xds_core.specs.Events.{Event, Put, Delete}
use Rattle.xds_core.specs.Stores.{Batch}
use Rattle.xds_sources.specs.Keys.{key}
use Rattle.xds_sources.specs.References.{Leads, dangling}
use Rattle.xds_upkeep.specs.Lines.{dangling_line}

-- writes of live resources, by type and name
abbrev pub Live : Type 0
Live = finmap.FinMap text_cmp AnyWrite

-- these, once a write is among them, if it puts a resource
abbrev pub with_any : Live → AnyWrite → Live
with_any live w = if is_some (stamped_write w).body then finmap.insert live (key (write_type w) (stamped_write w).name) w else live

-- these, once writes of a type are
abbrev pub with_writes : TypeName → Live → List StampedWrite → Live
with_writes t live [] = live
with_writes t live (w ∷ ws) = with_writes t (with_any live (any_write t w)) ws

-- these, once the writes of a batch are that are of these types
abbrev pub live_of : Batch → List TypeName → Live → Live
live_of batch [] live = live
live_of batch (t ∷ ts) live = live_of batch ts (with_writes t live (at batch t))

-- the live resources of a batch
abbrev pub live_in : Batch → Live
live_in batch = live_of batch types finmap.empty

-- the write of a resource that is looked at: its stamp and its groups count for nothing
abbrev pub looked_write : NamedBody → StampedWrite
looked_write r = written 1 1 r []

-- what is looked at of what happens: a put without its groups, or a deletion
abbrev pub looked_event : Event → Option Event
looked_event (Put t r groups) = Some (Put t r [])
looked_event (Delete t name) = Some (Delete t name)
looked_event e = None

-- these, once this happens
abbrev pub applied : Live → Event → Live
applied live (Put t r groups) = finmap.insert live (key t r.name) (any_write t (looked_write r))
applied live (Delete t name) = finmap.remove live (key t name)
applied live e = live

-- these, once all this happens
abbrev pub all_applied : Live → List Event → Live
all_applied live [] = live
all_applied live (e ∷ es) = all_applied (applied live e) es

-- lines, each once, in their order
abbrev pub LineSet : Type 0
LineSet = set.FinSet text_cmp

-- the line of a reference that leads nowhere
abbrev pub leads_line : Leads → List ℕ
leads_line l = dangling_line l.from l.to

-- what stands at a line that is there
abbrev pub marked : List ℕ → Option (Unit {0})
marked line = Some tt

-- the lines of all references that lead nowhere
abbrev pub lines_of : Live → LineSet
lines_of live = put_each marked finmap.empty (map leads_line (dangling live))

-- those of them that aren't among others, with their ends
abbrev pub new_lines : LineSet → List (List ℕ × Unit {0}) → List ℕ
new_lines before [] = []
new_lines before (e ∷ es) = if is_some (finmap.get before e.0) then new_lines before es else e.0 ++ (codes "\n" ++ new_lines before es)

-- the lines of references that lead nowhere once all this happens over what a batch holds, and don't before
abbrev pub lines_after : Batch → List Event → List ℕ
lines_after held changes = new_lines (lines_of (live_in held)) (finmap.entries (lines_of (all_applied (live_in held) changes)))
