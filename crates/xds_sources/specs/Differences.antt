-- What is to be changed of what is held, so that exactly what is wanted is held. This project's own.
--     Edit         a change: a resource of a type is put for all clients, or the resource of a name is deleted
--     edit_of      the change that the program hands on
--     is_for_all   whether no group is named
--     puts_body    whether a write puts this body, for all clients
--     stands       whether a write puts this resource, for all clients
--     puts_of      the puts of what isn't held as it is wanted, in order
--     deletes_of   the deletions of what isn't wanted, in order
--     difference   both, the puts first
--     Live         what is live under a key: a body, and the groups that it is for
--     live_in, held_at   what a write leaves live, if it leaves something; and none where there is none
--     wanted_live  what is live once a resource is put for all clients
--     edit_key, edit_live   the key that a change is made at, and what is live there then
--     after        what is live under a key once changes are made one after another
--     AreWantedByKey, AreHeldByKey   each stands under the key of its type and name
--     LeavesTheWanted   once the changes are made exactly what is wanted is live
use Rattle.std.specs.Prelude.{ℕ, ◌≡◌, List, [], ◌∷◌, ◌++◌, Bool, true, false, ◌&&◌, if◌then◌else◌, cond, bytes_eq, Option, Some, None, is_some, string_bytes}
use Rattle.std.specs.Option.{option_map, option_map_or}
use Rattle.std.specs.FinMap as finmap
use Rattle.xds_resource.specs.declared.types.TypeName.{TypeName}
use Rattle.xds_resource.specs.declared.any.AnyResource.{AnyResource}
use Rattle.xds_resource.specs.declared.any.AnyWrite.{AnyWrite}
use Rattle.xds_resource.specs.Resources.{NamedBody}
use Rattle.xds_resource.specs.Writes.{StampedWrite, text_cmp}
use Rattle.xds_resource.specs.Any.{resource_type, named_body, write_type, stamped_write}
use Rattle.xds_sources.specs.Keys.{key}
use Rattle.xds_sources.specs.declared.differences.SourceChange.{SourceChange}
use Rattle.xds_sources.specs.declared.differences.SourceChange.TheVariants.{Put, Delete}
use Rattle.xds_sources.specs.declared.reading.FileResource.{FileResource}

-- a change: a resource of a type is put for all clients, or the resource of a name is deleted
pub data Edit : Type 0 where
  puts : TypeName → NamedBody → Edit
  deletes : TypeName → List ℕ → Edit

-- the change that the program hands on
abbrev pub edit_of : SourceChange → Edit
edit_of (Put r) = puts (resource_type r) (named_body r)
edit_of (Delete t name) = deletes t (string_bytes name)

-- whether no group is named
abbrev pub is_for_all : List (List ℕ) → Bool
is_for_all [] = true
is_for_all (g ∷ gs) = false

-- whether a write puts this body, for all clients
abbrev pub puts_body : StampedWrite → List ℕ → Bool
puts_body w body = option_map_or (λ b. bytes_eq b body && is_for_all w.groups) w.body false

-- whether what is held of a name puts this resource, for all clients
abbrev pub stands : Option AnyWrite → AnyResource → Bool
stands None r = false
stands (Some w) r = puts_body (stamped_write w) (named_body r).body

-- the puts of what isn't held as it is wanted, in order
abbrev pub puts_of : finmap.FinMap text_cmp AnyWrite → List (List ℕ × FileResource) → List Edit
puts_of held [] = []
puts_of held (e ∷ es) = if stands (finmap.get held e.0) e.1.resource then puts_of held es else puts (resource_type e.1.resource) (named_body e.1.resource) ∷ puts_of held es

-- the deletions of what isn't wanted, in order
abbrev pub deletes_of : finmap.FinMap text_cmp FileResource → List (List ℕ × AnyWrite) → List Edit
deletes_of wanted [] = []
deletes_of wanted (e ∷ es) = if is_some (finmap.get wanted e.0) then deletes_of wanted es else deletes (write_type e.1) (stamped_write e.1).name ∷ deletes_of wanted es

-- both, the puts first
abbrev pub difference : finmap.FinMap text_cmp AnyWrite → finmap.FinMap text_cmp FileResource → List Edit
difference held wanted = puts_of held (finmap.entries wanted) ++ deletes_of wanted (finmap.entries held)

-- what is live under a key: a body, and the groups that it is for
pub record Live : Type 0 where
  pub body : List ℕ
  pub groups : List (List ℕ)

-- what a write leaves live, if it leaves something
abbrev pub live_in : StampedWrite → Option Live
live_in w = option_map (λ b. record { body = b; groups = w.groups }) w.body

abbrev pub held_at : Option AnyWrite → Option Live
held_at None = None
held_at (Some w) = live_in (stamped_write w)

-- what is live once a resource is put for all clients
abbrev pub wanted_live : FileResource → Live
wanted_live w = record { body = (named_body w.resource).body; groups = [] }

-- the key that a change is made at
abbrev pub edit_key : Edit → List ℕ
edit_key (puts t r) = key t r.name
edit_key (deletes t name) = key t name

-- and what is live there then
abbrev pub edit_live : Edit → Option Live
edit_live (puts t r) = Some (record { body = r.body; groups = [] })
edit_live (deletes t name) = None

-- what is live under a key once changes are made one after another
abbrev pub after : List Edit → (List ℕ → Option Live) → List ℕ → Option Live
after [] s k = s k
after (e ∷ es) s k = after es (λ q. cond (bytes_eq (edit_key e) q) (edit_live e) (s q)) k

-- each stands under the key of its type and name
abbrev pub AreWantedByKey : List (List ℕ × FileResource) → Type 0
AreWantedByKey [] = Unit {0}
AreWantedByKey (e ∷ es) = (key (resource_type e.1.resource) (named_body e.1.resource).name ≡ e.0) × AreWantedByKey es

abbrev pub AreHeldByKey : List (List ℕ × AnyWrite) → Type 0
AreHeldByKey [] = Unit {0}
AreHeldByKey (e ∷ es) = (key (write_type e.1) (stamped_write e.1).name ≡ e.0) × AreHeldByKey es

-- once the changes are made exactly what is wanted is live
abbrev pub LeavesTheWanted : Type 0
LeavesTheWanted =
    (held : finmap.FinMap text_cmp AnyWrite) (wanted : finmap.FinMap text_cmp FileResource) → AreWantedByKey (finmap.entries wanted) → AreHeldByKey (finmap.entries held) → (k : List ℕ)
    → after (difference held wanted) (λ q. held_at (finmap.get held q)) k ≡ option_map wanted_live (finmap.get wanted k)
