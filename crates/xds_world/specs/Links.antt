-- Streams: what is left under way once the oldest isn't. This project's own.
--     behind    a list without its first, if it has one
--     link_up   once the replica took the oldest request, if there is one
use Rattle.std.specs.Prelude.{List, [], ◌∷◌, Option, Some, None}
use Rattle.xds_core.specs.Streams.{Message}
use Rattle.xds_world.specs.Worlds.{Link}

-- a list without its first, if it has one
abbrev pub behind : {X : Type 0} → List X → List X
behind [] = []
behind (x ∷ xs) = xs

-- once the replica took the oldest request, if there is one
abbrev pub link_up : Link → List Message → Option Link
link_up l [] = None
link_up l (m ∷ rest) = Some (record l { up = rest })
