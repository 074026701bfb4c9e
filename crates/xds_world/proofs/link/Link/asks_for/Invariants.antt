use Rattle.std.proofs.Common.{◌≡◌, map}
use Rattle.std.specs.List.{list_any}
use Rattle.std.specs.VecDeque.Iter.{deque_iter_rest}
use Rattle.xds_core.specs.Seen.{message_of}
use Rattle.xds_world.specs.Claims.{asks_for}
use Rattle.xds_world.proofs.link.Link.asks_for.Given as goal

-- what is left decides
abbrev pub invariant-loop-request : goal.invariant-loop-request
invariant-loop-request l = list_any (asks_for l.kind) l.self.up ≡ list_any (asks_for l.kind) (map message_of (deque_iter_rest l.request-iterator))
