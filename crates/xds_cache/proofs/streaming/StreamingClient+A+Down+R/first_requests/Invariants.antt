use Rattle.std.proofs.Common.{◌≡◌, ◌++◌, drop, false}
use Rattle.xds_resource.specs.Types.{types}
use Rattle.xds_cache.specs.Sends.{first_of, first_requests, is_greeted}
use Rattle.xds_cache.proofs.streaming.StreamingClient+A+Down+R.first_requests.Given as goal

-- what is left decides
abbrev pub invariant-loop-kind : goal.invariant-loop-kind
invariant-loop-kind g l = record {
  requests :
      l.requests.items ++ first_requests (first_of g.R.Asks.opening l.self) l.self l.greeted (drop l.kind-index l.kind-items) ≡ first_requests (first_of g.R.Asks.opening l.self) l.self false types;
  greeted : is_greeted l.self l.greeted (drop l.kind-index l.kind-items) ≡ is_greeted l.self false types;
}
