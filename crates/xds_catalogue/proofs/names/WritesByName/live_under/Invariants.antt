use Rattle.std.proofs.Common.{◌≡◌, ◌++◌, map, drop}
use Rattle.std.specs.List.{filter_map}
use Rattle.xds_catalogue.specs.Content.{live_at}
use Rattle.xds_catalogue.proofs.names.WritesByName.live_under.Given as goal

abbrev pub invariant-loop-name : goal.invariant-loop-name
invariant-loop-name g l =
    map (λ w. w.now) l.live.items ++ filter_map (live_at l.self.entries) (map (λ n. n.now) (drop l.name-index l.names)) ≡ filter_map (live_at l.self.entries) (map (λ n. n.now) l.names)
