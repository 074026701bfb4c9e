use Rattle.std.proofs.Common.{◌≡◌, ◌++◌, map}
use Rattle.std.specs.List.{filter_map}
use Rattle.std.specs.String.{string_bytes}
use Rattle.xds_catalogue.specs.Content.{live_at}
use Rattle.xds_catalogue.proofs.names.WritesByName.shown.Given as goal

abbrev pub invariant-loop-name : goal.invariant-loop-name
invariant-loop-name g l =
    map (λ w. w.now) l.shown.items ++ filter_map (λ k. live_at l.self.entries (string_bytes k)) l.name-iterator ≡ filter_map (λ k. live_at l.self.entries (string_bytes k)) l.initial.name-iterator
