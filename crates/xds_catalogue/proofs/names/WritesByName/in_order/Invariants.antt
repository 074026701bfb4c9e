use Rattle.std.proofs.Common.{◌≡◌, ◌++◌, map}
use Rattle.xds_catalogue.proofs.names.WritesByName.in_order.Given as goal

abbrev pub invariant-loop-name : goal.invariant-loop-name
invariant-loop-name g l = map (λ w. w.now) l.writes.items ++ map (λ e. e.1.write) l._name-iterator ≡ map (λ e. e.1.write) l.initial._name-iterator
