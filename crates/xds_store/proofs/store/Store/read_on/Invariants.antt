use Rattle.std.proofs.Common.{List}
use Rattle.std.specs.Prelude.{IsSome}
use Rattle.sqlite_value.specs.Order.{Row}
use Rattle.sqlite_trees.specs.View.{IsClean}
use Rattle.xds_store.specs.Reading.{IsReadTo}
use Rattle.xds_store.specs.Steps.{IsPending}
use Rattle.xds_store.specs.Tables.{HasTables}
use Rattle.xds_store.proofs.store.Store.read_on.Given as goal

abbrev pub invariant-rows : goal.invariant-rows
invariant-rows g l =
    IsPending g.S.Store.view g.S.Store.recovers l.initial.self.trees l.self.trees
    × HasTables (g.S.Store.view l.self.trees)
    × IsSome ((g.S.Store.view l.self.trees).cursors 0)
    × (IsClean (g.S.Store.view l.self.trees) → (rows : List Row) → IsReadTo rows ((g.S.Store.view l.initial.self.trees).cursors 0) l.initial.batch → IsReadTo rows ((g.S.Store.view l.self.trees).cursors 0) l.batch)
