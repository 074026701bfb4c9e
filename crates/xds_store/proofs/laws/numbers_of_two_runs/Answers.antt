use Rattle.std.proofs.Common.{◌+◌, arith}
use Rattle.sqlite_trees.specs.View.{IsClean}
use Rattle.xds_store.proofs.laws.numbers_of_two_runs.Goals as goal

pub returns : goal.returns
returns g c =
    λ clean.
    let crashed : IsClean (g.S.Store.view c.crash.new.store.trees) = omega (arith, c.take_numbers-2.ensures.clean, clean) in
    let put : IsClean (g.S.Store.view c.put_batch.new.self.trees) = omega (arith, c.crash.ensures.clean, crashed) in
    let taken : IsClean (g.S.Store.view c.take_numbers.new.self.trees) = omega (arith, c.put_batch.ensures.clean, put) in
    let next = c.in_ok-first.first + c.args.first_count in
    c.in_ok-second.ensures.above clean next (c.crash.ensures.kept next (c.put_batch.ensures.kept next (c.in_ok-first.ensures.taken taken)))
