use Rattle.std.proofs.Common.{rules, ◌≡◌}
use Rattle.std.specs.Ordering.{eq_by_cmp}
use Rattle.xds_resource.specs.Writes.{write_cmp}
use Rattle.xds_resource.proofs.WriteTies.{eq_by_write_cmp}
use Rattle.xds_resource.proofs.write.WritePartialEq.eq.Goals as goal

pub returns-clause-same : goal.returns-clause-same
returns-clause-same g c =
    let value : c.eq.result ≡ eq_by_cmp write_cmp c.args.self.now c.args.other.now = search rules in
    eq_by_write_cmp c.args.self.now c.args.other.now c.eq.result value
