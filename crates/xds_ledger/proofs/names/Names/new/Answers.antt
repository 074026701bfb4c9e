use Rattle.std.proofs.Common.{map, string_bytes}
use Rattle.std.specs.FinSet as set
use Rattle.xds_ledger.proofs.Versions.{versions_of_none}
use Rattle.xds_ledger.proofs.names.Names.new.Goals as goal

pub returns : goal.returns
returns g c =
    λ i. record {
      interest = c.args.interest.now;
      touched = c.args.touched.now;
      mentioned = set.from_list (map string_bytes c.args.mentioned);
      versions = versions_of_none i;
    }
