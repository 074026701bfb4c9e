use Rattle.xds_json.proofs.VersionLemmas.{from_sorted-empty}
use Rattle.xds_json.proofs.versions.Versions.new.Goals as goal

pub returns : goal.returns
returns c = from_sorted-empty c.new.result.entries c.new.ensures.empty
