use Rattle.xds_flows.proofs.WantsCover.{wants_begin, wants_cover_requests}
use Rattle.xds_flows.proofs.laws.wants_cover_requests.Goals as goal

pub returns-clause-begin : goal.returns-clause-begin
returns-clause-begin c = wants_begin

pub returns-clause-requests : goal.returns-clause-requests
returns-clause-requests c = wants_cover_requests
