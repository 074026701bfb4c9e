use Rattle.std.proofs.Common.{ap, ◌∙◌}
use Rattle.json.specs.Value.{members_view}
use Rattle.xds_json.proofs.Places.{placed_at}
use Rattle.xds_json.proofs.reading.place.Goals as goal

pub returns : goal.returns
returns c = ap members_view (rw c.in-Ok.is at c.insert.ensures.items) ∙ placed_at (c.args.key, c.args.member) c.args.found.now.items c.in_ok-at.at c.requires c.in_ok-at.ensures
