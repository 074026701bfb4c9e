use Rattle.std.proofs.Common.{◌≤◌, length, drop}
use Rattle.xds_json.proofs.Places.{AreBehind}
use Rattle.xds_json.proofs.reading.place_of.Given as goal

abbrev pub invariant-places : goal.invariant-places
invariant-places l = (l.at ≤ length l.found.items) × AreBehind l.key (drop l.at l.found.items)
