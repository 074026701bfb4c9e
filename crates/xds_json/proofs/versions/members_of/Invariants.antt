use Rattle.std.proofs.Common.{◌≡◌, List, ◌++◌}
use Rattle.serde_json.specs.View.{members_view}
use Rattle.xds_json.specs.Versions.{pairs_of, text_members}
use Rattle.xds_json.proofs.VersionLemmas.{Pair}
use Rattle.xds_json.proofs.versions.members_of.Given as goal

abbrev pub invariant-loop-name : goal.invariant-loop-name
invariant-loop-name l =
    (done : List Pair) × (l.entries.entries ≡ done ++ l.name-iterator) × (members_view l.members.entries ≡ text_members (pairs_of done))
