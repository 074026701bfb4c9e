use Rattle.std.proofs.Common.{◌≡◌, ◌≤◌, drop}
use Rattle.json.specs.Tree.{members_depth}
use Rattle.json.specs.Value.{members_view}
use Rattle.serde_json.specs.Find.{get_member}
use Rattle.xds_json.specs.Ordered.{AreInOrder, members_meaning}
use Rattle.xds_json.proofs.looking.find.Given as goal

-- what is left decides
abbrev pub invariant-loop-member : goal.invariant-loop-member
invariant-loop-member l =
    (get_member l.name (members_meaning (members_view l.member-items)) ≡ get_member l.name (members_meaning (members_view (drop l.member-index l.member-items))))
    × AreInOrder (members_view (drop l.member-index l.member-items)) × (members_depth (members_view (drop l.member-index l.member-items)) ≤ members_depth (members_view l.member-items))
