use Rattle.std.proofs.Common.{◌≡◌, ◌++◌, map, drop}
use Rattle.serde_json.specs.View.{items_view, members_view}
use Rattle.xds_sources.specs.References.{refers_of, items_walked, members_walked}
use Rattle.xds_sources.proofs.walking.+walking.Given as goal

-- what is found and what is left are all
abbrev pub invariant-walk_items-loop-item : goal.invariant-walk_items-loop-item
invariant-walk_items-loop-item l =
    map refers_of l.found.items ++ items_walked (items_view (drop l.item-index l.item-items)) ≡ map refers_of l.initial.found.items ++ items_walked (items_view l.item-items)

abbrev pub invariant-walk_members-loop-key : goal.invariant-walk_members-loop-key
invariant-walk_members-loop-key l =
    map refers_of l.found.items ++ members_walked (members_view l.key-iterator) ≡ map refers_of l.initial.found.items ++ members_walked (members_view l.members.entries)
