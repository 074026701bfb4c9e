use Rattle.std.proofs.Common.{◌≡◌, ◌++◌, map, drop}
use Rattle.serde_json.specs.View.{items_view}
use Rattle.xds_sources.specs.References.{refers_of, each_named}
use Rattle.xds_sources.proofs.walking.push_each.Given as goal

-- what is found and what is left are all
abbrev pub invariant-loop-item : goal.invariant-loop-item
invariant-loop-item l =
    map refers_of l.found.items ++ each_named l.key (items_view (drop l.item-index l.item-items)) ≡ map refers_of l.initial.found.items ++ each_named l.key (items_view l.item-items)
