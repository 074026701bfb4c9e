use Rattle.std.proofs.Common.{◌≡◌, ◌++◌, map, string_bytes, drop}
use Rattle.xds_changes.specs.Contents.{groups_behind}
use Rattle.xds_changes.proofs.contents.push_behind.Given as goal

-- what is written, and what is left to write, is all
abbrev pub invariant-loop-group : goal.invariant-loop-group
invariant-loop-group l =
    string_bytes l.word ++ groups_behind (map string_bytes (drop l.group-index l.groups)) ≡ string_bytes l.initial.word ++ groups_behind (map string_bytes l.groups)
