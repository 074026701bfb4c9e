use Rattle.std.proofs.Common.{◌≡◌}
use Rattle.std.specs.List.{list_all}
use Rattle.xds_http.specs.Heads.{is_chunked, comes_plain}
use Rattle.xds_http.proofs.service.is_coded.Given as goal

abbrev pub invariant-loop-coding : goal.invariant-loop-coding
invariant-loop-coding l =
    (goal.iterator-loop-coding).can_next l.coding-iterator
    × (goal.iterator-loop-coding).is_finite l.coding-iterator
    × (list_all is_chunked l.coding-iterator ≡ comes_plain l.headers)
