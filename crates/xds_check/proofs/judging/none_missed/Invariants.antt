use Rattle.std.proofs.Common.{◌≡◌, not}
use Rattle.std.specs.FinMap as finmap
use Rattle.std.specs.List.{list_all}
use Rattle.xds_resource.specs.Names.{pairs}
use Rattle.xds_check.specs.Kept.{is_missed}
use Rattle.xds_check.proofs.judging.none_missed.Given as goal

-- what is left decides
abbrev pub invariant-loop-name : goal.invariant-loop-name
invariant-loop-name g l =
    list_all (λ e. not (is_missed l.catalogue.entries l.talk e.0)) (finmap.entries l.talk.waiting) ≡ list_all (λ e. not (is_missed l.catalogue.entries l.talk e.0)) (pairs l.name-iterator)
