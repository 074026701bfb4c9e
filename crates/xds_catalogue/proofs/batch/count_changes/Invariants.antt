use Rattle.std.proofs.Common.{◌≡◌, take}
use Rattle.std.specs.FinMap as finmap
use Rattle.xds_catalogue.specs.Changes.{changes_after}
use Rattle.xds_catalogue.proofs.batch.count_changes.Given as goal

abbrev pub invariant-loop-place : goal.invariant-loop-place
invariant-loop-place g l = l.count ≡ changes_after (finmap.values l.tables.named.entries) (take l.place l.writes)
