use Rattle.std.proofs.Common.{◌≡◌}
use Rattle.std.specs.FinMap as finmap
use Rattle.xds_resource.specs.Names.{pairs, put_all}
use Rattle.xds_sessions.proofs.Sharing.{put_no_number}
use Rattle.xds_sessions.proofs.wildcards.names_of.Given as goal

-- what is left decides
abbrev pub invariant-loop-name : goal.invariant-loop-name
invariant-loop-name l = put_all (λ name due. put_no_number due) l.names (pairs l.name-iterator) ≡ put_all (λ name due. put_no_number due) finmap.empty (finmap.entries l.offer)
