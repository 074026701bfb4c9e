use Rattle.std.proofs.Common.{◌≡◌, take, map}
use Rattle.xds_message.specs.Batches.{by_type}
use Rattle.xds_exchange.specs.Parts.{typed_write}
use Rattle.xds_exchange.proofs.outbox.batch_of.Given as goal

abbrev pub invariant-loop-write : goal.invariant-loop-write
invariant-loop-write l = l.batch ≡ by_type (map typed_write (take l.write-index l.writes))
