use Rattle.std.proofs.Common.{◌≡◌, ◌++◌, take, map}
use Rattle.xds_resource.specs.PerType.{at}
use Rattle.xds_message.specs.Batches.{typed}
use Rattle.xds_exchange.specs.Parts.{typed_write}
use Rattle.xds_exchange.proofs.outbox.push_all.Given as goal

abbrev pub invariant-loop-index : goal.invariant-loop-index
invariant-loop-index l = map typed_write l.all.items ≡ map typed_write l.initial.all.items ++ typed l.kind (take l.index (at l.batch l.kind))
