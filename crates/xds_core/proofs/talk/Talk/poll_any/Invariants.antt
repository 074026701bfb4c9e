use Rattle.std.proofs.Common.{◌≡◌, drop}
use Rattle.xds_resource.specs.Types.{types}
use Rattle.xds_events.specs.Streams.{first_due}
use Rattle.xds_core.specs.Talks.{StreamFits, followed, stream_in}
use Rattle.xds_core.proofs.talk.Talk.poll_any.Given as goal

-- nothing was sent, and what is left decides
abbrev pub invariant-loop-kind : goal.invariant-loop-kind
invariant-loop-kind g l = record {
  same : stream_in g.V.Variant.NAME l.self ≡ stream_in g.V.Variant.NAME l.initial.self;
  fits : StreamFits l.held (followed g.V.Variant.NAME l.self);
  due : first_due l.held (stream_in g.V.Variant.NAME l.initial.self) (drop l.kind-index l.kind-items) ≡ first_due l.held (stream_in g.V.Variant.NAME l.initial.self) types;
}
