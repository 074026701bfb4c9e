use Rattle.std.proofs.Common.{◌<◌, sym, subst}
use Rattle.xds_resource.specs.declared.types.TypeName.TheVariants.{Cluster, Endpoint, Listener, Route, Secret}
use Rattle.xds_resource.specs.PerType.{PerType}
use Rattle.xds_resource.specs.Stamps.{max_counter}
use Rattle.xds_check.specs.Judges.{JudgeKept}
use Rattle.xds_check.specs.LiveNames.{AreLive}
use Rattle.xds_check.proofs.judges.Judges.take.Goals as goal

pub take-requires-clause-room : goal.take-requires-clause-room
take-requires-clause-room c = subst (λ (p : PerType JudgeKept). p.cluster.held.changes < max_counter) (sym c.self.view_is) (c.requires.room Cluster)

pub take-requires-clause-live : goal.take-requires-clause-live
take-requires-clause-live c = subst (λ (p : PerType JudgeKept). AreLive p.cluster.held.entries p.cluster.live_names) (sym c.self.view_is) (c.requires.live Cluster)

pub take-requires-2-clause-room : goal.take-requires-2-clause-room
take-requires-2-clause-room c = subst (λ (p : PerType JudgeKept). p.endpoint.held.changes < max_counter) (sym c.self.view_is) (c.requires.room Endpoint)

pub take-requires-2-clause-live : goal.take-requires-2-clause-live
take-requires-2-clause-live c = subst (λ (p : PerType JudgeKept). AreLive p.endpoint.held.entries p.endpoint.live_names) (sym c.self.view_is) (c.requires.live Endpoint)

pub take-requires-3-clause-room : goal.take-requires-3-clause-room
take-requires-3-clause-room c = subst (λ (p : PerType JudgeKept). p.listener.held.changes < max_counter) (sym c.self.view_is) (c.requires.room Listener)

pub take-requires-3-clause-live : goal.take-requires-3-clause-live
take-requires-3-clause-live c = subst (λ (p : PerType JudgeKept). AreLive p.listener.held.entries p.listener.live_names) (sym c.self.view_is) (c.requires.live Listener)

pub take-requires-4-clause-room : goal.take-requires-4-clause-room
take-requires-4-clause-room c = subst (λ (p : PerType JudgeKept). p.route.held.changes < max_counter) (sym c.self.view_is) (c.requires.room Route)

pub take-requires-4-clause-live : goal.take-requires-4-clause-live
take-requires-4-clause-live c = subst (λ (p : PerType JudgeKept). AreLive p.route.held.entries p.route.live_names) (sym c.self.view_is) (c.requires.live Route)

pub take-requires-5-clause-room : goal.take-requires-5-clause-room
take-requires-5-clause-room c = subst (λ (p : PerType JudgeKept). p.secret.held.changes < max_counter) (sym c.self.view_is) (c.requires.room Secret)

pub take-requires-5-clause-live : goal.take-requires-5-clause-live
take-requires-5-clause-live c = subst (λ (p : PerType JudgeKept). AreLive p.secret.held.entries p.secret.live_names) (sym c.self.view_is) (c.requires.live Secret)
