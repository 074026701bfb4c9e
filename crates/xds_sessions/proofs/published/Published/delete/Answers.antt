use Rattle.std.proofs.Common.{sym, subst}
use Rattle.xds_sessions.specs.declared.wildcards.Wildcards.{Wildcards}
use Rattle.xds_sessions.specs.Wildcards.{Fits}
use Rattle.xds_sessions.proofs.published.Published.delete.Goals as goal

pub invariant_of-self : goal.invariant_of-self
invariant_of-self g c =
    let m = c.delete.new.self.entries in
    subst (λ (w : Wildcards). Fits g.T.ResourceType.TYPE m w) (sym c.put.ensures) (c.none.ensures.fits g.T.ResourceType.TYPE m)
