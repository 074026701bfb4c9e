use Rattle.std.proofs.Common.{sym, ap, ◌∙◌}
use Rattle.xds_ledger.specs.Lists.{Kept}
use Rattle.xds_sessions.proofs.Sharing.{names_are_owed}
use Rattle.xds_sessions.proofs.session.Session.first_names.Goals as goal

pub returns-in-Some : goal.returns-in-Some
returns-in-Some g c =
    names_are_owed g.V.Variant.NAME g.T.ResourceType.TYPE g.V.Speaks.IsSaid c.args.self.now.session c.args.catalogue.now.entries c.in-Some.wildcard.now c.shared_names.result c.in-Some.ensures.0 c.in-Some.ensures.1
    (sym (ap (λ (k : Kept). k.session.account.beliefs) c.self.view_is) ∙ c.believes_nothing.ensures c.if-not-believes_nothing.false) c.shared_names.ensures
