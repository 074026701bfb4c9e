use Rattle.std.proofs.Common.{◌≡◌, ◌<◌, ◌⊎◌, ap, subst, ◌∙◌}
use Rattle.std.specs.Prelude.{IfErr, IsSome}
use Rattle.xds_resource.specs.Stamps.{max_counter}
use Rattle.xds_resource.specs.declared.refusal.Refusal.TheVariants.{OutOfMemory, NonceSpent}
use Rattle.xds_ledger.specs.Lists.{Kept}
use Rattle.xds_ledger.specs.Sessions.{Session, sending}
use Rattle.xds_sessions.proofs.session.Session.next_alike.Goals as goal

-- the session is the same once the names were listed, and its beliefs stand on another offer
pub returns-clause-refused : goal.returns-clause-refused
returns-clause-refused g c =
    subst (λ (s : Session). IfErr c.next_told.result (λ e. IsSome (sending g.V.Variant.NAME g.T.ResourceType.TYPE s c.args.catalogue.now.entries) × (((e ≡ NonceSpent) × (c.args.nonces ≡ max_counter)) ⊎ ((e ≡ OutOfMemory) × (c.args.nonces < max_counter)))))
    (ap (λ (k : Kept). k.session) c.rebase.ensures ∙ c.list_told.ensures.same) c.next_told.ensures.refused
