use Rattle.std.proofs.Common.{refl}
use Rattle.std.proofs.lemmas.Option.{slice_get_read}
use Rattle.xds_machine.proofs.Wired.{one_hands, none_hands, is_past}
use Rattle.xds_machine.proofs.wires.hand.Goals as goal

pub returns-in_ok-push-clause-gains : goal.returns-in_ok-push-clause-gains
returns-in_ok-push-clause-gains g c =
    one_hands c.args.takes c.args.replicas.now.items c.args.place c.in-Some.replica.now _
    (slice_get_read _ _ _ _ (search) (c.in-Some.ensures.variant.0 refl) c.in-Some.ensures.value)
    (record { sockets = refl; changes = refl; takes = c.in_ok-push.ensures.items; sends = refl })

pub returns-in_default-clause-gains : goal.returns-in_default-clause-gains
returns-in_default-clause-gains g c = none_hands c.args.takes c.args.replicas.now.items c.args.place (is_past _ _ _ (search) c.in_default.ensures.variant.1)
