use Rattle.std.proofs.Common.{refl}
use Rattle.std.proofs.lemmas.Option.{slice_get_read}
use Rattle.xds_machine.proofs.Wired.{one_gives, none_gives, is_past}
use Rattle.xds_machine.proofs.wires.give.Goals as goal

pub returns-in_ok-push-clause-gains : goal.returns-in_ok-push-clause-gains
returns-in_ok-push-clause-gains g c =
    one_gives c.args.sends c.args.replicas.now.items c.args.place c.in-Some.replica.now _
    (slice_get_read _ _ _ _ (search) (c.in-Some.ensures.variant.0 refl) c.in-Some.ensures.value)
    (record { sockets = refl; changes = refl; sends = c.in_ok-push.ensures.items; takes = refl })

pub returns-in_default-clause-gains : goal.returns-in_default-clause-gains
returns-in_default-clause-gains g c = none_gives c.args.sends c.args.replicas.now.items c.args.place (is_past _ _ _ (search) c.in_default.ensures.variant.1)
