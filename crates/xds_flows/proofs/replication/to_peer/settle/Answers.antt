use Rattle.std.proofs.Common.{ap, ◌==◌}
use Rattle.std.proofs.lemmas.Bool.{ne_eqb}
use Rattle.xds_flows.proofs.Tellings.{settles_one}
use Rattle.xds_flows.proofs.replication.to_peer.settle.Goals as goal

pub returns-in-Some-clause-settles : goal.returns-in-Some-clause-settles
returns-in-Some-clause-settles g c =
    settles_one _ _ _ _ _ _ c.in_default.ensures.ok _ _ (ap (λ n. n == 0) c.len-is_empty.ensures) (ne_eqb c.len-is_empty.result 0 c.if-is_empty.false) c.in_default-put_all.ensures.puts c.in-Some.ensures.taken
