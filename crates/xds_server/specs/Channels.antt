-- The channels by which one replica of a server tells another. This project's own.
--     AreJoinedBy   one channel for what is told, and one back for what becomes of that, both new
use Rattle.std.specs.Prelude.{◌≡◌, []}
use Rattle.xds_exchange.specs.declared.ends.Outgoing.{Outgoing}
use Rattle.xds_exchange.specs.declared.ends.Incoming.{Incoming}
use Rattle.xds_exchange.specs.Ends.{AreEnds, put_by, taken_by}

-- One channel for what is told, and one back for what becomes of that. Nothing was put on either.
pub record AreJoinedBy {P R : Type 0} (sends : Outgoing P × Incoming R) (takes : Incoming P × Outgoing R) : Type 0 where
  pub there : AreEnds sends.0 takes.0
  pub back : AreEnds takes.1 sends.1
  pub none_told : put_by sends.0 ≡ []
  pub none_heard : taken_by takes.0 ≡ []
  pub none_answered : put_by takes.1 ≡ []
  pub none_learned : taken_by sends.1 ≡ []
