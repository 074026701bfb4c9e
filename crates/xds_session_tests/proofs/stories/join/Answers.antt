use Rattle.std.proofs.Common.{[], ◌∷◌}
use Rattle.xds_session_tests.proofs.Later.{join_follows}
use Rattle.xds_session_tests.proofs.stories.join.Goals as goal

pub returns : goal.returns
returns g c =
    join_follows c.args.catalogue.now c.join_write-grown.new.self (c.in_ok-write.write ∷ []) c.join_write-grown.result c.join_write-grown.ensures.joins c.join_write-grown.ensures.err c.requires
