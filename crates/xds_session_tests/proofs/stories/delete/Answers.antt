use Rattle.xds_session_tests.proofs.Later.{delete_follows}
use Rattle.xds_session_tests.proofs.stories.delete.Goals as goal

pub returns : goal.returns
returns g c =
    delete_follows c.args.catalogue.now c.delete-stamp.new.self c.args.name.now 1 c.delete-stamp.result (λ s. s.counter) c.delete-stamp.ensures.deletes c.delete-stamp.ensures.err c.requires
