use Rattle.xds_session_tests.proofs.Later.{put_follows}
use Rattle.xds_session_tests.proofs.stories.put.Goals as goal

pub returns : goal.returns
returns g c =
    put_follows c.args.catalogue.now c.put-stamp.new.self c.in_ok-resource.resource c.args.groups 1 c.put-stamp.result (λ s. s.counter) c.put-stamp.ensures.puts c.put-stamp.ensures.err c.requires
