use Rattle.xds_http.proofs.Posting.{posted}
use Rattle.xds_http.proofs.polling.post_to.Goals as goal

pub returns : goal.returns
returns c =
    posted c.args.path.now c.args.body c.new.result _ _ _ c.body.result c.post.ensures.ok c.header.ensures.others c.header-2.ensures.others c.new.ensures c.body.ensures
