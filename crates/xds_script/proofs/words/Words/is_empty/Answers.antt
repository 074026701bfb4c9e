use Rattle.xds_script.proofs.Wording.{is_none-words_in}
use Rattle.xds_script.proofs.words.Words.is_empty.Goals as goal

pub returns : goal.returns
returns c = is_none-words_in c.self.inside.rest c.is_none.result c.args.self.now c.is_none.ensures c.self.view_is
