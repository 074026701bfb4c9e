use Rattle.xds_script.proofs.Wording.{text_of-words_in}
use Rattle.xds_script.proofs.words.Words.text.Goals as goal

pub returns : goal.returns
returns c = text_of-words_in _ c.args.self c.self.view_is
