use Rattle.std.proofs.Common.{ap, ◌∙◌}
use Rattle.xds_check.specs.Words.{word_of}
use Rattle.xds_check.proofs.LineTexts.{text_says}
use Rattle.xds_check.proofs.line.Line.text.Goals as goal

pub returns-clause-says : goal.returns-clause-says
returns-clause-says c =
    text_says c.args.self.now c.word.result.now c.as_str.result.now c.spaced.result c.spaced.ensures.ok (c.word.ensures ∙ ap word_of c.verb.ensures) (c.as_str.ensures.value ∙ c.in_ok-behind.ensures.text)
    c.in_ok-behind.ensures.says
