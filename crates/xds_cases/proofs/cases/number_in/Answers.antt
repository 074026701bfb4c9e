use Rattle.std.proofs.Common.{◌∙◌}
use Rattle.xds_cases.proofs.Repeating.{number_parsed}
use Rattle.xds_cases.proofs.cases.number_in.Goals as goal

pub returns : goal.returns
returns c = c.ok.ensures.value ∙ number_parsed c.args.text.now c.parse.result c.parse.ensures.value.0
