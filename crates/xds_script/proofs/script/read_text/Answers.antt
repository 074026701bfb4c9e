use Rattle.std.proofs.Common.{Option, ap, subst, ◌∙◌}
use Rattle.std.specs.Option.{ok_or}
use Rattle.xds_resource.specs.declared.refusal.Refusal.TheVariants.{BadScript}
use Rattle.xds_resource.specs.Refusals.{Gives}
use Rattle.xds_script.specs.Commands.{Said, said_of, says_words}
use Rattle.xds_script.proofs.Scripting.{text_says-utf8, text_says-other}
use Rattle.xds_script.proofs.script.read_text.Goals as goal

pub returns-in-Ok : goal.returns-in-Ok
returns-in-Ok c =
    subst (λ (o : Option Said). Gives said_of c.read_words.result (ok_or o BadScript)) (ap says_words c.of.ensures ∙ text_says-utf8 c.args.line.now c.in-Ok.text.now c.in-Ok.ensures.cases) c.read_words.ensures

pub returns-in-Err : goal.returns-in-Err
returns-in-Err c = λ other. ap (λ (o : Option Said). ok_or o BadScript) (text_says-other c.args.line.now c.in-Err.ensures.cases.0)
