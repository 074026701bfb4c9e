use Rattle.std.proofs.Common.{refl, string_bytes}
use Rattle.xds_cases.proofs.Telling.{parts_cut, answer_told}
use Rattle.xds_cases.proofs.scripts.answer.Goals as goal

pub returns : goal.returns
returns g c =
    answer_told g.S.Script.may_answer string_bytes c.args.script.now c.step-answered.new.self c.unwrap_or.result.0.now c.unwrap_or.result.1.now c.args.step.now _ c.told.result
    (parts_cut c.cut.result c.unwrap_or.result _ c.args.step.now c.unwrap_or.ensures refl refl c.cut.ensures) c.step-answered.ensures c.told.ensures
