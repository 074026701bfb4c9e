use Rattle.std.proofs.lemmas.Result.{IfOk-weaker, IfErr-weaker}
use Rattle.xds_program.proofs.Reading.{no_memory_at}
use Rattle.xds_program.proofs.answer.answer_lines.Goals as goal

pub returns-in-Ok-clause-answered : goal.returns-in-Ok-clause-answered
returns-in-Ok-clause-answered c = IfOk-weaker c.answer_gathered.result _ _ (λ output told. c.in-Ok.ensures.gathered.answers c.args.replica output.items told) c.answer_gathered.ensures.answered

pub returns-in-Ok-clause-refused : goal.returns-in-Ok-clause-refused
returns-in-Ok-clause-refused c =
    IfErr-weaker c.answer_gathered.result _ _ (λ fault h. no_memory_at c.args.input.now c.in-Ok.gathered.line fault.line fault.refusal c.in-Ok.ensures.gathered.fails h.0 h.1) c.answer_gathered.ensures.refused
