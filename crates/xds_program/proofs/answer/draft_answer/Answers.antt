use Rattle.std.proofs.Common.{ap}
use Rattle.std.proofs.lemmas.Result.{IfOk-weaker, IfErr-weaker}
use Rattle.xds_program.specs.Answers.{answer_text}
use Rattle.xds_program.proofs.Reading.{no_memory_at}
use Rattle.xds_program.proofs.answer.draft_answer.Goals as goal

pub returns-in-Ok-clause-answered : goal.returns-in-Ok-clause-answered
returns-in-Ok-clause-answered c = IfOk-weaker c.draft_gathered.result _ _ (λ draft given. c.in-Ok.ensures.gathered.answers c.args.replica _ (ap answer_text given)) c.draft_gathered.ensures.given

pub returns-in-Ok-clause-refused : goal.returns-in-Ok-clause-refused
returns-in-Ok-clause-refused c =
    IfErr-weaker c.draft_gathered.result _ _ (λ fault h. no_memory_at c.args.input.items c.in-Ok.gathered.line fault.line fault.refusal c.in-Ok.ensures.gathered.fails h.0 h.1) c.draft_gathered.ensures.refused
