use Rattle.std.proofs.Common.{rules, inl, inr, refl, ⊎_elim}
use Rattle.std.proofs.KnownBytes.{Keeps-refl}
use Rattle.xds_program.proofs.Telling.{no_memory, tells}
use Rattle.xds_program.proofs.run.show.Goals as goal

pub returns-then-eq : goal.returns-then-eq
returns-then-eq g c = λ input. inl (no_memory _ input _ _ _ (Keeps-refl _) c.tell.ensures.told c.tell.ensures.status)

pub returns-in_default : goal.returns-in_default
returns-in_default g c = λ input. inl (no_memory _ input _ _ _ (Keeps-refl _) c.tell-in_default.ensures.told c.tell-in_default.ensures.status)

pub returns-then-use_stderr : goal.returns-then-use_stderr
returns-then-use_stderr g c = λ input. inr (
  search rules,
  inr (
    (let neither = c.use_stderr.ensures.0 c.if-use_stderr.true in λ call. ⊎_elim neither.0 neither.1 call),
    refl,
    (_, tells _ _ c.write_whole.result c.write_whole.ensures.written c.write_whole.ensures.failed),
    Keeps-refl _,
  ),
)
