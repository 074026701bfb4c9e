use Rattle.std.proofs.Common.{refl}
use Rattle.xds_program.proofs.run.run_answer.Goals as goal

pub returns : goal.returns
returns g c = (
  c.answer-status.result,
  refl,
  record {
    cause = c.as_str.result.now;
    first = _;
    last = _;
    joined = record { before = refl; between = refl; after = refl; failed_before = refl; failed_between = refl; failed_after = refl };
    ends = c.answer-status.ensures;
    is_note = _;
    told = c.tell_cause.ensures;
  },
)
