use Rattle.xds_events.specs.Seen.{event_of}
use Rattle.xds_core.proofs.Twins.{both_give, both_alike, both_kept, both_short}
use Rattle.xds_core.proofs.replica.Core.answer_twice.Goals as goal

pub returns-clause-steps : goal.returns-clause-steps
returns-clause-steps c =
    both_give c.args.self.now c.step_beside.new.self (event_of c.args.event.now) c.in_ok-answer.answer c.try_copy-twin.result c.with_twin.result c.in_ok-answer.ensures.steps c.try_copy-twin.ensures.refused c.with_twin.ensures.value c.with_twin.ensures.refused

pub returns-clause-twin : goal.returns-clause-twin
returns-clause-twin c = both_alike c.in_ok-answer.answer c.try_copy-twin.result c.with_twin.result c.try_copy-twin.ensures.ok c.with_twin.ensures.value c.with_twin.ensures.copy

pub returns-clause-memory : goal.returns-clause-memory
returns-clause-memory c =
    both_short c.args.self.now c.step_beside.new.self (event_of c.args.event.now) c.in_ok-answer.answer c.try_copy-twin.result c.with_twin.result c.requires c.in_ok-answer.ensures.steps c.try_copy-twin.ensures.light c.with_twin.ensures.refused

pub returns-clause-err : goal.returns-clause-err
returns-clause-err c =
    both_kept c.args.self.now c.step_beside.new.self (event_of c.args.event.now) c.in_ok-answer.answer c.try_copy-twin.result c.with_twin.result c.requires c.in_ok-answer.ensures.steps c.try_copy-twin.ensures.light c.with_twin.ensures.refused
