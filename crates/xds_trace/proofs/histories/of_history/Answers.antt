use Rattle.std.proofs.Common.{refl, inl, inr, ◌∙◌}
use Rattle.xds_trace.proofs.Joining.{joins_all, told_all, keeps_all, none_cut}
use Rattle.xds_trace.proofs.histories.of_history.Goals as goal

pub returns-then-not-follows-clause-told : goal.returns-then-not-follows-clause-told
returns-then-not-follows-clause-told g c = inl (refl, λ joins. c.if-not-follows.ensures joins.0 joins.1)

pub returns-then-not-follows-clause-legal : goal.returns-then-not-follows-clause-legal
returns-then-not-follows-clause-legal g c = λ all.
    let joins = joins_all c.args.segments.now c.args.history.now c.records-last.result.now c.records-last.ensures.whole c.records-last.ensures.records all in
    absurd (c.if-not-follows.ensures joins.0 joins.1)

pub returns-in-Ok-clause-told : goal.returns-in-Ok-clause-told
returns-in-Ok-clause-told g c = (
  c.if-not-follows.ensures,
  told_all c.args.segments.now c.args.history.now c.records-last.result.now c.records-last.ensures.whole c.records-last.ensures.records c.of_lines.result (c.of_lines.ensures ∙ c.in-Ok.ensures.0),
)

pub returns-in-Ok-clause-uncut : goal.returns-in-Ok-clause-uncut
returns-in-Ok-clause-uncut g c = λ none.
    keeps_all c.args.segments.now c.args.history.now c.records-last.result.now c.records-last.ensures.whole c.records-last.ensures.records c.of_lines.result (c.of_lines.ensures ∙ c.in-Ok.ensures.0) c.in-Ok.ensures.1
    (none_cut c.args.segments.now c.args.history.now c.if-not-follows.ensures none)

pub returns-in-Ok-clause-keeps : goal.returns-in-Ok-clause-keeps
returns-in-Ok-clause-keeps g c =
    keeps_all c.args.segments.now c.args.history.now c.records-last.result.now c.records-last.ensures.whole c.records-last.ensures.records c.of_lines.result (c.of_lines.ensures ∙ c.in-Ok.ensures.0) c.in-Ok.ensures.1

pub returns-in-Err-clause-told : goal.returns-in-Err-clause-told
returns-in-Err-clause-told g c = inr (c.if-not-follows.ensures, c.in-Err.ensures)

pub returns-in-Err-clause-legal : goal.returns-in-Err-clause-legal
returns-in-Err-clause-legal g c = λ _. c.in-Err.ensures
