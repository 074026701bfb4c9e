use Rattle.xds_core.specs.Seen.{event_of}
use Rattle.xds_node.proofs.Telling.{is_told, nothing_refused}
use Rattle.xds_node.proofs.node.shared.SharedNode.call.Goals as goal

pub returns-clause-told : goal.returns-clause-told
returns-clause-told g c =
    let told = c.call-answer.ensures in
    is_told c.call-answer.result c.args.seat.now c.call-answer.new.seat c.deref_mut.result.now (event_of c.args.event) told.answer told.told told.rising

pub returns-clause-kept : goal.returns-clause-kept
returns-clause-kept g c =
    nothing_refused c.call-answer.result c.args.seat.now c.call-answer.new.seat c.deref_mut.result.now (event_of c.args.event) c.call-answer.ensures.told
