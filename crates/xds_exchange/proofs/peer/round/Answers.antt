use Rattle.std.proofs.lemmas.Result.{IfOk-weaker}
use Rattle.xds_exchange.proofs.Telling.{has_all, grown_all, knows_again}
use Rattle.xds_exchange.proofs.Staying.{left_taken}
use Rattle.xds_exchange.proofs.peer.round.Goals as goal

pub returns-clause-all : goal.returns-clause-all
returns-clause-all c = λ knows.
    IfOk-weaker c.exchange.result _ _ (λ r merges. has_all c.args.from.now.store c.args.to.now c.exchange.new.to c.args.peer.now c.held_is_kept.ensures c.held_is_kept-2.ensures knows r.parts r.grown merges) c.exchange.ensures.merged

pub returns-clause-grown : goal.returns-clause-grown
returns-clause-grown c = λ knows.
    IfOk-weaker c.exchange.result _ _ (λ r merges. grown_all c.args.from.now.store c.args.to.now c.exchange.new.to c.args.peer.now c.held_is_kept.ensures c.held_is_kept-2.ensures knows r.parts r.grown merges) c.exchange.ensures.merged

pub returns-clause-knows : goal.returns-clause-knows
returns-clause-knows c = λ knows.
    knows_again c.args.from.now.store c.args.to.now.store c.exchange.new.to.store c.exchange.new.peer c.exchange.result c.held_is_kept.ensures c.held_is_kept-2.ensures
    (IfOk-weaker c.exchange.result _ _ (λ r merges. has_all c.args.from.now.store c.args.to.now c.exchange.new.to c.args.peer.now c.held_is_kept.ensures c.held_is_kept-2.ensures knows r.parts r.grown merges) c.exchange.ensures.merged) c.exchange.ensures.lost

pub returns-clause-taken : goal.returns-clause-taken
returns-clause-taken c = left_taken c.args.from.now.store c.exchange.new.peer c.exchange.result c.exchange.ensures.marks c.exchange.ensures.lost
