use Rattle.xds_node.proofs.Steps.{told_stands}
use Rattle.xds_node.proofs.node.token.Tokens.tell.Goals as goal

pub returns-clause-stands : goal.returns-clause-stands
returns-clause-stands g c = told_stands c.args.token.now c.args.seat.now c.lend-lent.result c.give.new.token c.requires.kept c.requires.seat c.lend-lent.ensures.lent c.give.ensures c.look.ensures.known
