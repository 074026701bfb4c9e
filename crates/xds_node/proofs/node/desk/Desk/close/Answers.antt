use Rattle.std.proofs.Common.{◌∙◌, nat_eq}
use Rattle.xds_node.proofs.Ending.{story, story_stands, story_each}
use Rattle.xds_node.proofs.node.desk.Desk.close.Goals as goal

pub invariant_of-result : goal.invariant_of-result
invariant_of-result g c =
    let d = c.self.inside in
    story _ d.base d.core d.journal.items d.cut d.seats c.len.result d.token c.gather.new.token c.look.new.token c.args.seats.items c.self.invariant c.gather.ensures c.look.ensures.same c.look.ensures.known (c.len.ensures ∙ c.args.seats.ok.0)

pub returns-clause-each : goal.returns-clause-each
returns-clause-each g c =
    let d = c.self.inside in
    story_each _ d.base d.journal.items d.cut (nat_eq c.len.result d.seats) c.look.new.token
    (story _ d.base d.core d.journal.items d.cut d.seats c.len.result d.token c.gather.new.token c.look.new.token c.args.seats.items c.self.invariant c.gather.ensures c.look.ensures.same c.look.ensures.known (c.len.ensures ∙ c.args.seats.ok.0))

pub returns-clause-stands : goal.returns-clause-stands
returns-clause-stands g c =
    let d = c.self.inside in
    story_stands _ d.base d.journal.items d.cut (nat_eq c.len.result d.seats) c.look.new.token
    (story _ d.base d.core d.journal.items d.cut d.seats c.len.result d.token c.gather.new.token c.look.new.token c.args.seats.items c.self.invariant c.gather.ensures c.look.ensures.same c.look.ensures.known (c.len.ensures ∙ c.args.seats.ok.0))
