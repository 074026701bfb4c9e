use Rattle.xds_node.proofs.Ending.{audits, all_cut}
use Rattle.xds_node.proofs.node.history.History.audit.Goals as goal

pub returns-then-whole-clause-shares : goal.returns-then-whole-clause-shares
returns-then-whole-clause-shares g c =
    let h = c.self.inside in
    (audits _ h.base h.records.items h.cut h.complete h.token c.share.new.token c.args.self c.args.segments.items c.self.invariant c.share.ensures c.look.ensures.known c.self.view_is).shares

pub returns-then-whole-clause-each : goal.returns-then-whole-clause-each
returns-then-whole-clause-each g c =
    let h = c.self.inside in
    (audits _ h.base h.records.items h.cut h.complete h.token c.share.new.token c.args.self c.args.segments.items c.self.invariant c.share.ensures c.look.ensures.known c.self.view_is).each

pub returns-then-whole-clause-in_order : goal.returns-then-whole-clause-in_order
returns-then-whole-clause-in_order g c =
    let h = c.self.inside in
    all_cut _ h.base h.records.items h.cut h.complete h.token c.share.new.token c.args.self c.args.segments.items c.as_slice.result.now c.self.invariant c.share.ensures c.look.ensures.known c.self.view_is c.as_slice.ensures.value c.if-whole.ensures

pub returns-clause-shares : goal.returns-clause-shares
returns-clause-shares g c =
    let h = c.self.inside in
    (audits _ h.base h.records.items h.cut h.complete h.token c.share.new.token c.args.self c.args.segments.items c.self.invariant c.share.ensures c.look.ensures.known c.self.view_is).shares

pub returns-clause-each : goal.returns-clause-each
returns-clause-each g c =
    let h = c.self.inside in
    (audits _ h.base h.records.items h.cut h.complete h.token c.share.new.token c.args.self c.args.segments.items c.self.invariant c.share.ensures c.look.ensures.known c.self.view_is).each

pub returns-then-whole-clause-bases : goal.returns-then-whole-clause-bases
returns-then-whole-clause-bases g c =
    let h = c.self.inside in
    (audits _ h.base h.records.items h.cut h.complete h.token c.share.new.token c.args.self c.args.segments.items c.self.invariant c.share.ensures c.look.ensures.known c.self.view_is).bases

pub returns-then-whole-clause-stands : goal.returns-then-whole-clause-stands
returns-then-whole-clause-stands g c =
    let h = c.self.inside in
    (audits _ h.base h.records.items h.cut h.complete h.token c.share.new.token c.args.self c.args.segments.items c.self.invariant c.share.ensures c.look.ensures.known c.self.view_is).stands

pub returns-clause-bases : goal.returns-clause-bases
returns-clause-bases g c =
    let h = c.self.inside in
    (audits _ h.base h.records.items h.cut h.complete h.token c.share.new.token c.args.self c.args.segments.items c.self.invariant c.share.ensures c.look.ensures.known c.self.view_is).bases

pub returns-clause-stands : goal.returns-clause-stands
returns-clause-stands g c =
    let h = c.self.inside in
    (audits _ h.base h.records.items h.cut h.complete h.token c.share.new.token c.args.self c.args.segments.items c.self.invariant c.share.ensures c.look.ensures.known c.self.view_is).stands
