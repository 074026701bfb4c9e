use Rattle.std.proofs.Common.{◌∙◌, sym, arith}
use Rattle.xds_node.proofs.Balance.{gives}
use Rattle.xds_node.proofs.node.token.Tokens.give.Goals as goal

pub join_seat-requires : goal.join_seat-requires
join_seat-requires g c =
    (c.token.invariant.0 ∙ sym c.args.self.now.named, c.other.invariant.0 ∙ sym c.args.self.now.named, c.other.invariant.1, omega (arith, c.args.self.now.wide), gives _ _ _ _ (rw c.other.view_is c.requires))
