use Rattle.std.proofs.Common.{◌∙◌, sym, arith}
use Rattle.xds_node.proofs.Balance.{lends}
use Rattle.xds_node.proofs.node.token.Tokens.lend.Goals as goal

pub split_seat-requires : goal.split_seat-requires
split_seat-requires g c =
    (c.token.invariant.0 ∙ sym c.args.self.now.named, omega (arith, c.args.self.now.wide), lends _ _)
