use Rattle.std.proofs.Common.{◌∙◌, sym, arith}
use Rattle.xds_node.proofs.Balance.{sits}
use Rattle.xds_node.proofs.node.token.Tokens.sit.Goals as goal

pub load-found-requires : goal.load-found-requires
load-found-requires g c =
    (c.token.invariant.0 ∙ sym c.args.self.now.named, omega (arith, c.args.self.now.wide), sits _ _ _ (λ n. n) (rw c.token.view_is c.requires))
