use Rattle.std.proofs.Common.{◌∙◌, sym, arith}
use Rattle.xds_node.proofs.Balance.{looks}
use Rattle.xds_node.proofs.node.token.Tokens.look.Goals as goal

pub load-found-requires : goal.load-found-requires
load-found-requires g c =
    (c.token.invariant.0 ∙ sym c.args.self.now.named, omega (arith, c.args.self.now.wide), looks _ _ _ (λ n. n) (rw c.token.view_is c.requires))
