use Rattle.std.proofs.Common.{◌∙◌, sym, arith}
use Rattle.xds_node.proofs.Balance.{notes}
use Rattle.xds_node.proofs.node.token.Tokens.note.Goals as goal

pub compare_exchange_with-found-requires : goal.compare_exchange_with-found-requires
compare_exchange_with-found-requires g c =
    (c.token.invariant.0 ∙ sym c.args.self.now.named, omega (arith, c.args.self.now.wide), notes _ _ _ (λ n. n) _)
