use Rattle.std.proofs.Common.{◌≡◌, ap, ◌∙◌}
use Rattle.xds_ledger.specs.Ledgers.{Account, Names, settled, taken}
use Rattle.xds_ledger.specs.Lists.{Books}
use Rattle.xds_ledger.proofs.Suffices.{next_books_fit}
use Rattle.xds_ledger.proofs.ledger.Ledger.take.Goals as goal

pub returns-clause-fits : goal.returns-clause-fits
returns-clause-fits g c =
    let v = g.V.Variant.NAME in
    let t = g.T.ResourceType.TYPE in
    let now : Books = c.args.self.now in
    let after : Books = record { account = c.take.new.self; listed = c.in_ok-listed.listed } in
    let names : Names = c.args.names in
    let takes : Account → Account = λ a. taken (settled v t a c.args.nonce.now c.args.rejects) names in
    let left : c.take.new.self ≡ takes now.account = c.in_ok-take.ensures.ok ∙ ap (λ (b : Books). takes b.account) c.self.view_is in
    next_books_fit v t now after c.args.nonce.now c.args.rejects names c.in_ok-listed.ensures.ok left
