use Rattle.std.proofs.Common.{◌≡◌, false, sym, subst}
use Rattle.std.specs.Prelude.{IfSome}
use Rattle.xds_ledger.specs.Ledgers.{Account, Names, answered}
use Rattle.xds_ledger.proofs.InPlace.{unchanged}
use Rattle.xds_ledger.proofs.AsOffered.{taken_as_offered}
use Rattle.xds_ledger.proofs.account.Account.take_as_offered.Goals as goal

pub returns-clause-ok : goal.returns-clause-ok
returns-clause-ok g c =
    let v = g.V.Variant.NAME in
    let t = g.T.ResourceType.TYPE in
    let names : Names = c.args.names in
    let before : Account = c.args.self.now in
    let a = c.self.inside in
    let out : Account = record { beliefs = a.beliefs; nonce = a.nonce; accepted = a.accepted; sent = a.sent; refused = a.refused } in
    taken_as_offered v t before out before.sent names c.args.next c.change_beliefs.new.beliefs c.requires.told
    (c.in_ok-change_beliefs.ensures.ok c.args.next (unchanged c.new-start.result c.args.next c.new-start.ensures))
    (subst (λ (x : Account). IfSome before.sent (λ sent. x ≡ record (answered v t before sent false) { beliefs = before.beliefs })) (sym c.self.view_is) c.settle.ensures)
