use Rattle.std.proofs.Common.{◌≡◌, sym, subst}
use Rattle.std.specs.Prelude.{IfSome}
use Rattle.xds_ledger.specs.Ledgers.{Account, Names, answered, taken}
use Rattle.xds_ledger.specs.Changes.{changes_answered}
use Rattle.xds_ledger.proofs.InPlace.{answer_in_place}
use Rattle.xds_ledger.proofs.account.Account.take_answer_in_place.Goals as goal

pub returns-clause-ok : goal.returns-clause-ok
returns-clause-ok g c =
    let v = g.V.Variant.NAME in
    let t = g.T.ResourceType.TYPE in
    let names : Names = c.args.names in
    let rejects = c.args.rejects in
    let a = c.self.inside in
    let before : Account = record { beliefs = a.beliefs; nonce = a.nonce; accepted = a.accepted; sent = a.sent; refused = a.refused } in
    subst (λ (x : Account). IfSome x.sent (λ sent. c.settle.new.self ≡ taken (answered v t x sent rejects) names)) c.self.view_is
    (answer_in_place v t rejects names before c.change_beliefs.new.beliefs c.in_ok-start.start c.settle.new.self c.requires.partial
    (subst (λ (x : Account). IfSome x.sent (λ sent. c.in_ok-start.start ≡ changes_answered sent rejects)) (sym c.self.view_is) c.in_ok-start.ensures.ok)
    c.in_ok-change_beliefs.ensures.ok c.settle.ensures)
