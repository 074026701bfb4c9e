use Rattle.std.proofs.Common.{◌≡◌, true, false, Some, sym, ap, subst, ◌∙◌}
use Rattle.std.specs.Prelude.{IfSome}
use Rattle.std.specs.List.{list_any}
use Rattle.xds_ledger.specs.Ledgers.{Names}
use Rattle.xds_ledger.specs.Lists.{Books, accepts}
use Rattle.xds_ledger.proofs.ListedNames.{touched_are_listed, wider_is_listed}
use Rattle.xds_ledger.proofs.ledger.Ledger.listed_after.Goals as goal

pub returns-in-Some-clause-ok : goal.returns-in-Some-clause-ok
returns-in-Some-clause-ok g c =
    let v = g.V.Variant.NAME in
    let t = g.T.ResourceType.TYPE in
    let now : Books = c.args.self.now in
    touched_are_listed v t now (accepts now.account c.args.nonce.now c.args.rejects) c.args.names.now c.in-Some.sent.now c.in-Some.mark c.list_touched.result
    (sym c.accepts-accepts.ensures ∙ subst (λ o. IfSome o (λ p. c.accepts-accepts.result ≡ true)) c.in-Some.is c.foretold.ensures.accepted)
    (ap (λ (n : Names). n.touched.all) (sym c.names.view_is) ∙ subst (λ o. IfSome o (λ p. c.names.inside.touched.now.all ≡ false)) c.in-Some.is c.foretold.ensures.some)
    (subst (λ o. IfSome o (λ p. now.account.sent ≡ Some p.0.now)) c.in-Some.is c.foretold.ensures.sent)
    (subst (λ o. IfSome o (λ p. now.listed.sent_mark ≡ Some p.1)) c.in-Some.is c.foretold.ensures.mark)
    (subst (λ o. IfSome o (λ p. list_any (λ x. x.all) p.0.now.touched ≡ false)) c.in-Some.is c.foretold.ensures.since)
    c.list_touched.ensures.mark c.list_touched.ensures.names

pub returns-in-None-clause-ok : goal.returns-in-None-clause-ok
returns-in-None-clause-ok g c =
    wider_is_listed g.V.Variant.NAME g.T.ResourceType.TYPE c.args.self.now (accepts c.args.self.now.account c.args.nonce.now c.args.rejects) c.accepts-accepts.result c.args.names.now c.listed_wider.result c.accepts-accepts.ensures c.listed_wider.ensures.ok
