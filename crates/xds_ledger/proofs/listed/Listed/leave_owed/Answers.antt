use Rattle.std.proofs.Common.{◌≡◌, ℕ, List, Bool, None, ap, subst, ◌∙◌}
use Rattle.std.specs.Prelude.{if◌then◌else◌}
use Rattle.std.specs.FinMap as finmap
use Rattle.xds_ledger.specs.Owed.{is_owed}
use Rattle.xds_ledger.specs.Listed.{Listed, is_since}
use Rattle.xds_ledger.proofs.Fitting.{left_names}
use Rattle.xds_ledger.proofs.listed.Listed.leave_owed.Goals as goal

pub returns-clause-ok : goal.returns-clause-ok
returns-clause-ok g c =
    let v = c.args.variant in
    let t = g.T.ResourceType.TYPE in
    let s = c.args.interest.now in
    let h = c.args.catalogue.now in
    let b = c.args.beliefs.now in
    let owed : List ℕ → Bool = is_owed v t s h.entries b in
    let found =
    subst (λ n. (q : List ℕ) → finmap.get c.in_ok-since.since q ≡ (if is_since h n q then (if owed q then finmap.get h.latest q else None) else None)) (ap (λ (l : Listed). l.mark) c.self.view_is) c.in_ok-since.ensures.ok in
    ap (λ (l : Listed). record { mark = c.changes-self-inside.result; names = l.names; sent_mark = l.sent_mark }) (c.self-2.view_is ∙ c.in_ok-set_names.ensures.ok)
    ∙ (λ i. record {
      mark = c.changes-self-inside.ensures i;
      names = left_names v t s h b c.args.self.now c.in_ok-since.since c.in_ok-kept.kept found c.in_ok-kept.ensures.ok i;
      sent_mark = c.args.self.now.sent_mark;
    })
