use Rattle.std.proofs.Common.{◌≡◌, [], sym, ap, ◌∙◌}
use Rattle.xds_resource.specs.Names.{pairs, put_all}
use Rattle.xds_ledger.proofs.Copied.{itself, all_copied}
use Rattle.xds_ledger.proofs.differences.Differences.try_copy.Goals as goal

pub returns-clause-ok : goal.returns-clause-ok
returns-clause-ok c =
    let all : c.loop-name.name-iterator ≡ [] = c.in-None.ensures.steps.0 in
    sym (ap (λ l. put_all itself c.loop-name.copy (pairs l)) all) ∙ c.loop-name.invariant ∙ all_copied c.args.self.now
