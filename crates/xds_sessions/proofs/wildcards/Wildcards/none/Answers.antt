use Rattle.xds_sessions.proofs.Sharing.{none_shared, few_none, few_kept}
use Rattle.xds_sessions.proofs.wildcards.Wildcards.none.Goals as goal

pub returns-clause-fits : goal.returns-clause-fits
returns-clause-fits c = λ t m. record {
  sotw = none_shared _ _ c.new.ensures;
  delta = none_shared _ _ c.new-2.ensures;
  told = none_shared _ _ c.new-3.ensures;
  few_sotw = few_kept _ (few_none _ c.new.ensures);
  few_delta = few_kept _ (few_none _ c.new-2.ensures);
  few_told = few_kept _ (few_none _ c.new-3.ensures);
}

pub returns-clause-sotw : goal.returns-clause-sotw
returns-clause-sotw c = few_none _ c.new.ensures

pub returns-clause-delta : goal.returns-clause-delta
returns-clause-delta c = few_none _ c.new-2.ensures

pub returns-clause-told : goal.returns-clause-told
returns-clause-told c = few_none _ c.new-3.ensures
