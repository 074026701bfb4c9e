use Rattle.std.proofs.Common.{◌≡◌, ◌++◌, ◌∙◌, ℕ, List, Some, Result, Ok, Err, OnOk, codes, decimal, sym}
use Rattle.xds_stats.specs.declared.pages.ReplicaNumbers.{ReplicaNumbers}
use Rattle.xds_stats.specs.Metrics.{seconds_text, value_line}
use Rattle.xds_stats.specs.Pages.{lag_line}
use Rattle.xds_stats.proofs.pages.add_lag.Goals as goal

-- a line that was put behind a text is that of a replica, where its labels, its number and the time are the replica's
same_lag : {A E : Type 0} (r : Result A E) (text next labels seconds : List ℕ) (shown : ReplicaNumbers) (micros : ℕ)
    → labels ≡ codes "replica=\"" ++ (decimal shown.replica ++ codes "\"") → seconds ≡ seconds_text micros → shown.numbers.lag ≡ Some micros
    → OnOk r (next ≡ text ++ value_line (codes "xds_put_to_last_response_seconds") labels seconds) → OnOk r (next ≡ text ++ lag_line shown)
same_lag (Ok x) text next labels seconds shown micros worded counted told is =
    is ∙ (λ i. text ++ value_line (codes "xds_put_to_last_response_seconds") (worded i) (counted i))
    ∙ (λ i. text ++ lag_line (record shown { numbers = record shown.numbers { lag = sym told i } }))
same_lag (Err e) text next labels seconds shown micros worded counted told is = tt

pub returns : goal.returns
returns c =
    same_lag c.add_text.result _ _ _ _ c.args.shown.now c.in-Some.micros (c.as_str.ensures.value ∙ c.in_ok-labels.ensures.ok)
    (c.as_str-2.ensures.value ∙ c.in_ok-seconds.ensures) c.in-Some.is c.add_text.ensures
