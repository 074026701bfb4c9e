use Rattle.std.proofs.Common.{◌≡◌, ◌++◌, ◌∙◌, ℕ, Bool, true, false, List, Result, Ok, Err, OnOk, codes, if◌then◌else◌, refl}
use Rattle.std.specs.Int.{from_bool}
use Rattle.xds_stats.specs.Metrics.{sample_line}
use Rattle.xds_monitor.proofs.tapes.add_recording.Goals as goal

-- a line that was put behind a text is that of equal labels and an equal number
same_line : {A E : Type 0} (r : Result A E) (name text next labels wanted : List ℕ) (n m : ℕ) → labels ≡ wanted → n ≡ m
    → OnOk r (next ≡ text ++ sample_line name labels n) → OnOk r (next ≡ text ++ sample_line name wanted m)
same_line (Ok x) name text next labels wanted n m worded counted is = is ∙ (λ i. text ++ sample_line name (worded i) (counted i))
same_line (Err e) name text next labels wanted n m worded counted is = tt

-- whether something holds, as a number
one_if : (b : Bool) → from_bool b ≡ (if b then 1 else 0)
one_if true = refl
one_if false = refl

pub returns : goal.returns
returns c =
    same_line c.add.result (codes "xds_recordings_ended_total") _ _ _ _ _ _ (c.as_str.ensures.value ∙ c.in_ok-labels.ensures.ok) (c.from.ensures ∙ one_if c.args.has_ended) c.add.ensures
