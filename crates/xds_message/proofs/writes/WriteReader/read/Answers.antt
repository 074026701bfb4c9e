use Rattle.serde_json.specs.View.{view}
use Rattle.xds_resource.specs.Any.{write_type, stamped_write}
use Rattle.xds_message.specs.StampedWrites.{IsSpelledBy}
use Rattle.xds_message.proofs.ReadWrites.{refusals_among}
use Rattle.xds_message.proofs.writes.WriteReader.read.Goals as goal

pub returns-clause-bad : goal.returns-clause-bad
returns-clause-bad c = λ bad.
    let reads = rw bad at c.any_write_of.ensures in
    (view c.in_ok-value.value, c.in_ok-value.ensures.ok, λ t w spells. (reads (λ e. cc)).1 (t, w) spells)

pub returns-clause-refused : goal.returns-clause-refused
returns-clause-refused c =
    refusals_among (IsSpelledBy (view c.in_ok-value.value)) (λ w. (write_type w, stamped_write w)) c.any_write_of.result c.any_write_of.ensures
