use Rattle.std.proofs.Common.{ℕ, List, subst}
use Rattle.xds_resource.specs.Any.{write_type, stamped_write}
use Rattle.xds_message.specs.StampedWrites.{IsSpelledBy}
use Rattle.xds_check.specs.Texts.{IsJsonOf}
use Rattle.xds_check.specs.Words.{Finds}
use Rattle.xds_check.proofs.Finding.{message_found}
use Rattle.xds_check.proofs.reading.write_in.Goals as goal

pub returns : goal.returns
returns c =
    subst (λ (j : List ℕ). Finds (λ w. (write_type w, stamped_write w)) (IsJsonOf IsSpelledBy j) c.in_line.result) c.as_bytes.ensures.value
    (message_found (λ w. (write_type w, stamped_write w)) IsSpelledBy c.as_bytes.result.now c.read_write.result c.in_line.result c.read_write.ensures.ok c.read_write.ensures.not_json
    (λ e. let b = c.read_write.ensures.bad e in (b.0, b.1, λ y. b.2 y.0 y.1)) c.read_write.ensures.refused c.in_line.ensures.ok c.in_line.ensures.refused)
