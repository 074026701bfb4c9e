use Rattle.std.proofs.Common.{ℕ, List, subst}
use Rattle.xds_message.specs.Messages.{SpellsRequest}
use Rattle.xds_check.specs.Texts.{IsJsonOf}
use Rattle.xds_check.specs.Words.{Finds}
use Rattle.xds_check.proofs.Finding.{message_found}
use Rattle.xds_check.proofs.reading.sotw_request.Goals as goal

pub returns : goal.returns
returns c =
    subst (λ (j : List ℕ). Finds (λ m. m) (IsJsonOf SpellsRequest j) c.in_line.result) c.as_bytes.ensures.value
    (message_found (λ m. m) SpellsRequest c.as_bytes.result.now c.read.result c.in_line.result c.read.ensures.ok c.read.ensures.not_json c.read.ensures.bad c.read.ensures.refused c.in_line.ensures.ok c.in_line.ensures.refused)
