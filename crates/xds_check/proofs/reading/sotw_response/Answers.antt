use Rattle.std.proofs.Common.{ℕ, List, subst}
use Rattle.xds_message.specs.Messages.{SpellsResponse}
use Rattle.xds_message.specs.Responses.{response_of}
use Rattle.xds_check.specs.Texts.{IsJsonOf}
use Rattle.xds_check.specs.Words.{Finds}
use Rattle.xds_check.proofs.Finding.{message_found}
use Rattle.xds_check.proofs.reading.sotw_response.Goals as goal

pub returns : goal.returns
returns c =
    subst (λ (j : List ℕ). Finds response_of (IsJsonOf SpellsResponse j) c.in_line.result) c.as_bytes.ensures.value
    (message_found response_of SpellsResponse c.as_bytes.result.now c.read.result c.in_line.result c.read.ensures.ok c.read.ensures.not_json c.read.ensures.bad c.read.ensures.refused c.in_line.ensures.ok c.in_line.ensures.refused)
