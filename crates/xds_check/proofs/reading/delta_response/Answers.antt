use Rattle.std.proofs.Common.{ℕ, List, subst}
use Rattle.xds_message.specs.DeltaMessages.{SpellsDeltaResponse}
use Rattle.xds_message.specs.Responses.{delta_response_of}
use Rattle.xds_check.specs.Texts.{IsJsonOf}
use Rattle.xds_check.specs.Words.{Finds}
use Rattle.xds_check.proofs.Finding.{message_found}
use Rattle.xds_check.proofs.reading.delta_response.Goals as goal

pub returns : goal.returns
returns c =
    subst (λ (j : List ℕ). Finds delta_response_of (IsJsonOf SpellsDeltaResponse j) c.in_line.result) c.as_bytes.ensures.value
    (message_found delta_response_of SpellsDeltaResponse c.as_bytes.result.now c.read.result c.in_line.result c.read.ensures.ok c.read.ensures.not_json c.read.ensures.bad c.read.ensures.refused c.in_line.ensures.ok c.in_line.ensures.refused)
