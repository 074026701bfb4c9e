use Rattle.std.proofs.Common.{arith}
use Rattle.std.proofs.lemmas.Str.{IsUtf8-string_bytes}
use Rattle.xds_message.specs.DeltaWritten.{delta_request_object}
use Rattle.xds_message.proofs.DeltaReadsBack.{SpellsDeltaRequest-delta_request_object}
use Rattle.xds_message.proofs.DeltaWrittenLemmas.{has_float-delta_request_object, depth-delta_request_object}
use Rattle.xds_message.proofs.delta_request.DeltaDiscoveryRequest.write.Goals as goal

pub returns-clause-text : goal.returns-clause-text
returns-clause-text c = let whole = has_float-delta_request_object c.args.self.now in grind arith

pub returns-clause-spelled : goal.returns-clause-spelled
returns-clause-spelled c =
    let shallow = depth-delta_request_object c.args.self.now in
    (delta_request_object c.args.self.now, (IsUtf8-string_bytes c.in_ok-to_string.field-0, grind arith), SpellsDeltaRequest-delta_request_object c.args.self.now c.in_ok-to_value.ensures.in_range)
