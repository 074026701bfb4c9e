use Rattle.std.proofs.Common.{arith}
use Rattle.std.proofs.lemmas.Str.{IsUtf8-string_bytes}
use Rattle.xds_resource.specs.Resources.{max_nesting}
use Rattle.xds_message.specs.Responses.{delta_response_of}
use Rattle.xds_message.specs.DeltaWritten.{delta_response_object}
use Rattle.xds_message.proofs.DeltaReadsBack.{SpellsDeltaResponse-delta_response_object}
use Rattle.xds_message.proofs.DeltaWrittenLemmas.{has_float-delta_response_object, depth-delta_response_object}
use Rattle.xds_message.proofs.delta_response.DeltaDiscoveryResponse.write.Goals as goal

pub returns-clause-whole : goal.returns-clause-whole
returns-clause-whole c = λ h.
    let whole = has_float-delta_response_object (delta_response_of c.args.self) h in
    grind arith

pub returns-clause-shallow : goal.returns-clause-shallow
returns-clause-shallow c = λ h.
    let within = depth-delta_response_object (delta_response_of c.args.self) max_nesting h in
    (within, grind arith)

pub returns-clause-spelled : goal.returns-clause-spelled
returns-clause-spelled c = λ objects deep. (delta_response_object (delta_response_of c.args.self), (IsUtf8-string_bytes c.in_ok-to_string.field-0, grind arith), SpellsDeltaResponse-delta_response_object (delta_response_of c.args.self) objects)
