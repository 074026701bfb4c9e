use Rattle.std.proofs.Common.{arith}
use Rattle.std.proofs.lemmas.Str.{IsUtf8-string_bytes}
use Rattle.xds_message.specs.Written.{request_object}
use Rattle.xds_message.proofs.ReadsBack.{SpellsRequest-request_object}
use Rattle.xds_message.proofs.WrittenLemmas.{has_float-request_object, depth-request_object}
use Rattle.xds_message.proofs.request.DiscoveryRequest.write.Goals as goal

pub returns-clause-text : goal.returns-clause-text
returns-clause-text c = let whole = has_float-request_object c.args.self.now in grind arith

pub returns-clause-spelled : goal.returns-clause-spelled
returns-clause-spelled c =
    let shallow = depth-request_object c.args.self.now in
    (request_object c.args.self.now, (IsUtf8-string_bytes c.in_ok-to_string.field-0, grind arith), SpellsRequest-request_object c.args.self.now c.in_ok-to_value.ensures.in_range)
