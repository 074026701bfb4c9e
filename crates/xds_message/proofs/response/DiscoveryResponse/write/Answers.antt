use Rattle.std.proofs.Common.{arith}
use Rattle.std.proofs.lemmas.Str.{IsUtf8-string_bytes}
use Rattle.xds_resource.specs.Resources.{max_nesting}
use Rattle.xds_message.specs.Responses.{response_of}
use Rattle.xds_message.specs.Written.{response_object}
use Rattle.xds_message.proofs.ReadsBack.{SpellsResponse-response_object}
use Rattle.xds_json.proofs.FieldsWithin.{items_depth-items_of, items_have_float-items_of}
use Rattle.xds_message.proofs.WrittenLemmas.{has_float-response_object, depth-response_object}
use Rattle.xds_message.proofs.response.DiscoveryResponse.write.Goals as goal

pub returns-clause-whole : goal.returns-clause-whole
returns-clause-whole c = λ h.
    let m = response_of c.args.self in
    let whole = has_float-response_object m (items_have_float-items_of m.resources h) in
    grind arith

pub returns-clause-shallow : goal.returns-clause-shallow
returns-clause-shallow c = λ h.
    let m = response_of c.args.self in
    let within = depth-response_object m max_nesting (items_depth-items_of m.resources max_nesting h) in
    (within, grind arith)

pub returns-clause-spelled : goal.returns-clause-spelled
returns-clause-spelled c = λ objects deep. (response_object (response_of c.args.self), (IsUtf8-string_bytes c.in_ok-to_string.field-0, grind arith), SpellsResponse-response_object (response_of c.args.self) objects)
