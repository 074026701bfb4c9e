use Rattle.std.proofs.Common.{sym, ap, ◌∙◌}
use Rattle.std.specs.Option.{option_map}
use Rattle.serde_json.specs.Find.{get}
use Rattle.serde_json.specs.View.{view}
use Rattle.serde_json.proofs.Views.{view-Object, view-lookup}
use Rattle.xds_json.proofs.Firsts.{first_there, first_lacks}
use Rattle.xds_json.proofs.fields.held_in.Goals as goal

pub returns-then-contains_key : goal.returns-then-contains_key
returns-then-contains_key c =
    let object = ap view c.in-Object.is ∙ view-Object c.in-Object.members in
    let camel = view-lookup c.args.camel.now c.in-Object.members.entries ∙ sym (ap (get c.args.camel.now) object) in
    ap (option_map view) c.remove.ensures.value ∙ camel
    ∙ sym (first_there view _ _ (get c.args.proto.now (view c.args.value)) camel (sym c.contains_key.ensures ∙ c.if-contains_key.true))

pub returns-in-Object : goal.returns-in-Object
returns-in-Object c =
    let object = ap view c.in-Object.is ∙ view-Object c.in-Object.members in
    let camel = view-lookup c.args.camel.now c.in-Object.members.entries ∙ sym (ap (get c.args.camel.now) object) in
    let proto = view-lookup c.args.proto.now c.in-Object.members.entries ∙ sym (ap (get c.args.proto.now) object) in
    ap (option_map view) c.remove-else-contains_key.ensures.value ∙ proto
    ∙ sym (first_lacks view _ (get c.args.camel.now (view c.args.value)) _ camel (sym c.contains_key.ensures ∙ c.if-contains_key.false))
