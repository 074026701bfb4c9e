use Rattle.std.proofs.Common.{◌≡◌, ◌≤◌, length, string_bytes, Some, Ok, ap, ◌∙◌, arith, refl, subst, sym}
use Rattle.json.specs.Value.{value_view}
use Rattle.serde_json.specs.Data.{depth}
use Rattle.xds_resource.specs.Resources.{max_nesting, max_text, type_text, resource_name}
use Rattle.xds_resource.specs.Types.{row}
use Rattle.xds_json.specs.Ordered.{meaning}
use Rattle.xds_json.proofs.Meanings.{depth-meaning, has_float-meaning}
use Rattle.xds_message.proofs.InOrder.{canonical_body, body_is}
use Rattle.xds_message.proofs.in_order.resource_in.Goals as goal

pub of_text-requires : goal.of_text-requires
of_text-requires g c =
    let t = g.T.ResourceType.TYPE in
    let j = value_view c.args.body.now in
    let text = c.in-Ok.ensures in
    let short : length (string_bytes c.in-Ok.text) ≤ max_text = subst (λ s. length s ≤ max_text) c.as_str.ensures.value c.if-as_str-gt-MAX_TEXT.false in
    let shallow : depth (meaning j) ≤ max_nesting = subst (λ n. n ≤ max_nesting) (sym (depth-meaning j)) c.requires.shallow in
    let typed = subst (λ k. type_text (meaning j) ≡ Some (row k).url) c.TYPE.ensures (c.if-not-is_resource.ensures.typed refl) in
    let named = subst (λ k. resource_name k (meaning j) ≡ Some c.args.name.now) c.TYPE.ensures (c.if-not-is_resource.ensures.named refl) in
    let reads = text.reads_back (omega (arith, c.requires.shallow)) in
    canonical_body t (meaning j) c.args.name.now (string_bytes c.in-Ok.text) text.text reads short (has_float-meaning j c.requires.ordered) shallow typed named c.requires.valid

pub returns-in-Ok-of_text : goal.returns-in-Ok-of_text
returns-in-Ok-of_text g c =
    let t = g.T.ResourceType.TYPE in
    let j = value_view c.args.body.now in
    let text = c.in-Ok.ensures in
    let short : length (string_bytes c.in-Ok.text) ≤ max_text = subst (λ s. length s ≤ max_text) c.as_str.ensures.value c.if-as_str-gt-MAX_TEXT.false in
    let shallow : depth (meaning j) ≤ max_nesting = subst (λ n. n ≤ max_nesting) (sym (depth-meaning j)) c.requires.shallow in
    let typed = subst (λ k. type_text (meaning j) ≡ Some (row k).url) c.TYPE.ensures (c.if-not-is_resource.ensures.typed refl) in
    let named = subst (λ k. resource_name k (meaning j) ≡ Some c.args.name.now) c.TYPE.ensures (c.if-not-is_resource.ensures.named refl) in
    let reads = text.reads_back (omega (arith, c.requires.shallow)) in
    let canonical = canonical_body t (meaning j) c.args.name.now (string_bytes c.in-Ok.text) text.text reads short (has_float-meaning j c.requires.ordered) shallow typed named c.requires.valid in
    let same = c.in-Ok-of_text.ensures.ok in
    (ap (λ r. r.name) same, body_is t (meaning j) _ reads canonical ∙ ap Ok (sym same))
