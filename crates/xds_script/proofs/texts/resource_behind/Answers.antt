use Rattle.std.proofs.Common.{◌≡◌, Some, List, ℕ, Bor, ap, sym, ◌∙◌}
use Rattle.std.specs.Option.{option_map, option_and_then, ok_or}
use Rattle.xds_resource.specs.declared.refusal.Refusal.TheVariants.{BadScript}
use Rattle.xds_resource.specs.Any.{resource_type, named_body}
use Rattle.xds_script.specs.Words.{text_of}
use Rattle.xds_script.specs.Commands.{resource_in}
use Rattle.xds_script.proofs.Named.{resource_in-parsed}
use Rattle.xds_script.proofs.texts.resource_behind.Goals as goal

pub returns-in-Ok : goal.returns-in-Ok
returns-in-Ok c =
    let here : text_of c.args.words ≡ Some c.in_ok-text.text.now = sym c.text.ensures ∙ ap (option_map (λ (s : Bor (List ℕ)). s.now)) c.in_ok-text.ensures.ok_part in
    ap (λ o. ok_or o BadScript)
    (ap (option_and_then resource_in) here ∙ resource_in-parsed (resource_type c.in-Ok.resource) c.in_ok-text.text.now (named_body c.in-Ok.resource) c.in-Ok.ensures.read)
