use Rattle.std.proofs.Common.{◌≡◌, Some, ap, sym, ◌∙◌}
use Rattle.xds_resource.specs.Types.{type_of_url}
use Rattle.xds_message.specs.Messages.{Request}
use Rattle.xds_program.proofs.Responding.{given_to}
use Rattle.xds_program.proofs.answer.respond_among.Goals as goal

pub returns-in-Some-clause-given : goal.returns-in-Some-clause-given
returns-in-Some-clause-given c =
    let m = c.args.request.now in
    let named : type_of_url m.type_url ≡ Some c.in-Some.kind =
    ap type_of_url (sym (c.as_str.ensures.value ∙ ap (λ (r : Request). r.type_url) c.request.view_is)) ∙ sym c.from_url.ensures ∙ c.in-Some.is in
    given_to c.args.replica c.args.catalogues.now m c.in-Some.kind c.respond_of.result named c.respond_of.ensures.given
