use Rattle.std.proofs.Common.{◌≡◌, ap, ◌∙◌, rules}
use Rattle.std.proofs.lemmas.Option.{IfSome_then}
use Rattle.json.specs.Json as json
use Rattle.json.specs.Value.{value_view}
use Rattle.json.specs.declared.value.Value.{Number, the_lemmas}
use Rattle.xds_json.specs.Ordered.{meaning}
use Rattle.xds_json.proofs.Meanings.{meaning-number}
use Rattle.xds_json.proofs.looking.whole_number.Goals as goal

pub returns-in-Number : goal.returns-in-Number
returns-in-Number c =
    let text = c.in-Number.text in
    let seen : value_view (Number text) ≡ json.number text.now = search (rules, the_lemmas) in
    IfSome_then c.decimal_number.result c.decimal_number.ensures.shortest (λ n is. ap (λ v. meaning (value_view v)) c.in-Number.is ∙ ap meaning seen ∙ meaning-number text.now n is.0 is.1)
