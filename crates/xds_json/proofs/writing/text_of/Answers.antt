use Rattle.std.proofs.Common.{◌≡◌, [], ◌++◌, string_bytes, ap, ◌∙◌, subst, rules}
use Rattle.json.specs.Lex.{tokens}
use Rattle.json.specs.Print.{print}
use Rattle.json.specs.Tree.{json_tokens}
use Rattle.json.specs.Value.{value_view}
use Rattle.xds_json.proofs.Meanings.{HasNumbers-ordered, print-meaning, read-meaning}
use Rattle.xds_json.proofs.writing.text_of.Goals as goal

pub value-requires : goal.value-requires
value-requires c = HasNumbers-ordered (value_view c.args.value.now) c.requires

pub returns-clause-text : goal.returns-clause-text
returns-clause-text c =
    let j = value_view c.args.value.now in
    let written : c.value.new.self.tokens ≡ json_tokens j = rw c.new-writer.ensures.tokens at c.in_ok-value.ensures.ok in
    let before : c.value.new.self.before ≡ [] = c.in_ok-value.ensures.before ∙ c.new-writer.ensures.before ∙ c.in_ok-with_capacity.ensures.items in
    let same : string_bytes c.from_utf8_unchecked.result ≡ c.into_inner.result.items = search rules in
    same ∙ c.into_inner.ensures.items ∙ (λ i. before i ++ print (written i)) ∙ print-meaning j c.requires

pub returns-clause-reads_back : goal.returns-clause-reads_back
returns-clause-reads_back c = λ shallow.
    let j = value_view c.args.value.now in
    let written : c.value.new.self.tokens ≡ json_tokens j = rw c.new-writer.ensures.tokens at c.in_ok-value.ensures.ok in
    let before : c.value.new.self.before ≡ [] = c.in_ok-value.ensures.before ∙ c.new-writer.ensures.before ∙ c.in_ok-with_capacity.ensures.items in
    let same : string_bytes c.from_utf8_unchecked.result ≡ c.into_inner.result.items = search rules in
    let text = same ∙ c.into_inner.ensures.items ∙ (λ i. before i ++ print (written i)) in
    read-meaning j _ c.requires (ap tokens text ∙ subst (λ ts. tokens (print ts) ≡ ts) written c.into_inner.ensures.reads_back) shallow
