use Rattle.std.proofs.Common.{◌∷◌, [], ◌++◌, ℕ, List, sym, ap, ◌∙◌, append_assoc, string_bytes}
use Rattle.xds_message.proofs.Unescaped.{plain_quoted}
use Rattle.xds_message.proofs.joining.join_unescaped.Goals as goal

pub returns-clause-ok : goal.returns-clause-ok
returns-clause-ok c =
    let old = string_bytes c.args.out.now in
    let text = c.args.text.now in
    let mark : List ℕ = 34 ∷ [] in
    c.in_ok-push_str-3.ensures.bytes
    ∙ ap (λ (l : List ℕ). l ++ mark) (c.in_ok-push_str-2.ensures.bytes ∙ ap (λ (l : List ℕ). l ++ text) c.in_ok-push_str.ensures.bytes)
    ∙ append_assoc (old ++ mark) text mark ∙ append_assoc old mark (text ++ mark) ∙ ap (λ (l : List ℕ). old ++ l) (sym (plain_quoted text c.requires))
