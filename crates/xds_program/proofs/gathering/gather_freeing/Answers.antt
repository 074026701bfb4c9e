use Rattle.std.proofs.Common.{◌≡◌, List, ℕ, length, take, ap, ◌∙◌}
use Rattle.std.proofs.lemmas.Result.{IfOk-weaker, IfErr-weaker}
use Rattle.xds_script.specs.Lines.{without_last_feed}
use Rattle.xds_program.proofs.Reading.{begun, without_feed}
use Rattle.xds_program.proofs.gathering.gather_freeing.Goals as goal

pub returns-clause-gathered : goal.returns-clause-gathered
returns-clause-gathered c =
    let input = c.args.input.items in
    let rest : c.truncate.new.self.items ≡ without_last_feed input =
    c.truncate.ensures.items ∙ ap (λ (l : List ℕ). take (length l) input) (c.without_last_feed-length.ensures ∙ ap without_last_feed c.as_slice.ensures.value) ∙ without_feed input in
    IfOk-weaker c.gather_rest.result _ _ (λ g all. all input (begun input c.truncate.new.self.items _ _ rest c.begin.ensures.0 c.begin.ensures.1)) c.gather_rest.ensures.gathered

pub returns-clause-refused : goal.returns-clause-refused
returns-clause-refused c =
    let input = c.args.input.items in
    let rest : c.truncate.new.self.items ≡ without_last_feed input =
    c.truncate.ensures.items ∙ ap (λ (l : List ℕ). take (length l) input) (c.without_last_feed-length.ensures ∙ ap without_last_feed c.as_slice.ensures.value) ∙ without_feed input in
    IfErr-weaker c.gather_rest.result _ _ (λ fault all. all input (begun input c.truncate.new.self.items _ _ rest c.begin.ensures.0 c.begin.ensures.1)) c.gather_rest.ensures.refused
