use Rattle.std.proofs.Common.{ap, ◌∙◌, Bor, List, ℕ}
use Rattle.std.specs.Option.{option_map}
use Rattle.std.proofs.lemmas.Str.Pattern.{strip_prefix_char}
use Rattle.xds_script.proofs.Wishing.{name_behind-other}
use Rattle.xds_script.proofs.texts.name_behind.Goals as goal

pub returns-in_err-name : goal.returns-in_err-name
returns-in_err-name c =
    let parts = strip_prefix_char c.args.mark c.args.word.now c.strip_prefix.result c.strip_prefix.ensures.cases c.requires in
    let was = c.in_err-name.was in
    let other = rw was at parts in
    ap (option_map (λ (s : Bor (List ℕ)). s.now)) c.from_residual.ensures ∙ name_behind-other c.args.mark c.args.word.now other
