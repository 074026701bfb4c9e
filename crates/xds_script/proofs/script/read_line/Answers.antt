use Rattle.std.proofs.Common.{Some, ap, sym, ◌∙◌}
use Rattle.std.specs.Option.{ok_or, option_map}
use Rattle.std.proofs.lemmas.Result.{err_from_is_err_and}
use Rattle.xds_resource.specs.declared.refusal.Refusal.TheVariants.{BadScript}
use Rattle.xds_script.specs.Commands.{said_of}
use Rattle.xds_script.specs.Scripts.{text_says}
use Rattle.xds_script.proofs.Behind.{read_so, made_refused}
use Rattle.xds_script.proofs.Scripting.{line_says-kept}
use Rattle.xds_script.proofs.script.read_line.Goals as goal

pub returns-in_err-read_text : goal.returns-in_err-read_text
returns-in_err-read_text c =
    let p = err_from_is_err_and c.from_residual.result c.from_residual.ensures.1 in
    let kept = line_says-kept c.args.line.now (sym c.is_skipped.ensures ∙ c.if-is_skipped.false) in
    rw (p.1, p.2) (λ other. ap (λ o. ok_or o BadScript) kept ∙ made_refused Some (text_says c.args.line.now) _ (c.in_err-read_text.ensures other))

pub returns : goal.returns
returns c =
    let kept = line_says-kept c.args.line.now (sym c.is_skipped.ensures ∙ c.if-is_skipped.false) in
    ap (λ o. ok_or o BadScript) (kept ∙ ap (option_map Some) (read_so (text_says c.args.line.now) (said_of c.in_ok-read_text.field-0) c.in_ok-read_text.ensures))
