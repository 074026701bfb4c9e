use Rattle.std.proofs.Common.{◌∙◌, ap, codes}
use Rattle.clap.specs.Words.{Rule}
use Rattle.xds_program.specs.CommandLine.{IsOption, asking_command, flag_option, name_words, number_option, required, text_option, with_default}
use Rattle.xds_program.proofs.CommandLine.{one_option, one_option_or}
use Rattle.xds_program.proofs.command_line.delete_command.Goals as goal

pub returns : goal.returns
returns c =
    let made = c.with_default-replica in
    let replica : IsOption (with_default (codes "1") (number_option (codes "replica"))) made.result = (
      made.ensures.0 ∙ ap (λ (r : Rule). with_default (codes "1") r) c.number_option.ensures.0,
      made.ensures.1,
    ) in
    let o0 = one_option (asking_command (codes "delete")) (with_default (codes "1") (number_option (codes "replica"))) _ _ made.result c.in_ok-delete.ensures replica c.in_ok-delete-2.ensures in
    let o1 = one_option _ (required (text_option (codes "type"))) _ _ c.type_option.result o0 c.type_option.ensures c.in_ok-delete-3.ensures in
    let o2 = one_option _ (flag_option (codes "dry-run")) _ _ c.dry_run_option.result o1 c.dry_run_option.ensures c.in_ok-delete-4.ensures in
    let names : IsOption (required name_words) c.required.result = (
      c.required.ensures.0 ∙ ap (λ (r : Rule). required r) c.name_words.ensures.0,
      c.required.ensures.1,
    ) in
    one_option_or _ (required name_words) _ c.required.result _ o2 names c.with_option-4.ensures
