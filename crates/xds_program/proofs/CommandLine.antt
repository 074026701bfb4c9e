-- The command line is one of which `clap` says how it reads words.
use Rattle.std.proofs.Common.{◌≡◌, List, true, refl, subst, Option, option_map, Result, Ok, Err, IfOk}
use Rattle.clap.specs.Words.{App, Rule, Text, app_of, is_simple, is_simple_and_free, one_of, rule_of, with_rule, with_subcommand}
use Rattle.clap.specs.declared.builder.arg.Arg.{Arg}
use Rattle.clap.specs.declared.builder.command.Command.{Command}
use Rattle.clap.proofs.OnLiterals.{clap_on_literals}
use Rattle.xds_program.specs.CommandLine.{IsCommand, IsOption, command_line, named_in}

pub command_line-is_simple : is_simple command_line ≡ true
unfolding clap_on_literals
command_line-is_simple = refl

pub command_line-is_free : is_simple_and_free command_line ≡ true
unfolding clap_on_literals
command_line-is_free = refl

-- the text that is read as the value of an option
abbrev pub number_given : Text → List Text → Option (Option Text)
number_given option words = option_map (λ p. one_of option p.1) (named_in words)

-- the name of the subcommand
abbrev pub name_read : List Text → Option Text
name_read words = option_map (λ p. p.0) (named_in words)

-- ---- building it

-- a command that has one more, by what both are
pub one_more : (base added : App) (before after : Command) → IsCommand base before → IsCommand (with_subcommand (app_of before) added.top) after
    → IsCommand (with_subcommand base added.top) after
one_more base added before after is more = subst (λ (a : App). IsCommand (with_subcommand a added.top) after) is.0 more

-- and where the command to be added, or the place for it, may not have been made
pub one_more_or : {E : Type 0} (base added : App) (before : Command) (made after : Result Command E) → IsCommand base before → IfOk made (IsCommand added)
    → IfOk after (λ r. (described : App) → IfOk made (IsCommand described) → IsCommand (with_subcommand (app_of before) described.top) r)
    → IfOk after (IsCommand (with_subcommand base added.top))
one_more_or base added before made (Ok after) is made_is more = one_more base added before after is (more added made_is)
one_more_or base added before made (Err e) is made_is more = tt

-- a command that has one more option, by what both are
pub one_option : (base : App) (rule : Rule) (before after : Command) (option : Arg) → IsCommand base before → IsOption rule option
    → IsCommand (with_rule (app_of before) (rule_of option)) after → IsCommand (with_rule base rule) after
one_option base rule before after option is option_is more =
    subst (λ (r : Rule). IsCommand (with_rule base r) after) option_is.0 (subst (λ (a : App). IsCommand (with_rule a (rule_of option)) after) is.0 more)

pub one_option_or : {E : Type 0} (base : App) (rule : Rule) (before : Command) (option : Arg) (after : Result Command E) → IsCommand base before → IsOption rule option
    → IfOk after (IsCommand (with_rule (app_of before) (rule_of option))) → IfOk after (IsCommand (with_rule base rule))
one_option_or base rule before option (Ok after) is option_is more = one_option base rule before after option is option_is more
one_option_or base rule before option (Err e) is option_is more = tt
