-- The command line of `xds`, in the words in which `clap` says what a command is. This project's own.
--     text_option                      an option whose value is any text
--     number_up_to                     an option whose value is a number from 1 to the most
--     number_option                    an option whose value is a number from 1 to 65,535
--     flag_option                      an option without a value
--     with_default                     the value of an option that isn't given
--     required                         an option, or a word at least, that has to be given
--     name_words                       words that are no options: the names of resources
--     answer_command                   `xds answer [--replica N]`
--     play_command                     `xds play [--trace N] [--picture FILE]`
--     check_command                    `xds check [--so-far] [--explain] [--picture FILE]`
--     replicas_option                  `--replicas`, 2 if left out
--     port_option                      `--port`, 18000 if left out
--     rest_port_option                 `--rest-port`, 18100 if left out
--     workers_option                   `--workers`, up to 256
--     serve_start                      `xds serve`, with the options that say what is served where, for how long, and by how many threads
--     serve_told                       and what it tells, and to whom
--     serve_begun                      and what it begins with
--     serve_command                    `xds serve [--replicas N] [--port P] [--rest-port Q] [--streams S] [--workers N] [--keep-going] [--log]
--                                      [--max-streams N] [--idle-seconds T] [--admin-port A] [--record DIR]
--                                      [--first-number F] [--load FILE] [--store FILE] [--writes FILE] [--hold] [--admin-token FILE] [--log-json]
--                                      [--from DIR] [--lint] [--validate ADDRESS] [--pass-unvalidated] [--refuse-beyond-frame]`
--     writes_command                   `xds writes --store FILE`
--     asking_command                   a command that asks a server's operator's port: `--addr A [--admin-token FILE]`
--     status_command                   `xds status --addr A [--admin-token FILE]`
--     get_command                      `xds get --addr A [--admin-token FILE] [--replica N] [--type TYPE] [NAME..]`
--     put_command                      `xds put --addr A [--admin-token FILE] [--dry-run] [--all-or-nothing]`
--     delete_command                   `xds delete --addr A --type TYPE [--admin-token FILE] [--replica N] [--dry-run] NAME..`
--     client_start                     `xds client`, with the options that say where it asks, how, and for what
--     client_command                   `xds client`, with its options and names
--     poll_start                       `xds poll`, with the options that say where it asks, and for what
--     poll_command                     `xds poll --addr A --type TYPE [--version V] [--seconds T] [--cluster TEXT] [NAME..]`
--     wanting_command                  `xds`, which wants a command, and says its version
--     first_commands                   and with the first three of them
--     serving_commands                 and with those that serve, and that ask a replica
--     command_line                     `xds`, with all of them
--     IsLocal                          the options of the command are its own
--     IsCommand                        the command is as described
--     IsOption                         so is the option
--     faults                           what `clap` may find wrong with the words, the call for help among it
--     named_in                         the command that the words name, with the values that they give it
use Rattle.std.specs.Prelude.{◌≡◌, ℕ, List, [], ◌∷◌, codes, true, false, Some, Option, pos}
use Rattle.clap.specs.declared.builder.arg.Arg.{Arg}
use Rattle.clap.specs.declared.builder.command.Command.{Command}
use Rattle.clap.specs.declared.builder.command.Command.TheViews.{out-Command}
use Rattle.clap.specs.Words.{App, Kinds, Row, Rule, Text, app_of, fault_of, rule_of, new_app, new_rule, subcommand_of, with_rule, with_subcommand}
use Rattle.clap.specs.Simple.{on_top}
use Rattle.clap.specs.declared.builder.action.ArgAction.TheVariants.{Append, SetTrue}
use Rattle.clap.specs.declared.builder.value_parser.ValueParser.TheVariants as vp

-- ---- what a command is described by

-- an option whose value is any text
abbrev pub text_option : Text → Rule
text_option name = record (new_rule name) { long = Some name; value_names = 1 }

-- an option whose value is a number from 1 to the most
abbrev pub number_up_to : ℕ → Text → Rule
number_up_to most name = record (text_option name) { parser = Some (vp.Signed (pos 1) (pos most)) }

abbrev pub number_option : Text → Rule
number_option name = number_up_to 65535 name

-- an option without a value
abbrev pub flag_option : Text → Rule
flag_option name = record (new_rule name) { long = Some name; action = Some SetTrue }

-- the value of an option that isn't given
abbrev pub with_default : Text → Rule → Rule
with_default text option = record option { defaults = text ∷ [] }

-- an option, or a word at least, that has to be given
abbrev pub required : Rule → Rule
required option = record option { required = true }

-- words that are no options: the names of resources
abbrev pub name_words : Rule
name_words = record (new_rule (codes "name")) { value_names = 1; action = Some Append }

-- ---- the commands

-- `xds answer [--replica N]`
abbrev pub answer_command : App
answer_command = with_rule (new_app (codes "answer")) (with_default (codes "1") (number_option (codes "replica")))

-- `xds play [--trace N] [--picture FILE]`
abbrev pub play_command : App
play_command = with_rule (with_rule (new_app (codes "play")) (number_option (codes "trace"))) (text_option (codes "picture"))

-- `xds check [--so-far] [--explain] [--picture FILE]`
abbrev pub check_command : App
check_command =
    with_rule (with_rule (with_rule (new_app (codes "check")) (flag_option (codes "so-far")))
    (flag_option (codes "explain")))
    (text_option (codes "picture"))

abbrev pub replicas_option : Rule
replicas_option = with_default (codes "2") (number_up_to 16 (codes "replicas"))

abbrev pub port_option : Rule
port_option = with_default (codes "18000") (number_option (codes "port"))

abbrev pub rest_port_option : Rule
rest_port_option = with_default (codes "18100") (number_option (codes "rest-port"))

abbrev pub workers_option : Rule
workers_option = number_up_to 256 (codes "workers")

-- `xds serve`, with the options that say what is served where, for how long, and by how many threads
abbrev pub serve_start : App
serve_start =
    with_rule (with_rule (with_rule (with_rule (with_rule (new_app (codes "serve")) replicas_option)
    port_option)
    rest_port_option)
    (number_option (codes "streams")))
    workers_option

-- and what it tells, and to whom
abbrev pub serve_told : App
serve_told =
    with_rule (with_rule (with_rule (with_rule (with_rule (with_rule serve_start (flag_option (codes "keep-going")))
    (flag_option (codes "log")))
    (number_option (codes "max-streams")))
    (number_option (codes "idle-seconds")))
    (number_option (codes "admin-port")))
    (text_option (codes "record"))

-- and what it begins with
abbrev pub serve_begun : App
serve_begun =
    with_rule (with_rule (with_rule (with_rule (with_rule serve_told (number_option (codes "first-number")))
    (text_option (codes "load")))
    (text_option (codes "store")))
    (text_option (codes "writes")))
    (flag_option (codes "hold"))

-- `xds serve`, with all its options
abbrev pub serve_command : App
serve_command =
    with_rule (with_rule (with_rule (with_rule (with_rule (with_rule (with_rule serve_begun (text_option (codes "admin-token")))
    (flag_option (codes "log-json")))
    (text_option (codes "from")))
    (flag_option (codes "lint")))
    (text_option (codes "validate")))
    (flag_option (codes "pass-unvalidated")))
    (flag_option (codes "refuse-beyond-frame"))

-- `xds client`, with the options that say where it asks, how, and for what
abbrev pub client_start : App
client_start =
    with_rule (with_rule (with_rule (new_app (codes "client")) (required (text_option (codes "addr"))))
    (required (text_option (codes "variant"))))
    (required (text_option (codes "type")))

-- `xds client --addr A --variant VARIANT --type TYPE --responses N [--seconds T] [--cluster TEXT] NAME..`
abbrev pub client_command : App
client_command =
    with_rule (with_rule (with_rule (with_rule client_start (required (number_option (codes "responses"))))
    (number_option (codes "seconds")))
    (text_option (codes "cluster")))
    (required name_words)

-- `xds poll`, with the options that say where it asks, and for what
abbrev pub poll_start : App
poll_start = with_rule (with_rule (new_app (codes "poll")) (required (text_option (codes "addr")))) (required (text_option (codes "type")))

-- `xds poll --addr A --type TYPE [--version V] [--seconds T] [--cluster TEXT] [NAME..]`
abbrev pub poll_command : App
poll_command =
    with_rule (with_rule (with_rule (with_rule poll_start (text_option (codes "version"))) (number_option (codes "seconds"))) (text_option (codes "cluster"))) name_words

-- `xds writes --store FILE`
abbrev pub writes_command : App
writes_command = with_rule (new_app (codes "writes")) (required (text_option (codes "store")))

-- a command that asks a server's operator's port: `--addr A [--admin-token FILE]`
abbrev pub asking_command : Text → App
asking_command name = with_rule (with_rule (new_app name) (required (text_option (codes "addr")))) (text_option (codes "admin-token"))

-- `xds status --addr A [--admin-token FILE]`
abbrev pub status_command : App
status_command = asking_command (codes "status")

-- `xds get --addr A [--admin-token FILE] [--replica N] [--type TYPE] [NAME..]`
abbrev pub get_command : App
get_command =
    with_rule (with_rule (with_rule (asking_command (codes "get")) (number_option (codes "replica"))) (text_option (codes "type"))) name_words

-- `xds put --addr A [--admin-token FILE] [--dry-run] [--all-or-nothing]`
abbrev pub put_command : App
put_command = with_rule (with_rule (asking_command (codes "put")) (flag_option (codes "dry-run"))) (flag_option (codes "all-or-nothing"))

-- `xds delete --addr A --type TYPE [--admin-token FILE] [--replica N] [--dry-run] NAME..`
abbrev pub delete_command : App
delete_command =
    with_rule (with_rule (with_rule (with_rule (asking_command (codes "delete")) (with_default (codes "1") (number_option (codes "replica"))))
    (required (text_option (codes "type"))))
    (flag_option (codes "dry-run")))
    (required name_words)

-- `xds`, which wants a command, and says its version
abbrev pub wanting_command : App
wanting_command = on_top (λ s. record s { has_version = true; subcommand_required = true }) (new_app (codes "xds"))

-- and with the first three of them
abbrev pub first_commands : App
first_commands =
    with_subcommand (with_subcommand (with_subcommand wanting_command
    answer_command.top)
    play_command.top)
    check_command.top

-- and with those that serve, and that ask a replica
abbrev pub serving_commands : App
serving_commands =
    with_subcommand (with_subcommand (with_subcommand first_commands serve_command.top) client_command.top) poll_command.top

-- `xds`, with all of them
abbrev pub command_line : App
command_line =
    with_subcommand (with_subcommand (with_subcommand (with_subcommand (with_subcommand serving_commands writes_command.top) status_command.top)
    get_command.top) put_command.top) delete_command.top

-- ---- commands and options of `clap`

-- the options of the command are its own
abbrev pub IsLocal : Command → Type 0
IsLocal command = (out-Command command).has_globals ≡ false

-- the command is as described
abbrev pub IsCommand : App → Command → Type 0
IsCommand described command = (app_of command ≡ described) × IsLocal command

-- so is the option
abbrev pub IsOption : Rule → Arg → Type 0
IsOption described option = (rule_of option ≡ described) × (option.global ≡ false)

-- ---- what `clap` makes of words

-- what `clap` may find wrong with the words, the call for help among it; nothing where it takes them
abbrev pub faults : List Text → Kinds
faults words = fault_of command_line words

-- the command that the words name, with the values that they give it
abbrev pub named_in : List Text → Option (Text × List Row)
named_in words = subcommand_of command_line words
