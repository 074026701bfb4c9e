use Rattle.std.proofs.Common.{◌+◌, List, map, drop, string_bytes, subst}
use Rattle.std.proofs.lemmas.List.{drop_all}
use Rattle.xds_resource.proofs.BoolsAndLists.{drop_here}
use Rattle.xds_script.specs.declared.command.Command.{Command}
use Rattle.xds_script.specs.Commands.{said_of}
use Rattle.xds_play.specs.Played.{Played, takes}
use Rattle.xds_play.proofs.Playing.{ArePlayedTo, played_more, played_to}
use Rattle.xds_play.proofs.play.play_all.Goals as goal

pub loop-command-preserved : goal.loop-command-preserved
loop-command-preserved c =
    let commands = c.args.commands.now in
    let x = c.command-item.result in
    let here = drop_here commands c.loop-command.command-index x x c.loop-command-test.true c.command-item.is in
    let before : Played = record { happened = c.loop-command.world; printed = string_bytes c.loop-command.text } in
    let so_far = subst (λ (rest : List Command). ArePlayedTo takes (map said_of commands) (map said_of rest) before) here c.loop-command.invariant in
    played_more takes (map said_of commands) (said_of x) (map said_of (drop (c.loop-command.command-index + 1) commands)) before _ so_far c.in_ok-world-2.ensures.played

pub returns-clause-played : goal.returns-clause-played
returns-clause-played c =
    let commands = c.args.commands.now in
    let before : Played = record { happened = c.loop-command.world; printed = string_bytes c.loop-command.text } in
    let none = drop_all c.loop-command.command-index commands c.loop-command-test.false in
    played_to takes (map said_of commands) before (subst (λ (rest : List Command). ArePlayedTo takes (map said_of commands) (map said_of rest) before) none c.loop-command.invariant)
