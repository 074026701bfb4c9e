use Rattle.std.proofs.Common.{map, drop, string_bytes}
use Rattle.xds_script.specs.Commands.{said_of}
use Rattle.xds_play.specs.Played.{takes}
use Rattle.xds_play.proofs.Playing.{ArePlayedTo}
use Rattle.xds_play.proofs.play.play_all.Given as goal

abbrev pub invariant-loop-command : goal.invariant-loop-command
invariant-loop-command l =
    ArePlayedTo takes (map said_of l.commands) (map said_of (drop l.command-index l.commands)) (record { happened = l.world; printed = string_bytes l.text })
