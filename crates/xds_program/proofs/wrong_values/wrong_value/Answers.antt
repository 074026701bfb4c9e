use Rattle.xds_program.proofs.Ports.{blames_in}
use Rattle.xds_program.proofs.wrong_values.wrong_value.Goals as goal

pub returns-in-Some : goal.returns-in-Some
returns-in-Some c = blames_in _ _ _ c.in-Some.ensures.rows c.wrong_port.ensures

pub returns-in-Some-subcommand_matches : goal.returns-in-Some-subcommand_matches
returns-in-Some-subcommand_matches c = blames_in _ _ _ c.in-Some-subcommand_matches.ensures.rows c.wrong_of_client.ensures

pub returns-in-Some-subcommand_matches-2 : goal.returns-in-Some-subcommand_matches-2
returns-in-Some-subcommand_matches-2 c = blames_in _ _ _ c.in-Some-subcommand_matches-2.ensures.rows c.wrong_of_poll.ensures
