use Rattle.clap.specs.Words.{found_of}
use Rattle.xds_program.proofs.Values.{address_found}
use Rattle.xds_program.proofs.option_values.address_at.Goals as goal

pub returns : goal.returns
returns c = address_found (found_of c.args.given.now) c.args.option.now c.get_one.result c.get_one.ensures.none c.get_one.ensures.value
