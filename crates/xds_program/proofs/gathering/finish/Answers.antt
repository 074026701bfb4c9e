use Rattle.xds_program.proofs.Reading.{gathered}
use Rattle.xds_program.proofs.gathering.finish.Goals as goal

pub returns-in-Ok-clause-gathered : goal.returns-in-Ok-clause-gathered
returns-in-Ok-clause-gathered c = λ input r. gathered input c.args.last.now c.args.reading.line c.args.reading.catalogues c.in-Ok.request r c.requires c.in-Ok.ensures.reads
