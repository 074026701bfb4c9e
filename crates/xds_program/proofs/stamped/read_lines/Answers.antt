use Rattle.std.proofs.Common.{◌+◌, sym, subst}
use Rattle.xds_resource.specs.PerType.{PerType, at}
use Rattle.xds_catalogue.specs.Holdings.{Holdings}
use Rattle.xds_program.specs.Gathered.{IsReadTo}
use Rattle.xds_program.proofs.Reading.{begun, read_more}
use Rattle.xds_program.proofs.GivenWrites.{all_left}
use Rattle.xds_program.proofs.stamped.read_lines.Goals as goal

pub loop-bytes-init : goal.loop-bytes-init
loop-bytes-init c = begun c.args.input.now c.without_last_feed-left.result.now c.begin-reading.result.line c.begin-reading.result.catalogues c.without_last_feed-left.ensures c.begin-reading.ensures.0 c.begin-reading.ensures.1

pub loop-bytes-preserved : goal.loop-bytes-preserved
loop-bytes-preserved c =
    let taken = c.in_default-take_write.ensures.taken in
    subst (λ (p : PerType Holdings). IsReadTo c.args.input.now c.in-Some.following.now (c.loop-bytes.reading.line + 1) (at p)) (sym taken.2)
    (read_more c.args.input.now c.loop-bytes.left.now c.in-Some.following.now c.in-Some.bytes.now c.loop-bytes.reading.line c.loop-bytes.reading.catalogues taken.0 c.loop-bytes.invariant c.in-Some.ensures.split c.in-Some.ensures.shorter taken.1)

pub returns-clause-left : goal.returns-clause-left
returns-clause-left c =
    let taken = c.in_default-take_write-2.ensures.taken in
    all_left c.args.input.now c.loop-bytes.left.now c.loop-bytes.reading.line c.loop-bytes.reading.catalogues c.take_write-2.new.catalogues taken.0 c.requires c.loop-bytes.invariant c.in_default.ensures.last taken.1 taken.2
