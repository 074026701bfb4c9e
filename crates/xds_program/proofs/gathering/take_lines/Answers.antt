use Rattle.std.proofs.Common.{ℕ, List, ◌+◌, sym, subst}
use Rattle.xds_resource.specs.PerType.{at}
use Rattle.xds_program.specs.Gathered.{IsReadTo}
use Rattle.xds_program.proofs.Reading.{taken_none, taken_more, taken_left, read_bad_write}
use Rattle.xds_program.proofs.gathering.take_lines.Goals as goal

pub loop-bytes-init : goal.loop-bytes-init
loop-bytes-init c = taken_none c.args.rest.now c.args.reading.now.line c.args.reading.now.catalogues

pub returns-in-Err-clause-refused : goal.returns-in-Err-clause-refused
returns-in-Err-clause-refused c = λ input r.
    read_bad_write input c.loop-bytes.left.now c.in-Some.following.now c.in-Some.bytes.now c.loop-bytes.reading.line c.loop-bytes.reading.catalogues _ (c.loop-bytes.invariant.goes_on input r) c.in-Some.ensures.split c.in-Err.ensures.refused

pub loop-bytes-preserved : goal.loop-bytes-preserved
loop-bytes-preserved c =
    let taken = c.in_default-take_write.ensures.taken in
    taken_more c.args.rest.now c.loop-bytes.left.now c.in-Some.following.now c.in-Some.bytes.now c.args.reading.now.line c.loop-bytes.reading.line c.args.reading.now.catalogues c.loop-bytes.reading.catalogues _ taken.0 c.loop-bytes.invariant c.in-Some.ensures.split c.in-Some.ensures.shorter taken.1 taken.2

pub returns-then-rest-left-clause-taken : goal.returns-then-rest-left-clause-taken
returns-then-rest-left-clause-taken c = λ input r.
    let taken = c.in_default-take_write.ensures.taken in
    let now = taken_more c.args.rest.now c.loop-bytes.left.now c.in-Some.following.now c.in-Some.bytes.now c.args.reading.now.line c.loop-bytes.reading.line c.args.reading.now.catalogues c.loop-bytes.reading.catalogues c.take_write.new.catalogues taken.0 c.loop-bytes.invariant c.in-Some.ensures.split c.in-Some.ensures.shorter taken.1 taken.2 in
    subst (λ (left : List ℕ). IsReadTo input left (c.loop-bytes.reading.line + 1) (at c.take_write.new.catalogues)) (sym (taken_left _ _ _ _ _ _ now)) (now.goes_on input r)

pub returns-clause-taken : goal.returns-clause-taken
returns-clause-taken c = λ input r.
    let now = c.loop-bytes.invariant in
    subst (λ (left : List ℕ). IsReadTo input left c.loop-bytes.reading.line (at c.loop-bytes.reading.catalogues)) (sym (taken_left _ _ _ _ _ _ now)) (now.goes_on input r)
