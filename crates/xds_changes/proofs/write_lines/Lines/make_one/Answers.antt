use Rattle.std.proofs.Common.{None, [], arith, string_bytes}
use Rattle.xds_resource.specs.Writes.{StampedWrite}
use Rattle.xds_changes.proofs.LineReading.{line_made}
use Rattle.xds_changes.proofs.write_lines.Lines.make_one.Goals as goal

pub returns-in_ok-push_line-clause-lines : goal.returns-in_ok-push_line-clause-lines
returns-in_ok-push_line-clause-lines c =
    let none : StampedWrite = record { name = []; counter = 0; writer = 0; body = None; groups = [] } in
    rw c.in-Some.is
    (line_made c.args.self.now.batch c.in-Some.kind c.args.self.now.index none (string_bytes c.args.self.now.text) (string_bytes c.push_line.new.text)
    (omega (arith, c.if-self-len_of.true, c.len_of.ensures)) (c.in_ok-push_line.ensures.line none))
