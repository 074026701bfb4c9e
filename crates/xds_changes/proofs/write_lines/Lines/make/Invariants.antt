use Rattle.std.specs.Prelude.{◌≡◌, ◌++◌, string_bytes}
use Rattle.xds_changes.specs.WriteLines.{left_at}
use Rattle.xds_changes.proofs.write_lines.Lines.make.Given as goal

abbrev pub invariant-loop : goal.invariant-loop
invariant-loop l =
    string_bytes l.self.text ++ left_at l.self.batch l.self.kind l.self.index ≡ string_bytes l.fn.self.text ++ left_at l.fn.self.batch l.fn.self.kind l.fn.self.index
