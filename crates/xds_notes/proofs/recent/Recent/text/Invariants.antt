use Rattle.std.proofs.Common.{◌≡◌, drop, string_bytes}
use Rattle.xds_notes.specs.Notes.{recent_before, recent_text}
use Rattle.xds_notes.proofs.recent.Recent.text.Given as goal

-- what is left decides
abbrev pub invariant-loop-line : goal.invariant-loop-line
invariant-loop-line l = recent_before (drop l.line-index l.self.lines.items) (string_bytes l.text) ≡ recent_text l.self.lines.items
