use Rattle.xds_changes.proofs.Takings.{kept_if}
use Rattle.std.specs.Prelude.{is_ok}
use Rattle.xds_changes.proofs.held_line.HeldLine.keep.Goals as goal

pub invariant_of-self : goal.invariant_of-self
invariant_of-self c = record { one = kept_if (is_ok c.extend_from_slice.result) c.args.self.now.bytes.items c.args.part.now _ c.args.self.now.one c.requires c.extend_from_slice.ensures.items }
