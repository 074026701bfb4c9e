use Rattle.std.proofs.Common.{◌+◌, map, drop, sym, ap, ◌∙◌, string_bytes}
use Rattle.xds_resource.specs.Names.{put_each}
use Rattle.xds_sources.specs.References.{leads_of}
use Rattle.xds_upkeep.specs.Linting.{leads_line, marked}
use Rattle.xds_upkeep.proofs.Lining.{line_more}
use Rattle.xds_upkeep.proofs.linting.lines_of.Goals as goal

pub loop-one-preserved : goal.loop-one-preserved
loop-one-preserved c =
    let found = c.deref-one-items.result.now in
    let i = c.loop-one.one-index in
    ap (λ m. put_each marked m (map leads_line (map leads_of (drop (i + 1) found)))) c.in_ok-add.ensures
    ∙ sym (line_more found i c.loop-one.lines c.one-item.result (string_bytes c.in_ok-dangling_line.field-0) c.loop-one-test.true c.one-item.is c.in_ok-dangling_line.ensures)
    ∙ c.loop-one.invariant
