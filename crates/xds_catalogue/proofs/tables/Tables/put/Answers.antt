use Rattle.std.proofs.Common.{◌+◌, ap, ◌∙◌}
use Rattle.std.specs.Cmp.{nat_cmp_total}
use Rattle.std.specs.FinMap as finmap
use Rattle.std.specs.FinMap.{nat_cmp-IsAntisymmetric}
use Rattle.xds_catalogue.specs.Tables.{TwoMaps}
use Rattle.xds_catalogue.proofs.Lookups.{remove-insert}
use Rattle.xds_catalogue.proofs.tables.Tables.put.Goals as goal

pub returns-in-Err-clause-err : goal.returns-in-Err-clause-err
returns-in-Err-clause-err g c =
    let t = c.self.inside in
    let fresh = ap (λ (m : TwoMaps). finmap.get m.numbers (m.changes + 1)) c.self.view_is ∙ c.requires.fresh in
    let back = c.remove.ensures ∙ ap (λ m. finmap.remove m (t.changes + 1)) c.in_ok-insert.ensures.ok ∙ remove-insert nat_cmp_total nat_cmp-IsAntisymmetric t.numbers (t.changes + 1) _ fresh in
    let kept = c.in-Err.ensures.err in
    (λ i. record { named = kept i; numbers = back i; changes = t.changes; greatest = t.greatest }) ∙ c.self.view_is
