use Rattle.std.proofs.Common.{◌∙◌}
use Rattle.std.specs.Arc.{arc_str_bytes}
use Rattle.std.specs.Option.{option_map}
use Rattle.xds_resource.specs.Writes.{StampedWrite, write_cmp}
use Rattle.xds_resource.proofs.WriteTies.{compared, compared_bodies}
use Rattle.xds_resource.proofs.write.WriteOrd.cmp.Goals as goal

pub returns : goal.returns
returns g c =
    let a = c.self.inside in
    let b = c.other.inside in
    let v : StampedWrite = record { name = arc_str_bytes a.name; counter = a.stamp.counter; writer = a.stamp.writer; body = option_map arc_str_bytes a.body; groups = a.groups } in
    let w : StampedWrite = record { name = arc_str_bytes b.name; counter = b.stamp.counter; writer = b.stamp.writer; body = option_map arc_str_bytes b.body; groups = b.groups } in
    compared v w c.cmp.result c.cmp-2.result c.compare.result c.cmp-3.result c.then.result c.then-2.result c.then-3.result c.cmp.ensures (c.cmp-2.ensures ∙ compared_bodies a.body b.body) c.compare.ensures c.cmp-3.ensures c.then.ensures c.then-2.ensures c.then-3.ensures
    ∙ (λ i. write_cmp (c.self.view_is i) (c.other.view_is i))
