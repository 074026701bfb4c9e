use Rattle.std.proofs.Common.{rules, Ok, ap, ◌∙◌}
use Rattle.xds_flows.proofs.Unpacking.{text_read}
use Rattle.xds_flows.proofs.replication.parcels.Parcel.unpack.Goals as goal

-- src/parcels.rt:57:5
pub returns-in-Batch-clause-refused : goal.returns-in-Batch-clause-refused
returns-in-Batch-clause-refused c =
    text_read c.args.self.now.0 _ c.first_frame.ensures.0 c.in-Ok-Some.frame c.first_frame.result c.read.result c.first_frame.ensures.1 (search rules) (c.in-Ok-Some.is ∙ ap Ok c.in-Ok-Some.field-0-is) c.read.ensures.not_json c.read.ensures.bad c.read.ensures.refused
