use Rattle.std.proofs.Common.{◌-◌, length, sym, ap, ◌∙◌}
use Rattle.std.proofs.lemmas.Bool.{le-ltb}
use Rattle.xds_resource.specs.Stamps.{max_counter}
use Rattle.xds_catalogue.specs.Tables.{held_by}
use Rattle.xds_catalogue.proofs.Batches.{not_spent, spent_where}
use Rattle.xds_catalogue.proofs.batch.is_spent_by.Goals as goal

pub returns-else-writes-room : goal.returns-else-writes-room
returns-else-writes-room g c =
    let room = ap (λ n. max_counter - n) c.changes-room.ensures in
    le-ltb (max_counter - c.changes-room.result) (length c.args.writes.now) c.if-writes-room.false
    ∙ sym (not_spent (held_by c.args.tables.now) c.args.writes.now (max_counter - c.changes-room.result) room c.if-writes-room.false c.requires.sound.short)

pub returns-then-writes-room : goal.returns-then-writes-room
returns-then-writes-room g c =
    spent_where (held_by c.args.tables.now) c.args.writes.now (max_counter - c.changes-room.result) c.count_changes.result (ap (λ n. max_counter - n) c.changes-room.ensures) c.requires.sound.short c.count_changes.ensures
