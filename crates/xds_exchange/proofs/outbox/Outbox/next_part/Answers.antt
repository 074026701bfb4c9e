use Rattle.std.proofs.Common.{◌+◌, map, drop, ap, ◌∙◌, arith}
use Rattle.xds_message.specs.Batches.{by_type}
use Rattle.xds_exchange.specs.Parts.{typed_write}
use Rattle.xds_exchange.proofs.Cutting.{next_part_some, left_behind, part_taken, all_behind}
use Rattle.xds_exchange.proofs.Framing.{fits_by}
use Rattle.xds_exchange.proofs.outbox.Outbox.next_part.Goals as goal

pub returns-clause-ok : goal.returns-clause-ok
returns-clause-ok c =
    let items = c.self.inside.writes.items in
    let given = c.self.inside.given in
    let len = c.in_ok-len.len in
    let behind = c.deref.ensures.value in
    let first = rw (all_behind given items) at (rw behind at c.in_ok-len.ensures.ok) in
    let made = rw (all_behind given items) at (rw behind at c.in_ok-part.ensures.ok) in
    rw (← c.self.view_is) (next_part_some (map typed_write (drop given items)) (map typed_write (drop (given + len) items)) len c.in_ok-part.part first (omega (arith, c.if-len-eq0.false)) (left_behind typed_write given len items) (made ∙ ap by_type (part_taken typed_write given len items)))

pub returns-clause-fits : goal.returns-clause-fits
returns-clause-fits c =
    let items = c.self.inside.writes.items in
    let given = c.self.inside.given in
    let len = c.in_ok-len.len in
    let behind = c.deref.ensures.value in
    let first = rw (all_behind given items) at (rw behind at c.in_ok-len.ensures.ok) in
    let sound = rw (all_behind given items) at (rw behind at c.in_ok-len.ensures.sound) in
    let made = rw (all_behind given items) at (rw behind at c.in_ok-part.ensures.ok) in
    fits_by (map typed_write (drop given items)) len c.in_ok-part.part first sound (made ∙ ap by_type (part_taken typed_write given len items))
