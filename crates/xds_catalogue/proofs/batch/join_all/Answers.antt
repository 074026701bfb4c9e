use Rattle.std.proofs.Common.{sym, ap, ◌∙◌}
use Rattle.std.specs.Prelude.{nat_lt}
use Rattle.std.proofs.lemmas.Bool.{ltb-false}
use Rattle.xds_resource.specs.Stamps.{max_counter}
use Rattle.xds_catalogue.specs.Joins.{joined}
use Rattle.xds_catalogue.specs.Tables.{held_by}
use Rattle.xds_catalogue.proofs.batch.join_all.Goals as goal

pub put_all-requires-clause-room : goal.put_all-requires-clause-room
put_all-requires-clause-room g c = ltb-false max_counter _ (sym (c.is_spent_by.ensures ∙ ap (λ ws. nat_lt max_counter (joined (held_by c.args.tables.now) ws).changes) c.deref.ensures.value) ∙ c.if-is_spent_by.false)
