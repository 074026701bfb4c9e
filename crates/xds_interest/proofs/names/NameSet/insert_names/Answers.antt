use Rattle.std.proofs.Common.{◌≡◌, sym, ap, ◌∙◌}
use Rattle.std.specs.String.{string_bytes}
use Rattle.xds_interest.specs.Interests.{is_star}
use Rattle.xds_interest.proofs.NameSets.{inserted_none, inserted_star, inserted_name, inserted_all}
use Rattle.xds_interest.proofs.names.NameSet.insert_names.Goals as goal
use Rattle.xds_interest.proofs.names.NameSet.insert_names.Goals.{then-not-is_star+in_ok-insert, else-not-is_star}

pub loop-text-init : goal.loop-text-init
loop-text-init c = inserted_none _ _ _

pub loop-text-preserved : goal.loop-text-preserved
loop-text-preserved c =
    let within = c.loop-text-test.true in
    let asked : is_star c.args.kind (string_bytes c.text-item.result) ≡ c.is_star.result = ap (is_star c.args.kind) (sym c.deref.ensures) ∙ sym c.is_star.ensures in
    elim c.if-not-is_star.branch [
      | then-not-is_star+in_ok-insert w ↦ rw w.self-is (inserted_name _ _ _ _ c.loop-text.self _ c.text-item.result within c.text-item.is (asked ∙ w.if-not-is_star.true) w.in_ok-insert.ensures.ok c.loop-text.invariant)
      | else-not-is_star w ↦ rw w.self-is (inserted_star _ _ _ _ _ c.text-item.result within c.text-item.is (asked ∙ w.if-not-is_star.false) c.loop-text.invariant)
    ]

pub returns-clause-ok : goal.returns-clause-ok
returns-clause-ok c = inserted_all _ _ _ _ _ c.loop-text-test.false c.loop-text.invariant
