use Rattle.std.proofs.Common.{sym, subst, is_some, unwrap_or, IfOk}
use Rattle.std.proofs.lemmas.Result.{IfOk-weaker}
use Rattle.xds_core.specs.Stores.{Store}
use Rattle.xds_changes.specs.Given.{IsHeldFirst, IsWorldOver, MergesSome}
use Rattle.xds_server.proofs.world.world_over.Goals as goal

pub returns-in-Some : goal.returns-in-Some
returns-in-Some g c =
    let first : IsHeldFirst c.args.stored c.args.given c.join_some-2.new.held = record {
      of_stored = c.join_some.new.held;
      stored_is = subst (λ (s : Store). MergesSome s c.args.stored c.join_some.new.held) c.new-held.ensures c.in_default.ensures;
      given_is = c.in_default-join_some.ensures;
    } in
    subst (λ l. IfOk c.world_in.result (IsWorldOver (unwrap_or c.args.serving.first_number 1) c.args.serving.replicas c.args.stored c.args.given (is_some l))) (sym c.in-Some.is)
    (IfOk-weaker c.world_in.result _ _ (λ b h. (c.join_some-2.new.held, first, h)) c.world_in.ensures)

pub returns-in-None : goal.returns-in-None
returns-in-None g c =
    let first : IsHeldFirst c.args.stored c.args.given c.join_some-2.new.held = record {
      of_stored = c.join_some.new.held;
      stored_is = subst (λ (s : Store). MergesSome s c.args.stored c.join_some.new.held) c.new-held.ensures c.in_default.ensures;
      given_is = c.in_default-join_some.ensures;
    } in
    subst (λ l. IfOk c.all_of.result (IsWorldOver (unwrap_or c.args.serving.first_number 1) c.args.serving.replicas c.args.stored c.args.given (is_some l))) (sym c.in-None.is)
    (IfOk-weaker c.all_of.result _ _ (λ b h. (c.join_some-2.new.held, first, h)) c.all_of.ensures)
