use Rattle.std.proofs.Common.{sym, ap, ◌∙◌}
use Rattle.xds_catalogue.specs.Tables.{all_taken_back}
use Rattle.xds_catalogue.proofs.Undoing.{all_taken_back-push}
use Rattle.xds_catalogue.proofs.batch.take_all_back.Goals as goal

pub loop-last-preserved : goal.loop-last-preserved
loop-last-preserved g c =
    ap (λ t. all_taken_back t c.pop.new.self.items) c.take_back.ensures ∙ sym (all_taken_back-push c.loop-last.tables c.pop.new.self.items c.in-Some.last)
    ∙ ap (all_taken_back c.loop-last.tables) (sym c.in-Some.ensures.items) ∙ c.loop-last.invariant
