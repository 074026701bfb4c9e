use Rattle.std.proofs.Common.{subst}
use Rattle.xds_node.specs.Pieces.{StandsInStory}
use Rattle.xds_node.proofs.Ending.{story_stands}
use Rattle.xds_node.proofs.node.history.History.is_complete.Goals as goal

pub returns-clause-stands : goal.returns-clause-stands
returns-clause-stands g c =
    let h = c.self.inside in
    subst StandsInStory c.self.view_is (story_stands _ h.base h.records.items h.cut h.complete h.token c.self.invariant)
