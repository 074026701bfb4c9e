use Rattle.xds_changes.proofs.LoadSteps.{has_loaded, has_stopped}
use Rattle.xds_changes.proofs.loading.load.Goals as goal

pub returns-in-Ok : goal.returns-in-Ok
returns-in-Ok g c =
    has_loaded _ _ _ _ _ c.new-loader.result c.take_lines.new.hands c.loaded.result (c.new-loader.ensures.first, c.new-loader.ensures.replicas, c.new-loader.ensures.held, c.new-loader.ensures.none) c.in-Ok.ensures c.loaded.ensures.ok c.loaded.ensures.refused

pub returns-in-Err : goal.returns-in-Err
returns-in-Err g c = has_stopped _ _ _ _ _ c.new-loader.result c.take_lines.new.hands _ c.in-Err.ensures
