use Rattle.std.proofs.Common.{Option, sym, ap, ◌∙◌}
use Rattle.std.specs.Option.{unwrap_or}
use Rattle.xds_check.specs.Kept.{StreamTalk, unheard, none_missed}
use Rattle.xds_check.proofs.StreamChanges.{unheard_waits}
use Rattle.xds_check.proofs.judge.none_missed.Goals as goal

pub returns-in-None : goal.returns-in-None
returns-in-None g c =
    let entries = c.args.catalogue.now.entries in
    sym (unheard_waits entries) ∙ ap (λ (o : Option StreamTalk). none_missed entries (unwrap_or o unheard)) c.in-None.ensures
