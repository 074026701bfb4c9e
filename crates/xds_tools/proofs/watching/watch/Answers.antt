use Rattle.std.specs.Prelude.{⊤}
use Rattle.xds_tools.proofs.Watchings.{somewhere}
use Rattle.xds_tools.proofs.watching.watch.Goals as goal

pub returns : goal.returns
returns g c =
    let (s, ended, is, runs, ends) = c.watch_by.ensures in (s, ended.answer, is, somewhere (λ _. ⊤) _ _ s ended _ runs, ends)
