use Rattle.std.proofs.Common.{sym, subst}
use Rattle.xds_catalogue.specs.Tables.{IsSound}
use Rattle.xds_catalogue.proofs.Sound.{no_tables-sound}
use Rattle.xds_catalogue.proofs.catalogue.Catalogue.new.Goals as goal

pub invariant_of-result : goal.invariant_of-result
invariant_of-result g c = subst IsSound (sym c.new.ensures) no_tables-sound
