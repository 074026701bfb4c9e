use Rattle.xds_catalogue.proofs.Catalogues.{get-catalogue_of, catalogue_of-IsCatalogue}
use Rattle.xds_catalogue.proofs.JoinLaws.{made_of_its_writes}
use Rattle.xds_catalogue.proofs.laws.has_the_best.Goals as goal

pub returns-clause-best : goal.returns-clause-best
returns-clause-best c = get-catalogue_of

pub returns-clause-named : goal.returns-clause-named
returns-clause-named c = catalogue_of-IsCatalogue

pub returns-clause-again : goal.returns-clause-again
returns-clause-again c = made_of_its_writes
