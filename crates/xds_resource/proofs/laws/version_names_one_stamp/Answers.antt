use Rattle.xds_resource.proofs.VersionTexts.{version_text_injective}
use Rattle.xds_resource.proofs.laws.version_names_one_stamp.Goals as goal

pub returns : goal.returns
returns c = version_text_injective
