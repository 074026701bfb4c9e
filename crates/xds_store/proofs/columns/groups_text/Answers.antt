use Rattle.std.proofs.Common.{map, ap, ◌∙◌}
use Rattle.serde_json.specs.Data.{string}
use Rattle.serde_json.specs.View.{view}
use Rattle.serde_json.proofs.Views.{view-Array}
use Rattle.xds_store.proofs.RowLemmas.{listed_as}
use Rattle.xds_store.proofs.columns.groups_text.Goals as goal

pub returns-clause-listed : goal.returns-clause-listed
returns-clause-listed c =
    listed_as (map view c.in_ok-values.values.items) c.args.groups.now _ _ (view-Array c.in_ok-values.values) (c.in_ok-values.ensures.ok ∙ ap (map string) c.texts.ensures) c.in_ok-to_string.ensures.reads_back
