use Rattle.xds_json.proofs.Lists.{Reads-texts}
use Rattle.xds_json.proofs.fields.texts_field.Goals as goal

pub returns-in-Some-as_array : goal.returns-in-Some-as_array
returns-in-Some-as_array c =
    Reads-texts _ _ _ _ _ (rw c.in-Some.is at c.set_field.ensures) (rw c.in-Some-as_array.is at c.as_array.ensures) c.texts_of.ensures
