use Rattle.std.proofs.Common.{Some, string_bytes, ap, ◌∙◌}
use Rattle.std.specs.Option.{option_map}
use Rattle.xds_json.proofs.VersionLemmas.{get_is}
use Rattle.xds_json.proofs.versions.Versions.get.Goals as goal

pub returns-in-Some : goal.returns-in-Some
returns-in-Some c =
    let found = rw c.in-Some.is at c.get.ensures.value in
    ap Some c.as_str.ensures.value ∙ ap (option_map string_bytes) found ∙ get_is c.self.inside.entries.entries c.args.self.now c.args.name.now c.self.view_is c.self.invariant

pub returns-in-None : goal.returns-in-None
returns-in-None c =
    let found = rw c.in-None.is at c.get.ensures.value in
    ap (option_map string_bytes) found ∙ get_is c.self.inside.entries.entries c.args.self.now c.args.name.now c.self.view_is c.self.invariant
