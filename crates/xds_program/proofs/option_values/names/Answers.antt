use Rattle.std.proofs.Common.{◌∙◌, ap, map, string_bytes}
use Rattle.clap.specs.Words.{found_of}
use Rattle.xds_program.proofs.Values.{made_as, names_found}
use Rattle.xds_program.proofs.option_values.names.Goals as goal

pub returns-in-Some : goal.returns-in-Some
returns-in-Some c =
    made_as c.copied.result (λ v. map string_bytes v.items) _ _ (names_found (found_of c.args.given.now) _ c.in-Some.ensures) c.copied.ensures

pub returns-in-None : goal.returns-in-None
returns-in-None c = ap (map string_bytes) c.new.ensures.items ∙ names_found (found_of c.args.given.now) _ c.in-None.ensures
