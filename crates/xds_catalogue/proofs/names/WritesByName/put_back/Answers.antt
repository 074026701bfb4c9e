use Rattle.std.proofs.Common.{Some, ap, sym, ◌∙◌}
use Rattle.std.specs.Prelude.{is_some}
use Rattle.std.specs.Option.{option_copied_mut}
use Rattle.xds_catalogue.proofs.MapViews.{Named-replaced, Named-absent, Named-cleared}
use Rattle.xds_catalogue.proofs.names.WritesByName.put_back.Goals as goal

pub returns-in-Some-get_mut : goal.returns-in-Some-get_mut
returns-in-Some-get_mut g c =
    let found = ap is_some (sym c.get_mut.ensures.value ∙ ap option_copied_mut c.in-Some-get_mut.is) in
    let put = c.replace.new.dest in
    Named-replaced c.self.inside.by_name (c.get_mut.follows.lender put) c.args.self.now c.args.name.now put c.args.former c.self.view_is (c.in-Some.is ∙ ap Some (sym c.replace.ensures.after)) found ((c.get_mut.follows.holds put).3 found)

pub returns-in_default : goal.returns-in_default
returns-in_default g c =
    let found = ap is_some (sym c.get_mut.ensures.value ∙ ap option_copied_mut c.in_default.is) in
    Named-absent c.self.inside.by_name c.get_mut.follows.lender-at-none c.args.self.now c.args.name.now c.in-Some.entry c.args.former c.self.view_is c.in-Some.is found c.get_mut.follows.holds-at-none

pub returns-in-None : goal.returns-in-None
returns-in-None g c = Named-cleared c.self.inside.by_name c.remove.new.self c.args.self.now c.args.name.now c.args.former c.self.view_is c.in-None.is c.remove.ensures.updates
