use Rattle.std.proofs.Common.{sym, ap, subst}
use Rattle.std.specs.Prelude.{IsSome}
use Rattle.std.specs.FinMap as finmap
use Rattle.xds_core.specs.Seen.{event_of}
use Rattle.xds_core.proofs.StreamSteps.{there}
use Rattle.xds_world.proofs.Edits.{lent, put_over, with_sites, put_sites}
use Rattle.xds_world.proofs.state.State.at_site.Goals as goal

pub set-requires : goal.set-requires
set-requires g c = subst (λ m. IsSome (finmap.get m c.args.replica)) (sym c.in-Some.ensures.found) (there c.self.inside.sites c.args.replica c.new.result)

pub returns-clause-ok : goal.returns-clause-ok
returns-clause-ok g c =
    let n = c.args.replica in
    let s = c.in-Some.site in
    let left = c.take-reply.new.self in
    let x = c.new.result in
    let view = ap (λ w. w.sites) c.self.view_is in
    let has = lent c.self.inside.sites c.args.self.now.sites n c.replace.result s view c.replace.ensures.old c.in-Some.is in
    let puts = put_over c.self.inside.sites c.args.self.now.sites _ c.set.new.self n x left view c.in-Some.ensures.found c.set.ensures in
    put_sites c.args.self.now n (event_of c.args.event) s x left has c.set.new.self puts c.take-reply.result _ (λ i. with_sites (c.self.view_is i) c.set.new.self) c.take-reply.ensures.ok
