use Rattle.std.proofs.Common.{Some, sym, ap, subst, refl, ◌∙◌}
use Rattle.std.specs.Option.{IsSome, option_copied_mut}
use Rattle.std.specs.FinMap as finmap
use Rattle.xds_catalogue.proofs.ByNumbers.{get-numbered, numbered-insert}
use Rattle.xds_catalogue.proofs.by_number.ByNumber.replace.Goals as goal

pub returns-in_err-held-clause-old : goal.returns-in_err-held-clause-old
returns-in_err-held-clause-old g c =
    c.from_residual.ensures ∙ sym (ap option_copied_mut c.in_err-held.was) ∙ c.get_mut.ensures.value ∙ sym (get-numbered c.self.inside.values c.args.number) ∙ ap (λ m. finmap.get m c.args.number) c.self.view_is

pub returns-clause-old : goal.returns-clause-old
returns-clause-old g c =
    ap Some c.replace.ensures.value ∙ sym (ap option_copied_mut c.in_ok-held.was) ∙ c.get_mut.ensures.value ∙ sym (get-numbered c.self.inside.values c.args.number) ∙ ap (λ m. finmap.get m c.args.number) c.self.view_is

pub returns-clause-found : goal.returns-clause-found
returns-clause-found g c =
    let found = subst IsSome (sym (ap option_copied_mut c.in_ok-held.was) ∙ c.get_mut.ensures.value) refl in
    numbered-insert c.self.inside.values (c.get_mut.follows.lender c.replace.new.dest) c.args.number c.replace.new.dest ((c.get_mut.follows.holds c.replace.new.dest).3 found)
    ∙ (λ i. finmap.insert (c.self.view_is i) c.args.number (c.replace.ensures.after i))
