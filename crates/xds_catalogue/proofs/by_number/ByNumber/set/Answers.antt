use Rattle.std.proofs.Common.{◌≡◌, false, true, None, sym, ap, subst, refl, ◌∙◌}
use Rattle.std.specs.Option.{IsSome, option_copied_mut}
use Rattle.std.specs.FinMap as finmap
use Rattle.xds_catalogue.proofs.ByNumbers.{numbered, get-numbered, numbered-insert}
use Rattle.xds_catalogue.proofs.by_number.ByNumber.set.Goals as goal
use Rattle.xds_catalogue.proofs.by_number.ByNumber.set.Goals.{in-Some, in_default}

pub returns : goal.returns
returns g c =
    elim c.match-get_mut.branch [
      | in-Some w ↦
          let found = subst IsSome (sym (ap option_copied_mut w.in-Some.is) ∙ c.get_mut.ensures.value) refl in
          ap (λ m. numbered m.values) w.self-inside-is ∙ numbered-insert c.self.inside.values (c.get_mut.follows.lender c.args.value) c.args.number c.args.value ((c.get_mut.follows.holds c.args.value).3 found)
          ∙ ap (λ m. finmap.insert m c.args.number c.args.value) c.self.view_is
      | in_default w ↦
          let none : finmap.get c.args.self.now c.args.number ≡ None = sym (sym (ap option_copied_mut w.in_default.is) ∙ c.get_mut.ensures.value ∙ sym (get-numbered c.self.inside.values c.args.number) ∙ ap (λ m. finmap.get m c.args.number) c.self.view_is) in
          let never : false ≡ true = subst IsSome none c.requires in
          absurd cc
    ]
