use Rattle.std.proofs.Common.{sym, ap, ◌∙◌}
use Rattle.std.specs.Prelude.{is_some}
use Rattle.std.specs.Option.{option_copied_mut}
use Rattle.std.specs.FinMap as finmap
use Rattle.xds_resource.specs.Names.{pairs}
use Rattle.xds_cache.specs.InPlace.{replaced}
use Rattle.xds_cache.proofs.WrittenOver.{replaced_found, replaced_absent}
use Rattle.xds_cache.proofs.cache.Cache.replace.Goals as goal
use Rattle.xds_cache.proofs.cache.Cache.replace.Goals.{in-Some, in_default}

pub returns : goal.returns
returns c =
    let m = c.self.inside.by_name in
    elim c.match-get_mut.branch [
      | in-Some w ↦
          let found = ap is_some (sym c.get_mut.ensures.value ∙ ap option_copied_mut w.in-Some.is) in
          ap (λ b. finmap.from_entries (pairs b.by_name.entries)) w.self-inside-is
          ∙ replaced_found m (c.get_mut.follows.lender w.put_at.new.place) c.args.self.now c.args.name.now w.put_at.new.place c.self.view_is found ((c.get_mut.follows.holds w.put_at.new.place).3 found)
          ∙ ap (replaced c.args.self.now c.args.name.now) w.put_at.ensures
      | in_default w ↦
          let absent = ap is_some (sym c.get_mut.ensures.value ∙ ap option_copied_mut w.in_default.is) in
          ap (λ b. finmap.from_entries (pairs b.by_name.entries)) w.self-inside-is ∙ replaced_absent m c.get_mut.follows.lender-at-none c.args.self.now c.args.name.now c.args.holding c.self.view_is absent c.get_mut.follows.holds-at-none
    ]
