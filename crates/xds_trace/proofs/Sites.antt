-- What the journal of a replica of a world makes: its trace, which keeps the rules.
use Rattle.std.proofs.Common.{◌≡◌, ℕ, List, ◌++◌, map, All, Option, Some, None, refl, sym, ap, subst, ◌∙◌}
use Rattle.std.specs.Prelude.{option_map}
use Rattle.std.specs.FinMap as finmap
use Rattle.xds_cache.specs.Faults.{Test}
use Rattle.xds_core.specs.Steps.{Core, fresh}
use Rattle.xds_core.specs.Legal.{Record, IsLegal, replayed}
use Rattle.xds_script.specs.Happenings.{Happening}
use Rattle.xds_world.specs.Worlds.{Site, world}
use Rattle.xds_world.specs.Claims.{JournalsAreLegal}
use Rattle.xds_check.specs.declared.line.Line.{Line}
use Rattle.xds_check.specs.declared.line.Line.TheVariants as lines
use Rattle.xds_check.specs.Rules.{NoneBroken}
use Rattle.xds_trace.specs.Claims.{IsQuiet}
use Rattle.xds_trace.specs.Making.{trace_of}
use Rattle.xds_trace.specs.Telling.{KeepsTheRules}
use Rattle.xds_trace.specs.Sites.{KeepsAt}

site_there : (o : Option Site) (rs : List Record) → Some rs ≡ option_map (λ (s : Site). s.journal) o → (s : Site) × (o ≡ Some s) × (s.journal ≡ rs)
site_there None rs is = absurd cc
site_there (Some s) rs is = (s, refl, cc)

module _ (test : Test) (hs : List Happening) (r : ℕ) (rs : List Record) (legal : JournalsAreLegal test hs) (is : Some rs ≡ option_map (λ (s : Site). s.journal) (finmap.get (world test hs).sites r)) where
  pub journal_legal : IsLegal (fresh r) rs
  journal_legal = let there = site_there (finmap.get (world test hs).sites r) rs is in subst (IsLegal (fresh r)) there.2 (legal r there.0 there.1).0

  pub journal_keeps : (trace : List Line) → trace ≡ trace_of rs → KeepsTheRules rs trace → KeepsAt (finmap.get (world test hs).sites r)
  journal_keeps trace told keeps =
      let there = site_there (finmap.get (world test hs).sites r) rs is in
      let core : there.0.core ≡ replayed (fresh r) rs = sym (legal r there.0 there.1).1 ∙ ap (replayed (fresh r)) there.2 in
      subst KeepsAt (sym there.1)
      (λ quiet all.
      subst (λ l. NoneBroken (l ++ map (λ p. lines.Idle p.0 p.1) quiet)) (told ∙ ap trace_of (sym there.2))
      (keeps r quiet journal_legal (subst (λ (c : Core). All (IsQuiet c) quiet) core all)))
