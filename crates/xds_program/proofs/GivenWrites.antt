-- How far a file of stamped writes was read, and what its lines leave.
use Rattle.std.proofs.Common.{◌≡◌, ℕ, List, [], ◌∷◌, ◌++◌, refl, ap, sym, ◌∙◌, subst}
use Rattle.xds_resource.specs.TypedWrites.{TypedWrite}
use Rattle.xds_resource.specs.PerType.{PerType, at, with_at, each}
use Rattle.xds_resource.proofs.TypesApart.{at-each}
use Rattle.xds_catalogue.specs.Holdings.{Holdings, nothing_held}
use Rattle.xds_catalogue.specs.Joins.{joined}
use Rattle.xds_catalogue.proofs.OneWrite.{joined-nothing}
use Rattle.xds_script.specs.Lines.{feed, lines, pieces}
use Rattle.xds_causes.specs.WriteLines.{AreWriteLines, IsWriteLine}
use Rattle.xds_program.specs.Gathered.{IsReadTo}
use Rattle.xds_program.specs.Stamped.{AreLeft, write_lines}
use Rattle.xds_causes.proofs.WriteLines.{AreWriteLines-push}
use Rattle.xds_program.proofs.Reading.{held_of-push}

some_lines : (input : List ℕ) → (input ≡ [] → ⊥) → write_lines input ≡ lines input
some_lines [] some = absurd (some refl)
some_lines (b ∷ bs) some = refl

-- no bytes leave nothing
pub none_left : (input : List ℕ) (p : PerType Holdings) → input ≡ [] → p ≡ each nothing_held → AreLeft input (at p)
none_left input p none empty =
    subst (λ (i : List ℕ). AreLeft i (at p)) (sym none)
    (record { writes = []; writes_are = tt; held_are = λ t. ap (λ (q : PerType Holdings). at q t) empty ∙ at-each nothing_held t ∙ sym joined-nothing })

-- the last line is a write, too
pub all_left : (input rest : List ℕ) (line : ℕ) (p after : PerType Holdings) (x : TypedWrite) → (input ≡ [] → ⊥) → IsReadTo input rest line (at p) → pieces feed rest ≡ rest ∷ []
    → IsWriteLine rest x → after ≡ with_at p x.0 (joined (at p x.0) (x.1 ∷ [])) → AreLeft input (at after)
all_left input rest line p after x some r last is leaves =
    let lines_are = some_lines input some ∙ r.lines_are ∙ ap (λ (ps : List (List ℕ)). r.before ++ ps) last in
    record {
      writes = r.writes ++ x ∷ [];
      writes_are = subst (λ (ls : List (List ℕ)). AreWriteLines ls (r.writes ++ x ∷ [])) (sym lines_are) (AreWriteLines-push r.before r.writes rest x r.writes_are is);
      held_are = λ t. ap (λ (q : PerType Holdings). at q t) leaves ∙ held_of-push p r.writes x r.held_are t;
    }
