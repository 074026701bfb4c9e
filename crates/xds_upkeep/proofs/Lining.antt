-- The lines of references that are gone over one after another.
use Rattle.std.proofs.Common.{◌≡◌, ◌<◌, ◌+◌, ℕ, List, ◌∷◌, length, drop, get_or, map, sym, ap, ◌∙◌}
use Rattle.std.proofs.lemmas.List.{drop_more}
use Rattle.xds_resource.specs.Names.{put_each, put_some}
use Rattle.xds_sources.specs.References.{leads_of}
use Rattle.xds_sources.specs.declared.references.Dangling.{Dangling}
use Rattle.xds_upkeep.specs.Linting.{LineSet, leads_line, marked}

-- the next line is among them, and those behind it follow
pub line_more : (found : List Dangling) (i : ℕ) (lines : LineSet) (one : Dangling) (line : List ℕ) → i < length found → one ≡ get_or found i one → line ≡ leads_line (leads_of one)
    → put_each marked lines (map leads_line (map leads_of (drop i found))) ≡ put_each marked (put_some lines line (marked line)) (map leads_line (map leads_of (drop (i + 1) found)))
line_more found i lines one line within is told =
    ap (λ ds. put_each marked lines (map leads_line (map leads_of ds))) (drop_more found i one within ∙ ap (λ d. d ∷ drop (i + 1) found) (sym is))
    ∙ ap (λ l. put_each marked (put_some lines l (marked l)) (map leads_line (map leads_of (drop (i + 1) found)))) (sym told)
