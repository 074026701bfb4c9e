-- What differences are once one was written over.
use Rattle.std.proofs.Common.{◌≡◌, ℕ, List, true, false, String, Global, BTreeMap, Option, Some, sym, ap, ◌∙◌}
use Rattle.std.specs.Prelude.{string_bytes, is_some, if◌then◌else◌}
use Rattle.std.specs.Ordering.{nat_cmp}
use Rattle.std.specs.Cmp.Lexicographic.{slice_cmp}
use Rattle.std.specs.String.{string_cmp}
use Rattle.std.specs.BTreeMap as tree
use Rattle.std.specs.FinMap as finmap
use Rattle.xds_resource.proofs.NameMaps.{seen, get-seen}
use Rattle.xds_catalogue.proofs.MapViews.{by_text-insert}
use Rattle.xds_ledger.specs.declared.entry.Entry.{Entry}
use Rattle.xds_ledger.specs.Overlay.{Differences}
use Rattle.xds_ledger.specs.Storing.{replaced}

pub replaced_found : (m n : BTreeMap (String Global) (Option Entry)) (now : Differences) (bs : List ℕ) (e : Option Entry) → seen m ≡ now → is_some (tree.get_by_text m bs) ≡ true
    → tree.UpdatesBy string_cmp (λ k. slice_cmp nat_cmp bs (string_bytes k)) m n (Some e) → seen n ≡ replaced now bs e
replaced_found m n now bs e is found updates =
    by_text-insert (λ x. x) m n bs e updates ∙ ap (λ (x : Differences). finmap.insert x bs e) is
    ∙ sym (ap (λ b. if b then finmap.insert now bs e else now) (ap (λ (x : Differences). is_some (finmap.get x bs)) (sym is) ∙ ap is_some (get-seen m bs) ∙ found))

pub replaced_absent : (m n : BTreeMap (String Global) (Option Entry)) (now : Differences) (bs : List ℕ) (e : Option Entry) → seen m ≡ now → is_some (tree.get_by_text m bs) ≡ false → n ≡ m → seen n ≡ replaced now bs e
replaced_absent m n now bs e is absent same =
    ap seen same ∙ is ∙ sym (ap (λ b. if b then finmap.insert now bs e else now) (ap (λ (x : Differences). is_some (finmap.get x bs)) (sym is) ∙ ap is_some (get-seen m bs) ∙ absent))
