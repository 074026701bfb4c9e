-- What is held once a holding was written over.
use Rattle.std.proofs.Common.{◌≡◌, ℕ, List, true, false, cond, String, Global, BTreeMap, Some, sym, ap, ◌∙◌}
use Rattle.std.specs.Prelude.{string_bytes, bytes_eq, is_some, if◌then◌else◌}
use Rattle.std.specs.Ordering.{nat_cmp}
use Rattle.std.specs.Cmp.Lexicographic.{slice_cmp}
use Rattle.std.specs.String.{string_cmp}
use Rattle.std.specs.BTreeMap as tree
use Rattle.std.specs.FinMap as finmap
use Rattle.std.proofs.lemmas.Map.Text.{btree_map_updates_text}
use Rattle.xds_resource.proofs.NameMaps.{seen, get-seen, same_names, get-insert}
use Rattle.xds_cache.specs.Shelves.{Holding, Cache}
use Rattle.xds_cache.specs.InPlace.{replaced}

seen-put : {Y X : Type 0} (m n : BTreeMap (String Y) X) (k : List ℕ) (x : X) → tree.UpdatesBy string_cmp (λ s. slice_cmp nat_cmp k (string_bytes s)) m n (Some x) → seen n ≡ finmap.insert (seen m) k x
seen-put m n k x u = same_names _ _ (λ q. get-seen n q ∙ btree_map_updates_text k m n (Some x) u q
    ∙ ap (cond (bytes_eq k q) (Some x)) (sym (get-seen m q)) ∙ sym (get-insert (seen m) k x q))

pub replaced_found : (m n : BTreeMap (String Global) Holding) (now : Cache) (bs : List ℕ) (h : Holding) → seen m ≡ now → is_some (tree.get_by_text m bs) ≡ true
    → tree.UpdatesBy string_cmp (λ k. slice_cmp nat_cmp bs (string_bytes k)) m n (Some h) → seen n ≡ replaced now bs h
replaced_found m n now bs h is found updates =
    seen-put m n bs h updates ∙ ap (λ (x : Cache). finmap.insert x bs h) is
    ∙ sym (ap (λ b. if b then finmap.insert now bs h else now) (ap (λ (x : Cache). is_some (finmap.get x bs)) (sym is) ∙ ap is_some (get-seen m bs) ∙ found))

pub replaced_absent : (m n : BTreeMap (String Global) Holding) (now : Cache) (bs : List ℕ) (h : Holding) → seen m ≡ now → is_some (tree.get_by_text m bs) ≡ false → n ≡ m → seen n ≡ replaced now bs h
replaced_absent m n now bs h is absent same =
    ap seen same ∙ is ∙ sym (ap (λ b. if b then finmap.insert now bs h else now) (ap (λ (x : Cache). is_some (finmap.get x bs)) (sym is) ∙ ap is_some (get-seen m bs) ∙ absent))
