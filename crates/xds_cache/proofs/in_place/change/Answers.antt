use Rattle.std.proofs.Common.{◌≡◌, ℕ, List, Bor, map, string_bytes, ap, ◌∙◌}
use Rattle.std.specs.FinMap as finmap
use Rattle.xds_resource.specs.Names.{put_each}
use Rattle.xds_cache.specs.Shelves.{Cache}
use Rattle.xds_cache.specs.InPlace.{new_names, removed_all, cleared_all, stored_all}
use Rattle.xds_cache.proofs.ChangedInPlace.{new_names_are_absent, changed_in_place}
use Rattle.xds_cache.proofs.in_place.change.Goals as goal

abbrev text_of : Bor (List ℕ) → List ℕ
text_of n = n.now

pub add_all-requires : goal.add_all-requires
add_all-requires c =
    let held = c.args.cache.now in
    let names = map string_bytes c.deref.result.now in
    let new : map text_of c.deref-2.result.now ≡ new_names c.args.kind c.args.wants.now held names = ap (map text_of) c.deref-2.ensures.value ∙ c.in_ok-new.ensures.ok in
    ap (removed_all held) new ∙ new_names_are_absent c.args.kind c.args.wants.now held names

pub returns-clause-ok : goal.returns-clause-ok
returns-clause-ok c =
    let t = c.args.kind in
    let w = c.args.wants.now in
    let held = c.args.cache.now in
    let stated = c.args.stated in
    let names : map string_bytes c.deref.result.now ≡ finmap.keys stated = ap (map string_bytes) c.deref.ensures.value ∙ c.in_ok-names.ensures.ok in
    let names_again : map string_bytes c.deref-3.result.now ≡ finmap.keys stated = ap (map string_bytes) c.deref-3.ensures.value ∙ c.in_ok-names.ensures.ok in
    let new : map text_of c.deref-2.result.now ≡ new_names t w held (finmap.keys stated) =
    ap (map text_of) c.deref-2.ensures.value ∙ c.in_ok-new.ensures.ok ∙ ap (new_names t w held) names in
    c.store_all.ensures
    ∙ (λ i. stored_all stated ((c.clear_all.ensures ∙ ap (λ (m : Cache). cleared_all stated m (finmap.keys c.args.removed.now)) (c.in_ok-add_all.ensures.ok ∙ ap (put_each (finmap.get stated) held) new)) i) (names_again i))
    ∙ changed_in_place t w held c.args.removed.now stated c.requires
