-- The versions that a client says it holds, as a list and as a map.
use Rattle.std.proofs.Common.{◌≡◌, ℕ, List, [], sym, subst, ◌∙◌}
use Rattle.std.specs.Prelude.{T}
use Rattle.std.specs.FinMap as finmap
use Rattle.std.specs.FinMap.Entries.{is_sorted}
use Rattle.std.proofs.lemmas.List.{nil_from_length}
use Rattle.xds_resource.specs.Writes.{text_cmp}
use Rattle.xds_ledger.specs.Ledgers.{AreInOrder, versions_of}

-- the entries of a map are in order
pub entries_in_order : (pairs : List (List ℕ × List ℕ)) (held : finmap.FinMap text_cmp (List ℕ)) → pairs ≡ finmap.entries held → AreInOrder pairs
entries_in_order pairs held are = subst (λ es. T (is_sorted text_cmp es)) (sym are) (finmap.entries_sorted held)

-- and are the versions of the map
pub versions_of_entries : (pairs : List (List ℕ × List ℕ)) (held : finmap.FinMap text_cmp (List ℕ)) → pairs ≡ finmap.entries held → versions_of pairs ≡ held
versions_of_entries pairs held are = finmap.same_entries_map _ _ (finmap.entries-from_sorted text_cmp pairs (entries_in_order pairs held are) ∙ are)

no_entries : [] ≡ finmap.entries (finmap.empty {X = List ℕ} {R = text_cmp})
no_entries = sym (nil_from_length (finmap.entries finmap.empty) (sym (finmap.len-entries finmap.empty) ∙ finmap.len-empty text_cmp (List ℕ)))

-- a client that says none holds none
pub versions_of_none : versions_of [] ≡ finmap.empty
versions_of_none = versions_of_entries [] finmap.empty no_entries
