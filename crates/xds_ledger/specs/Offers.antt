-- What a response says: of each of its names the version that is stated, or that it is removed. This project's own.
--     Offer                            what a response says, name by name
--     stated_version                   the version that is stated, if one is
--     due_stated                       a version is stated, or the name is removed
--     due_stated_again, due_code       the two undo one another
--     offered                          what an offer says of a name
--     offer                            what a response says of each name
--     same_due                         whether two say the same of a name
--     is_within                        whether the first says nothing that the second doesn't say
--     same_offer                       whether two offers are equal
use Rattle.std.specs.Prelude.{◌≡◌, ℕ, List, Bool, true, false, ◌&&◌, if◌then◌else◌, Option, Some, None, bytes_eq, option_map, refl}
use Rattle.std.specs.Coded.{Coded, code_by, coded_ℕ, coded_list, coded_option}
use Rattle.std.specs.Option.{option_map_or}
use Rattle.std.specs.List.{list_all}
use Rattle.std.specs.FinMap as finmap
use Rattle.xds_resource.specs.declared.types.TypeName.{TypeName}
use Rattle.xds_resource.specs.Writes.{text_cmp}
use Rattle.xds_resource.specs.Names.{tabulate}
use Rattle.xds_interest.specs.Interests.{Selection}
use Rattle.xds_catalogue.specs.Holdings.{Entries}
use Rattle.xds_ledger.specs.declared.variant.VariantName.{VariantName}
use Rattle.xds_ledger.specs.declared.entry.Due.{Due}
use Rattle.xds_ledger.specs.declared.entry.Due.TheVariants.{Stated, Removed}
use Rattle.xds_ledger.specs.Variants.{is_whole}
use Rattle.xds_ledger.specs.Owed.{Beliefs, present, owed_of, is_owed, names_known}

abbrev pub Offer : Type 0
Offer = finmap.FinMap text_cmp Due

abbrev pub stated_version : Due → Option (List ℕ)
stated_version (Stated version) = Some version
stated_version Removed = None

abbrev pub due_stated : Option (List ℕ) → Due
due_stated (Some version) = Stated version
due_stated None = Removed

abbrev pub due_stated_again : (d : Due) → due_stated (stated_version d) ≡ d
due_stated_again (Stated version) = refl
due_stated_again Removed = refl

abbrev pub due_code : Coded Due
due_code = code_by (Option (List ℕ)) (coded_option (coded_list coded_ℕ)) stated_version due_stated due_stated_again

-- rule: whole-response
-- What an offer says of a name: a whole response states what is present, another one what is owed and can be told.
abbrev pub offered : VariantName → TypeName → Selection → Entries → Beliefs → List ℕ → Option Due
offered v t s m beliefs name =
    if is_whole v t then option_map Stated (present s m name) else if is_owed v t s m beliefs name then owed_of s m beliefs name else None

-- rule: whole-response
abbrev pub offer : VariantName → TypeName → Selection → Entries → Beliefs → Offer
offer v t s m beliefs = tabulate (offered v t s m beliefs) (names_known m beliefs)

-- rule: refused-offer
-- whether two say the same of a name
abbrev pub same_due : Due → Due → Bool
same_due (Stated v) (Stated w) = bytes_eq v w
same_due (Stated v) Removed = false
same_due Removed (Stated w) = false
same_due Removed Removed = true

-- rule: refused-offer
-- whether the first says nothing that the second doesn't say
abbrev pub is_within : Offer → Offer → Bool
is_within a b = list_all (λ e. option_map_or (same_due e.1) (finmap.get b e.0) false) (finmap.entries a)

-- rule: refused-offer
-- whether two offers are equal
abbrev pub same_offer : Offer → Offer → Bool
same_offer a b = is_within a b && is_within b a
