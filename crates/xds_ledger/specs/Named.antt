-- What is owed of a name that changed since a mark, as it is found by its name and not by the order of changes. This project's own.
--     is_owed_since   whether the name changed since a mark, and something is owed of it
--     owed_number     the number of its latest change, if so
--     told_entries    what an offer says of each of its names, if there is one
use Rattle.std.specs.Prelude.{ℕ, List, [], Bool, ◌&&◌, Option, Some, None, if◌then◌else◌}
use Rattle.std.specs.FinMap as finmap
use Rattle.xds_resource.specs.declared.types.TypeName.{TypeName}
use Rattle.xds_interest.specs.Interests.{Selection}
use Rattle.xds_catalogue.specs.Holdings.{Holdings}
use Rattle.xds_ledger.specs.declared.variant.VariantName.{VariantName}
use Rattle.xds_ledger.specs.Owed.{Beliefs, is_owed}
use Rattle.xds_ledger.specs.Listed.{is_since}
use Rattle.xds_ledger.specs.declared.entry.Due.{Due}
use Rattle.xds_ledger.specs.Offers.{Offer}

-- rule: owed
-- whether the name changed since a mark, and something is owed of it that can be told
abbrev pub is_owed_since : VariantName → TypeName → Selection → Holdings → Beliefs → ℕ → List ℕ → Bool
is_owed_since v t s h b mark name = is_since h mark name && is_owed v t s h.entries b name

-- rule: owed
-- the number of its latest change, if so
abbrev pub owed_number : VariantName → TypeName → Selection → Holdings → Beliefs → ℕ → List ℕ → Option ℕ
owed_number v t s h b mark name = if is_owed_since v t s h b mark name then finmap.get h.latest name else None

-- what an offer says of each of its names, if there is one
abbrev pub told_entries : Option Offer → List (List ℕ × Due)
told_entries None = []
told_entries (Some offer) = finmap.entries offer
