-- What a response says of a name, and whether an offer says the same: the answers of the functions that look. This project's own.
--     due_said      what a saying offers, if it offers something
--     if_told       what is due, if it can be told
--     said_of       what a response says of a name, from its entry and the version that is present
--     same_saying   whether two say the same of a name, be it nothing
--     still_says    whether an offer says of a name what a response would say now
--     has_what_is_said   whether an offer speaks of a name, or a response would say nothing of it now
use Rattle.std.specs.Prelude.{ℕ, List, Bool, true, false, ◌||◌, if◌then◌else◌, Option, Some, None, option_map, is_some}
use Rattle.std.specs.Option.{option_map_or}
use Rattle.std.specs.FinMap as finmap
use Rattle.xds_resource.specs.declared.types.TypeName.{TypeName}
use Rattle.xds_resource.specs.Stamps.{version_text}
use Rattle.xds_interest.specs.Interests.{Selection}
use Rattle.xds_catalogue.specs.Holdings.{Entries}
use Rattle.xds_ledger.specs.declared.variant.VariantName.{VariantName}
use Rattle.xds_ledger.specs.declared.entry.Entry.{Entry}
use Rattle.xds_ledger.specs.declared.entry.Due.{Due}
use Rattle.xds_ledger.specs.declared.entry.Due.TheVariants as dues
use Rattle.xds_ledger.specs.declared.repeats.Saying.{Saying}
use Rattle.xds_ledger.specs.declared.repeats.Saying.TheVariants as sayings
use Rattle.xds_ledger.specs.Variants.{is_whole, is_told}
use Rattle.xds_ledger.specs.Owed.{Beliefs, owed}
use Rattle.xds_ledger.specs.Offers.{Offer, same_due, offered}

abbrev pub due_said : Saying → Option Due
due_said sayings.Nothing = None
due_said (sayings.Stated stamp) = Some (dues.Stated (version_text stamp.counter stamp.writer))
due_said sayings.Removed = Some dues.Removed

-- what is due, if it can be told
abbrev pub if_told : VariantName → TypeName → Option Due → Option Due
if_told v t o = if option_map_or (is_told v t) o false then o else None

-- rule: refused-offer
-- what a response says of a name, from its entry and the version that is present
abbrev pub said_of : VariantName → TypeName → Option Entry → Option (List ℕ) → Option Due
said_of v t e p = if is_whole v t then option_map dues.Stated p else if_told v t (owed e p)

-- rule: refused-offer
-- whether two say the same of a name, be it nothing
abbrev pub same_saying : Option Due → Option Due → Bool
same_saying None None = true
same_saying None (Some e) = false
same_saying (Some d) None = false
same_saying (Some d) (Some e) = same_due d e

-- rule: refused-offer
-- whether an offer says of a name what a response would say now
abbrev pub still_says : Offer → VariantName → TypeName → Selection → Entries → Beliefs → List ℕ → Bool
still_says refused v t s m b name = same_saying (finmap.get refused name) (offered v t s m b name)

-- rule: refused-offer
-- whether an offer speaks of a name, or a response would say nothing of it now
abbrev pub has_what_is_said : Offer → VariantName → TypeName → Selection → Entries → Beliefs → List ℕ → Bool
has_what_is_said refused v t s m b name = is_some (finmap.get refused name) || still_says refused v t s m b name
