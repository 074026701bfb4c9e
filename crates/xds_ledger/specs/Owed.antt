-- What a client is owed of each name, from what it was told and what the catalogue holds. This project's own.
--     Beliefs                          what the server believes that a client holds
--     told_version                     the version that a client was told, if it isn't unsure
--     entry_told                       a version was told, or the entry is unsure
--     entry_told_again, entry_code     the two undo one another
--     live_version                     the version of a live write
--     version_shown                    the version at which a write of a name is shown
--     present_as, present              the version at which a name is present
--     owed_after                       what is due to a client that was told this version, where this one is present
--     owed_unsure                      what is due to a client of whom it is not known what it holds
--     owed                             what is owed of a name, from its entry and the version that is present
--     owed_of                          what is owed of a name
--     names_known                      every name of which something may be owed
--     is_owed                          whether something is owed of a name that can be told
--     something_owed                   whether something that can be told is owed of some name
use Rattle.std.specs.Prelude.{◌≡◌, ℕ, List, ◌++◌, Bool, false, if◌then◌else◌, Option, Some, None, bytes_eq, option_map, refl}
use Rattle.std.specs.Option.{option_and_then, option_map_or}
use Rattle.std.specs.List.{list_any}
use Rattle.std.specs.FinMap as finmap
use Rattle.std.specs.Coded.{Coded, code_by, coded_ℕ, coded_list, coded_option}
use Rattle.xds_resource.specs.declared.types.TypeName.{TypeName}
use Rattle.xds_resource.specs.Writes.{StampedWrite, text_cmp, version_of}
use Rattle.xds_interest.specs.Interests.{Selection, covers}
use Rattle.xds_catalogue.specs.Holdings.{Entries}
use Rattle.xds_catalogue.specs.Content.{is_live}
use Rattle.xds_ledger.specs.declared.variant.VariantName.{VariantName}
use Rattle.xds_ledger.specs.declared.entry.Entry.{Entry}
use Rattle.xds_ledger.specs.declared.entry.Entry.TheVariants.{Told, Unsure}
use Rattle.xds_ledger.specs.declared.entry.Due.{Due}
use Rattle.xds_ledger.specs.declared.entry.Due.TheVariants.{Stated, Removed}
use Rattle.xds_ledger.specs.Variants.{is_told}

-- What the server believes that a client holds: each name with the version that it was told, or unsure.
abbrev pub Beliefs : Type 0
Beliefs = finmap.FinMap text_cmp Entry

abbrev pub told_version : Entry → Option (List ℕ)
told_version (Told version) = Some version
told_version Unsure = None

abbrev pub entry_told : Option (List ℕ) → Entry
entry_told (Some version) = Told version
entry_told None = Unsure

abbrev pub entry_told_again : (e : Entry) → entry_told (told_version e) ≡ e
entry_told_again (Told version) = refl
entry_told_again Unsure = refl

abbrev pub entry_code : Coded Entry
entry_code = code_by (Option (List ℕ)) (coded_option (coded_list coded_ℕ)) told_version entry_told entry_told_again

-- rule: tombstones, rule: owed
-- the version of a live write
abbrev pub live_version : StampedWrite → Option (List ℕ)
live_version w = if is_live w then Some (version_of w) else None

-- rule: owed, rule: covered-only
-- the version at which a write of a name is shown: it is live, and the interest covers the name in the write's groups
abbrev pub version_shown : Selection → List ℕ → StampedWrite → Option (List ℕ)
version_shown s name w = if covers s name w.groups then live_version w else None

-- rule: owed, rule: covered-only
-- The version at which a name is present to a client of this interest, by the write that stands under it, if there is one: the write
-- is live, and the interest covers it.
abbrev pub present_as : Selection → List ℕ → Option StampedWrite → Option (List ℕ)
present_as s name standing = option_and_then (version_shown s name) standing

-- rule: owed, rule: covered-only
-- the same by what a catalogue has
abbrev pub present : Selection → Entries → List ℕ → Option (List ℕ)
present s m name = present_as s name (finmap.get m name)

-- rule: owed
-- what is due to a client that was told this version, where this one is present
abbrev pub owed_after : List ℕ → Option (List ℕ) → Option Due
owed_after told None = Some Removed
owed_after told (Some v) = if bytes_eq told v then None else Some (Stated v)

-- rule: owed
-- what is due to a client of whom it is not known what it holds
abbrev pub owed_unsure : Option (List ℕ) → Option Due
owed_unsure None = Some Removed
owed_unsure (Some v) = Some (Stated v)

-- rule: owed, rule: no-live-removal
-- What is owed of a name, from its entry and the version that is present. A client without an entry holds nothing of the name.
abbrev pub owed : Option Entry → Option (List ℕ) → Option Due
owed None version = option_map Stated version
owed (Some (Told told)) version = owed_after told version
owed (Some Unsure) version = owed_unsure version

-- rule: owed
-- what is owed of a name
abbrev pub owed_of : Selection → Entries → Beliefs → List ℕ → Option Due
owed_of s m beliefs name = owed (finmap.get beliefs name) (present s m name)

-- every name of which something may be owed
abbrev pub names_known : Entries → Beliefs → List (List ℕ)
names_known m beliefs = finmap.keys beliefs ++ finmap.keys m

-- rule: owed
-- whether something is owed of a name that can be told
abbrev pub is_owed : VariantName → TypeName → Selection → Entries → Beliefs → List ℕ → Bool
is_owed v t s m beliefs name = option_map_or (is_told v t) (owed_of s m beliefs name) false

-- rule: owed
-- whether something that can be told is owed of some name
abbrev pub something_owed : VariantName → TypeName → Selection → Entries → Beliefs → Bool
something_owed v t s m beliefs = list_any (is_owed v t s m beliefs) (names_known m beliefs)
