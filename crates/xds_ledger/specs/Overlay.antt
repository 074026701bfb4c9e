-- What is believed as what an offer told, and a few differences. This project's own.
--     entry_of         what is believed of a name that a client holds, as an entry
--     told_in          what a client is told of a name by an offer that it accepted, if there is one
--     tells            whether it is told something of the name
--     told_by          what it is told of all names
--     Differences      for some names what is believed of them in place of what was told: an entry, or none
--     overlaid         what is believed by differences from what was told
--     unless_changed   what an offer tells of a name, unless there is a difference
--     flat             how what an offer told, with differences, is made one map
use Rattle.std.specs.Prelude.{ℕ, List, ◌++◌, Bool, Option, Some, None, is_some, if◌then◌else◌}
use Rattle.std.specs.Option.{option_and_then}
use Rattle.std.specs.FinMap as finmap
use Rattle.xds_resource.specs.Writes.{text_cmp}
use Rattle.xds_resource.specs.Names.{tabulate, put_all}
use Rattle.xds_ledger.specs.declared.told.Believed.{Believed}
use Rattle.xds_ledger.specs.declared.told.Believed.TheVariants as believed
use Rattle.xds_ledger.specs.declared.entry.Entry.{Entry}
use Rattle.xds_ledger.specs.declared.entry.Entry.TheVariants.{Told, Unsure}
use Rattle.xds_ledger.specs.declared.entry.Due.{Due}
use Rattle.xds_ledger.specs.Owed.{Beliefs}
use Rattle.xds_ledger.specs.Offers.{Offer}
use Rattle.xds_ledger.specs.Believing.{once_told}
use Rattle.xds_ledger.specs.Changes.{believed_now}

-- what is believed of a name that a client holds, as an entry
abbrev pub entry_of : Believed → Entry
entry_of (believed.Told version) = Told version.now
entry_of believed.Unsure = Unsure

-- what a client is told of a name by an offer that it accepted, if there is one
abbrev pub told_in : Option Offer → List ℕ → Option Entry
told_in None name = None
told_in (Some offer) name = option_and_then once_told (finmap.get offer name)

-- whether it is told something of the name
abbrev pub tells : Option Offer → List ℕ → Bool
tells o name = is_some (told_in o name)

-- what it is told of all names
abbrev pub told_by : Option Offer → Beliefs
told_by None = finmap.empty
told_by (Some offer) = tabulate (told_in (Some offer)) (finmap.keys offer)

-- for some names what is believed of them in place of what was told: an entry, or none
abbrev pub Differences : Type 0
Differences = finmap.FinMap text_cmp (Option Entry)

-- what is believed by differences from what was told
abbrev pub overlaid : Beliefs → Differences → Beliefs
overlaid told changed = tabulate (believed_now changed told) (finmap.keys changed ++ finmap.keys told)

-- what an offer tells of a name, unless there is a difference
abbrev pub unless_changed : Differences → List ℕ → Due → Option Entry
unless_changed changed name due = if is_some (finmap.get changed name) then None else once_told due

-- how what an offer told, with differences, is made one map
abbrev pub flat : Option Offer → Differences → Beliefs
flat None changed = put_all (λ name entry. entry) finmap.empty (finmap.entries changed)
flat (Some offer) changed = put_all (λ name entry. entry) (put_all (unless_changed changed) finmap.empty (finmap.entries offer)) (finmap.entries changed)
