-- How changes are made among differences from what an offer told, if there is one: the answers of the functions that make them.
-- Where nothing is told and nothing is believed, no difference stays. This project's own.
--     replaced      with another difference at a name that has one
--     stored        with what a change says of a name that has a difference, or is to have none
--     stored_all    and so with each of some names; a change is made once
--     removed_all   without each of some names
--     is_new        whether a change makes a difference where there is none
--     new_names     the names for which the changes make a difference where there is none
use Rattle.std.specs.Prelude.{ℕ, List, [], ◌∷◌, Bool, true, false, Option, Some, None, is_some, if◌then◌else◌}
use Rattle.std.specs.List.{filter}
use Rattle.std.specs.FinMap as finmap
use Rattle.xds_ledger.specs.declared.entry.Entry.{Entry}
use Rattle.xds_ledger.specs.Offers.{Offer}
use Rattle.xds_ledger.specs.Changes.{Changes}
use Rattle.xds_ledger.specs.Overlay.{Differences, tells}

-- with another difference at a name that has one
abbrev pub replaced : Differences → List ℕ → Option Entry → Differences
replaced d name e = if is_some (finmap.get d name) then finmap.insert d name e else d

-- with what a change says of a name that has a difference, or is to have none
abbrev pub stored : Option Offer → Differences → List ℕ → Option (Option Entry) → Differences
stored o d name None = d
stored o d name (Some None) = if tells o name then replaced d name None else finmap.remove d name
stored o d name (Some (Some e)) = replaced d name (Some e)

-- and so with each of some names; a change is made once
abbrev pub stored_all : Option Offer → Differences → Changes → List (List ℕ) → Differences
stored_all o d c [] = d
stored_all o d c (n ∷ ns) = stored_all o (stored o d n (finmap.get c n)) (finmap.remove c n) ns

-- without each of some names
abbrev pub removed_all : Differences → List (List ℕ) → Differences
removed_all d [] = d
removed_all d (n ∷ ns) = removed_all (finmap.remove d n) ns

-- whether a change makes a difference where there is none
abbrev pub is_new : Bool → Option (Option Entry) → Option (Option Entry) → Bool
is_new told None old = false
is_new told (Some None) None = told
is_new told (Some (Some e)) None = true
is_new told (Some e) (Some x) = false

-- the names for which the changes make a difference where there is none
abbrev pub new_names : Option Offer → Changes → Differences → List (List ℕ) → List (List ℕ)
new_names o c d names = filter (λ n. is_new (tells o n) (finmap.get c n) (finmap.get d n)) names
