-- What a request for writes asks for. This project's own.
--     amp           what stands between two parts
--     equals        what stands between the key and the value of a part
--     any_writes    all writes of the first replica, at once
--     most_wait     as many seconds as a request may wait
--     key_of        the key of a name
--     replica_in    the place of a replica
--     wait_in       how many seconds to wait
--     with_key      what is wanted, but for the value of a key
--     with_named    what is wanted, but for the value of the key of a name
--     with_part     what is wanted, but for what a part says
--     wanted_by     what is wanted, but for what all these parts say
--     wanted_in     what a query asks for, if it asks for anything
use Rattle.std.specs.Prelude.{ℕ, List, [], ◌∷◌, ◌==◌, length, Option, Some, None, codes, bytes_eq, if◌then◌else◌}
use Rattle.std.specs.Option.{option_map, option_and_then}
use Rattle.xds_script.specs.Lines.{pieces}
use Rattle.xds_script.specs.Words.{number_in, is_empty}
use Rattle.xds_changes.specs.declared.wanting.WantedWrites.{WantedWrites}
use Rattle.xds_changes.specs.declared.wanting.Key.{Key}
use Rattle.xds_changes.specs.declared.wanting.Key.TheVariants.{Replica, Since, Wait}
use Rattle.xds_changes.specs.MarkTexts.{marks_in, split_first}

-- what stands between two parts
abbrev pub amp : ℕ
amp = 38

-- what stands between the key and the value of a part
abbrev pub equals : ℕ
equals = 61

-- all writes of the first replica, at once
abbrev pub any_writes : WantedWrites
any_writes = record { replica = 1; since = record { cluster = 0; endpoint = 0; listener = 0; route = 0; secret = 0 }; wait = 0 }

-- as many seconds as a request may wait
abbrev pub most_wait : ℕ
most_wait = 300

-- the key of a name
abbrev pub key_of : List ℕ → Option Key
key_of name =
    if bytes_eq name (codes "replica") then Some Replica
    else if bytes_eq name (codes "since") then Some Since
    else if bytes_eq name (codes "wait") then Some Wait
    else None

-- the place of a replica
abbrev pub replica_in : List ℕ → Option ℕ
replica_in value = number_in 1 65535 value

-- how many seconds to wait
abbrev pub wait_in : List ℕ → Option ℕ
wait_in value = number_in 0 most_wait value

-- what is wanted, but for the value of a key
abbrev pub with_key : WantedWrites → Key → List ℕ → Option WantedWrites
with_key w Replica value = option_map (λ k. record w { replica = k }) (replica_in value)
with_key w Since value = option_map (λ m. record w { since = m }) (marks_in value)
with_key w Wait value = option_map (λ s. record w { wait = s }) (wait_in value)

-- what is wanted, but for the value of the key of a name
abbrev pub with_named : WantedWrites → List ℕ → List ℕ → Option WantedWrites
with_named w name value = option_and_then (λ key. with_key w key value) (key_of name)

-- what is wanted, but for what a part says: one name and one value
abbrev pub with_part : WantedWrites → List ℕ → Option WantedWrites
with_part w part =
    option_and_then (λ n. option_and_then (λ v. if is_empty v.1 then with_named w n.0 v.0 else None) (split_first n.1)) (split_first (pieces equals part))

-- what is wanted, but for what all these parts say
abbrev pub wanted_by : WantedWrites → List (List ℕ) → Option WantedWrites
wanted_by w [] = Some w
wanted_by w (p ∷ ps) = option_and_then (λ v. wanted_by v ps) (with_part w p)

-- what a query asks for, if it asks for anything
abbrev pub wanted_in : List ℕ → Option WantedWrites
wanted_in query = if length query == 0 then Some any_writes else wanted_by any_writes (pieces amp query)
