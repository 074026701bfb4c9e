-- What contracts see of the ends of a channel: what was put, what was taken, and which belong to one channel. This project's own.
--     put_by         what was put by an end, in order
--     failed_by      how many puts of an end failed
--     taken_by       what was taken by one
--     taken_of       and by one that left
--     AreEnds        they are the two ends of one channel
--     IsOf           an end that left was the other one of this
--     IsSameEnd      the same end, before and after something was put
--     IsSameSource   the same end, before and after something was taken
--     Begins         one list is a beginning of another
use Rattle.std.specs.Prelude.{◌≡◌, ℕ, List, ◌++◌}
use Rattle.crossbeam_channel.specs.Claims.{view, IsSeatAt}
use Rattle.crossbeam_channel.specs.Ends.{sends_on, receives_on}
use Rattle.xds_exchange.specs.declared.ends.Outgoing.{Outgoing}
use Rattle.xds_exchange.specs.declared.ends.Incoming.{Incoming}
use Rattle.xds_exchange.specs.declared.ends.Taken.{Taken}

-- what was put by an end, in order
abbrev pub put_by : {T : Type 0} → Outgoing T → List T
put_by o = (view o.pass).put

-- how many puts of an end failed
abbrev pub failed_by : {T : Type 0} → Outgoing T → ℕ
failed_by o = o.failed

-- what was taken by one
abbrev pub taken_by : {T : Type 0} → Incoming T → List T
taken_by i = (view i.pass).taken

-- and by one that left
abbrev pub taken_of : {T : Type 0} → Taken T → List T
taken_of t = (view t.pass).taken

-- they are the two ends of one channel
abbrev pub AreEnds : {T : Type 0} → Outgoing T → Incoming T → Type 0
AreEnds o i = receives_on i.receiver ≡ sends_on o.sender

-- an end that left was the other one of this
abbrev pub IsOf : {T : Type 0} → Outgoing T → Taken T → Type 0
IsOf o t = IsSeatAt (sends_on o.sender) t.pass

-- the same end, before and after something was put
abbrev pub IsSameEnd : {T : Type 0} → Outgoing T → Outgoing T → Type 0
IsSameEnd before after = after.sender ≡ before.sender

-- the same end, before and after something was taken
abbrev pub IsSameSource : {T : Type 0} → Incoming T → Incoming T → Type 0
IsSameSource before after = after.receiver ≡ before.receiver

-- one list is a beginning of another
abbrev pub Begins : {T : Type 0} → List T → List T → Type 0
Begins front all = (rest : List _) × (all ≡ front ++ rest)
