-- The numbered refusals, and what a call answers that may also find no memory. This project's own.
--     number_of            the number of a refusal
--     name_of              the name of a refusal
--     unless_refused       a value, unless a condition holds: then the refusal of the first that does
--     Gives                the call answers this, its value seen by view, unless it found no memory
use Rattle.std.specs.Prelude.{◌≡◌, ◌≢◌, ℕ, List, [], ◌∷◌, Bool, if◌then◌else◌, Result, Ok, Err, codes}
use Rattle.xds_resource.specs.declared.refusal.Refusal.{Refusal}
use Rattle.xds_resource.specs.declared.refusal.Refusal.TheVariants.{NotJson, TooDeep, NotWhole, BadResource, BadName, TooLong, BadMessage, OutOfMemory, NotFound, CounterSpent, BadStamp, NoStream, WrongVariant, NonceSpent, EmptyFrame, FrameTooLong, UnknownKind, Truncated, Device, JournalFull, BadScript, BadTrace, Gap, BadGroup}

abbrev pub number_of : Refusal → ℕ
number_of NotJson = 1
number_of TooDeep = 2
number_of NotWhole = 3
number_of BadResource = 4
number_of BadName = 5
number_of TooLong = 6
number_of BadMessage = 7
number_of OutOfMemory = 8
number_of NotFound = 9
number_of CounterSpent = 10
number_of BadStamp = 11
number_of NoStream = 12
number_of WrongVariant = 13
number_of NonceSpent = 14
number_of EmptyFrame = 15
number_of FrameTooLong = 16
number_of UnknownKind = 17
number_of Truncated = 18
number_of Device = 19
number_of JournalFull = 20
number_of BadScript = 21
number_of BadTrace = 22
number_of Gap = 23
number_of BadGroup = 24

abbrev pub name_of : Refusal → List ℕ
name_of NotJson = codes "NotJson"
name_of TooDeep = codes "TooDeep"
name_of NotWhole = codes "NotWhole"
name_of BadResource = codes "BadResource"
name_of BadName = codes "BadName"
name_of TooLong = codes "TooLong"
name_of BadMessage = codes "BadMessage"
name_of OutOfMemory = codes "OutOfMemory"
name_of NotFound = codes "NotFound"
name_of CounterSpent = codes "CounterSpent"
name_of BadStamp = codes "BadStamp"
name_of NoStream = codes "NoStream"
name_of WrongVariant = codes "WrongVariant"
name_of NonceSpent = codes "NonceSpent"
name_of EmptyFrame = codes "EmptyFrame"
name_of FrameTooLong = codes "FrameTooLong"
name_of UnknownKind = codes "UnknownKind"
name_of Truncated = codes "Truncated"
name_of Device = codes "Device"
name_of JournalFull = codes "JournalFull"
name_of BadScript = codes "BadScript"
name_of BadTrace = codes "BadTrace"
name_of Gap = codes "Gap"
name_of BadGroup = codes "BadGroup"

-- a value, unless a condition holds: then the refusal of the first that does
abbrev pub unless_refused : {A : Type 0} → List (Bool × Refusal) → A → Result A Refusal
unless_refused [] a = Ok a
unless_refused (c ∷ cs) a = if c.0 then Err c.1 else unless_refused cs a

-- The call answers this, its value seen by view, unless it found no memory.
abbrev pub Gives : {X Y : Type 0} → (X → Y) → Result X Refusal → Result Y Refusal → Type 0
Gives view (Ok x) answer = answer ≡ Ok (view x)
Gives view (Err e) answer = e ≢ OutOfMemory → answer ≡ Err e
