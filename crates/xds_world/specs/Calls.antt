-- What a call answers and what it leaves, in one word for what is done and what isn't possible. This project's own.
--     Gave       what a call answers, seen by view, and what it leaves
--     Happened   whether something happened, and what is left; where it didn't, all is as it was
use Rattle.std.specs.Prelude.{◌≡◌, Bool, true, false, Option, Some, None}

-- What a call answers, seen by view, and what it leaves; where this isn't possible, it answers nothing and leaves all as it was.
abbrev pub Gave : {X Y S : Type 0} → (X → Y) → S → Option X → S → Option (Y × S) → Type 0
Gave view before None after given = (given ≡ None) × (after ≡ before)
Gave view before (Some x) after given = given ≡ Some (view x, after)

-- Whether something happened, and what is left; where it didn't, all is as it was.
abbrev pub Happened : {S : Type 0} → S → Bool → S → Option S → Type 0
Happened before true after given = given ≡ Some after
Happened before false after given = (given ≡ None) × (after ≡ before)
