-- What calls do to a reader or a writer, as far as that is known. This project's own.
--     most_calls        as many calls as may be made: each one after them fails
--     calls_after       the calls so far, which stop there
--     CountsCall        a call is counted, and succeeds only where one may be made
--     most_failed       as many failed calls as can be counted
--     MoreFailed        more calls have failed, or as many as can be counted
--     CountsFailure     a call that fails is counted as failed, and no other
--     Device            the bytes that a reader has left, or that a writer holds, and how many of its calls have failed
--     seen              the device before and after, where `bytes` are those that it has left or holds
--     HasFailed         a call of the device failed meanwhile
--     Stays             the device is as it was
--     Wrote             these bytes were written, and no more
--     WrotePart         a beginning of these bytes was written, and then a call failed
--     Tells             these bytes were written, or as many of them as the device took before a call failed
use Rattle.std.specs.Prelude.{◌≡◌, ◌⊎◌, ◌<◌, ◌+◌, ℕ, List, Option, Result, Ok, Err, take, if◌then◌else◌, nat_lt}
use Rattle.std.specs.Io.KnownBytes.{Keeps, Appends}
use Rattle.xds_frames.specs.declared.counted.Counted.{Counted}

-- as many calls as may be made: each one after them fails
abbrev pub most_calls : ℕ
most_calls = 9223372036854775807

-- the calls so far, which stop there
abbrev pub calls_after : ℕ → ℕ
calls_after calls = if nat_lt calls most_calls then calls + 1 else calls

-- a call is counted, and succeeds only where one may be made
abbrev pub CountsCall : {T E : Type 0} → Result T E → ℕ → ℕ → Type 0
CountsCall (Ok x) before after = (before < most_calls) × (after ≡ before + 1)
CountsCall (Err e) before after = after ≡ calls_after before

-- as many failed calls as can be counted
abbrev pub most_failed : ℕ
most_failed = 18446744073709551615

-- more calls have failed, or as many as can be counted
abbrev pub MoreFailed : ℕ → ℕ → Type 0
MoreFailed before after = (before < after) ⊎ (after ≡ most_failed)

-- a call that fails is counted as failed, and no other
abbrev pub CountsFailure : {T E : Type 0} → Result T E → ℕ → ℕ → Type 0
CountsFailure (Ok x) before after = after ≡ before
CountsFailure (Err e) before after = MoreFailed before after

-- the bytes that a reader has left, or that a writer holds, and how many of its calls have failed
pub record Device : Type 0 where
  pub before : Option (List ℕ)
  pub after : Option (List ℕ)
  pub failed_before : ℕ
  pub failed_after : ℕ

-- the device before and after, where `bytes` are those that it has left or holds
abbrev pub seen : {D : Type 0} → (D → Option (List ℕ)) → Counted D → Counted D → Device
seen bytes old new = record { before = bytes old.inner; after = bytes new.inner; failed_before = old.failed; failed_after = new.failed }

abbrev pub HasFailed : Device → Type 0
HasFailed d = MoreFailed d.failed_before d.failed_after

-- the device is as it was
abbrev pub Stays : Device → Type 0
Stays d = Keeps d.before d.after

-- these bytes were written, and no more
abbrev pub Wrote : Device → List ℕ → Type 0
Wrote d bytes = Appends d.before d.after bytes

-- a beginning of these bytes was written, and then a call failed
abbrev pub WrotePart : Device → List ℕ → Type 0
WrotePart d bytes = HasFailed d × ((n : ℕ) × Wrote d (take n bytes))

-- these bytes were written, or as many of them as the device took before a call failed
abbrev pub Tells : Device → List ℕ → Type 0
Tells d bytes = Wrote d bytes ⊎ WrotePart d bytes
