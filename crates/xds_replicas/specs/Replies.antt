-- What a replica's answer comes to. This project's own.
--     refusal_in   the refusal that an answer is, of which there may be a record or none
use Rattle.std.specs.Prelude.{Option, Some, None, Result, Ok, Err}
use Rattle.xds_resource.specs.declared.refusal.Refusal.{Refusal}

-- the refusal that an answer is, of which there may be a record or none
abbrev pub refusal_in : {T : Type 0} → Result (Result T Refusal) Refusal → Option Refusal
refusal_in (Ok (Ok reply)) = None
refusal_in (Ok (Err refusal)) = Some refusal
refusal_in (Err refusal) = Some refusal
