-- What a response over HTTP carries of a reply. This project's own.
--     status_or_fault   a number as a status
--     piece_of          a body in one piece, unless it is empty
--     Carries           the status and the body of a reply
--     CarriesOrNone     those of a reply, or that there was none
--     Replying          a reply to a post at a path with a body, between the seat that asks before and after
--     IsAnswerBy        the response to a post at a path whose body has come, by one call with this seat
--     IsAnswer          the same by a seat that was made for it
use Rattle.std.specs.Prelude.{◌≡◌, ◌⊎◌, ◌==◌, ◌||◌, ℕ, List, Option, Some, None, length, nat_lt, if◌then◌else◌}
use Rattle.http.specs.declared.response.Response.{Response}
use Rattle.http.specs.Response.{head_of, body_of}
use Rattle.http_body_util.specs.declared.full.Full.{Full}
use Rattle.xds_polls.specs.Polls.{HttpReply, unavailable}

-- a number as a status: one that isn't of three digits, which no reply has, counts as a fault of the server
abbrev pub status_or_fault : ℕ → ℕ
status_or_fault n = if nat_lt n 100 || nat_lt 999 n then 500 else n

-- a body in one piece, unless it is empty
abbrev pub piece_of : Option (List ℕ) → Option (List ℕ)
piece_of None = None
piece_of (Some text) = if length text == 0 then None else Some text

-- the status and the body of a reply
abbrev pub Carries : Response (Full (List ℕ)) → HttpReply → Type 0
Carries response reply = ((head_of response).status ≡ status_or_fault reply.status) × ((body_of response).buf ≡ piece_of reply.body)

-- those of a reply, or that there was none
abbrev pub CarriesOrNone : Response (Full (List ℕ)) → HttpReply → Type 0
CarriesOrNone response reply = Carries response reply ⊎ Carries response unavailable

-- a reply to a post at a path with a body, between the seat that asks before and after
abbrev pub Replying : Type 0 → Type 1
Replying Seat = Seat → Seat → List ℕ → List ℕ → HttpReply → Type 0

-- The response to a post at a path whose body has come: it carries the reply of the one call that led this seat from `old` to `new`, or
-- that there was none.
abbrev pub IsAnswerBy : {Seat : Type 0} → Replying Seat → Seat → Seat → List ℕ → List ℕ → Response (Full (List ℕ)) → Type 0
IsAnswerBy replies old new path body response = (r : HttpReply) × replies old new path body r × CarriesOrNone response r

-- The same by a seat that was made for it. Where no seat could be made it says that there was none.
abbrev pub IsAnswer : {Seat : Type 0} → (Seat → Type 0) → Replying Seat → List ℕ → List ℕ → Response (Full (List ℕ)) → Type 0
IsAnswer {Seat} fresh replies path body response =
    ((old : Seat) × (new : Seat) × (r : HttpReply) × fresh old × replies old new path body r × CarriesOrNone response r)
    ⊎ Carries response unavailable
