-- What holds of every message: a value spells one at most, and the object that is written for a message spells it.
--     SpellsOneRequest                 a value spells one request at most
--     SpellsOneResponse                a value spells one response at most
--     HasCodeInRange                   a request whose error code, if it has one, is a number of 32 bits
--     IsSpelledByItsObject             the object of a response of objects spells it
--     IsRequestSpelledByItsObject      the object of such a request spells it
--     SpellsOneDeltaRequest            a value spells one delta request at most
--     SpellsOneDeltaResponse           a value spells one delta response at most
--     HasDeltaCodeInRange              a delta request whose error code, if it has one, is a number of 32 bits
--     IsDeltaRequestSpelledByItsObject  the object of such a delta request spells it
--     IsDeltaResponseSpelledByItsObject  the object of a delta response of objects spells it
use Rattle.std.specs.Prelude.{◌≡◌, All, MatchOption, FitsSigned, ⊤}
use Rattle.std.specs.Int.{w32}
use Rattle.serde_json.specs.Data.{Data}
use Rattle.xds_json.specs.Spelling.{IsObject}
use Rattle.xds_message.specs.Messages.{Request, Response, SpellsRequest, SpellsResponse}
use Rattle.xds_message.specs.DeltaMessages.{DeltaRequest, DeltaResponse, SpellsDeltaRequest, SpellsDeltaResponse}
use Rattle.xds_message.specs.Written.{request_object, response_object}
use Rattle.xds_message.specs.DeltaWritten.{delta_request_object, delta_response_object}

abbrev pub SpellsOneRequest : Data → Type 0
SpellsOneRequest d = (m n : Request) → SpellsRequest d m → SpellsRequest d n → m ≡ n

abbrev pub SpellsOneResponse : Data → Type 0
SpellsOneResponse d = (m n : Response) → SpellsResponse d m → SpellsResponse d n → m ≡ n

-- a request whose error code, if it has one, is a number of 32 bits
abbrev pub HasCodeInRange : Request → Type 0
HasCodeInRange m = MatchOption m.error_detail ⊤ (λ f. FitsSigned w32 f.code)

abbrev pub IsSpelledByItsObject : Response → Type 0
IsSpelledByItsObject m = All IsObject m.resources → SpellsResponse (response_object m) m

abbrev pub IsRequestSpelledByItsObject : Request → Type 0
IsRequestSpelledByItsObject m = HasCodeInRange m → SpellsRequest (request_object m) m

-- ---- the incremental variant

abbrev pub SpellsOneDeltaRequest : Data → Type 0
SpellsOneDeltaRequest d = (m n : DeltaRequest) → SpellsDeltaRequest d m → SpellsDeltaRequest d n → m ≡ n

abbrev pub SpellsOneDeltaResponse : Data → Type 0
SpellsOneDeltaResponse d = (m n : DeltaResponse) → SpellsDeltaResponse d m → SpellsDeltaResponse d n → m ≡ n

abbrev pub HasDeltaCodeInRange : DeltaRequest → Type 0
HasDeltaCodeInRange m = MatchOption m.error_detail ⊤ (λ f. FitsSigned w32 f.code)

abbrev pub IsDeltaRequestSpelledByItsObject : DeltaRequest → Type 0
IsDeltaRequestSpelledByItsObject m = HasDeltaCodeInRange m → SpellsDeltaRequest (delta_request_object m) m

abbrev pub IsDeltaResponseSpelledByItsObject : DeltaResponse → Type 0
IsDeltaResponseSpelledByItsObject m = All (λ r. IsObject r.resource) m.resources → SpellsDeltaResponse (delta_response_object m) m
