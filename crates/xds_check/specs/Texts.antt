-- How a line of a trace is spelled, and what the bytes of a whole trace say. This project's own; messages are spelled in the
-- proto3 JSON mapping.
--     IsStated                       a JSON value is the resource that is stated, and no label stands beside it
--     IsLabelled                     a resource of a delta response is the one that is stated, with its label
--     IsSotwAnswer                   an answer is a response of the state of the world
--     IsDeltaAnswer                  an answer is a delta response
--     IsBehind                       a text's first word is this, and the text behind it is what is said of it
--     IsBehindStream                 a text's first word is a stream's number
--     IsJsonOf                       a text is JSON that spells something
--     request_kind                   the kind of a request's message
--     SpellsAsking                   JSON spells a request
--     response_kind                  the kind of a response's message
--     SpellsSotwAnswer               a value spells a response that is the answer, in either variant
--     SpellsDeltaAnswer              which values spell it
--     SpellsAnswer                   JSON spells a response of the variant of the answer
--     verb_in                        the form of a line
--     SaysBehind                     what stands behind the first word of a line
--     IsLineOf                       a line of this form, of which this stands behind the first word
--     IsRequestOf                    a request of the kind that a word tells, spelled by JSON
--     IsResponseOf                   and so of a response
--     IsRequestWith                  the line of a request on a stream, whose kind and JSON are these texts
--     IsRequestOn                    the line of a request on a stream, whose kind and JSON one text tells
--     IsResponseWith                 the line of a response on a stream, whose kind and JSON are these texts
--     IsResponseOn                   the line of a response on a stream, whose kind and JSON one text tells
--     IsLineWith                     a line of the form that a word tells
--     IsText                         a line that a text tells
--     Says                           what a line's text says, which is UTF-8
--     SayAll                         the texts say these lines, one each
--     ended                          some texts, each ended by a line feed
--     IsOneLine                      no line feed stands in a text
--     IsTrace                        the bytes are a trace of these lines
--     IsBad                          a text that says no line, or one that may not stand behind these
--     BeginsBadly                    the bytes from a line on begin with a bad one
--     IsFirstBad                     the first bad line of some bytes has this number, from 1
--     IsRefusedAt                    why the bytes of a trace are refused at a line
--     asking_json                    the JSON of a request
--     answer_json                    the JSON of a response
--     HasStream                      the stream of a line, if it has one, has a number that a stream may have
--     spaced                         words, with a space between each two of them
--     behind_text                    what is written behind the first word of a line
--     line_text                      the text of a line
--     trace_text                     the text of a trace
use Rattle.std.specs.Prelude.{◌≡◌, ◌≢◌, ◌⊎◌, IsUtf8, ℕ, ◌+◌, List, [], ◌∷◌, ◌++◌, length, map, reverse, true, false, if◌then◌else◌, ◌==◌, Some, None, Ok, codes, decimal, All, ⊤}
use Rattle.std.specs.List.{AllZip, list_any}
use Rattle.serde_json.specs.Data.{Data}
use Rattle.serde_json.specs.Written.{compact_text}
use Rattle.xds_resource.specs.declared.types.TypeName.{TypeName}
use Rattle.xds_resource.specs.declared.refusal.Refusal.{Refusal}
use Rattle.xds_resource.specs.declared.refusal.Refusal.TheVariants.{OutOfMemory, BadTrace}
use Rattle.xds_resource.specs.Any.{write_type, stamped_write}
use Rattle.xds_resource.specs.Resources.{from_value}
use Rattle.xds_resource.specs.Types.{row}
use Rattle.xds_json.specs.Spelling.{IsJson}
use Rattle.xds_message.specs.StampedWrites.{IsSpelledBy, write_object}
use Rattle.xds_message.specs.Messages.{Response, SpellsRequest, SpellsResponse}
use Rattle.xds_message.specs.DeltaMessages.{VersionedResource, DeltaResponse, SpellsDeltaRequest, SpellsDeltaResponse}
use Rattle.xds_message.specs.Written.{request_object, response_object}
use Rattle.xds_message.specs.DeltaWritten.{delta_request_object, delta_response_object}
use Rattle.xds_ledger.specs.Variants.{is_delta}
use Rattle.xds_ledger.specs.declared.variant.VariantName.TheVariants as variants
use Rattle.xds_check.specs.declared.asking.Asking.{Asking}
use Rattle.xds_check.specs.declared.asking.Asking.TheVariants.{Sotw, Delta}
use Rattle.xds_check.specs.declared.line.Line.{Line}
use Rattle.xds_check.specs.declared.line.Line.TheVariants as lines
use Rattle.xds_check.specs.Answers.{Statement, Answer, sotw_message, delta_message}
use Rattle.xds_check.specs.declared.words.Verb.{Verb}
use Rattle.xds_check.specs.declared.words.Verb.TheVariants as verbs
use Rattle.xds_check.specs.Words.{cut, word_of, IsStream, IsStreamText}
use Rattle.xds_check.specs.Streams.{may_follow}

-- ---- responses

-- a JSON value is the resource that is stated, and no label stands beside it
abbrev pub IsStated : TypeName → Data → Statement → Type 0
IsStated t d x = (from_value t d ≡ Ok (record { name = x.name; body = x.body })) × (x.label ≡ None)

-- a resource of a delta response is the one that is stated, with its label
abbrev pub IsLabelled : TypeName → VersionedResource → Statement → Type 0
IsLabelled t r x = (from_value t r.resource ≡ Ok (record { name = x.name; body = x.body })) × (x.label ≡ Some (record { name = r.name; version = r.version }))

-- an answer is a response of the state of the world
pub record IsSotwAnswer (m : Response) (a : Answer) : Type 0 where
  pub variant : a.variant ≡ variants.StateOfTheWorld
  pub kind : m.type_url ≡ (row a.kind).url
  pub version_info : a.version_info ≡ m.version_info
  pub nonce : a.nonce ≡ m.nonce
  pub statements : AllZip (IsStated a.kind) m.resources a.statements
  pub removed : a.removed ≡ []

-- an answer is a delta response
pub record IsDeltaAnswer (m : DeltaResponse) (a : Answer) : Type 0 where
  pub variant : a.variant ≡ variants.Delta
  pub kind : m.type_url ≡ (row a.kind).url
  pub version_info : a.version_info ≡ m.system_version_info
  pub nonce : a.nonce ≡ m.nonce
  pub statements : AllZip (IsLabelled a.kind) m.resources a.statements
  pub removed : a.removed ≡ m.removed_resources

-- ---- lines

-- a text's first word is this, and the text behind it is what is said of it
abbrev pub IsBehind : List ℕ → (List ℕ → Type 0) → List ℕ → Type 0
IsBehind word Says text = (rest : List ℕ) × (cut text ≡ Some (word, rest)) × Says rest

-- a text's first word is a stream's number, and the text behind it is what is said of it
abbrev pub IsBehindStream : ℕ → (List ℕ → Type 0) → List ℕ → Type 0
IsBehindStream s Says text = (word rest : List ℕ) × (cut text ≡ Some (word, rest)) × IsStreamText s word × Says rest

-- a text is JSON that spells something
abbrev pub IsJsonOf : {X : Type 0} → (Data → X → Type 0) → List ℕ → X → Type 0
IsJsonOf Spells json x = (d : Data) × IsJson json d × Spells d x

-- the kind of a request's message
abbrev pub request_kind : Asking → List ℕ
request_kind (Sotw m) = codes "1"
request_kind (Delta m) = codes "3"

-- JSON spells a request
abbrev pub SpellsAsking : Asking → List ℕ → Type 0
SpellsAsking (Sotw m) json = IsJsonOf SpellsRequest json m
SpellsAsking (Delta m) json = IsJsonOf SpellsDeltaRequest json m

-- the kind of a response's message
abbrev pub response_kind : Answer → List ℕ
response_kind a = if is_delta a.variant then codes "4" else codes "2"

-- a value spells a response that is the answer, in either variant
abbrev pub SpellsSotwAnswer : Data → Answer → Type 0
SpellsSotwAnswer d a = (m : Response) × SpellsResponse d m × IsSotwAnswer m a

abbrev pub SpellsDeltaAnswer : Data → Answer → Type 0
SpellsDeltaAnswer d a = (m : DeltaResponse) × SpellsDeltaResponse d m × IsDeltaAnswer m a

-- JSON spells a response of the variant of the answer
abbrev pub SpellsAnswer : Answer → List ℕ → Type 0
SpellsAnswer a json = IsJsonOf SpellsSotwAnswer json a ⊎ IsJsonOf SpellsDeltaAnswer json a

-- the form of a line
abbrev pub verb_in : Line → Verb
verb_in (lines.Write w) = verbs.Write
verb_in (lines.Open s) = verbs.Open
verb_in (lines.Close s) = verbs.Close
verb_in (lines.Request s m) = verbs.Request
verb_in (lines.Response s a) = verbs.Response
verb_in (lines.Idle s t) = verbs.Idle

-- what stands behind the first word of a line
abbrev pub SaysBehind : Line → List ℕ → Type 0
SaysBehind (lines.Write w) rest = IsJsonOf IsSpelledBy rest (write_type w, stamped_write w)
SaysBehind (lines.Open s) rest = IsStreamText s rest
SaysBehind (lines.Close s) rest = IsStreamText s rest
SaysBehind (lines.Request s m) rest = IsBehindStream s (IsBehind (request_kind m) (SpellsAsking m)) rest
SaysBehind (lines.Response s a) rest = IsBehindStream s (IsBehind (response_kind a) (SpellsAnswer a)) rest
SaysBehind (lines.Idle s t) rest = IsBehindStream s (λ word. word ≡ (row t).word) rest

-- a line of this form, of which this stands behind the first word
abbrev pub IsLineOf : Verb → List ℕ → Line → Type 0
IsLineOf v rest l = (verb_in l ≡ v) × SaysBehind l rest

-- a request of the kind that a word tells, spelled by JSON
abbrev pub IsRequestOf : List ℕ → List ℕ → Asking → Type 0
IsRequestOf kind json m = (kind ≡ request_kind m) × SpellsAsking m json

-- and so of a response
abbrev pub IsResponseOf : List ℕ → List ℕ → Answer → Type 0
IsResponseOf kind json a = (kind ≡ response_kind a) × SpellsAnswer a json

-- the line of such a request on a stream, and of one whose kind and JSON a text tells
abbrev pub IsRequestWith : ℕ → List ℕ → List ℕ → Line → Type 0
IsRequestWith s kind json l = (m : Asking) × (l ≡ lines.Request s m) × IsRequestOf kind json m

abbrev pub IsRequestOn : ℕ → List ℕ → Line → Type 0
IsRequestOn s behind l = (m : Asking) × (l ≡ lines.Request s m) × IsBehind (request_kind m) (SpellsAsking m) behind

-- and so of a response
abbrev pub IsResponseWith : ℕ → List ℕ → List ℕ → Line → Type 0
IsResponseWith s kind json l = (a : Answer) × (l ≡ lines.Response s a) × IsResponseOf kind json a

abbrev pub IsResponseOn : ℕ → List ℕ → Line → Type 0
IsResponseOn s behind l = (a : Answer) × (l ≡ lines.Response s a) × IsBehind (response_kind a) (SpellsAnswer a) behind

-- a line of the form that a word tells
abbrev pub IsLineWith : List ℕ → List ℕ → Line → Type 0
IsLineWith word rest l = (word ≡ word_of (verb_in l)) × SaysBehind l rest

-- a line that a text tells
abbrev pub IsText : List ℕ → Line → Type 0
IsText text l = IsBehind (word_of (verb_in l)) (SaysBehind l) text

-- what a line's text says, which is UTF-8
abbrev pub Says : List ℕ → Line → Type 0
Says text l = IsUtf8 text × IsText text l

-- ---- whole traces

-- The texts say these lines, one each, and each line may stand behind those before it.
abbrev pub SayAll : List Line → List (List ℕ) → List Line → Type 0
SayAll earlier [] [] = ⊤
SayAll earlier [] (l ∷ ls) = ⊥
SayAll earlier (text ∷ texts) [] = ⊥
SayAll earlier (text ∷ texts) (l ∷ ls) = Says text l × (may_follow earlier l ≡ true) × SayAll (l ∷ earlier) texts ls

-- some texts, each ended by a line feed
abbrev pub ended : List (List ℕ) → List ℕ
ended [] = []
ended (text ∷ texts) = text ++ 10 ∷ ended texts

-- no line feed stands in a text
abbrev pub IsOneLine : List ℕ → Type 0
IsOneLine text = list_any (λ b. b == 10) text ≡ false

-- The bytes are a trace of these lines: the text of each, and a line feed behind each.
pub record IsTrace (bytes : List ℕ) (trace : List Line) : Type 0 where
  pub texts : List (List ℕ)
  pub bytes_are : bytes ≡ ended texts
  pub each : All IsOneLine texts
  pub say : SayAll [] texts trace

-- a text that says no line, or one that may not stand behind these
abbrev pub IsBad : List Line → List ℕ → Type 0
IsBad earlier text = ((l : Line) → ¬ (Says text l)) ⊎ ((l : Line) × Says text l × (may_follow earlier l ≡ false))

-- The bytes from a line on begin with a bad one, or with one that lacks its line feed.
abbrev pub BeginsBadly : List Line → List ℕ → Type 0
BeginsBadly earlier bytes =
    ((bytes ≢ []) × IsOneLine bytes) ⊎ ((text following : List ℕ) × (bytes ≡ text ++ 10 ∷ following) × IsOneLine text × IsBad earlier text)

-- The first bad line of some bytes has this number, from 1.
pub record IsFirstBad (bytes : List ℕ) (number : ℕ) : Type 0 where
  pub texts : List (List ℕ)
  pub before : List Line
  pub rest : List ℕ
  pub bytes_are : bytes ≡ ended texts ++ rest
  pub each : All IsOneLine texts
  pub say : SayAll [] texts before
  pub number_is : number ≡ length texts + 1
  pub bad : BeginsBadly (reverse before) rest

-- why the bytes of a trace are refused at a line: it is the first bad one, or there was no memory
abbrev pub IsRefusedAt : List ℕ → ℕ → Refusal → Type 0
IsRefusedAt bytes number refusal = (refusal ≡ OutOfMemory) ⊎ ((refusal ≡ BadTrace) × IsFirstBad bytes number)

-- ---- what is written

-- the JSON of a request, and of a response
abbrev pub asking_json : Asking → List ℕ
asking_json (Sotw m) = compact_text (request_object m)
asking_json (Delta m) = compact_text (delta_request_object m)

abbrev pub answer_json : Answer → List ℕ
answer_json a = if is_delta a.variant then compact_text (delta_response_object (delta_message a)) else compact_text (response_object (sotw_message a))

-- the stream of a line, if it has one, has a number that a stream may have
abbrev pub HasStream : Line → Type 0
HasStream (lines.Write w) = ⊤
HasStream (lines.Open s) = IsStream s
HasStream (lines.Close s) = IsStream s
HasStream (lines.Request s m) = IsStream s
HasStream (lines.Response s a) = IsStream s
HasStream (lines.Idle s t) = IsStream s

-- words, with a space between each two of them
abbrev pub spaced : List ℕ → List ℕ → List ℕ
spaced word rest = word ++ 32 ∷ rest

-- what is written behind the first word of a line
abbrev pub behind_text : Line → List ℕ
behind_text (lines.Write w) = compact_text (write_object (write_type w) (stamped_write w))
behind_text (lines.Open s) = decimal s
behind_text (lines.Close s) = decimal s
behind_text (lines.Request s m) = spaced (decimal s) (spaced (request_kind m) (asking_json m))
behind_text (lines.Response s a) = spaced (decimal s) (spaced (response_kind a) (answer_json a))
behind_text (lines.Idle s t) = spaced (decimal s) (row t).word

-- the text of a line
abbrev pub line_text : Line → List ℕ
line_text l = spaced (word_of (verb_in l)) (behind_text l)

-- the text of a trace
abbrev pub trace_text : List Line → List ℕ
trace_text trace = ended (map line_text trace)
