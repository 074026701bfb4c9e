-- How a client answers the frame of a response, or why it doesn't. The messages are those of discovery.proto; the refusals are this
-- project's own.
--     takes                            the client takes what isn't marked
--     Answer                           what a client is after a response, the response's nonce, whether it was refused
--     answer_of                        an answer by its parts
--     SotwAnswers                      the text spells a response, and this is what the client makes of it
--     SotwUnanswered                   why a response of the state of the world isn't answered
--     DeltaAnswers                     what a client answers a delta response
--     DeltaUnanswered                  why a delta response isn't answered
--     AnswersText                      what a client of either variant answers a text
--     TextUnanswered                   why a client of either variant answers nothing
--     Answers                          a frame of a response of the client's variant, and its answer
--     IsUnanswered                     a frame of another kind, or one whose text isn't answered
use Rattle.std.specs.Prelude.{◌≡◌, ◌⊎◌, ℕ, List, Bool, Ok, Err, is_some}
use Rattle.serde_json.specs.Data.{Data}
use Rattle.xds_resource.specs.declared.refusal.Refusal.{Refusal}
use Rattle.xds_resource.specs.declared.refusal.Refusal.TheVariants.{NotJson, BadMessage, OutOfMemory, WrongVariant, FrameTooLong}
use Rattle.xds_frames.specs.Frames.{Framed}
use Rattle.xds_json.specs.Spelling.{IsJson}
use Rattle.xds_message.specs.Messages.{Request, Response, SpellsResponse}
use Rattle.xds_message.specs.DeltaMessages.{DeltaRequest, DeltaResponse, SpellsDeltaResponse}
use Rattle.xds_cache.specs.Faults.{Test}
use Rattle.xds_cache.specs.Marks.{is_unmarked}
use Rattle.xds_cache.specs.Clients.{Client}
use Rattle.xds_cache.specs.Receives.{sotw_receive, delta_receive}
use Rattle.xds_client.specs.declared.subscription.StreamVariant.{StreamVariant}
use Rattle.xds_client.specs.declared.subscription.StreamVariant.TheVariants.{Sotw, Delta}
use Rattle.xds_client.specs.Subscribing.{Fits, response_kind, sotw_text, delta_text}

-- the client takes what isn't marked
abbrev pub takes : Test
takes url name body = is_unmarked body

-- what a client is after a response, the response's nonce, whether it was refused, and the text of the request that says so
pub record Answer : Type 0 where
  pub left : Client
  pub nonce : List ℕ
  pub refused : Bool
  pub text : List ℕ

-- an answer by its parts
abbrev pub answer_of : Client → List ℕ → Bool → List ℕ → Answer
answer_of left nonce refused text = record { left = left; nonce = nonce; refused = refused; text = text }

-- ---- state of the world

-- the text spells a response, and this is what the client makes of it
abbrev pub SotwAnswers : Client → List ℕ → Answer → Type 0
SotwAnswers c text a =
    (d : Data) × (r : Response) × (q : Request) × IsJson text d × SpellsResponse d r × (sotw_receive takes c r ≡ Ok (a.left, q))
    × (a.nonce ≡ r.nonce) × (a.refused ≡ is_some q.error_detail) × (a.text ≡ sotw_text q)

-- The text is no JSON, or spells no response, or one that the client doesn't take up, or one whose answer is too long for a frame, or
-- there was no memory.
abbrev pub SotwUnanswered : Client → List ℕ → Refusal → Type 0
SotwUnanswered c text e =
    ((e ≡ NotJson) × ((d : Data) → ¬ IsJson text d))
    ⊎ (((e ≡ BadMessage) × ((d : Data) × IsJson text d × ((r : Response) → ¬ SpellsResponse d r)))
    ⊎ (((d : Data) × (r : Response) × IsJson text d × SpellsResponse d r × (sotw_receive takes c r ≡ Err e))
    ⊎ (((e ≡ FrameTooLong) × ((a : Answer) × SotwAnswers c text a × ¬ Fits Sotw a.text))
    ⊎ (e ≡ OutOfMemory))))

-- ---- delta

abbrev pub DeltaAnswers : Client → List ℕ → Answer → Type 0
DeltaAnswers c text a =
    (d : Data) × (r : DeltaResponse) × (q : DeltaRequest) × IsJson text d × SpellsDeltaResponse d r × (delta_receive takes c r ≡ Ok (a.left, q))
    × (a.nonce ≡ r.nonce) × (a.refused ≡ is_some q.error_detail) × (a.text ≡ delta_text q)

abbrev pub DeltaUnanswered : Client → List ℕ → Refusal → Type 0
DeltaUnanswered c text e =
    ((e ≡ NotJson) × ((d : Data) → ¬ IsJson text d))
    ⊎ (((e ≡ BadMessage) × ((d : Data) × IsJson text d × ((r : DeltaResponse) → ¬ SpellsDeltaResponse d r)))
    ⊎ (((d : Data) × (r : DeltaResponse) × IsJson text d × SpellsDeltaResponse d r × (delta_receive takes c r ≡ Err e))
    ⊎ (((e ≡ FrameTooLong) × ((a : Answer) × DeltaAnswers c text a × ¬ Fits Delta a.text))
    ⊎ (e ≡ OutOfMemory))))

-- ---- frames

abbrev pub AnswersText : StreamVariant → Client → List ℕ → Answer → Type 0
AnswersText Sotw c text a = SotwAnswers c text a
AnswersText Delta c text a = DeltaAnswers c text a

abbrev pub TextUnanswered : StreamVariant → Client → List ℕ → Refusal → Type 0
TextUnanswered Sotw c text e = SotwUnanswered c text e
TextUnanswered Delta c text e = DeltaUnanswered c text e

-- a frame of a response of the client's variant, and its answer, which fits into a frame
abbrev pub Answers : StreamVariant → Client → Framed → Answer → Type 0
Answers v c f a = (f.kind ≡ response_kind v) × AnswersText v c f.text a × Fits v a.text

-- a frame of another kind, or one whose text isn't answered
abbrev pub IsUnanswered : StreamVariant → Client → Framed → Refusal → Type 0
IsUnanswered v c f e = ((e ≡ WrongVariant) × ¬ (f.kind ≡ response_kind v)) ⊎ ((f.kind ≡ response_kind v) × TextUnanswered v c f.text e)
