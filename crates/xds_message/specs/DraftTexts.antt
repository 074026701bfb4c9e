-- Responses of either variant, before they are written. This project's own.
--     text_of                      the text that a draft is written as
--     nonce_of                     the nonce of a draft
--     kind_of                      the type of a draft
--     IsMessageOf                  the response is the message of the draft
--     HoldsBodyTexts               what a draft holds of a resource is the compact text of the resource's object
use Rattle.std.specs.Prelude.{◌≡◌, ℕ, List, All}
use Rattle.serde_json.specs.Written.{compact_text}
use Rattle.xds_resource.specs.declared.types.TypeName.{TypeName}
use Rattle.xds_message.specs.declared.draft.Draft.{Draft}
use Rattle.xds_message.specs.declared.draft.Draft.TheVariants as drafts
use Rattle.xds_message.specs.declared.draft.Response.{Response}
use Rattle.xds_message.specs.declared.draft.Response.TheVariants as responses
use Rattle.xds_message.specs.Drafts.{IsBodyText, message_of, delta_message_of}
use Rattle.xds_message.specs.Responses.{response_of, delta_response_of}
use Rattle.xds_message.specs.Written.{response_object}
use Rattle.xds_message.specs.DeltaWritten.{delta_response_object}

-- the text that a draft is written as
abbrev pub text_of : Draft → List ℕ
text_of (drafts.Sotw d) = compact_text (response_object (message_of d))
text_of (drafts.Delta d) = compact_text (delta_response_object (delta_message_of d))

abbrev pub nonce_of : Draft → List ℕ
nonce_of (drafts.Sotw d) = d.nonce
nonce_of (drafts.Delta d) = d.nonce

abbrev pub kind_of : Draft → TypeName
kind_of (drafts.Sotw d) = d.kind
kind_of (drafts.Delta d) = d.kind

-- the response is the message of the draft
abbrev pub IsMessageOf : Draft → Response → Type 0
IsMessageOf (drafts.Sotw d) (responses.Sotw r) = response_of r ≡ message_of d
IsMessageOf (drafts.Sotw d) (responses.Delta r) = ⊥
IsMessageOf (drafts.Delta d) (responses.Sotw r) = ⊥
IsMessageOf (drafts.Delta d) (responses.Delta r) = delta_response_of r ≡ delta_message_of d

-- what a draft holds of a resource is the compact text of the resource's object
abbrev pub HoldsBodyTexts : Draft → Type 0
HoldsBodyTexts (drafts.Sotw d) = All IsBodyText d.bodies
HoldsBodyTexts (drafts.Delta d) = All (λ r. IsBodyText r.body) d.resources
