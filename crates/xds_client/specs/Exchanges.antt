-- Responses that a client answered, one after another. This project's own.
--     Exchange       the frame of a response, and what the client made of it
--     AreAnswered    each is answered by the client that the one before it left
--     client_after   the client then
--     responses      the bytes of the responses' frames
--     answers        the bytes of the answers' frames
--     printed        what is printed of them
use Rattle.std.specs.Prelude.{ℕ, List, [], ◌∷◌, ⊤}
use Rattle.std.specs.List.{flat_map}
use Rattle.xds_resource.specs.declared.types.TypeName.{TypeName}
use Rattle.xds_frames.specs.Frames.{Framed, IsFrame, frame_bytes}
use Rattle.xds_cache.specs.Clients.{Client}
use Rattle.xds_client.specs.declared.subscription.StreamVariant.{StreamVariant}
use Rattle.xds_client.specs.Subscribing.{asking}
use Rattle.xds_client.specs.Answering.{Answer, Answers}
use Rattle.xds_client.specs.Lines.{lines}

-- the frame of a response, and what the client made of it
pub record Exchange : Type 0 where
  pub frame : Framed
  pub answer : Answer

-- each is answered by the client that the one before it left
abbrev pub AreAnswered : StreamVariant → Client → List Exchange → Type 0
AreAnswered v c [] = ⊤
AreAnswered v c (x ∷ xs) = IsFrame x.frame × Answers v c x.frame x.answer × AreAnswered v x.answer.left xs

-- the client then
abbrev pub client_after : Client → List Exchange → Client
client_after c [] = c
client_after c (x ∷ xs) = client_after x.answer.left xs

-- the bytes of the responses' frames
abbrev pub responses : List Exchange → List ℕ
responses xs = flat_map (λ x. frame_bytes x.frame) xs

-- the bytes of the answers' frames
abbrev pub answers : StreamVariant → List Exchange → List ℕ
answers v xs = flat_map (λ x. frame_bytes (asking v x.answer.text)) xs

-- what is printed of them
abbrev pub printed : StreamVariant → TypeName → List Exchange → List ℕ
printed v t xs = flat_map (λ x. lines v t x.answer) xs
