-- Frames, by which messages follow one another on a stream, and bytes that are none. This project's own.
--     number_of                        the byte of a kind of message
--     IsKind                           a number is that of a kind
--     Framed                           a frame: the kind of its message, and the bytes of the message's text
--     longest                          the most that a length may count
--     IsLength                         a length is at least 1 and at most that
--     after_length                     four bytes of length, most significant first, and what follows them
--     AreBytes                         what a list of numbers has to be for a stream to have it
--     frame_bytes                      the bytes of a frame: the length, which counts kind and text, the kind, the text
--     IsFrame                          the frame's length is one that may be
--     IsEmpty                          bytes whose length counts nothing
--     IsTooLong                        bytes whose length counts too much
--     IsOfNoKind                       bytes whose kind is none
--     IsFault                          bytes that begin no frame, by the refusal that says why
--     MayFollow                        what a frame may have behind its length
--     IsPartial                        less than a frame, and no fault: the rest of it may come
use Rattle.std.specs.Prelude.{◌≡◌, ◌+◌, ◌<◌, ◌≤◌, ◌^◌, ◌⊎◌, ℕ, List, [], ◌∷◌, ◌++◌, length, slice_index, ⊤}
use Rattle.std.specs.Int.{w32, to_be_bytes}
use Rattle.xds_resource.specs.declared.refusal.Refusal.{Refusal}
use Rattle.xds_resource.specs.declared.refusal.Refusal.TheVariants.{EmptyFrame, FrameTooLong, UnknownKind}
use Rattle.xds_frames.specs.declared.frame.FrameKind.{FrameKind}
use Rattle.xds_frames.specs.declared.frame.FrameKind.TheVariants.{DiscoveryRequest, DiscoveryResponse, DeltaDiscoveryRequest, DeltaDiscoveryResponse, Batch}

-- what a message is, as a byte
abbrev pub number_of : FrameKind → ℕ
number_of DiscoveryRequest = 1
number_of DiscoveryResponse = 2
number_of DeltaDiscoveryRequest = 3
number_of DeltaDiscoveryResponse = 4
number_of Batch = 5

abbrev pub IsKind : ℕ → Type 0
IsKind number = (1 ≤ number) × (number ≤ 5)

-- a frame: the kind of its message, and the bytes of the message's text
pub record Framed : Type 0 where
  pub kind : FrameKind
  pub text : List ℕ

-- the most that a length may count
abbrev pub longest : ℕ
longest = 16777216

abbrev pub IsLength : ℕ → Type 0
IsLength n = (0 < n) × (n ≤ longest)

-- rule: whole-frames
-- four bytes of length, most significant first, and what follows them
abbrev pub after_length : ℕ → List ℕ → List ℕ
after_length n body = to_be_bytes w32 n ++ body

-- what a list of numbers has to be for a stream to have it
abbrev pub AreBytes : List ℕ → Type 0
AreBytes bytes = (i : ℕ) → slice_index bytes i < 256

-- the length counts the kind and the text
abbrev pub frame_bytes : Framed → List ℕ
frame_bytes f = after_length (length f.text + 1) (number_of f.kind ∷ f.text)

abbrev pub IsFrame : Framed → Type 0
IsFrame f = IsLength (length f.text + 1)

-- what begins so is no frame, whatever follows: it counts nothing, or too much, or is of no kind
abbrev pub IsEmpty : List ℕ → Type 0
IsEmpty bytes = (body : List ℕ) × (bytes ≡ after_length 0 body)

abbrev pub IsTooLong : List ℕ → Type 0
IsTooLong bytes = (n : ℕ) × (body : List ℕ) × (longest < n) × (n < 2 ^ 32) × (bytes ≡ after_length n body)

abbrev pub IsOfNoKind : List ℕ → Type 0
IsOfNoKind bytes = (n k : ℕ) × (body : List ℕ) × IsLength n × ¬ IsKind k × (bytes ≡ after_length n (k ∷ body))

abbrev pub IsFault : List ℕ → Refusal → Type 0
IsFault bytes e = ((e ≡ EmptyFrame) × IsEmpty bytes) ⊎ (((e ≡ FrameTooLong) × IsTooLong bytes) ⊎ ((e ≡ UnknownKind) × IsOfNoKind bytes))

-- what a frame may have behind its length
abbrev pub MayFollow : List ℕ → Type 0
MayFollow [] = ⊤
MayFollow (k ∷ text) = IsKind k

-- rule: whole-frames
-- less than a frame, and no fault: the rest of it may come
abbrev pub IsPartial : List ℕ → Type 0
IsPartial bytes = (length bytes < 4)
    ⊎ ((n : ℕ) × (body : List ℕ) × IsLength n × (length body < n) × MayFollow body × (bytes ≡ after_length n body))
