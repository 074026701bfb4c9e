-- What stands at the front of bytes, told from their first four.
use Rattle.std.proofs.Common.{subst, ⊎_elim, lit<, ◌≡◌, ℕ, ◌+◌, ◌-◌, ◌≤◌, List, ◌∷◌, ◌++◌, length, take, drop, sym, ap, ◌∙◌, arith}
use Rattle.std.specs.Int.{w32, from_be_bytes}
use Rattle.std.proofs.lemmas.Nat.{be_bytes_4}
use Rattle.std.proofs.lemmas.List.{take-append-drop, length-take-le, length-take, get_or-take, get_or_past}
use Rattle.std.proofs.lemmas.Bool.{cases_lt}
use Rattle.xds_frames.specs.Frames.{AreBytes, frame_bytes, IsFrame, IsLength, number_of, after_length}
use Rattle.xds_frames.specs.declared.frame.FrameKind.{FrameKind}

pub first_bytes : (bytes : List ℕ) → AreBytes bytes → AreBytes (take 4 bytes)
first_bytes bytes fits i = ⊎_elim (λ near. rw (get_or-take 4 bytes i 0 near) (fits i)) (λ far. rw (get_or_past (take 4 bytes) i 0 (omega (arith, far, length-take 4 bytes))) (lit< tt)) (cases_lt i 4)

-- the first four bytes spell the length, and the others follow it
pub spelled : (bytes head body : List ℕ) (n : ℕ) → AreBytes bytes → (head ≡ take 4 bytes) × (body ≡ drop 4 bytes) × (length body + 4 ≡ length bytes) → n ≡ from_be_bytes w32 head → bytes ≡ after_length n body
spelled bytes head body n fits cut spells =
    let long : 4 ≤ length bytes = omega (arith, cut.2) in
    let size = ap length cut.0 ∙ length-take-le 4 bytes long in
    let four = be_bytes_4 head n size (subst AreBytes (sym cut.0) (first_bytes bytes fits)) spells in
    sym (take-append-drop 4 bytes) ∙ (cc (four, cut.0, cut.1))

abbrev Behind : List ℕ → ℕ → ℕ → List ℕ → Type 0
Behind bytes n k text = bytes ≡ after_length n (k ∷ text)

-- the text of the frame is what its length counts, behind the kind
pub whole : (bytes text : List ℕ) (n : ℕ) (kind : FrameKind) → Behind bytes n (number_of kind) text → IsLength n → n - 1 ≤ length text → IsFrame (record { kind = kind; text = take (n - 1) text }) × (bytes ≡ frame_bytes (record { kind = kind; text = take (n - 1) text }) ++ drop (n - 1) text)
whole bytes text n kind at counts enough =
    let size : length (take (n - 1) text) + 1 ≡ n = omega (arith, length-take-le (n - 1) text enough, counts.0) in (
      subst IsLength (sym size) counts,
      at ∙ ap (λ t. after_length n (number_of kind ∷ t)) (sym (take-append-drop (n - 1) text))
          ∙ ap (λ m. after_length m (number_of kind ∷ (take (n - 1) text ++ drop (n - 1) text))) (sym size),
    )
