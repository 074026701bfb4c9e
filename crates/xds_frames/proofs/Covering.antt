-- All bytes are read as frames, up to their end or a fault.
use Rattle.std.proofs.Common.{◌≡◌, ℕ, ◌+◌, ◌-◌, ◌<◌, ◌≤◌, ◌^◌, List, [], ◌∷◌, ◌++◌, length, get_or, take, drop, refl, sym, ap, ◌∙◌, subst, ◌⊎◌, inl, inr, ⊎_elim, arith, Option, Some, None, append_assoc, zero, suc}
use Rattle.std.specs.List.{flat_map}
use Rattle.std.specs.Int.{w32, from_be_bytes}
use Rattle.std.proofs.lemmas.Bool.{cases_lt}
use Rattle.std.proofs.lemmas.List.{length-append, length-drop, get_or-drop}
use Rattle.std.proofs.Math.Seq.{drop-append_seam}
use Rattle.std.proofs.lemmas.List.Elements.{All-nil, All-cons}
use Rattle.xds_resource.specs.declared.refusal.Refusal.{Refusal}
use Rattle.xds_resource.specs.declared.refusal.Refusal.TheVariants.{EmptyFrame, FrameTooLong, UnknownKind, Truncated}
use Rattle.xds_frames.specs.declared.frame.FrameKind.{FrameKind}
use Rattle.xds_frames.specs.declared.frame.FrameKind.TheVariants.{DiscoveryRequest, DiscoveryResponse, DeltaDiscoveryRequest, DeltaDiscoveryResponse, Batch}
use Rattle.xds_frames.specs.Frames.{Framed, AreBytes, frame_bytes, IsFrame, IsFault, IsKind, IsPartial, after_length, longest, number_of}
use Rattle.xds_frames.specs.Reading.{Ends, IsRead}
use Rattle.xds_frames.proofs.Apart.{is_kind}
use Rattle.xds_frames.proofs.Fronts.{first_bytes, spelled, whole}

kind_or_none : (k : ℕ) → ((kind : FrameKind) × (number_of kind ≡ k)) ⊎ (IsKind k → ⊥)
kind_or_none zero = inr (λ is. absurd (omega (arith, is.0)))
kind_or_none (suc zero) = inl (DiscoveryRequest, refl)
kind_or_none (suc (suc zero)) = inl (DiscoveryResponse, refl)
kind_or_none (suc (suc (suc zero))) = inl (DeltaDiscoveryRequest, refl)
kind_or_none (suc (suc (suc (suc zero)))) = inl (DeltaDiscoveryResponse, refl)
kind_or_none (suc (suc (suc (suc (suc zero))))) = inl (Batch, refl)
kind_or_none (suc (suc (suc (suc (suc (suc k)))))) = inr (λ is. absurd (omega (arith, is.1)))

-- what may stand at the front of bytes
abbrev Front : List ℕ → Type 0
Front bytes = IsPartial bytes ⊎ (((e : Refusal) × IsFault bytes e) ⊎ ((f : Framed) × (x : List ℕ) × IsFrame f × (bytes ≡ frame_bytes f ++ x)))

behind_kind : (bytes text : List ℕ) (n k : ℕ) → bytes ≡ after_length n (k ∷ text) → 0 < n → n ≤ longest
    → ((kind : FrameKind) × (number_of kind ≡ k)) ⊎ (IsKind k → ⊥) → (length text < n - 1) ⊎ (n - 1 ≤ length text) → Front bytes
behind_kind bytes text n k at low high (inr none) _ = inr (inl (UnknownKind, inr (inr (refl, (n, k, text, (low, high), none, at)))))
behind_kind bytes text n k at low high (inl (kind, is)) (inl short) = inl (inr (n, k ∷ text, (low, high), omega arith, subst IsKind is (is_kind kind), at))
behind_kind bytes text n k at low high (inl (kind, is)) (inr enough) =
    let made = whole bytes text n kind (at ∙ ap (λ j. after_length n (j ∷ text)) (sym is)) (low, high) enough in
    inr (inr (record { kind = kind; text = take (n - 1) text }, drop (n - 1) text, made.0, made.1))

behind_length : (bytes body : List ℕ) (n : ℕ) → bytes ≡ after_length n body → n < 2 ^ 32 → Front bytes
behind_length bytes body zero at fits = inr (inl (EmptyFrame, inl (refl, (body, at))))
behind_length bytes [] (suc n) at fits = ⊎_elim
    (λ above. inr (inl (FrameTooLong, inr (inl (refl, (suc n, [], above, fits, at))))))
    (λ high. inl (inr (suc n, [], (omega arith, high), omega arith, tt, at)))
    (cases_lt longest (suc n))
behind_length bytes (k ∷ text) (suc n) at fits = ⊎_elim
    (λ above. inr (inl (FrameTooLong, inr (inl (refl, (suc n, k ∷ text, above, fits, at))))))
    (λ high. behind_kind bytes text (suc n) k at (omega arith) high (kind_or_none k) (cases_lt (length text) (suc n - 1)))
    (cases_lt longest (suc n))

spells_below : (bytes : List ℕ) → AreBytes bytes → from_be_bytes w32 bytes < 2 ^ 32
spells_below bytes fits = omega (arith, fits 0, fits 1, fits 2, fits 3)

front : (bytes : List ℕ) → AreBytes bytes → Front bytes
front bytes fits = ⊎_elim
    (λ short. inl (inl short))
    (λ long.
    let n = from_be_bytes w32 (take 4 bytes) in
    behind_length bytes (drop 4 bytes) n (spelled bytes (take 4 bytes) (drop 4 bytes) n fits (refl, refl, omega (arith, length-drop 4 bytes)) refl) (spells_below (take 4 bytes) (first_bytes bytes fits)))
    (cases_lt (length bytes) 4)

bytes_behind : (front bytes x : List ℕ) → AreBytes bytes → bytes ≡ front ++ x → AreBytes x
bytes_behind front bytes x fits at i =
    let there = sym (ap (drop (length front)) at ∙ drop-append_seam front x) in
    subst (λ (b : ℕ). b < 256) (sym (ap (λ (l : List ℕ). get_or l i 0) there ∙ get_or-drop (length front) bytes i 0)) (fits (length front + i))

one_more : (f : Framed) (bytes x : List ℕ) → IsFrame f → bytes ≡ frame_bytes f ++ x → (frames : List Framed) × (end : Option Refusal) × IsRead x frames end
    → (frames : List Framed) × (end : Option Refusal) × IsRead bytes frames end
one_more f bytes x is_f at (frames, end, read) = (
  f ∷ frames,
  end,
  record {
    rest = read.rest;
    splits = record {
      are_frames = All-cons IsFrame f frames is_f read.splits.are_frames;
      joined = at ∙ ap (λ l. frame_bytes f ++ l) read.splits.joined ∙ sym (append_assoc (frame_bytes f) (flat_map frame_bytes frames) read.rest);
    };
    ends = read.ends;
  },
)

none_more : (bytes : List ℕ) (end : Option Refusal) → Ends bytes end → (frames : List Framed) × (end : Option Refusal) × IsRead bytes frames end
none_more bytes end ends = ([], end, record { rest = bytes; splits = record { are_frames = All-nil IsFrame; joined = refl }; ends = ends })

at_part : (bytes : List ℕ) → IsPartial bytes → (frames : List Framed) × (end : Option Refusal) × IsRead bytes frames end
at_part [] part = none_more [] None refl
at_part (b ∷ bs) part = none_more (b ∷ bs) (Some Truncated) (inr (refl, part, omega arith))

-- the frames of at most so many bytes
read_upto : (n : ℕ) (bytes : List ℕ) → length bytes < n → AreBytes bytes → (frames : List Framed) × (end : Option Refusal) × IsRead bytes frames end
read_upto zero bytes fits are = absurd (omega arith)
read_upto (suc n) bytes fits are = elim (front bytes are) [
  | inl part ↦ at_part bytes part
  | inr (inl (e, fault)) ↦ none_more bytes (Some e) (inl fault)
  | inr (inr (f, x, is_f, at)) ↦ one_more f bytes x is_f at (read_upto n x (omega (arith, fits, ap (λ (l : List ℕ). length l) at, length-append f.text x)) (bytes_behind (frame_bytes f) bytes x are at))
]

-- rule: whole-frames
pub all_read : (bytes : List ℕ) → AreBytes bytes → (frames : List Framed) × (end : Option Refusal) × IsRead bytes frames end
all_read bytes are = read_upto (length bytes + 1) bytes (omega arith) are
