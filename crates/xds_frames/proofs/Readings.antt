-- All bytes as frames: what a decoder keeps, and that they are read in one way.
use Rattle.std.proofs.Common.{◌≡◌, ℕ, List, [], ◌∷◌, ◌++◌, length, refl, sym, ap, ◌∙◌, subst, inl, inr, arith, Option, Some, None, append_assoc, append-nil}
use Rattle.std.specs.List.{All, flat_map}
use Rattle.std.proofs.lemmas.List.Elements.{All-head, All-tail}
use Rattle.xds_resource.specs.declared.refusal.Refusal.{Refusal}
use Rattle.xds_resource.specs.declared.refusal.Refusal.TheVariants.{Truncated}
use Rattle.xds_frames.specs.Frames.{Framed, frame_bytes, IsFrame, IsFault, IsPartial}
use Rattle.xds_frames.specs.Decoding.{IsFed}
use Rattle.xds_frames.specs.Reading.{Ends, IsRead, HasDecoded, HasGivenAll}
use Rattle.xds_frames.proofs.Apart.{fault_or_frame, fault_or_partial, partial_or_frame, faults_apart, frames_apart}

-- a piece more
pub fed_more : (bytes left piece after : List ℕ) (given : List Framed) → HasDecoded bytes given left → IsFed left piece after → HasDecoded (bytes ++ piece) given after
fed_more bytes left piece after given h (inl (sound, is)) = record {
  passed = [];
  splits = record {
    are_frames = h.splits.are_frames;
    joined = ap (λ l. l ++ piece) h.splits.joined ∙ append_assoc (flat_map frame_bytes given) (left ++ h.passed) piece ∙ ap (λ l. flat_map frame_bytes given ++ l) behind;
  };
  behind = inl refl;
}
  where
    none_passed : h.passed ≡ []
    none_passed = elim h.behind [ inl none ↦ none | inr (e, fault) ↦ absurd (sound e fault) ]

    behind : (left ++ h.passed) ++ piece ≡ after ++ []
    behind = ap (λ l. (left ++ l) ++ piece) none_passed ∙ ap (λ l. l ++ piece) (append-nil left) ∙ sym is ∙ sym (append-nil after)
fed_more bytes left piece after given h (inr (e, fault, is)) = record {
  passed = h.passed ++ piece;
  splits = record {
    are_frames = h.splits.are_frames;
    joined = ap (λ l. l ++ piece) h.splits.joined ∙ append_assoc (flat_map frame_bytes given) (left ++ h.passed) piece
        ∙ ap (λ l. flat_map frame_bytes given ++ l) (append_assoc left h.passed piece ∙ ap (λ l. l ++ (h.passed ++ piece)) (sym is));
  };
  behind = inr (e, subst (λ l. IsFault l e) (sym is) fault);
}

-- where all frames end, none begins
no_frame : (f : Framed) (rest x : List ℕ) (end : Option Refusal) → IsFrame f → rest ≡ frame_bytes f ++ x → Ends rest end → ⊥
no_frame f rest x None is_f at ends = absurd (cc (at, ends))
no_frame f rest x (Some e) is_f at (inl fault) = fault_or_frame f rest x e is_f at fault
no_frame f rest x (Some e) is_f at (inr (is, part, some)) = partial_or_frame f rest x is_f at part

-- rule: whole-frames
-- frames that stand first are the first of all
pub reads_on : (given frames : List Framed) (x rest : List ℕ) (end : Option Refusal) → All IsFrame given → All IsFrame frames
    → flat_map frame_bytes given ++ x ≡ flat_map frame_bytes frames ++ rest → Ends rest end
    → (later : List Framed) × (frames ≡ given ++ later) × (x ≡ flat_map frame_bytes later ++ rest) × All IsFrame later
reads_on [] frames x rest end these those same ends = (frames, refl, same, those)
reads_on (g ∷ gs) [] x rest end these those same ends =
    absurd (no_frame g rest (flat_map frame_bytes gs ++ x) end (All-head IsFrame g gs these) (sym same ∙ append_assoc (frame_bytes g) (flat_map frame_bytes gs) x) ends)
reads_on (g ∷ gs) (f ∷ fs) x rest end these those same ends =
    let here = frames_apart g f (flat_map frame_bytes gs ++ x) (flat_map frame_bytes fs ++ rest) (All-head IsFrame g gs these) (All-head IsFrame f fs those)
    (sym (append_assoc (frame_bytes g) (flat_map frame_bytes gs) x) ∙ same ∙ append_assoc (frame_bytes f) (flat_map frame_bytes fs) rest) in
    let on = reads_on gs fs x rest end (All-tail IsFrame g gs these) (All-tail IsFrame f fs those) here.1 ends in
    (on.0, ap (λ h. h ∷ fs) (sym here.0) ∙ ap (λ l. g ∷ l) on.1, on.2, on.3)

-- bytes that have ended with a frame are at no fault, and not within one
pub not_both : (rest : List ℕ) (e : Refusal) → rest ≡ [] → Ends rest (Some e) → ⊥
not_both rest e h (inl (inl (is, (body, at)))) = absurd (cc (h, at))
not_both rest e h (inl (inr (inl (is, (n, body, above, fits, at))))) = absurd (cc (h, at))
not_both rest e h (inl (inr (inr (is, (n, k, body, counts, none, at))))) = absurd (cc (h, at))
not_both rest e h (inr (is, part, some)) = let size = ap (λ (l : List ℕ). length l) h in absurd (omega arith)

-- the end is told in one way
ends_apart : (rest : List ℕ) (end another : Option Refusal) → Ends rest end → Ends rest another → end ≡ another
ends_apart rest None None h k = refl
ends_apart rest None (Some e) h k = absurd (not_both rest e h k)
ends_apart rest (Some e) None h k = absurd (not_both rest e k h)
ends_apart rest (Some e) (Some d) (inl fault) (inl other) = ap Some (faults_apart rest e d fault other)
ends_apart rest (Some e) (Some d) (inl fault) (inr (is, part, some)) = absurd (fault_or_partial rest e part fault)
ends_apart rest (Some e) (Some d) (inr (is, part, some)) (inl fault) = absurd (fault_or_partial rest d part fault)
ends_apart rest (Some e) (Some d) (inr (is, part, some)) (inr (is', part', some')) = ap Some (is ∙ sym is')

-- what a decoder gave are the first frames
pub given_first : (bytes left : List ℕ) (given frames : List Framed) (end : Option Refusal) → HasDecoded bytes given left → IsRead bytes frames end
    → (later : List Framed) × (frames ≡ given ++ later)
given_first bytes left given frames end h read =
    let on = reads_on given frames (left ++ h.passed) read.rest end h.splits.are_frames read.splits.are_frames (sym h.splits.joined ∙ read.splits.joined) read.ends in
    (on.0, on.1)

none_later : (later : List Framed) (rest rest' : List ℕ) (end : Option Refusal) → All IsFrame later → Ends rest end → rest ≡ flat_map frame_bytes later ++ rest' → later ≡ []
none_later [] rest rest' end those ends same = refl
none_later (f ∷ fs) rest rest' end those ends same =
    absurd (no_frame f rest (flat_map frame_bytes fs ++ rest') end (All-head IsFrame f fs those) (same ∙ append_assoc (frame_bytes f) (flat_map frame_bytes fs) rest') ends)

-- bytes are read in one way
pub read_once : (bytes : List ℕ) (frames others : List Framed) (end another : Option Refusal) → IsRead bytes frames end → IsRead bytes others another → (frames ≡ others) × (end ≡ another)
read_once bytes frames others end another h k = (
  sym (append-nil frames) ∙ ap (λ l. frames ++ l) (sym none) ∙ sym on.1,
  ends_apart h.rest end another h.ends (subst (λ l. Ends l another) (sym (on.2 ∙ ap (λ l. flat_map frame_bytes l ++ k.rest) none)) k.ends),
)
  where
    on : (later : List Framed) × (others ≡ frames ++ later) × (h.rest ≡ flat_map frame_bytes later ++ k.rest) × All IsFrame later
    on = reads_on frames others h.rest k.rest another h.splits.are_frames k.splits.are_frames (sym h.splits.joined ∙ k.splits.joined) k.ends

    none : on.0 ≡ []
    none = none_later on.0 h.rest k.rest end on.3 h.ends on.2

fault_on : (left x : List ℕ) (e : Refusal) → IsFault left e → IsFault (left ++ x) e
fault_on left x e (inl (is, (body, at))) = inl (is, (body ++ x, ap (λ l. l ++ x) at))
fault_on left x e (inr (inl (is, (n, body, above, fits, at)))) = inr (inl (is, (n, body ++ x, above, fits, ap (λ l. l ++ x) at)))
fault_on left x e (inr (inr (is, (n, k, body, counts, none, at)))) = inr (inr (is, (n, k, body ++ x, counts, none, ap (λ l. l ++ x) at)))

-- a decoder that gives none has read its bytes
has_read : (bytes left : List ℕ) (given : List Framed) → HasDecoded bytes given left → HasGivenAll left → (end : Option Refusal) × IsRead bytes given end
has_read bytes left given h (inl part) = at_part left part refl
  where
    none_passed : h.passed ≡ []
    none_passed = elim h.behind [ inl none ↦ none | inr (e, fault) ↦ absurd (fault_or_partial left e part fault) ]

    joined : bytes ≡ flat_map frame_bytes given ++ left
    joined = h.splits.joined ∙ ap (λ l. flat_map frame_bytes given ++ (left ++ l)) none_passed ∙ ap (λ l. flat_map frame_bytes given ++ l) (append-nil left)

    at_part : (rest : List ℕ) → IsPartial rest → left ≡ rest → (end : Option Refusal) × IsRead bytes given end
    at_part [] is same = (None, record { rest = left; splits = record { are_frames = h.splits.are_frames; joined = joined }; ends = same })
    at_part (b ∷ bs) is same = (
      Some Truncated,
      record {
        rest = left;
        splits = record { are_frames = h.splits.are_frames; joined = joined };
        ends = inr (refl, part, (let size = ap (λ (l : List ℕ). length l) same in omega arith));
      },
    )
has_read bytes left given h (inr (e, fault)) =
    (Some e, record { rest = left ++ h.passed; splits = h.splits; ends = inl (fault_on left h.passed e fault) })

-- rule: whole-frames
-- any cutting gives the same frames
pub same_frames : (bytes left rest : List ℕ) (given others : List Framed) → HasDecoded bytes given left → HasDecoded bytes others rest → HasGivenAll left → HasGivenAll rest → given ≡ others
same_frames bytes left rest given others h k all all' =
    let one = has_read bytes left given h all in
    let other = has_read bytes rest others k all' in
    (read_once bytes given others one.0 other.0 one.1 other.1).0
