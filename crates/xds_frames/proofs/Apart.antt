-- No frame begins another one, and none begins as a fault does.
use Rattle.std.proofs.Common.{subst, ◌≡◌, ℕ, ◌+◌, ◌<◌, ◌^◌, List, ◌∷◌, ◌++◌, length, take, drop, refl, sym, ap, ◌∙◌, inl, inr, arith, lit≤, zero, suc}
use Rattle.std.specs.Int.{w32, from_be_bytes}
use Rattle.std.proofs.lemmas.Nat.{from_be_bytes-to_be_bytes_4}
use Rattle.std.proofs.lemmas.List.{length-append}
use Rattle.std.proofs.Math.Seq.{take-append_seam, drop-append_seam}
use Rattle.xds_resource.specs.declared.refusal.Refusal.{Refusal}
use Rattle.xds_frames.specs.declared.frame.FrameKind.{FrameKind}
use Rattle.xds_frames.specs.declared.frame.FrameKind.TheVariants.{DiscoveryRequest, DiscoveryResponse, DeltaDiscoveryRequest, DeltaDiscoveryResponse, Batch}
use Rattle.xds_frames.specs.Frames.{Framed, frame_bytes, IsFrame, IsFault, IsEmpty, IsTooLong, IsOfNoKind, IsKind, IsPartial, MayFollow, number_of, after_length}

-- bytes have one length, and one body behind it
pub lengths_apart : (n m : ℕ) (x y : List ℕ) → n < 2 ^ 32 → m < 2 ^ 32 → after_length n x ≡ after_length m y → (n ≡ m) × (x ≡ y)
lengths_apart n m x y n_fits m_fits same = (
  sym (from_be_bytes-to_be_bytes_4 n n_fits) ∙ ap (λ (l : List ℕ). from_be_bytes w32 (take 4 l)) same ∙ from_be_bytes-to_be_bytes_4 m m_fits,
  ap (λ (l : List ℕ). drop 4 l) same,
)

abbrev kind_at : ℕ → FrameKind
kind_at zero = Batch
kind_at (suc zero) = DiscoveryRequest
kind_at (suc (suc zero)) = DiscoveryResponse
kind_at (suc (suc (suc zero))) = DeltaDiscoveryRequest
kind_at (suc (suc (suc (suc zero)))) = DeltaDiscoveryResponse
kind_at _ = Batch

kind_back : (k : FrameKind) → kind_at (number_of k) ≡ k
kind_back DiscoveryRequest = refl
kind_back DiscoveryResponse = refl
kind_back DeltaDiscoveryRequest = refl
kind_back DeltaDiscoveryResponse = refl
kind_back Batch = refl

kinds_apart : (k l : FrameKind) → number_of k ≡ number_of l → k ≡ l
kinds_apart k l same = sym (kind_back k) ∙ ap kind_at same ∙ kind_back l

pub is_kind : (k : FrameKind) → IsKind (number_of k)
is_kind DiscoveryRequest = (lit≤ tt, lit≤ tt)
is_kind DiscoveryResponse = (lit≤ tt, lit≤ tt)
is_kind DeltaDiscoveryRequest = (lit≤ tt, lit≤ tt)
is_kind DeltaDiscoveryResponse = (lit≤ tt, lit≤ tt)
is_kind Batch = (lit≤ tt, lit≤ tt)

-- fronts of one length
fronts_apart : (s t x y : List ℕ) → length s ≡ length t → s ++ x ≡ t ++ y → (s ≡ t) × (x ≡ y)
fronts_apart s t x y len same = (
  sym (take-append_seam s x) ∙ ap (take (length s)) same ∙ ap (λ n. take n (t ++ y)) len ∙ take-append_seam t y,
  sym (drop-append_seam s x) ∙ ap (drop (length s)) same ∙ ap (λ n. drop n (t ++ y)) len ∙ drop-append_seam t y,
)

behind_kinds : (k l : FrameKind) (s t : List ℕ) → number_of k ∷ s ≡ number_of l ∷ t → (k ≡ l) × (s ≡ t)
behind_kinds k l s t same = (kinds_apart k l cc, cc)

-- rule: whole-frames
-- bytes begin with one frame at most
pub frames_apart : (f g : Framed) (x y : List ℕ) → IsFrame f → IsFrame g → frame_bytes f ++ x ≡ frame_bytes g ++ y → (f ≡ g) × (x ≡ y)
frames_apart f g x y is_f is_g same =
    let at = lengths_apart (length f.text + 1) (length g.text + 1) (number_of f.kind ∷ (f.text ++ x)) (number_of g.kind ∷ (g.text ++ y)) (omega (arith, is_f.1)) (omega (arith, is_g.1)) same in
    let kinds = behind_kinds f.kind g.kind (f.text ++ x) (g.text ++ y) at.1 in
    let texts = fronts_apart f.text g.text x y (omega (arith, at.0)) kinds.1 in
    (λ i. record { kind = kinds.0 i; text = texts.0 i }, texts.1)

-- no frame begins as a fault does
pub fault_or_frame : (f : Framed) (bytes x : List ℕ) (e : Refusal) → IsFrame f → bytes ≡ frame_bytes f ++ x → IsFault bytes e → ⊥
fault_or_frame f bytes x e is_f at (inl (is, (body, nought))) =
    let same = lengths_apart (length f.text + 1) 0 (number_of f.kind ∷ (f.text ++ x)) body (omega (arith, is_f.1)) (omega arith) (sym at ∙ nought) in
    absurd (omega (arith, same.0))
fault_or_frame f bytes x e is_f at (inr (inl (is, (n, body, long, fits, too)))) =
    let same = lengths_apart (length f.text + 1) n (number_of f.kind ∷ (f.text ++ x)) body (omega (arith, is_f.1)) fits (sym at ∙ too) in
    absurd (omega (arith, same.0, is_f.1))
fault_or_frame f bytes x e is_f at (inr (inr (is, (n, k, body, right, none, of)))) =
    let same = lengths_apart (length f.text + 1) n (number_of f.kind ∷ (f.text ++ x)) (k ∷ body) (omega (arith, is_f.1)) (omega (arith, right.1)) (sym at ∙ of) in
    let kinds : number_of f.kind ≡ k = cc (same.1) in
    none (subst IsKind kinds (is_kind f.kind))

-- the length and what follows it, where there are four bytes
long : (n : ℕ) (bytes body : List ℕ) → bytes ≡ after_length n body → length bytes < 4 → ⊥
long n bytes body at short = let size = ap (λ (l : List ℕ). length l) at in absurd (omega arith)

-- nor does less than a frame
pub fault_or_partial : (bytes : List ℕ) (e : Refusal) → IsPartial bytes → IsFault bytes e → ⊥
fault_or_partial bytes e (inl short) (inl (is, (body, at))) = long 0 bytes body at short
fault_or_partial bytes e (inl short) (inr (inl (is, (n, body, _, _, at)))) = long n bytes body at short
fault_or_partial bytes e (inl short) (inr (inr (is, (n, k, body, _, _, at)))) = long n bytes (k ∷ body) at short
fault_or_partial bytes e (inr (m, rest, right, less, follow, begun)) (inl (is, (body, at))) =
    let same = lengths_apart m 0 rest body (omega (arith, right.1)) (omega arith) (sym begun ∙ at) in
    absurd (omega (arith, same.0, right.0))
fault_or_partial bytes e (inr (m, rest, right, less, follow, begun)) (inr (inl (is, (n, body, above, fits, at)))) =
    let same = lengths_apart m n rest body (omega (arith, right.1)) fits (sym begun ∙ at) in
    absurd (omega (arith, same.0, right.1, above))
fault_or_partial bytes e (inr (m, rest, right, less, follow, begun)) (inr (inr (is, (n, k, body, counts, none, at)))) =
    let same = lengths_apart m n rest (k ∷ body) (omega (arith, right.1)) (omega (arith, counts.1)) (sym begun ∙ at) in
    none (subst MayFollow same.1 follow)

-- nor is a frame in less than one
pub partial_or_frame : (f : Framed) (bytes x : List ℕ) → IsFrame f → bytes ≡ frame_bytes f ++ x → IsPartial bytes → ⊥
partial_or_frame f bytes x is_f at (inl short) = long (length f.text + 1) bytes (number_of f.kind ∷ (f.text ++ x)) at short
partial_or_frame f bytes x is_f at (inr (n, body, right, short, follow, of)) =
    let same = lengths_apart (length f.text + 1) n (number_of f.kind ∷ (f.text ++ x)) body (omega (arith, is_f.1)) (omega (arith, right.1)) (sym at ∙ of) in
    let size = ap (λ (l : List ℕ). length l) same.1 in
    absurd (omega (arith, same.0, size, length-append f.text x, short))

empty_or_long : (bytes : List ℕ) → IsEmpty bytes → IsTooLong bytes → ⊥
empty_or_long bytes (body, nought) (n, rest, above, fits, at) =
    let same = lengths_apart 0 n body rest (omega arith) fits (sym nought ∙ at) in absurd (omega (arith, same.0, above))

empty_or_kind : (bytes : List ℕ) → IsEmpty bytes → IsOfNoKind bytes → ⊥
empty_or_kind bytes (body, nought) (n, k, rest, counts, none, at) =
    let same = lengths_apart 0 n body (k ∷ rest) (omega arith) (omega (arith, counts.1)) (sym nought ∙ at) in absurd (omega (arith, same.0, counts.0))

long_or_kind : (bytes : List ℕ) → IsTooLong bytes → IsOfNoKind bytes → ⊥
long_or_kind bytes (n, body, above, fits, too) (m, k, rest, counts, none, at) =
    let same = lengths_apart n m body (k ∷ rest) fits (omega (arith, counts.1)) (sym too ∙ at) in absurd (omega (arith, same.0, counts.1, above))

-- rule: whole-frames
-- bytes are at one fault at most
pub faults_apart : (bytes : List ℕ) (e d : Refusal) → IsFault bytes e → IsFault bytes d → e ≡ d
faults_apart bytes e d (inl (is, _)) (inl (is', _)) = is ∙ sym is'
faults_apart bytes e d (inl (is, a)) (inr (inl (is', b))) = absurd (empty_or_long bytes a b)
faults_apart bytes e d (inl (is, a)) (inr (inr (is', b))) = absurd (empty_or_kind bytes a b)
faults_apart bytes e d (inr (inl (is, a))) (inl (is', b)) = absurd (empty_or_long bytes b a)
faults_apart bytes e d (inr (inl (is, _))) (inr (inl (is', _))) = is ∙ sym is'
faults_apart bytes e d (inr (inl (is, a))) (inr (inr (is', b))) = absurd (long_or_kind bytes a b)
faults_apart bytes e d (inr (inr (is, a))) (inl (is', b)) = absurd (empty_or_kind bytes b a)
faults_apart bytes e d (inr (inr (is, a))) (inr (inl (is', b))) = absurd (long_or_kind bytes b a)
faults_apart bytes e d (inr (inr (is, _))) (inr (inr (is', _))) = is ∙ sym is'
