-- How far a client's stream is served, turn by turn.
use Rattle.std.proofs.Common.{◌≡◌, ◌<◌, ◌≤◌, ◌+◌, ◌-◌, ℕ, List, [], ◌∷◌, ◌++◌, Option, Ok, Err, inl, inr, length, take, drop, refl, sym, ap, subst, ◌∙◌, append_assoc, append-nil, arith}
use Rattle.std.specs.Prelude.{Bool, true, false}
use Rattle.std.specs.Io.KnownBytes.{Appends, Consumes}
use Rattle.std.proofs.KnownBytes.{Appends-nil, Appends-trans, Consumes-nil, Consumes-trans}
use Rattle.std.proofs.lemmas.Bool.{cases_lt, false≢true, true≢false}
use Rattle.std.proofs.lemmas.Grind.{flat_map-append}
use Rattle.std.proofs.lemmas.List.{length-append, take-append-drop, take-append-le}
use Rattle.std.proofs.Math.Seq.{take-append_seam}
use Rattle.xds_resource.specs.declared.refusal.Refusal.{Refusal}
use Rattle.xds_resource.specs.declared.types.TypeName.{TypeName}
use Rattle.xds_frames.specs.Frames.{Framed, IsFrame, IsPartial, frame_bytes}
use Rattle.xds_frames.proofs.Apart.{partial_or_frame}
use Rattle.xds_frames.proofs.Gatherings.{of_calls as dev}
use Rattle.xds_frames.specs.Devices.{Device}
use Rattle.xds_cache.specs.Clients.{Client}
use Rattle.xds_client.specs.declared.subscription.StreamVariant.{StreamVariant}
use Rattle.xds_client.specs.Subscribing.{asking}
use Rattle.xds_client.specs.Answering.{Answers}
use Rattle.xds_client.specs.Lines.{lines}
use Rattle.xds_client.specs.Exchanges.{Exchange, AreAnswered, client_after, responses, answers, printed}
use Rattle.xds_client.specs.Ending.{Devices, EndsEarly}
use Rattle.xds_client.specs.Running.{Serves}
use Rattle.xds_client.specs.Turning.{GoesOn, NeedsCalls, ReadsOne, Stops, TakesOne, Turns}

abbrev pub devs : Device → Device → Device → ℕ → ℕ → Devices
devs input server output m n = record { input = input; server = server; output = output; calls_before = m; calls_after = n }

-- ---- one response more

answered-push : (v : StreamVariant) (c m : Client) (xs : List Exchange) (x : Exchange) → m ≡ client_after c xs → AreAnswered v c xs → IsFrame x.frame → Answers v m x.frame x.answer
    → AreAnswered v c (xs ++ x ∷ [])
answered-push v c m [] x same before frame is = (frame, subst (λ (k : Client). Answers v k x.frame x.answer) same is, tt)
answered-push v c m (y ∷ ys) x same before frame is = (before.0, before.1, answered-push v y.answer.left m ys x same before.2 frame is)

client-push : (c : Client) (xs : List Exchange) (x : Exchange) → client_after c (xs ++ x ∷ []) ≡ x.answer.left
client-push c [] x = refl
client-push c (y ∷ ys) x = client-push y.answer.left ys x

responses-push : (xs : List Exchange) (x : Exchange) → responses (xs ++ x ∷ []) ≡ responses xs ++ frame_bytes x.frame
responses-push xs x = flat_map-append (λ y. frame_bytes y.frame) xs (x ∷ []) ∙ ap (λ l. responses xs ++ l) (append-nil (frame_bytes x.frame))

answers-push : (v : StreamVariant) (xs : List Exchange) (x : Exchange) → answers v (xs ++ x ∷ []) ≡ answers v xs ++ frame_bytes (asking v x.answer.text)
answers-push v xs x = flat_map-append (λ y. frame_bytes (asking v y.answer.text)) xs (x ∷ []) ∙ ap (λ l. answers v xs ++ l) (append-nil (frame_bytes (asking v x.answer.text)))

printed-push : (v : StreamVariant) (t : TypeName) (xs : List Exchange) (x : Exchange) → printed v t (xs ++ x ∷ []) ≡ printed v t xs ++ lines v t x.answer
printed-push v t xs x = flat_map-append (λ y. lines v t y.answer) xs (x ∷ []) ∙ ap (λ l. printed v t xs ++ l) (append-nil (lines v t x.answer))

-- ---- calls of the reader

-- less than a frame is shorter than the frame that it begins
partial_is_short : (f : Framed) (front piece after : List ℕ) → IsFrame f → IsPartial front → front ++ piece ≡ frame_bytes f ++ after → length front < length (frame_bytes f)
partial_is_short f front piece after is_frame partial same =
    elim (cases_lt (length front) (length (frame_bytes f))) [
      | inl short ↦ short
      | inr long ↦ absurd (partial_or_frame f front (drop (length (frame_bytes f)) front) is_frame (begins long) partial)
    ]
  where
    begins : length (frame_bytes f) ≤ length front → front ≡ frame_bytes f ++ drop (length (frame_bytes f)) front
    begins long =
        sym (take-append-drop (length (frame_bytes f)) front)
        ∙ ap (λ l. l ++ drop (length (frame_bytes f)) front)
        (sym (take-append-le (length (frame_bytes f)) front piece long) ∙ ap (take (length (frame_bytes f))) same ∙ take-append_seam (frame_bytes f) after)

-- none was made but for the responses that were answered
needed_for : (n m k to_go : ℕ) (came held after whole : List ℕ) (f : Framed) → IsFrame f → held ≡ frame_bytes f ++ after → k ≡ m → whole ≡ came ++ frame_bytes f
    → NeedsCalls n m to_go came held → k ≤ n + length whole
needed_for n m k to_go came held after whole f is_frame begins stays same (inl few) = omega (arith, few, stays, ap length same, length-append came (frame_bytes f))
needed_for n m k to_go came held after whole f is_frame begins stays same (inr (some, (front, piece, partial, more, joined, few))) =
    let short = partial_is_short f front piece after is_frame partial (sym joined ∙ begins) in
    omega (arith, few, stays, short, ap length same, length-append came (frame_bytes f))

-- one more, where less than a frame is held
needed_more : (n m k to_go : ℕ) (came held after piece : List ℕ) → 0 < to_go → IsPartial held → 0 < length piece → after ≡ held ++ piece → k ≡ m + 1
    → NeedsCalls n m to_go came held → NeedsCalls n k to_go came after
needed_more n m k to_go came held after piece some partial more joined called (inl few) = inr (some, (held, piece, partial, more, joined, omega (arith, few, called)))
needed_more n m k to_go came held after piece some partial more joined called (inr (_, (front, last, _, some_bytes, held_is, few))) =
    inr (some, (held, piece, partial, more, joined, omega (arith, few, called, some_bytes, ap length held_is, length-append front last)))

-- none is left over at the end
needed_all : (n m to_go : ℕ) (came held : List ℕ) → to_go ≡ 0 → NeedsCalls n m to_go came held → m ≤ n + length came
needed_all n m to_go came held none (inl few) = few
needed_all n m to_go came held none (inr (some, more)) = absurd (omega (arith, some, none))

-- ---- turns one after another

pub goes-start : (v : StreamVariant) (t : TypeName) (c : Client) (count : ℕ) (held : List ℕ) (r s o : Option (List ℕ)) (i f h n : ℕ) → held ≡ []
    → GoesOn v t c count count c held (devs (dev r r i i) (dev s s f f) (dev o o h h) n n)
goes-start v t c count held r s o i f h n none = record {
  exchanges = [];
  number = omega arith;
  read = subst (Consumes r r) (sym none) (Consumes-nil r);
  answered = tt;
  leaves = refl;
  wrote = Appends-nil s;
  told = Appends-nil o;
  none_failed = (refl, refl, refl);
  needed = inl (omega arith);
}

module _ (v : StreamVariant) (t : TypeName) (c m l : Client) (count to_go : ℕ) (held after : List ℕ) (r q p s u w o x y : Option (List ℕ)) (i j k f g h a b d n₀ n₁ n₂ : ℕ)
    (so_far : GoesOn v t c count to_go m held (devs (dev r q i j) (dev s u f g) (dev o x a b) n₀ n₁)) where
  read_then : (piece whole : List ℕ) → Consumes q p piece → held ++ piece ≡ whole → Consumes r p (responses so_far.exchanges ++ whole)
  read_then piece whole more same =
      subst (Consumes r p) (append_assoc (responses so_far.exchanges) held piece ∙ ap (λ z. responses so_far.exchanges ++ z) same) (Consumes-trans r q p _ piece so_far.read more)

  pub goes-one : 0 < to_go → TakesOne v t m held l after (devs (dev q p j k) (dev u w g h) (dev x y b d) n₁ n₂)
      → GoesOn v t c count (to_go - 1) l after (devs (dev r p i k) (dev s w f h) (dev o y a d) n₀ n₂)
  goes-one some (frame, answer, is_frame, begins, is, left, read, wrote, told, failed, called) = let one : Exchange = record { frame = frame; answer = answer } in record {
    exchanges = so_far.exchanges ++ one ∷ [];
    number = omega (arith, some, so_far.number, length-append so_far.exchanges (one ∷ []));
    read = subst (Consumes r p) (sym (append_assoc (responses so_far.exchanges) (frame_bytes frame) after) ∙ ap (λ z. z ++ after) (sym (responses-push so_far.exchanges one)))
        (read_then [] (frame_bytes frame ++ after) read (append-nil held ∙ begins));
    answered = answered-push v c m so_far.exchanges one so_far.leaves so_far.answered is_frame is;
    leaves = left ∙ sym (client-push c so_far.exchanges one);
    wrote = subst (Appends s w) (sym (answers-push v so_far.exchanges one)) (Appends-trans s u w _ _ so_far.wrote wrote);
    told = subst (Appends o y) (sym (printed-push v t so_far.exchanges one)) (Appends-trans o x y _ _ so_far.told told);
    none_failed = (failed.0 ∙ so_far.none_failed.0, failed.1 ∙ so_far.none_failed.1, failed.2 ∙ so_far.none_failed.2);
    needed = inl (needed_for n₀ n₁ n₂ to_go (responses so_far.exchanges) held after _ frame is_frame begins called (responses-push so_far.exchanges one) so_far.needed);
  }

  pub goes-more : 0 < to_go → ReadsOne m held l after (devs (dev q p j k) (dev u w g h) (dev x y b d) n₁ n₂)
      → GoesOn v t c count to_go l after (devs (dev r p i k) (dev s w f h) (dev o y a d) n₀ n₂)
  goes-more some (piece, read, joined, left, wrote, told, failed, partial, more, called) = record {
    exchanges = so_far.exchanges;
    number = so_far.number;
    read = read_then piece after read (sym joined);
    answered = so_far.answered;
    leaves = left ∙ so_far.leaves;
    wrote = subst (Appends s w) (append-nil (answers v so_far.exchanges)) (Appends-trans s u w _ [] so_far.wrote wrote);
    told = subst (Appends o y) (append-nil (printed v t so_far.exchanges)) (Appends-trans o x y _ [] so_far.told told);
    none_failed = (failed.0 ∙ so_far.none_failed.0, failed.1 ∙ so_far.none_failed.1, failed.2 ∙ so_far.none_failed.2);
    needed = needed_more n₀ n₁ n₂ to_go (responses so_far.exchanges) held after piece some partial more joined called so_far.needed;
  }

  -- how it ends early is told from the start
  ends-from : (e : Refusal) (rest part shown : List ℕ) → EndsEarly v t m rest part shown e (devs (dev q p j k) (dev u w g h) (dev x y b d) n₁ n₂)
      → EndsEarly v t (client_after c so_far.exchanges) rest part shown e (devs (dev r p i k) (dev s w f h) (dev o y a d) n₀ n₂)
  ends-from e rest part shown ends =
      subst (λ (z : Client). EndsEarly v t z rest part shown e (devs (dev r p i k) (dev s w f h) (dev o y a d) n₀ n₂)) so_far.leaves
      (subst (λ (z : ℕ). EndsEarly v t m rest part shown e (devs (dev q p z k) (dev u w f h) (dev x y a d) n₀ n₂)) so_far.none_failed.0
      (subst (λ (z : ℕ). EndsEarly v t m rest part shown e (devs (dev q p j k) (dev u w z h) (dev x y a d) n₀ n₂)) so_far.none_failed.1
      (subst (λ (z : ℕ). EndsEarly v t m rest part shown e (devs (dev q p j k) (dev u w g h) (dev x y z d) n₀ n₂)) so_far.none_failed.2 ends)))

  goes-off_at : {T : Type 0} (e : Refusal) → 0 < to_go → Stops v t m held e (devs (dev q p j k) (dev u w g h) (dev x y b d) n₁ n₂)
      → Serves {T = T} v t c count [] (Err e) (devs (dev r p i k) (dev s w f h) (dev o y a d) n₀ n₂)
  goes-off_at e some (came, part, shown, read, wrote, told, ends) = record {
    exchanges = so_far.exchanges;
    rest = held ++ came;
    part = part;
    shown = shown;
    read = read_then came (held ++ came) read refl;
    answered = so_far.answered;
    wrote = Appends-trans s u w _ part so_far.wrote wrote;
    told = Appends-trans o x y _ shown so_far.told told;
    ends = (omega (arith, some, so_far.number), ends-from e (held ++ came) part shown ends);
  }

  -- after a turn that ended it, one that was a response, and one that wasn't
  pub goes-off : {T : Type 0} (z : StreamVariant) (e : Refusal) → z ≡ v → 0 < to_go → Stops z t m held e (devs (dev q p j k) (dev u w g h) (dev x y b d) n₁ n₂)
      → Serves {T = T} v t c count [] (Err e) (devs (dev r p i k) (dev s w f h) (dev o y a d) n₀ n₂)
  goes-off z e same some stops = goes-off_at e some (subst (λ (n : StreamVariant). Stops n t m held e (devs (dev q p j k) (dev u w g h) (dev x y b d) n₁ n₂)) same stops)

  pub goes-answered : (z : StreamVariant) (more : Bool) → z ≡ v → more ≡ true → 0 < to_go → Turns z t m held (Ok more) l after (devs (dev q p j k) (dev u w g h) (dev x y b d) n₁ n₂)
      → GoesOn v t c count (to_go - 1) l after (devs (dev r p i k) (dev s w f h) (dev o y a d) n₀ n₂)
  goes-answered z true same is some turned = goes-one some (subst (λ (n : StreamVariant). TakesOne n t m held l after (devs (dev q p j k) (dev u w g h) (dev x y b d) n₁ n₂)) same turned)
  goes-answered z false same is some turned = absurd (false≢true is)

  pub goes-read : (z : StreamVariant) (more : Bool) → more ≡ false → 0 < to_go → Turns z t m held (Ok more) l after (devs (dev q p j k) (dev u w g h) (dev x y b d) n₁ n₂)
      → GoesOn v t c count to_go l after (devs (dev r p i k) (dev s w f h) (dev o y a d) n₀ n₂)
  goes-read z true is some turned = absurd (true≢false is)
  goes-read z false is some turned = goes-more some turned

-- once as many were answered as are wanted
pub goes-done : {T : Type 0} (v : StreamVariant) (t : TypeName) (c m : Client) (count to_go : ℕ) (held : List ℕ) (r q s u o x : Option (List ℕ)) (i j f g a b n₀ n₁ : ℕ) (done : T)
    → to_go ≡ 0 → GoesOn v t c count to_go m held (devs (dev r q i j) (dev s u f g) (dev o x a b) n₀ n₁)
    → Serves {T = T} v t c count [] (Ok done) (devs (dev r q i j) (dev s u f g) (dev o x a b) n₀ n₁)
goes-done v t c m count to_go held r q s u o x i j f g a b n₀ n₁ done none so_far = record {
  exchanges = so_far.exchanges;
  rest = held;
  part = [];
  shown = [];
  read = so_far.read;
  answered = so_far.answered;
  wrote = subst (Appends s u) (sym (append-nil (answers v so_far.exchanges))) so_far.wrote;
  told = subst (Appends o x) (sym (append-nil (printed v t so_far.exchanges))) so_far.told;
  ends = (omega (arith, none, so_far.number), refl, refl, so_far.none_failed.0, so_far.none_failed.1, so_far.none_failed.2, needed_all n₀ n₁ to_go (responses so_far.exchanges) held none so_far.needed);
}
