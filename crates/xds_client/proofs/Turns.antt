-- What the turns of a client's stream come to, and its start.
use Rattle.std.proofs.Common.{◌≡◌, ℕ, List, [], ◌++◌, ◌+◌, Option, Some, None, Result, Ok, Err, inl, inr, refl, sym, ap, subst, ◌∙◌, append-nil, append_assoc}
use Rattle.std.specs.Prelude.{string_bytes, take}
use Rattle.std.specs.Io.KnownBytes.{Appends}
use Rattle.std.proofs.KnownBytes.{Appends-nil, Appends-trans, Consumes-nil, Keeps-refl}
use Rattle.xds_resource.specs.declared.refusal.Refusal.{Refusal}
use Rattle.xds_resource.specs.declared.refusal.Refusal.TheVariants.{Device as DeviceRefusal}
use Rattle.xds_resource.specs.declared.types.TypeName.{TypeName}
use Rattle.xds_frames.specs.Frames.{IsPartial}
use Rattle.xds_frames.specs.Devices.{Wrote, WrotePart}
use Rattle.xds_frames.proofs.Gatherings.{of_calls as dev}
use Rattle.xds_cache.specs.Clients.{Client}
use Rattle.xds_client.specs.declared.subscription.StreamVariant.{StreamVariant}
use Rattle.xds_client.specs.declared.answering.ResponseReply.{ResponseReply}
use Rattle.xds_client.specs.Exchanges.{answers}
use Rattle.xds_client.specs.Ending.{EndsEarly}
use Rattle.xds_client.specs.Running.{Ends, Serves, Starts}
use Rattle.xds_client.specs.Turning.{Fills, GivesAnswer, ReadsOne, Stops, TakesOne}
use Rattle.xds_client.proofs.Serving.{devs}

ok_is : {A E : Type 0} (a b : A) → ◌≡◌ {A = Result A E} (Ok a) (Ok b) → a ≡ b
ok_is a b same = cc

-- what a change leaves, by what it is to leave
pub changed_to : {X E : Type 0} (a : Client × X) (left : Client) (x : X) → ◌≡◌ {A = Result (Client × X) E} (Ok a) (Ok (left, x)) → left ≡ a.0
changed_to a left x same = sym (ap (λ p. p.0) (ok_is a (left, x) same))

-- ---- a turn

-- what is said of a reply that is there
pub replied : (v : StreamVariant) (t : TypeName) (c left : Client) (held after : List ℕ) (o : Option ResponseReply) (r : ResponseReply) → GivesAnswer v t c held (Ok o) left after → o ≡ Some r
    → GivesAnswer v t c held (Ok (Some r)) left after
replied v t c left held after o r gives is = subst (λ (x : Option ResponseReply). GivesAnswer v t c held (Ok x) left after) is gives

pub none_replied : (v : StreamVariant) (t : TypeName) (c left : Client) (held after : List ℕ) (o : Option ResponseReply) → GivesAnswer v t c held (Ok o) left after → o ≡ None
    → IsPartial held × (after ≡ held) × (left ≡ c)
none_replied v t c left held after o gives is = subst (λ (x : Option ResponseReply). GivesAnswer v t c held (Ok x) left after) is gives

module _ (v : StreamVariant) (t : TypeName) (c left : Client) (held after : List ℕ) (r s o : Option (List ℕ)) (i f h n₀ n₁ : ℕ) where
  -- it ends before anything more is read or told
  ends_at : (e : Refusal) → EndsEarly v t c held [] [] e (devs (dev r r i i) (dev s s f f) (dev o o h h) n₀ n₁) → Stops v t c held e (devs (dev r r i i) (dev s s f f) (dev o o h h) n₀ n₁)
  ends_at e ends =
      ([], [], [], Consumes-nil r, Appends-nil s, Appends-nil o, subst (λ (z : List ℕ). EndsEarly v t c z [] [] e (devs (dev r r i i) (dev s s f f) (dev o o h h) n₀ n₁)) (sym (append-nil held)) ends)

  -- at a fault, or a frame that isn't answered
  pub turn_unanswered : (e : Refusal) → GivesAnswer v t c held (Err e) left after → Stops v t c held e (devs (dev r r i i) (dev s s f f) (dev o o h h) n₀ n₁)
  turn_unanswered e (inl fault) = ends_at e (inl (inl (fault, refl), (refl, refl, refl, refl)))
  turn_unanswered e (inr (x, more, is_frame, begins, unanswered)) = ends_at e (inr (x, more, is_frame, begins, refl, inl (unanswered, (refl, refl, refl, refl))))

  -- where the lines aren't printed whole
  pub turn_unprinted : (p : Option (List ℕ)) (k : ℕ) (reply : ResponseReply) (said : List ℕ) (e : Refusal) → GivesAnswer v t c held (Ok (Some reply)) left after → said ≡ string_bytes reply.lines
      → (e ≡ DeviceRefusal) × WrotePart (dev o p h k) said → Stops v t c held e (devs (dev r r i i) (dev s s f f) (dev o p h k) n₀ n₁)
  turn_unprinted p k reply said e (x, a, is_frame, begins, answered, leaves, (lines_are, frame_is)) said_is (is, (failed, (n, wrote))) = (
    [],
    [],
    take n said,
    Consumes-nil r,
    Appends-nil s,
    wrote,
    inr (x, after, is_frame, append-nil held ∙ begins, refl, inr (a, answered, (is, inl (refl, refl, (n, ap (take n) (said_is ∙ lines_are)), failed)))),
  )

  -- where the request isn't written whole
  pub turn_unwritten : (p u : Option (List ℕ)) (k g : ℕ) (reply : ResponseReply) (said bytes : List ℕ) (e : Refusal) → GivesAnswer v t c held (Ok (Some reply)) left after → said ≡ string_bytes reply.lines
      → Wrote (dev o p h k) said → k ≡ h → bytes ≡ reply.frame.items → (e ≡ DeviceRefusal) × WrotePart (dev s u f g) bytes
      → Stops v t c held e (devs (dev r r i i) (dev s u f g) (dev o p h k) n₀ n₁)
  turn_unwritten p u k g reply said bytes e (x, a, is_frame, begins, answered, leaves, (lines_are, frame_is)) said_is told none bytes_are (is, (failed, (n, wrote))) = (
    [],
    take n bytes,
    said,
    Consumes-nil r,
    wrote,
    told,
    inr (x, after, is_frame, append-nil held ∙ begins, refl, inr (a, answered, (is, inr ((n, ap (take n) (bytes_are ∙ frame_is)), failed, said_is ∙ lines_are, none)))),
  )

  -- where both are
  pub turn_takes : (p u : Option (List ℕ)) (k g : ℕ) (reply : ResponseReply) (said bytes : List ℕ) → GivesAnswer v t c held (Ok (Some reply)) left after → said ≡ string_bytes reply.lines
      → Wrote (dev o p h k) said → k ≡ h → bytes ≡ reply.frame.items → Wrote (dev s u f g) bytes → g ≡ f → n₁ ≡ n₀
      → TakesOne v t c held left after (devs (dev r r i i) (dev s u f g) (dev o p h k) n₀ n₁)
  turn_takes p u k g reply said bytes (x, a, is_frame, begins, answered, leaves, (lines_are, frame_is)) said_is told none bytes_are wrote none_too called =
      (x, a, is_frame, begins, answered, leaves, Consumes-nil r, subst (Appends s u) (bytes_are ∙ frame_is) wrote, subst (Appends o p) (said_is ∙ lines_are) told, (refl, none_too, none), called)

  -- a piece that is read
  pub turn_reads : (q : Option (List ℕ)) (j : ℕ) (now : List ℕ) → IsPartial held × (after ≡ held) × (left ≡ c) → Fills {T = ℕ} after (dev r q i j) (Ok 0) now → n₁ ≡ n₀ + 1
      → ReadsOne c held left now (devs (dev r q i j) (dev s s f f) (dev o o h h) n₀ n₁)
  turn_reads q j now (partial, same, same_client) (none, (piece, more, read, joined)) called =
      (piece, read, joined ∙ ap (λ z. z ++ piece) same, same_client, Appends-nil s, Appends-nil o, (none, refl, refl), partial, more, called)

  -- and one that isn't
  pub turn_cut : (q : Option (List ℕ)) (j : ℕ) (now : List ℕ) (e : Refusal) → IsPartial held × (after ≡ held) × (left ≡ c) → Fills {T = ℕ} after (dev r q i j) (Err e) now
      → Stops v t c held e (devs (dev r q i j) (dev s s f f) (dev o o h h) n₀ n₁)
  turn_cut q j now e (partial, same, same_client) (inl (is, failed, read)) =
      ([], [], [], read, Appends-nil s, Appends-nil o, inl (inr (inr (inl (is, subst IsPartial (sym (append-nil held)) partial, failed))), (refl, refl, refl, refl)))
  turn_cut q j now e (partial, same, same_client) (inr (inl (is, at_end, none, read))) =
      ([], [], [], read, Appends-nil s, Appends-nil o, inl (inr (inl (is, subst IsPartial (sym (append-nil held)) partial, at_end, none)), (refl, refl, refl, refl)))
  turn_cut q j now e (partial, same, same_client) (inr (inr (is, none, (piece, read)))) =
      (piece, [], [], read, Appends-nil s, Appends-nil o, inl (inr (inr (inr (is, (held, piece, partial, refl), none))), (refl, refl, refl, refl)))

-- ---- the start

-- the same of what was said before, too
module _ (v : StreamVariant) (t : TypeName) (count : ℕ) (said : List ℕ) (r q s u w o p : Option (List ℕ)) (i j f g h a b n₀ n₁ : ℕ) (wrote : Wrote (dev s u f g) said) (none : g ≡ f) where
  ends_with : {T : Type 0} (c : Client) (x : Result T Refusal) (one : Serves v t c count [] x (devs (dev r q i j) (dev u w g h) (dev o p a b) n₀ n₁))
      → Ends v t c count one.exchanges one.rest one.part one.shown x (devs (dev r q i j) (dev s w f h) (dev o p a b) n₀ n₁)
  ends_with c x one =
      subst (λ (z : ℕ). Ends v t c count one.exchanges one.rest one.part one.shown x (devs (dev r q i j) (dev s w z h) (dev o p a b) n₀ n₁)) none
      (from x one.exchanges one.rest one.part one.shown one.ends)
    where
      from : {T : Type 0} (x : Result T Refusal) (exchanges : _) (rest part shown : List ℕ) → Ends v t c count exchanges rest part shown x (devs (dev r q i j) (dev u w g h) (dev o p a b) n₀ n₁)
          → Ends v t c count exchanges rest part shown x (devs (dev r q i j) (dev s w g h) (dev o p a b) n₀ n₁)
      from (Ok y) exchanges rest part shown ends = ends
      from (Err e) exchanges rest part shown ends = ends

  pub serves_behind : {T : Type 0} (c : Client) (x : Result T Refusal) → Serves v t c count [] x (devs (dev r q i j) (dev u w g h) (dev o p a b) n₀ n₁)
      → Serves v t c count said x (devs (dev r q i j) (dev s w f h) (dev o p a b) n₀ n₁)
  serves_behind c x one = record {
    exchanges = one.exchanges;
    rest = one.rest;
    part = one.part;
    shown = one.shown;
    read = one.read;
    answered = one.answered;
    wrote = subst (Appends s w) (sym (append_assoc said (answers v one.exchanges) one.part)) (Appends-trans s u w said (answers v one.exchanges ++ one.part) wrote one.wrote);
    told = one.told;
    ends = ends_with c x one;
  }

-- a start that isn't cut, and one that is
pub starts_served : {T : Type 0} (v : StreamVariant) (t : TypeName) (c : Client) (count : ℕ) (said : List ℕ) (x : Result T Refusal) (r q s u w o p : Option (List ℕ)) (i j f g h a b n₀ n₁ : ℕ)
    → Wrote (dev s u f g) said → g ≡ f → Serves v t c count [] x (devs (dev r q i j) (dev u w g h) (dev o p a b) n₀ n₁)
    → Starts v t c count said x (devs (dev r q i j) (dev s w f h) (dev o p a b) n₀ n₁)
starts_served v t c count said x r q s u w o p i j f g h a b n₀ n₁ wrote none one = inl (serves_behind v t count said r q s u w o p i j f g h a b n₀ n₁ wrote none c x one)

pub starts_cut : {T : Type 0} (v : StreamVariant) (t : TypeName) (c : Client) (count : ℕ) (said : List ℕ) (r s u o : Option (List ℕ)) (i f g h n₀ n₁ : ℕ) (e : Refusal)
    → (e ≡ DeviceRefusal) × WrotePart (dev s u f g) said → Starts {T = T} v t c count said (Err e) (devs (dev r r i i) (dev s u f g) (dev o o h h) n₀ n₁)
starts_cut v t c count said r s u o i f g h n₀ n₁ e (is, (failed, (k, wrote))) = inr (is, Keeps-refl r, refl, Keeps-refl o, refl, failed, (take k said, (k, refl), wrote))
