-- A request on a stream: what the stream is then agrees with what the lines say, with the line of the request.
use Rattle.std.proofs.Common.{◌≡◌, ◌≢◌, ◌⊎◌, inl, inr, ℕ, List, [], ◌∷◌, Bool, true, false, ◌&&◌, not, Option, Some, None, Result, Ok, Err, refl, sym, ap, subst, ◌∙◌}
use Rattle.std.specs.Prelude.{if◌then◌else◌, ◌==◌, is_some, length}
use Rattle.std.specs.Option.{option_or, option_map_or}
use Rattle.xds_resource.specs.declared.types.TypeName.{TypeName}
use Rattle.xds_resource.specs.declared.refusal.Refusal.{Refusal}
use Rattle.xds_resource.specs.declared.refusal.Refusal.TheVariants.{BadMessage, WrongVariant}
use Rattle.xds_resource.specs.PerType.{PerType, at, with_at, each}
use Rattle.xds_resource.specs.Types.{is_same_type, type_of_url}
use Rattle.xds_resource.proofs.TypesApart.{same_type, at-with_at, at-with_at_other, at-each}
use Rattle.xds_resource.proofs.Refusing.{unless_once}
use Rattle.xds_interest.specs.Interests.{Selection}
use Rattle.xds_ledger.specs.declared.variant.VariantName.{VariantName}
use Rattle.xds_ledger.specs.declared.variant.VariantName.TheVariants as variants
use Rattle.xds_ledger.specs.declared.outcome.Outcome.{Outcome}
use Rattle.xds_ledger.specs.Sessions.{Session, unopened, sotw_names, delta_names}
use Rattle.xds_core.proofs.StepLaws.{done_with}
use Rattle.xds_sessions.specs.DeltaPolls.{mention}
use Rattle.xds_core.specs.Streams.{Stream, Message, Sotw, Delta, variant_of, url_of, cluster_of, is_same_variant, is_foreign, session_after, answered_by, answered, sessions_for, requested}
use Rattle.xds_check.specs.declared.asking.Asking.TheVariants as askings
use Rattle.xds_check.specs.declared.line.Line.{Line}
use Rattle.xds_check.specs.declared.line.Line.TheVariants as lines
use Rattle.xds_check.specs.Answers as answers
use Rattle.xds_check.specs.Answers.{is_of}
use Rattle.xds_check.specs.Lines.{Asks, Nothing, turn, has_asked, sent, taken, is_pending, cluster_on, interest, pending_in_sotw, pending_in_delta}
use Rattle.xds_trace.specs.Making.{asking_of}
use Rattle.xds_trace.proofs.Agreeing.{Agrees, agrees_unopened, asked_agrees}
use Rattle.xds_trace.proofs.Requests.{sotw_names_agree, delta_names_agree}
use Rattle.xds_trace.proofs.StreamLines.{IsUnheard, Hears, IsHeard, Follows, AgreesAfter, agrees_after, counted_after, itself, interest_kept}

-- ---- a request as a trace has it

same_url : (m : Message) → answers.url_of (asking_of m) ≡ url_of m
same_url (Sotw m) = refl
same_url (Delta m) = refl

same_cluster : (m : Message) → answers.cluster_of (asking_of m) ≡ cluster_of m
same_cluster (Sotw m) = refl
same_cluster (Delta m) = refl

is_of_by : (t : TypeName) (m : Message) → is_of t (asking_of m) ≡ option_map_or (λ u. is_same_type u t) (type_of_url (url_of m)) false
is_of_by t m = ap (λ url. option_map_or (λ u. is_same_type u t) (type_of_url url) false) (same_url m)

-- ---- one type

-- a request of the type, beside its line
step_agrees : (m : Message) (t : TypeName) (n : ℕ) (l : Line) (ls : List Line) (cluster : List ℕ) (x : Session) → Agrees (variant_of m) cluster t x (has_asked n t ls) (sent n t ls) (taken n t ls) (is_pending n t ls)
    → AgreesAfter n l ls (variant_of m) cluster t (session_after t x m) (Asks (asking_of m))
step_agrees (Sotw m) t n l ls cluster x agrees =
    let names : (interest n t ls).names ≡ x.asked.interest.names = ap (λ (s : Selection). s.names) (sym (interest_kept variants.StateOfTheWorld t cluster x.asked (taken n t ls) agrees.asked)) in
    asked_agrees variants.StateOfTheWorld cluster t x (has_asked n t ls) (sent n t ls) (taken n t ls) (is_pending n t ls) (askings.Sotw m) (sotw_names t x.asked m.resource_names) agrees
    (λ name. pending_in_sotw t (interest n t ls) m name (is_pending n t ls name))
    (sotw_names_agree cluster t x (has_asked n t ls) (sent n t ls) (taken n t ls) (is_pending n t ls) m (interest n t ls) agrees names)
step_agrees (Delta m) t n l ls cluster x agrees =
    asked_agrees variants.Delta cluster t x (has_asked n t ls) (sent n t ls) (taken n t ls) (is_pending n t ls) (askings.Delta m) (delta_names t x.asked (mention m) m.initial_resource_versions) agrees
    (λ name. pending_in_delta t (has_asked n t ls) m name (is_pending n t ls name))
    (delta_names_agree cluster t x (has_asked n t ls) (sent n t ls) (taken n t ls) (is_pending n t ls) m agrees)

-- the session of a type after a request
session_at : (ss : PerType Session) (m : Message) (t : TypeName) (o : Option TypeName) → at (answered_by ss m o).1 t ≡ (if option_map_or (λ u. is_same_type u t) o false then session_after t (at ss t) m else at ss t)
session_at ss m t None = refl
session_at ss m t (Some u) = by_type (same_type u t)
  where
    by_type : ((u ≡ t) × (is_same_type u t ≡ true)) ⊎ ((u ≢ t) × (is_same_type u t ≡ false))
        → at (with_at ss u (session_after u (at ss u) m)) t ≡ (if is_same_type u t then session_after t (at ss t) m else at ss t)
    by_type (inl same) =
        subst (λ w. at (with_at ss u (session_after u (at ss u) m)) w ≡ session_after w (at ss w) m) same.0 (at-with_at ss u (session_after u (at ss u) m))
        ∙ ap (λ b. if b then session_after t (at ss t) m else at ss t) (sym same.1)
    by_type (inr other) =
        at-with_at_other ss u (session_after u (at ss u) m) t (λ e. other.0 (sym e)) ∙ ap (λ b. if b then session_after t (at ss t) m else at ss t) (sym other.1)

module _ (n : ℕ) (ls : List Line) (m : Message) (cluster : List ℕ) (ss : PerType Session) where
  abbrev line : Line
  line = lines.Request n (asking_of m)

  turn_is : (t : TypeName) (b : Bool) → is_of t (asking_of m) ≡ b → turn n t line ≡ (if b then Asks (asking_of m) else Nothing)
  turn_is t b is = (λ i. if itself n i && is i then Asks (asking_of m) else Nothing)

  type_agrees : (t : TypeName) (b : Bool) → is_of t (asking_of m) ≡ b → Agrees (variant_of m) cluster t (at ss t) (has_asked n t ls) (sent n t ls) (taken n t ls) (is_pending n t ls)
      → Agrees (variant_of m) cluster t (if b then session_after t (at ss t) m else at ss t) (has_asked n t (line ∷ ls)) (sent n t (line ∷ ls)) (taken n t (line ∷ ls)) (is_pending n t (line ∷ ls))
  type_agrees t true is agrees = agrees_after n line ls (variant_of m) cluster t (session_after t (at ss t) m) (Asks (asking_of m)) (turn_is t true is) (step_agrees m t n line ls cluster (at ss t) agrees)
  type_agrees t false is agrees = agrees_after n line ls (variant_of m) cluster t (at ss t) Nothing (turn_is t false is) agrees

  -- each type after a request of some type
  pub types_agree : ((t : TypeName) → Agrees (variant_of m) cluster t (at ss t) (has_asked n t ls) (sent n t ls) (taken n t ls) (is_pending n t ls))
      → (t : TypeName) → Agrees (variant_of m) cluster t (at (answered_by ss m (type_of_url (url_of m))).1 t) (has_asked n t (line ∷ ls)) (sent n t (line ∷ ls)) (taken n t (line ∷ ls)) (is_pending n t (line ∷ ls))
  types_agree agree t =
      subst (λ x. Agrees (variant_of m) cluster t x (has_asked n t (line ∷ ls)) (sent n t (line ∷ ls)) (taken n t (line ∷ ls)) (is_pending n t (line ∷ ls))) (sym (session_at ss m t (type_of_url (url_of m))))
      (type_agrees t (option_map_or (λ u. is_same_type u t) (type_of_url (url_of m)) false) (is_of_by t m) (agree t))

-- ---- the stream

pub same_variant : (v w : VariantName) → not (is_same_variant v w) ≡ false → v ≡ w
same_variant variants.StateOfTheWorld variants.StateOfTheWorld is = refl
same_variant variants.StateOfTheWorld variants.Delta is = absurd cc
same_variant variants.Delta variants.StateOfTheWorld is = absurd cc
same_variant variants.Delta variants.Delta is = refl

first_agrees : (v : VariantName) (cluster : List ℕ) (n : ℕ) (ls : List Line) (t : TypeName) → IsUnheard n ls → Agrees v cluster t (at (each (unopened cluster)) t) (has_asked n t ls) (sent n t ls) (taken n t ls) (is_pending n t ls)
first_agrees v cluster n ls t unheard =
    subst (λ x. Agrees v cluster t x (has_asked n t ls) (sent n t ls) (taken n t ls) (is_pending n t ls)) (sym (at-each (unopened cluster) t))
    (subst (λ h. Agrees v cluster t (unopened cluster) h (sent n t ls) (taken n t ls) (is_pending n t ls)) (sym (unheard.asked t))
    (subst (λ r. Agrees v cluster t (unopened cluster) false r (taken n t ls) (is_pending n t ls)) (sym (unheard.sent t))
    (subst (λ q. Agrees v cluster t (unopened cluster) false [] q (is_pending n t ls)) (sym (unheard.taken t))
    (subst (λ p. Agrees v cluster t (unopened cluster) false [] [] p) (λ i name. sym (unheard.pending t name) i) (agrees_unopened v cluster t)))))

-- the stream after a request, whose sessions are these
abbrev stream_after : Message → ℕ → PerType Session → Stream
stream_after m count ss = record { variant = Some (variant_of m); count = count; sessions = ss }

cluster_first : (n : ℕ) (ls : List Line) (m : Message) → cluster_on n ls ≡ None → option_or (cluster_on n ls) (if n == n then Some (answers.cluster_of (asking_of m)) else None) ≡ Some (cluster_of m)
cluster_first n ls m none = (λ i. option_or (none i) (if itself n i then Some (same_cluster m i) else None))

cluster_kept : (o p : Option (List ℕ)) (cluster : List ℕ) → o ≡ Some cluster → option_or o p ≡ Some cluster
cluster_kept o p cluster is = ap (λ q. option_or q p) is

heard_requested : (n : ℕ) (ls : List Line) (s : Stream) (m : Message) (o : Option VariantName) → s.variant ≡ o → is_foreign s m ≡ false → IsHeard o n s ls
    → Hears (variant_of m) n (stream_after m s.count (answered_by (sessions_for s m) m (type_of_url (url_of m))).1) (lines.Request n (asking_of m) ∷ ls)
heard_requested n ls s m None variant own heard = record {
  cluster = cluster_of m;
  spoken = cluster_first n ls m heard.cluster;
  agrees = λ t.
      types_agree n ls m (cluster_of m) (sessions_for s m)
      (λ u. subst (λ (ss : PerType Session). Agrees (variant_of m) (cluster_of m) u (at ss u) (has_asked n u ls) (sent n u ls) (taken n u ls) (is_pending n u ls))
      (ap (λ v. if is_some v then s.sessions else each (unopened (cluster_of m))) (sym variant)) (first_agrees (variant_of m) (cluster_of m) n ls u heard)) t;
}
heard_requested n ls s m (Some v) variant own heard =
    let same : v ≡ variant_of m = same_variant v (variant_of m) (ap (λ x. option_map_or (λ w. not (is_same_variant w (variant_of m))) x false) (sym variant) ∙ own) in record {
      cluster = heard.cluster;
      spoken = cluster_kept (cluster_on n ls) _ heard.cluster heard.spoken;
      agrees = λ t.
          types_agree n ls m heard.cluster (sessions_for s m)
          (λ u. subst (λ (ss : PerType Session). Agrees (variant_of m) heard.cluster u (at ss u) (has_asked n u ls) (sent n u ls) (taken n u ls) (is_pending n u ls))
          (ap (λ x. if is_some x then s.sessions else each (unopened (cluster_of m))) (sym variant))
          (subst (λ w. Agrees w heard.cluster u (at s.sessions u) (has_asked n u ls) (sent n u ls) (taken n u ls) (is_pending n u ls)) same (heard.agrees u))) t;
    }

pub own_request : (foreign : Bool) (r : Result (Outcome × Stream) Refusal) (p : Outcome × Stream) → (if foreign then Err WrongVariant else r) ≡ Ok p → (foreign ≡ false) × (r ≡ Ok p)
own_request true r p is = absurd cc
own_request false r p is = (refl, is)

-- a stream that takes or ignores a request follows its line
pub follows_requested : (n : ℕ) (ls : List Line) (s : Stream) (m : Message) (p : Outcome × Stream) → requested s m ≡ Ok p → Follows n s ls → Follows n p.1 (lines.Request n (asking_of m) ∷ ls)
follows_requested n ls s m p is follows =
    let own = own_request (is_foreign s m) _ p is in
    let made = done_with (λ (q : Outcome × PerType Session). (q.0, stream_after m s.count q.1)) (answered (sessions_for s m) m) p own.1 in
    let which : made.0 ≡ answered_by (sessions_for s m) m (type_of_url (url_of m)) = unless_once (length (url_of m) == 0) BadMessage (answered_by (sessions_for s m) m (type_of_url (url_of m))) made.0 made.1 in
    subst (λ (x : Stream). Follows n x (lines.Request n (asking_of m) ∷ ls)) (sym (ap (λ (x : Outcome × Stream). x.1) made.2 ∙ ap (λ (x : Outcome × PerType Session). stream_after m s.count x.1) which))
    (record {
      counted = counted_after n (lines.Request n (asking_of m)) ls s.count (λ nonce. refl) follows.counted;
      heard = heard_requested n ls s m s.variant refl own.0 follows.heard;
    })
