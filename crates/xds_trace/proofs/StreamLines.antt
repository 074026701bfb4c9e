-- What the lines of a trace say of a stream, beside what a replica keeps of it; and what lines change that are of the stream, or
-- aren't.
use Rattle.std.proofs.Common.{◌≡◌, ◌≢◌, inl, inr, ℕ, ◌<◌, ◌≤◌, List, [], ◌∷◌, Bool, true, false, ◌||◌, ◌&&◌, Option, Some, None, refl, sym, ap, subst, ◌∙◌}
use Rattle.std.specs.Prelude.{if◌then◌else◌, ◌==◌, bytes_eq, decimal}
use Rattle.std.specs.Option.{option_or}
use Rattle.std.proofs.lemmas.Bool.{ne_eqb}
use Rattle.std.proofs.lemmas.Bool.Decides.{eqb_tells}
use Rattle.xds_resource.specs.declared.types.TypeName.{TypeName}
use Rattle.xds_resource.specs.declared.any.AnyWrite.{AnyWrite}
use Rattle.xds_resource.specs.PerType.{at}
use Rattle.xds_resource.specs.Stamps.{max_counter}
use Rattle.xds_resource.specs.Types.{is_same_type}
use Rattle.xds_interest.specs.Interests.{in_cluster}
use Rattle.xds_interest.specs.SotW.{sotw_interest}
use Rattle.xds_interest.specs.Delta.{Mention}
use Rattle.xds_interest.specs.Asked.{Asked, sotw_kept, delta_kept}
use Rattle.xds_ledger.specs.declared.variant.VariantName.{VariantName}
use Rattle.xds_ledger.specs.declared.variant.VariantName.TheVariants as variants
use Rattle.xds_ledger.specs.Sessions.{Session}
use Rattle.xds_core.specs.Streams.{Stream}
use Rattle.xds_check.specs.declared.asking.Asking.{Asking}
use Rattle.xds_check.specs.declared.line.Line.{Line}
use Rattle.xds_check.specs.declared.line.Line.TheVariants as lines
use Rattle.xds_check.specs.Answers.{Answer, is_of, cluster_of}
use Rattle.xds_check.specs.Lines.{Turn, Asks, Answers, Nothing, turn, is_asking, has_asked, sent, sent_after, taken, taken_after, is_pending, pending_after, cluster_at, cluster_on, is_used, has_nonce, interest_of, lists, mentions}
use Rattle.xds_trace.proofs.Agreeing.{HasAsked, Agrees}

-- ---- what is kept

-- the lines say nothing of requests and responses on a stream
pub record IsUnheard (n : ℕ) (ls : List Line) : Type 0 where
  pub asked : (t : TypeName) → has_asked n t ls ≡ false
  pub sent : (t : TypeName) → sent n t ls ≡ []
  pub taken : (t : TypeName) → taken n t ls ≡ []
  pub pending : (t : TypeName) (name : List ℕ) → is_pending n t ls name ≡ false
  pub cluster : cluster_on n ls ≡ None

-- the lines say of a stream, and of each type on it, what its sessions are
pub record Hears (v : VariantName) (n : ℕ) (s : Stream) (ls : List Line) : Type 0 where
  pub cluster : List ℕ
  pub spoken : cluster_on n ls ≡ Some cluster
  pub agrees : (t : TypeName) → Agrees v cluster t (at s.sessions t) (has_asked n t ls) (sent n t ls) (taken n t ls) (is_pending n t ls)

-- a stream whose first request didn't come yet, or whose sessions agree
abbrev pub IsHeard : Option VariantName → ℕ → Stream → List Line → Type 0
IsHeard None n s ls = IsUnheard n ls
IsHeard (Some v) n s ls = Hears v n s ls

-- nonces are used in their order
pub record IsCounted (n : ℕ) (count : ℕ) (ls : List Line) : Type 0 where
  pub within : count ≤ max_counter
  pub unused : (k : ℕ) → count < k → k ≤ max_counter → is_used n ls (decimal k) ≡ false

pub record Follows (n : ℕ) (s : Stream) (ls : List Line) : Type 0 where
  pub counted : IsCounted n s.count ls
  pub heard : IsHeard s.variant n s ls

-- no line is of the stream
pub record IsNew (n : ℕ) (ls : List Line) : Type 0 where
  pub unheard : IsUnheard n ls
  pub unused : (nonce : List ℕ) → is_used n ls nonce ≡ false

-- ---- lines that say nothing of a stream

pub record IsSilent (n : ℕ) (l : Line) : Type 0 where
  pub turns : (t : TypeName) → turn n t l ≡ Nothing
  pub cluster : cluster_at n l ≡ None
  pub nonce : (nonce : List ℕ) → has_nonce n nonce l ≡ false

pub of_another : (r n : ℕ) → r ≢ n → (r == n) ≡ false
of_another r n other = ne_eqb r n other

pub itself : (n : ℕ) → (n == n) ≡ true
itself n = elim (eqb_tells n n) [ inl same ↦ same.0 | inr other ↦ absurd (other.1 refl) ]

pub silent_request : (r n : ℕ) (m : Asking) → r ≢ n → IsSilent n (lines.Request r m)
silent_request r n m other = record {
  turns = λ t. ap (λ b. if b && is_of t m then Asks m else Nothing) (of_another r n other);
  cluster = ap (λ b. if b then Some (cluster_of m) else None) (of_another r n other);
  nonce = λ nonce. refl;
}

pub silent_response : (r n : ℕ) (a : Answer) → r ≢ n → IsSilent n (lines.Response r a)
silent_response r n a other = record {
  turns = λ t. ap (λ b. if b && is_same_type a.kind t then Answers a else Nothing) (of_another r n other);
  cluster = refl;
  nonce = λ nonce. ap (λ b. b && bytes_eq a.nonce nonce) (of_another r n other);
}

pub silent_write : (n : ℕ) (w : AnyWrite) → IsSilent n (lines.Write w)
silent_write n w = record { turns = λ t. refl; cluster = refl; nonce = λ nonce. refl }

pub silent_open : (n r : ℕ) → IsSilent n (lines.Open r)
silent_open n r = record { turns = λ t. refl; cluster = refl; nonce = λ nonce. refl }

pub silent_close : (n r : ℕ) → IsSilent n (lines.Close r)
silent_close n r = record { turns = λ t. refl; cluster = refl; nonce = λ nonce. refl }

pub silent_idle : (n r : ℕ) (t : TypeName) → IsSilent n (lines.Idle r t)
silent_idle n r u = record { turns = λ t. refl; cluster = refl; nonce = λ nonce. refl }

cluster_or : (o p : Option (List ℕ)) → p ≡ None → option_or o p ≡ o
cluster_or None p none = none
cluster_or (Some c) p none = refl

module _ (n : ℕ) (l : Line) (ls : List Line) where
  -- what is said of a type after a line, from the line's turn
  abbrev pub AgreesAfter : VariantName → List ℕ → TypeName → Session → Turn → Type 0
  AgreesAfter v cluster t x turned =
      Agrees v cluster t x (is_asking turned || has_asked n t ls) (sent_after ls (has_asked n t ls) turned (sent n t ls)) (taken_after (has_asked n t ls) (sent n t ls) turned (taken n t ls))
      (λ name. pending_after n t ls turned name (is_pending n t ls name))

  pub agrees_after : (v : VariantName) (cluster : List ℕ) (t : TypeName) (x : Session) (turned : Turn) → turn n t l ≡ turned → AgreesAfter v cluster t x turned
      → Agrees v cluster t x (has_asked n t (l ∷ ls)) (sent n t (l ∷ ls)) (taken n t (l ∷ ls)) (is_pending n t (l ∷ ls))
  agrees_after v cluster t x turned is agrees = subst (AgreesAfter v cluster t x) (sym is) agrees

  pub unheard_after : IsSilent n l → IsUnheard n ls → IsUnheard n (l ∷ ls)
  unheard_after silent unheard = record {
    asked = λ t. ap (λ u. is_asking u || has_asked n t ls) (silent.turns t) ∙ unheard.asked t;
    sent = λ t. ap (λ u. sent_after ls (has_asked n t ls) u (sent n t ls)) (silent.turns t) ∙ unheard.sent t;
    taken = λ t. ap (λ u. taken_after (has_asked n t ls) (sent n t ls) u (taken n t ls)) (silent.turns t) ∙ unheard.taken t;
    pending = λ t name. ap (λ u. pending_after n t ls u name (is_pending n t ls name)) (silent.turns t) ∙ unheard.pending t name;
    cluster = cluster_or (cluster_on n ls) (cluster_at n l) silent.cluster ∙ unheard.cluster;
  }

  pub hears_after : (v : VariantName) (s : Stream) → IsSilent n l → Hears v n s ls → Hears v n s (l ∷ ls)
  hears_after v s silent hears = record {
    cluster = hears.cluster;
    spoken = cluster_or (cluster_on n ls) (cluster_at n l) silent.cluster ∙ hears.spoken;
    agrees = λ t. agrees_after v hears.cluster t (at s.sessions t) Nothing (silent.turns t) (hears.agrees t);
  }

  heard_by : (v : Option VariantName) (s : Stream) → IsSilent n l → IsHeard v n s ls → IsHeard v n s (l ∷ ls)
  heard_by None s silent heard = unheard_after silent heard
  heard_by (Some v) s silent heard = hears_after v s silent heard

  used_after : (nonce : List ℕ) (used : Bool) → has_nonce n nonce l ≡ false → is_used n ls nonce ≡ used → is_used n (l ∷ ls) nonce ≡ used
  used_after nonce used none is = ap (λ b. b || is_used n ls nonce) none ∙ is

  pub counted_after : (count : ℕ) → ((nonce : List ℕ) → has_nonce n nonce l ≡ false) → IsCounted n count ls → IsCounted n count (l ∷ ls)
  counted_after count none counted = record { within = counted.within; unused = λ k above below. used_after (decimal k) false (none (decimal k)) (counted.unused k above below) }

  -- a line that is silent of a stream changes nothing of it
  pub follows_after : (s : Stream) → IsSilent n l → Follows n s ls → Follows n s (l ∷ ls)
  follows_after s silent follows = record { counted = counted_after s.count silent.nonce follows.counted; heard = heard_by s.variant s silent follows.heard }

  pub new_after : IsSilent n l → IsNew n ls → IsNew n (l ∷ ls)
  new_after silent new = record { unheard = unheard_after silent new.unheard; unused = λ nonce. used_after nonce false (silent.nonce nonce) (new.unused nonce) }

-- ---- interests

sotw_kept_interest : (t : TypeName) (cluster : List ℕ) (ls : List (List (List ℕ))) → (sotw_kept t cluster ls).interest ≡ in_cluster cluster (sotw_interest t ls)
sotw_kept_interest t cluster [] = refl
sotw_kept_interest t cluster (l ∷ ls) = refl

delta_kept_interest : (t : TypeName) (cluster : List ℕ) (qs : List Asking) (ms : List Mention) → lists qs ≡ [] → (delta_kept t cluster ms).interest ≡ in_cluster cluster (interest_of t qs ms)
delta_kept_interest t cluster qs [] none = ap (λ l. in_cluster cluster (sotw_interest t l)) (sym none)
delta_kept_interest t cluster qs (m ∷ ms) none = refl

-- the interest that is kept is that of the requests
pub interest_kept : (v : VariantName) (t : TypeName) (cluster : List ℕ) (a : Asked) (qs : List Asking) → HasAsked v t cluster a qs → a.interest ≡ in_cluster cluster (interest_of t qs (mentions qs))
interest_kept variants.StateOfTheWorld t cluster a qs asked = ap (λ (x : Asked). x.interest) asked.0 ∙ sotw_kept_interest t cluster (lists qs) ∙ ap (λ ms. in_cluster cluster (interest_of t qs ms)) (sym asked.1)
interest_kept variants.Delta t cluster a qs asked = ap (λ (x : Asked). x.interest) asked.0 ∙ delta_kept_interest t cluster qs (mentions qs) asked.1
