-- What a client that polls keeps of each type: what a change and an answer leave of it.
use Rattle.std.proofs.Common.{◌≡◌, ◌≢◌, ◌⊎◌, inl, inr, ℕ, List, Bool, true, false, Option, Some, None, Ok, Err, refl, sym, ap, subst, ◌∙◌}
use Rattle.std.specs.Prelude.{if◌then◌else◌}
use Rattle.std.specs.Option.{option_map_or}
use Rattle.std.specs.FinMap as finmap
use Rattle.xds_resource.specs.declared.types.TypeName.{TypeName}
use Rattle.xds_resource.specs.declared.refusal.Refusal.TheVariants.{BadMessage}
use Rattle.xds_resource.specs.Types.{is_same_type}
use Rattle.xds_resource.specs.PerType.{at, with_at}
use Rattle.xds_resource.proofs.TypesApart.{same_type, at-with_at, at-with_at_other}
use Rattle.xds_message.specs.Drafts.{Drafted, message_of}
use Rattle.xds_cache.specs.Shelves.{Wants, Shelf}
use Rattle.xds_cache.specs.Faults.{Test}
use Rattle.xds_cache.specs.Deliveries.{Delivery, sotw_delivery, fault_in, statements}
use Rattle.xds_cache.specs.Clients.{Client, shelf, with_shelf}
use Rattle.xds_cache.specs.Rest.{forgetting, rest_changed, rest_taking, rest_delivered, rest_answered}
use Rattle.xds_cache.proofs.Interests.{holds_what_is_wanted}
use Rattle.xds_script.specs.declared.event.AnswerFate.{AnswerFate}
use Rattle.xds_script.specs.declared.event.AnswerFate.TheVariants.{Arrives, Lost}
use Rattle.xds_world.specs.Worlds.{client_in, answer_taken}
use Rattle.xds_world.proofs.Replicas.{some_is, never}
use Rattle.xds_world.proofs.Lanes.{IsWithin}

-- what holds of one shelf that is put, and of all others, holds of all
pub each_shelf : (P : TypeName → Shelf → Type 0) (c : Client) (s : TypeName) (f : Shelf) → P s f → ((t : TypeName) → P t (shelf c t)) → (t : TypeName) → P t (shelf (with_shelf c s f) t)
each_shelf P c s f here there t = by_type (same_type s t)
  where
    by_type : ((s ≡ t) × (is_same_type s t ≡ true)) ⊎ ((s ≢ t) × (is_same_type s t ≡ false)) → P t (shelf (with_shelf c s f) t)
    by_type (inl same) = subst (λ r. P r (at (with_at c.shelves s f) r)) same.0 (subst (P s) (sym (at-with_at c.shelves s f)) here)
    by_type (inr other) = subst (P t) (sym (at-with_at_other c.shelves s f t (λ e. other.0 (sym e)))) (there t)

-- ---- a change

pub rests_forgotten : (c : Client) (s : TypeName) (w : Wants) → ((t : TypeName) → IsWithin t (shelf c t)) → (t : TypeName) → IsWithin t (shelf (rest_changed s w c) t)
rests_forgotten c s w rests = each_shelf IsWithin c s (forgetting s w (shelf c s)) (λ name unwanted. (holds_what_is_wanted s w false finmap.empty finmap.empty (shelf c s).cache name unwanted).1) rests

-- ---- an answer

pub left_if : {X : Type 0} (b : Bool) (y : Client × X) (x : Client) → client_in {X = X} (if b then Ok y else Err BadMessage) ≡ Some x → x ≡ y.0
left_if true y x is = sym (some_is y.0 x is)
left_if false y x is = absurd (never x is)

-- what an answer leaves: nothing changed, or the shelf of its type after it
pub answer_leaves : (test : Test) (answer : AnswerFate) (c : Client) (t : TypeName) (o : Option Drafted) (x : Client) → answer_taken test answer c t o ≡ Some x
    → (x ≡ c) ⊎ ((d : Drafted) × (o ≡ Some d) × (answer ≡ Arrives) × (x ≡ with_shelf c t (rest_delivered t test (shelf c t) (sotw_delivery t (message_of d)))))
answer_leaves test Lost c t o x is = inl (sym (some_is c x is))
answer_leaves test Arrives c t None x is = inl (left_if _ _ x is)
answer_leaves test Arrives c t (Some d) x is = inr (d, refl, refl, left_if _ (rest_answered test c t (message_of d)) x is)

rests_by : (t : TypeName) (f : Shelf) (d : Delivery) (fault : Option (List ℕ)) → IsWithin t f → IsWithin t (option_map_or (λ x. f) fault (rest_taking t f d))
rests_by t f d None rests = λ name unwanted. (holds_what_is_wanted t f.wants d.whole d.removed (statements t d) f.cache name unwanted).0
rests_by t f d (Some x) rests = rests

pub rests_answered : (test : Test) (answer : AnswerFate) (c : Client) (t : TypeName) (o : Option Drafted) (x : Client) → answer_taken test answer c t o ≡ Some x → ((u : TypeName) → IsWithin u (shelf c u)) → (u : TypeName) → IsWithin u (shelf x u)
rests_answered test answer c t o x is rests u = by_what (answer_leaves test answer c t o x is)
  where
    by_what : (x ≡ c) ⊎ ((d : Drafted) × (o ≡ Some d) × (answer ≡ Arrives) × (x ≡ with_shelf c t (rest_delivered t test (shelf c t) (sotw_delivery t (message_of d))))) → IsWithin u (shelf x u)
    by_what (inl same) = subst (λ y. IsWithin u (shelf y u)) (sym same) (rests u)
    by_what (inr made) =
        let d : Delivery = sotw_delivery t (message_of made.0) in
        subst (λ y. IsWithin u (shelf y u)) (sym made.3) (each_shelf IsWithin c t (rest_delivered t test (shelf c t) d) (rests_by t (shelf c t) d (fault_in t test d) (rests t)) rests u)

-- the client is of the same cluster and use, and wants what it wanted
wants_by : (t : TypeName) (f : Shelf) (d : Delivery) (fault : Option (List ℕ)) → (option_map_or (λ x. f) fault (rest_taking t f d)).wants ≡ f.wants
wants_by t f d None = refl
wants_by t f d (Some x) = refl

pub record Answers (c x : Client) : Type 0 where
  pub cluster : x.cluster ≡ c.cluster
  pub broken : x.broken ≡ c.broken
  pub wants : (u : TypeName) → (shelf x u).wants ≡ (shelf c u).wants

answers_same : (c x : Client) → x ≡ c → Answers c x
answers_same c x same = record { cluster = ap (λ (y : Client). y.cluster) same; broken = ap (λ (y : Client). y.broken) same; wants = λ u. ap (λ (y : Client). (shelf y u).wants) same }

pub answers_stay : (test : Test) (answer : AnswerFate) (c : Client) (t : TypeName) (o : Option Drafted) (x : Client) → answer_taken test answer c t o ≡ Some x → Answers c x
answers_stay test answer c t o x is = by_what (answer_leaves test answer c t o x is)
  where
    by_what : (x ≡ c) ⊎ ((d : Drafted) × (o ≡ Some d) × (answer ≡ Arrives) × (x ≡ with_shelf c t (rest_delivered t test (shelf c t) (sotw_delivery t (message_of d))))) → Answers c x
    by_what (inl same) = answers_same c x same
    by_what (inr made) =
        let d : Delivery = sotw_delivery t (message_of made.0) in
        let wants : (u : TypeName) → (shelf (with_shelf c t (rest_delivered t test (shelf c t) d)) u).wants ≡ (shelf c u).wants =
        each_shelf (λ u f. f.wants ≡ (shelf c u).wants) c t (rest_delivered t test (shelf c t) d) (wants_by t (shelf c t) d (fault_in t test d)) (λ u. refl) in
        record { cluster = ap (λ (y : Client). y.cluster) made.3; broken = ap (λ (y : Client). y.broken) made.3; wants = λ u. ap (λ (y : Client). (shelf y u).wants) made.3 ∙ wants u }
