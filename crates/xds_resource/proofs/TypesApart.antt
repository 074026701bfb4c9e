-- The types apart: which are the same, and what is put at one of them.
use Rattle.std.proofs.Common.{◌≡◌, ◌≢◌, ◌⊎◌, inl, inr, true, false, refl, Some}
use Rattle.xds_resource.specs.declared.types.TypeName.{TypeName}
use Rattle.xds_resource.specs.declared.types.TypeName.TheVariants.{Cluster, Endpoint, Listener, Route, Secret}
use Rattle.xds_resource.specs.Types.{is_same_type, row, type_of_word}
use Rattle.xds_resource.specs.PerType.{PerType, at, with_at, PutsAtOneType, each, per_type}

module _ {X : Type 0} where
  pub at-with_at : (p : PerType X) (t : TypeName) (x : X) → at (with_at p t x) t ≡ x
  at-with_at p Cluster x = refl
  at-with_at p Endpoint x = refl
  at-with_at p Listener x = refl
  at-with_at p Route x = refl
  at-with_at p Secret x = refl

  pub at-with_at_other : (p : PerType X) (t : TypeName) (x : X) (s : TypeName) → s ≢ t → at (with_at p t x) s ≡ at p s
  at-with_at_other p Cluster x Cluster other = absurd (other refl)
  at-with_at_other p Cluster x Endpoint other = refl
  at-with_at_other p Cluster x Listener other = refl
  at-with_at_other p Cluster x Route other = refl
  at-with_at_other p Cluster x Secret other = refl
  at-with_at_other p Endpoint x Cluster other = refl
  at-with_at_other p Endpoint x Endpoint other = absurd (other refl)
  at-with_at_other p Endpoint x Listener other = refl
  at-with_at_other p Endpoint x Route other = refl
  at-with_at_other p Endpoint x Secret other = refl
  at-with_at_other p Listener x Cluster other = refl
  at-with_at_other p Listener x Endpoint other = refl
  at-with_at_other p Listener x Listener other = absurd (other refl)
  at-with_at_other p Listener x Route other = refl
  at-with_at_other p Listener x Secret other = refl
  at-with_at_other p Route x Cluster other = refl
  at-with_at_other p Route x Endpoint other = refl
  at-with_at_other p Route x Listener other = refl
  at-with_at_other p Route x Route other = absurd (other refl)
  at-with_at_other p Route x Secret other = refl
  at-with_at_other p Secret x Cluster other = refl
  at-with_at_other p Secret x Endpoint other = refl
  at-with_at_other p Secret x Listener other = refl
  at-with_at_other p Secret x Route other = refl
  at-with_at_other p Secret x Secret other = absurd (other refl)

  pub puts_at_one_type : (p : PerType X) (t : TypeName) (x : X) → PutsAtOneType p t x
  puts_at_one_type p t x = (at-with_at p t x, at-with_at_other p t x)

  pub at-each : (x : X) (t : TypeName) → at (each x) t ≡ x
  at-each x Cluster = refl
  at-each x Endpoint = refl
  at-each x Listener = refl
  at-each x Route = refl
  at-each x Secret = refl

  -- what is made for each type is there
  pub at-per_type : (f : TypeName → X) (t : TypeName) → at (per_type f) t ≡ f t
  at-per_type f Cluster = refl
  at-per_type f Endpoint = refl
  at-per_type f Listener = refl
  at-per_type f Route = refl
  at-per_type f Secret = refl

  -- two that agree at every type are equal
  pub same_at_each_type : (p q : PerType X) → ((t : TypeName) → at p t ≡ at q t) → p ≡ q
  same_at_each_type p q agree = λ i. record { cluster = agree Cluster i; endpoint = agree Endpoint i; listener = agree Listener i; route = agree Route i; secret = agree Secret i }

-- a type is the same as itself, and as no other
pub is_same_type-same : (t : TypeName) → is_same_type t t ≡ true
is_same_type-same Cluster = refl
is_same_type-same Endpoint = refl
is_same_type-same Listener = refl
is_same_type-same Route = refl
is_same_type-same Secret = refl

pub same_type : (s t : TypeName) → ((s ≡ t) × (is_same_type s t ≡ true)) ⊎ ((s ≢ t) × (is_same_type s t ≡ false))
same_type Cluster Cluster = inl (refl, refl)
same_type Cluster Endpoint = inr ((λ e. cc), refl)
same_type Cluster Listener = inr ((λ e. cc), refl)
same_type Cluster Route = inr ((λ e. cc), refl)
same_type Cluster Secret = inr ((λ e. cc), refl)
same_type Endpoint Cluster = inr ((λ e. cc), refl)
same_type Endpoint Endpoint = inl (refl, refl)
same_type Endpoint Listener = inr ((λ e. cc), refl)
same_type Endpoint Route = inr ((λ e. cc), refl)
same_type Endpoint Secret = inr ((λ e. cc), refl)
same_type Listener Cluster = inr ((λ e. cc), refl)
same_type Listener Endpoint = inr ((λ e. cc), refl)
same_type Listener Listener = inl (refl, refl)
same_type Listener Route = inr ((λ e. cc), refl)
same_type Listener Secret = inr ((λ e. cc), refl)
same_type Route Cluster = inr ((λ e. cc), refl)
same_type Route Endpoint = inr ((λ e. cc), refl)
same_type Route Listener = inr ((λ e. cc), refl)
same_type Route Route = inl (refl, refl)
same_type Route Secret = inr ((λ e. cc), refl)
same_type Secret Cluster = inr ((λ e. cc), refl)
same_type Secret Endpoint = inr ((λ e. cc), refl)
same_type Secret Listener = inr ((λ e. cc), refl)
same_type Secret Route = inr ((λ e. cc), refl)
same_type Secret Secret = inl (refl, refl)

-- the word of a type is the word of no other
pub word_again : (t : TypeName) → type_of_word (row t).word ≡ Some t
word_again Cluster = refl
word_again Endpoint = refl
word_again Listener = refl
word_again Route = refl
word_again Secret = refl
