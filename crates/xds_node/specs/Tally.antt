-- The rule over all tokens of a node, what the keeper knows by it, and what each step of a token does. This project's own.
--     IsIdle                           only a keeper knows records, and only a seat is told any
--     StandsIn                         some token has the entry in this list of its own
--     Covers                           over all tokens one list weighs what another weighs
--     BeginsIn                         some token knows that this was cut first
--     Balanced                         there is one keeper, each seat made is a seat of some token
--     IsPartOf                         what the keeper knows of one of its lists, and of what was given of it
--     Known                            what the keeper knows of all tokens
--     Rule                             the tokens of a node are balanced
--     AppendsSaid                      how a token is left that tells an entry, where one is said
--     Appends                          the step that tells an entry
--     NotesSaid                        how a token is left that notes a refusal, where one is said
--     Notes                            the step that notes a refusal
--     Sits                             the step that makes a seat
--     Cuts                             the step that cuts the journal
--     Looks                            the step that changes nothing and learns what the keeper knows
use Rattle.std.specs.Prelude.{◌≡◌, ℕ, ◌≤◌, List, [], length, All, Contains}
use mathlib.Core.Option.{Option, none, some}
use lib.ListN.{get_elem?}
use Rattle.atomic_table.specs.Table.{State, Me, Step}
use Rattle.xds_node.specs.declared.node.holding.TokenHolding.{TokenHolding}
use Rattle.xds_node.specs.Entries.{weigh, SameEach, IsBeginning}
use Rattle.xds_node.specs.Holdings.{recorded, with_entry, with_refused, with_seat, after_cut}

module _ {E : Type 0} where
  -- rule: one-seat
  -- only a keeper knows records, and only a seat is told any
  pub record IsIdle (v : TokenHolding E) : Type 0 where
    pub apart : v.keepers ≡ 0 → (v.made ≡ 0) × (v.cut ≡ []) × (v.journal ≡ [])
    pub silent : v.seats ≡ 0 → v.told ≡ []

  -- rule: one-seat
  -- some token has the entry in this list of its own
  abbrev pub StandsIn : (TokenHolding E → List (ℕ × E)) → List (TokenHolding E) → ℕ × E → Type 0
  StandsIn list views e = (i : ℕ) × (v : TokenHolding E) × (get_elem? views i ≡ some v) × Contains (list v) e

  -- rule: one-seat
  -- over all tokens one list weighs what another weighs, and each entry of the one stands in the other
  pub record Covers (known given : TokenHolding E → List (ℕ × E)) (views : List (TokenHolding E)) : Type 0 where
    pub same : (h : ℕ × E → ℕ) → weigh (λ v. weigh h (given v)) views ≡ weigh (λ v. weigh h (known v)) views
    pub stands : (i : ℕ) (v : TokenHolding E) → get_elem? views i ≡ some v → All (StandsIn known views) (given v)

  -- some token knows that this was cut first
  abbrev pub BeginsIn : List (TokenHolding E) → List (ℕ × E) → Type 0
  BeginsIn views past = (i : ℕ) × (v : TokenHolding E) × (get_elem? views i ≡ some v) × IsBeginning past v.cut

  -- rule: one-seat
  -- there is one keeper, each seat made is a seat of some token, what all were told is what the keeper recorded, what all share is what
  -- it cut, and what was cut before a share is what it cut first
  pub record Balanced (views : List (TokenHolding E)) : Type 0 where
    pub one : weigh (λ v. v.keepers) views ≡ 1
    pub seats : weigh (λ v. v.seats) views ≡ weigh (λ v. v.made) views
    pub told : Covers recorded (λ v. v.told) views
    pub share : Covers (λ v. v.cut) (λ v. v.share) views
    pub pasts : (i : ℕ) (v : TokenHolding E) → get_elem? views i ≡ some v → All (BeginsIn views) v.pasts
    pub idle : (i : ℕ) (v : TokenHolding E) → get_elem? views i ≡ some v → IsIdle v

  -- rule: one-seat
  -- what the keeper knows of one of its lists, and of what was given of it: no more was given, each entry that was given stands there, and where all was given, it is the same
  pub record IsPartOf (given known : List (ℕ × E)) (all : Type 0) : Type 0 where
    pub most : (h : ℕ × E → ℕ) → weigh h given ≤ weigh h known
    pub stands : All (Contains known) given
    pub whole : all → SameEach given known

  -- rule: one-seat
  -- what the keeper knows of all tokens: what it was told is part of what is recorded, and all of it where it has every seat;
  -- what it shares is part of what was cut, and all of it where it shares as many entries; what was cut before each of its shares is
  -- what was cut first
  pub record Known (v : TokenHolding E) : Type 0 where
    pub told : IsPartOf v.told (recorded v) (v.seats ≡ v.made)
    pub share : IsPartOf v.share v.cut (length v.share ≡ length v.cut)
    pub pasts : All (λ past. IsBeginning past v.cut) v.pasts

  abbrev pub Rule : State E (TokenHolding E) → Type 0
  Rule s = Balanced s.views

  abbrev pub AppendsSaid : Option E → ℕ → Me E (TokenHolding E) → Me E (TokenHolding E) → Type 0
  AppendsSaid none n m w = Unit {0}
  AppendsSaid (some e) n m w = w ≡ (with_entry n e m.0, m.1)

  abbrev pub Appends : Step E → Me E (TokenHolding E) → ℕ → Me E (TokenHolding E) → Type 0
  Appends s m n w = AppendsSaid s.said s.first m w

  abbrev pub NotesSaid : Option E → Me E (TokenHolding E) → Me E (TokenHolding E) → Type 0
  NotesSaid none m w = Unit {0}
  NotesSaid (some e) m w = w ≡ (with_refused e m.0, m.1)

  abbrev pub Notes : Step E → Me E (TokenHolding E) → ℕ → Me E (TokenHolding E) → Type 0
  Notes s m n w = NotesSaid s.said m w

  abbrev pub Sits : Step E → Me E (TokenHolding E) → ℕ → Me E (TokenHolding E) → Type 0
  Sits s m n w = w ≡ (with_seat m.0, m.1)

  abbrev pub Cuts : Step E → Me E (TokenHolding E) → ℕ → Me E (TokenHolding E) → Type 0
  Cuts s m n w = w ≡ (after_cut m.0, m.1)

  abbrev pub Looks : Step E → Me E (TokenHolding E) → ℕ → Me E (TokenHolding E) → Type 0
  Looks s m n w = (w ≡ m) × Known m.0
