-- The world of a run within the one world of all runs: its replicas are replicas there, its batches the latest there.
use Rattle.std.proofs.Common.{◌≡◌, ◌≢◌, inl, inr, ℕ, zero, suc, List, [], ◌∷◌, ◌++◌, Bool, true, false, true≢false, ◌||◌, Some, None, refl, sym, ap, subst, ◌∙◌}
use Rattle.std.specs.Prelude.{◌==◌}
use Rattle.std.specs.Option.{option_and_then}
use Rattle.std.specs.List.{list_any}
use Rattle.std.specs.Ordering.{nat_cmp}
use Rattle.std.specs.Cmp.{nat_cmp_total}
use Rattle.std.specs.FinMap as finmap
use Rattle.std.specs.FinMap.{FinMap, nat_cmp-IsAntisymmetric}
use Rattle.std.proofs.lemmas.Bool.{or_right, eq-eqb}
use Rattle.xds_catalogue.proofs.Lookups.{get-inserted}
use Rattle.xds_core.specs.Stores.{Store, Batch}
use Rattle.xds_core.specs.Events.{Event, Reply}
use Rattle.xds_core.specs.Steps.{step}
use Rattle.xds_world.specs.Worlds.{Site, World, recorded, answered_at, at_site, placed}
use Rattle.xds_world.proofs.Replicas.{answered, never, some_is}

abbrev pub Sites : Type 0
Sites = FinMap nat_cmp Site

abbrev pub Pool : Type 0
Pool = List (ℕ × Batch)

-- the clients of a world, with other replicas and batches
abbrev pub wide : World → Sites → Pool → World
wide w sites pool = record { sites = sites; peers = w.peers; pool = pool }

abbrev pub is_among : ℕ → List ℕ → Bool
is_among r taken = list_any (λ q. q == r) taken

-- A run's replicas and batches, `own` and `batches`, within those of the one world. There the store is a replica, too, which no run has.
pub record Within (store : ℕ) (taken : List ℕ) (stored : Store) (own : Sites) (batches : Pool) (sites : Sites) (pool : Pool) : Type 0 where
  pub here : (r : ℕ) (s : Site) → finmap.get own r ≡ Some s → finmap.get sites r ≡ Some s
  pub apart : finmap.get own store ≡ None
  pub among : (r : ℕ) (s : Site) → finmap.get sites r ≡ Some s → is_among r taken ≡ true
  pub earlier : Pool
  pub later : pool ≡ earlier ++ batches
  pub keeper : Site
  pub keeps : finmap.get sites store ≡ Some keeper
  pub holds : keeper.core.store ≡ stored

-- ---- look-ups

pub got : {X : Type 0} (m : FinMap nat_cmp X) (r : ℕ) (x : X) → finmap.get (finmap.insert m r x) r ≡ Some x
got m r x =
    elim (get-inserted nat_cmp_total nat_cmp-IsAntisymmetric m r x r) [
      | inl same ↦ same.1
      | inr other ↦ absurd (other.0 refl)
    ]

pub passed : {X : Type 0} (m : FinMap nat_cmp X) (r : ℕ) (x : X) (q : ℕ) → r ≢ q → finmap.get (finmap.insert m r x) q ≡ finmap.get m q
passed m r x q other =
    elim (get-inserted nat_cmp_total nat_cmp-IsAntisymmetric m r x q) [
      | inl same ↦ absurd (other same.0)
      | inr apart ↦ apart.1
    ]

-- what stands where something does, and where nothing does, stands at two places
pub two_places : {X : Type 0} (m : FinMap nat_cmp X) (r q : ℕ) (x : X) → finmap.get m r ≡ Some x → finmap.get m q ≡ None → r ≢ q
two_places m r q x there none same = never x (sym none ∙ ap (finmap.get m) (sym same) ∙ there)

-- ---- one replica changed

module _ (store : ℕ) (taken : List ℕ) (stored : Store) where
  -- one of the run
  pub changed_within : (own sites : Sites) (batches pool : Pool) (r : ℕ) (old site : Site) → finmap.get own r ≡ Some old → Within store taken stored own batches sites pool
      → Within store taken stored (finmap.insert own r site) batches (finmap.insert sites r site) pool
  changed_within own sites batches pool r old site has x =
      let other : r ≢ store = two_places own r store old has x.apart in
      record {
        here = λ q s is.
            elim (get-inserted nat_cmp_total nat_cmp-IsAntisymmetric own r site q) [
              | inl same ↦ subst (λ n. finmap.get (finmap.insert sites r site) n ≡ Some s) same.0 (got sites r site ∙ sym same.1 ∙ is)
              | inr apart ↦ passed sites r site q apart.0 ∙ x.here q s (sym apart.1 ∙ is)
            ];
        apart = passed own r site store other ∙ x.apart;
        among = λ q s is.
            elim (get-inserted nat_cmp_total nat_cmp-IsAntisymmetric sites r site q) [
              | inl same ↦ subst (λ n. is_among n taken ≡ true) same.0 (x.among r old (x.here r old has))
              | inr apart ↦ x.among q s (sym apart.1 ∙ is)
            ];
        earlier = x.earlier;
        later = x.later;
        keeper = x.keeper;
        keeps = passed sites r site store other ∙ x.keeps;
        holds = x.holds;
      }

  -- the store where another replica than it may be changed, but not in what it holds
  still_kept : (sites : Sites) (r : ℕ) (old site keeper : Site) → finmap.get sites r ≡ Some old → site.core.store ≡ old.core.store → finmap.get sites store ≡ Some keeper → keeper.core.store ≡ stored
      → (now : Site) × (finmap.get (finmap.insert sites r site) store ≡ Some now) × (now.core.store ≡ stored)
  still_kept sites r old site keeper has same keeps holds =
      elim (get-inserted nat_cmp_total nat_cmp-IsAntisymmetric sites r site store) [
        | inl here ↦ (site, here.1, same ∙ ap (λ (s : Site). s.core.store) (some_is old keeper (sym has ∙ ap (finmap.get sites) here.0 ∙ keeps)) ∙ holds)
        | inr apart ↦ (keeper, apart.1 ∙ keeps, holds)
      ]

  -- one of an earlier run, but not in what it holds
  pub ended_within : (own sites : Sites) (batches pool : Pool) (r : ℕ) (old site : Site) → finmap.get own r ≡ None → finmap.get sites r ≡ Some old → site.core.store ≡ old.core.store → Within store taken stored own batches sites pool
      → Within store taken stored own batches (finmap.insert sites r site) pool
  ended_within own sites batches pool r old site none has same x =
      let kept = still_kept sites r old site x.keeper has same x.keeps x.holds in
      record {
        here = λ q s is. passed sites r site q (λ e. two_places own q r s is none (sym e)) ∙ x.here q s is;
        apart = x.apart;
        among = λ q s is.
            elim (get-inserted nat_cmp_total nat_cmp-IsAntisymmetric sites r site q) [
              | inl here ↦ subst (λ n. is_among n taken ≡ true) here.0 (x.among r old has)
              | inr apart ↦ x.among q s (sym apart.1 ∙ is)
            ];
        earlier = x.earlier;
        later = x.later;
        keeper = kept.0;
        keeps = kept.1;
        holds = kept.2;
      }

  -- the store, which then holds this
  pub keeper_within : (now : Store) (own sites : Sites) (batches pool : Pool) (site : Site) → site.core.store ≡ now → Within store taken stored own batches sites pool
      → Within store taken now own batches (finmap.insert sites store site) pool
  keeper_within now own sites batches pool site holds x = record {
    here = λ q s is. passed sites store site q (λ e. two_places own q store s is x.apart (sym e)) ∙ x.here q s is;
    apart = x.apart;
    among = λ q s is.
        elim (get-inserted nat_cmp_total nat_cmp-IsAntisymmetric sites store site q) [
          | inl here ↦ subst (λ n. is_among n taken ≡ true) here.0 (x.among store x.keeper x.keeps)
          | inr apart ↦ x.among q s (sym apart.1 ∙ is)
        ];
    earlier = x.earlier;
    later = x.later;
    keeper = site;
    keeps = got sites store site;
    holds = holds;
  }

  -- a replica that comes to the run
  pub added_within : (own sites : Sites) (batches pool : Pool) (r : ℕ) (site : Site) → is_among r taken ≡ false → Within store taken stored own batches sites pool
      → Within store (r ∷ taken) stored (finmap.insert own r site) batches (finmap.insert sites r site) pool
  added_within own sites batches pool r site new x =
      let other : r ≢ store = λ e. true≢false (sym (x.among store x.keeper x.keeps) ∙ ap (λ n. is_among n taken) (sym e) ∙ new) in
      record {
        here = λ q s is.
            elim (get-inserted nat_cmp_total nat_cmp-IsAntisymmetric own r site q) [
              | inl same ↦ subst (λ n. finmap.get (finmap.insert sites r site) n ≡ Some s) same.0 (got sites r site ∙ sym same.1 ∙ is)
              | inr apart ↦ passed sites r site q apart.0 ∙ x.here q s (sym apart.1 ∙ is)
            ];
        apart = passed own r site store other ∙ x.apart;
        among = λ q s is.
            elim (get-inserted nat_cmp_total nat_cmp-IsAntisymmetric sites r site q) [
              | inl same ↦ ap (λ n. (r == n) || is_among n taken) (sym same.0) ∙ ap (λ b. b || is_among r taken) (eq-eqb r r refl)
              | inr apart ↦ or_right (r == q) (is_among q taken) (x.among q s (sym apart.1 ∙ is))
            ];
        earlier = x.earlier;
        later = x.later;
        keeper = x.keeper;
        keeps = passed sites r site store other ∙ x.keeps;
        holds = x.holds;
      }

  -- ---- events of replicas of the run

  -- a replica of the run answers in the one world what it answers in the run
  pub record AnswersThere (w : World) (sites : Sites) (pool : Pool) (r : ℕ) (e : Event) (p : Reply × World) : Type 0 where
    pub after : Sites
    pub answers : at_site (wide w sites pool) r e ≡ Some (p.0, wide p.1 after pool)
    pub inside : Within store taken stored p.1.sites p.1.pool after pool

  pub answers_there : (w : World) (sites : Sites) (pool : Pool) (r : ℕ) (e : Event) (p : Reply × World) → at_site w r e ≡ Some p → Within store taken stored w.sites w.pool sites pool → AnswersThere w sites pool r e p
  answers_there w sites pool r e p is x =
      let made = answered w r e p is in
      subst (AnswersThere w sites pool r e) (sym made.4) (record {
        after = finmap.insert sites r (recorded made.0 e made.1);
        answers = ap (option_and_then (λ s. answered_at (wide w sites pool) r s e (step s.core e))) (x.here r made.0 made.2) ∙ ap (answered_at (wide w sites pool) r made.0 e) made.3;
        inside = changed_within w.sites sites w.pool pool r made.0 (recorded made.0 e made.1) made.2 x;
      })

-- ---- batches

-- the place of what has the place k + 1 behind these
pub more : {X : Type 0} → List X → ℕ → ℕ
more [] k = k
more (x ∷ xs) k = suc (more xs k)

pub placed_behind : {X : Type 0} (xs ys : List X) (k : ℕ) → placed (xs ++ ys) (suc (more xs k)) ≡ placed ys (suc k)
unfolding more
placed_behind [] ys k = refl
placed_behind (x ∷ xs) ys k = placed_behind xs ys k

pub none_at_zero : {X : Type 0} (xs : List X) → placed xs zero ≡ None
none_at_zero [] = refl
none_at_zero (x ∷ xs) = refl
