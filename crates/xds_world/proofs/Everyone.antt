-- What is kept of all clients of a world and of the streams that they are linked by, whatever happens.
use Rattle.std.proofs.Common.{◌≡◌, ◌≢◌, ◌⊎◌, inl, inr, ℕ, List, false, Option, Some, None, Ok, refl, sym, ap, subst, ◌∙◌}
use Rattle.std.specs.Option.{option_and_then}
use Rattle.std.specs.Cmp.{nat_cmp_total}
use Rattle.std.specs.FinMap as finmap
use Rattle.std.specs.FinMap.{nat_cmp-IsAntisymmetric}
use Rattle.xds_resource.specs.declared.types.TypeName.{TypeName}
use Rattle.xds_catalogue.proofs.Lookups.{get-inserted}
use Rattle.xds_core.specs.Laws.{stream_changed}
use Rattle.xds_core.specs.Streams.{Stream}
use Rattle.xds_core.specs.Events.{Event, Reply}
use Rattle.xds_core.specs.Steps.{Core, step}
use Rattle.xds_core.specs.Legal.{left_by}
use Rattle.xds_core.proofs.StepLaws.{streams_stand_apart}
use Rattle.xds_cache.specs.Clients.{shelf}
use Rattle.xds_world.specs.Worlds.{Site, Link, Peer, World, recorded, at_site}
use Rattle.xds_world.specs.Knows.{TypedWrite}
use Rattle.xds_world.proofs.Replicas.{answered, some_is}
use Rattle.xds_world.proofs.ByKind.{LinkedTo, RestsAs}
use Rattle.xds_world.proofs.CoreSteps.{IsCounted, step_counted}

-- ---- streams of a world

-- the open stream of a number at a replica
abbrev pub stream_at : World → ℕ → ℕ → Option Stream
stream_at w r n = option_and_then (λ s. finmap.get s.core.streams n) (finmap.get w.sites r)

abbrev pub AllCounted : World → Type 0
AllCounted w = (r : ℕ) (s : Site) → finmap.get w.sites r ≡ Some s → IsCounted s.core

-- what an event of a replica does to streams
pub record AtSite (w : World) (r : ℕ) (e : Event) (p : Reply × World) : Type 0 where
  pub site : Site
  pub core : Core
  pub has : finmap.get w.sites r ≡ Some site
  pub stepped : step site.core e ≡ Ok (p.0, core)
  pub left : p.1 ≡ record w { sites = finmap.insert w.sites r (record { core = core; journal = (recorded site e (p.0, core)).journal }) }

pub at_site_is : (w : World) (r : ℕ) (e : Event) (p : Reply × World) → at_site w r e ≡ Some p → AtSite w r e p
at_site_is w r e p is =
    let made = answered w r e p is in
    let reply : (p.0, made.1.1) ≡ made.1 = λ i. (ap (λ y. y.0) made.4 i, made.1.1) in
    record {
      site = made.0;
      core = made.1.1;
      has = made.2;
      stepped = made.3 ∙ ap Ok (sym reply);
      left = ap (λ y. y.1) made.4 ∙ ap (λ q. record w { sites = finmap.insert w.sites r (recorded made.0 e q) }) (sym reply);
    }

-- the streams of the replica are those of its core then
pub here_at : (w : World) (r n : ℕ) (e : Event) (p : Reply × World) (x : AtSite w r e p) → stream_at p.1 r n ≡ finmap.get x.core.streams n
here_at w r n e p x =
    ap (λ y. stream_at y r n) x.left
    ∙ elim (get-inserted nat_cmp_total nat_cmp-IsAntisymmetric w.sites r (record { core = x.core; journal = (recorded x.site e (p.0, x.core)).journal }) r) [
      | inl here ↦ ap (λ o. option_and_then (λ (s : Site). finmap.get s.core.streams n) o) here.1
      | inr other ↦ absurd (other.0 refl)
    ]

-- and no other stream changes
pub frame_at : (w : World) (r : ℕ) (e : Event) (p : Reply × World) (x : AtSite w r e p) (q m : ℕ) → (q ≡ r → stream_changed x.site.core e ≢ Some m) → stream_at p.1 q m ≡ stream_at w q m
frame_at w r e p x q m other =
    ap (λ y. stream_at y q m) x.left
    ∙ elim (get-inserted nat_cmp_total nat_cmp-IsAntisymmetric w.sites r (record { core = x.core; journal = (recorded x.site e (p.0, x.core)).journal }) q) [
      | inl here ↦
          ap (λ o. option_and_then (λ (s : Site). finmap.get s.core.streams m) o) here.1
          ∙ ap (λ s. finmap.get (left_by x.site.core s).streams m) (sym x.stepped) ∙ streams_stand_apart x.site.core e m (other (sym here.0))
          ∙ ap (λ o. option_and_then (λ (s : Site). finmap.get s.core.streams m) o) (sym x.has) ∙ ap (λ k. stream_at w k m) here.0
      | inr there ↦ ap (λ o. option_and_then (λ (s : Site). finmap.get s.core.streams m) o) there.1
    ]

pub counted_at : (w : World) (r : ℕ) (e : Event) (p : Reply × World) → AtSite w r e p → AllCounted w → AllCounted p.1
counted_at w r e p x counted q s has =
    elim (get-inserted nat_cmp_total nat_cmp-IsAntisymmetric w.sites r (record { core = x.core; journal = (recorded x.site e (p.0, x.core)).journal }) q) [
      | inl here ↦
          subst (λ (y : Site). IsCounted y.core) (some_is (record { core = x.core; journal = (recorded x.site e (p.0, x.core)).journal }) s (sym here.1 ∙ ap (λ y. finmap.get y.sites q) (sym x.left) ∙ has))
          (step_counted x.site.core e (p.0, x.core) x.stepped (counted r x.site x.has))
      | inr there ↦ counted q s (sym there.1 ∙ ap (λ y. finmap.get y.sites q) (sym x.left) ∙ has)
    ]

-- ---- what is kept

pub record Fine (w : World) (all : List TypedWrite) : Type 0 where
  -- a client that is up has a stream at its replica
  pub ups : (c : ℕ) (p : Peer) (l : Link) → finmap.get w.peers c ≡ Some p → p.link ≡ Some l → (x : Stream) × (stream_at w l.replica l.stream ≡ Some x) × LinkedTo p.kind all p.client l x
  pub downs : (c : ℕ) (p : Peer) → finmap.get w.peers c ≡ Some p → p.link ≡ None → (t : TypeName) → RestsAs p.kind all t (shelf p.client t)
  -- no two have the same
  pub apart : (c d : ℕ) (p q : Peer) (l m : Link) → finmap.get w.peers c ≡ Some p → finmap.get w.peers d ≡ Some q → p.link ≡ Some l → q.link ≡ Some m → l.replica ≡ m.replica → l.stream ≡ m.stream → c ≡ d
  -- none is of no use
  pub usable : (c : ℕ) (p : Peer) → finmap.get w.peers c ≡ Some p → p.client.broken ≡ false
  pub counted : AllCounted w

-- no client changed
pub fine_sites : (w left : World) (all : List TypedWrite) → left.peers ≡ w.peers → ((q m : ℕ) → stream_at left q m ≡ stream_at w q m) → AllCounted left → Fine w all → Fine left all
fine_sites w left all same frame counted fine = record {
  ups = λ c p l has link. let x = fine.ups c p l (ap (λ m. finmap.get m c) (sym same) ∙ has) link in (x.0, frame l.replica l.stream ∙ x.1, x.2);
  downs = λ c p has. fine.downs c p (ap (λ m. finmap.get m c) (sym same) ∙ has);
  apart = λ c d p q l m has_c has_d. fine.apart c d p q l m (ap (λ k. finmap.get k c) (sym same) ∙ has_c) (ap (λ k. finmap.get k d) (sym same) ∙ has_d);
  usable = λ c p has. fine.usable c p (ap (λ m. finmap.get m c) (sym same) ∙ has);
  counted = counted;
}

-- one client changed
module _ (w left : World) (all : List TypedWrite) (c : ℕ) (p : Peer) (peers : left.peers ≡ finmap.insert w.peers c p) where
  -- which client has a place then
  found : (d : ℕ) (q : Peer) → finmap.get left.peers d ≡ Some q → ((c ≡ d) × (p ≡ q)) ⊎ ((c ≢ d) × (finmap.get w.peers d ≡ Some q))
  found d q has =
      elim (get-inserted nat_cmp_total nat_cmp-IsAntisymmetric w.peers c p d) [
        | inl here ↦ inl (here.0, some_is p q (sym here.1 ∙ ap (λ m. finmap.get m d) (sym peers) ∙ has))
        | inr there ↦ inr (there.0, sym there.1 ∙ ap (λ m. finmap.get m d) (sym peers) ∙ has)
      ]

  abbrev pub Frame : Type 0
  Frame = (d : ℕ) (q : Peer) (m : Link) → c ≢ d → finmap.get w.peers d ≡ Some q → q.link ≡ Some m → stream_at left m.replica m.stream ≡ stream_at w m.replica m.stream

  -- where it is, if it is up
  abbrev pub Here : Type 0
  Here = (l : Link) → p.link ≡ Some l → (x : Stream) × (stream_at left l.replica l.stream ≡ Some x) × LinkedTo p.kind all p.client l x

  abbrev pub Alone : Type 0
  Alone = (d : ℕ) (q : Peer) (l m : Link) → c ≢ d → finmap.get w.peers d ≡ Some q → p.link ≡ Some l → q.link ≡ Some m → l.replica ≡ m.replica → l.stream ≡ m.stream → ⊥

  pub fine_peer : Frame → Here → (p.link ≡ None → (t : TypeName) → RestsAs p.kind all t (shelf p.client t)) → Alone → p.client.broken ≡ false → AllCounted left → Fine w all → Fine left all
  fine_peer frame here down alone of_use counted fine = record {
    ups = λ d q l has link.
        elim (found d q has) [
          | inl same ↦ subst (λ (y : Peer). (x : Stream) × (stream_at left l.replica l.stream ≡ Some x) × LinkedTo y.kind all y.client l x) same.1 (here l (ap (λ y. y.link) same.1 ∙ link))
          | inr other ↦ (let x = fine.ups d q l other.1 link in (x.0, frame d q l other.0 other.1 link ∙ x.1, x.2))
        ];
    downs = λ d q has link.
        elim (found d q has) [
          | inl same ↦ subst (λ (y : Peer). (t : TypeName) → RestsAs y.kind all t (shelf y.client t)) same.1 (down (ap (λ y. y.link) same.1 ∙ link))
          | inr other ↦ fine.downs d q other.1 link
        ];
    apart = λ a b q r l m has_a has_b link_a link_b same_replica same_stream.
        elim (found a q has_a) [
          | inl first ↦
              elim (found b r has_b) [
                | inl second ↦ sym first.0 ∙ second.0
                | inr second ↦ absurd (alone b r l m second.0 second.1 (ap (λ y. y.link) first.1 ∙ link_a) link_b same_replica same_stream)
              ]
          | inr first ↦
              elim (found b r has_b) [
                | inl second ↦ absurd (alone a q m l first.0 first.1 (ap (λ y. y.link) second.1 ∙ link_b) link_a (sym same_replica) (sym same_stream))
                | inr second ↦ fine.apart a b q r l m first.1 second.1 link_a link_b same_replica same_stream
              ]
        ];
    usable = λ d q has.
        elim (found d q has) [
          | inl same ↦ ap (λ (y : Peer). y.client.broken) (sym same.1) ∙ of_use
          | inr other ↦ fine.usable d q other.1
        ];
    counted = counted;
  }
