-- The clients' half of the headline: a settled client shows exactly what its replica knows of what it wants.
use Rattle.std.proofs.Common.{◌≡◌, ℕ, List, [], ◌∷◌, ◌++◌, Bool, true, false, not, Option, Some, None, refl, sym, ap, subst, ◌∙◌}
use Rattle.std.proofs.lemmas.Bool.{not-true}
use Rattle.std.specs.Prelude.{option_map}
use Rattle.std.specs.Option.{option_and_then, option_map_or}
use Rattle.std.specs.FinMap as finmap
use Rattle.xds_resource.specs.declared.types.TypeName.{TypeName}
use Rattle.xds_resource.specs.PerType.{at}
use Rattle.xds_resource.specs.Best.{best}
use Rattle.xds_catalogue.proofs.Catalogues.{get-catalogue_of}
use Rattle.xds_ledger.specs.declared.variant.VariantName.TheVariants.{StateOfTheWorld, Delta}
use Rattle.xds_core.specs.Streams.{Stream, owes_of}
use Rattle.xds_cache.specs.Shelves.{interest, is_wanted}
use Rattle.xds_cache.specs.Clients.{shelf}
use Rattle.xds_cache.specs.Faults.{Test}
use Rattle.xds_script.specs.Happenings.{Happening, PutsAResource}
use Rattle.xds_world.specs.Worlds.{Site, Link, Peer, World, empty_world, world}
use Rattle.xds_world.specs.Knows.{TypedWrite, Knowledge, nothing_known, known_after, knows, made_after, wants, cluster as cluster_of, link}
use Rattle.xds_world.specs.Claims.{writes_of, shown_of, content_at, PutResources, SettledIsExact, SettledAgrees, Headline, is_quiet, owes_nothing, is_settled_on, is_settled}
use Rattle.xds_world.proofs.Replicas.{both_parts, holds_what_it_knows, same_knowledge, some_is}
use Rattle.xds_world.proofs.Origins.{one_write_a_stamp}
use Rattle.xds_world.proofs.Ranges.{sites_known}
use Rattle.xds_world.proofs.ByKind.{LinkedTo}
use Rattle.xds_world.proofs.Everyone.{stream_at}
use Rattle.xds_world.proofs.Sure.{sure}
use Rattle.xds_world.proofs.Delivering.{AllKnown, shown_in}
use Rattle.xds_world.proofs.Queues.{started}
use Rattle.xds_world.proofs.Starting.{owes_started}
use Rattle.xds_world.proofs.Settled.{link_shows}
use Rattle.xds_world.proofs.Journals.{journals_are_legal, journals_tell_all}
use Rattle.xds_world.proofs.Polled.{polled_is_exact, polled_is_taken, lost_leaves_the_view, polls_are_possible, pollers_have_no_stream}
use Rattle.xds_world.proofs.Followed.{links_are_followed, linked_to, wanted_of, placed_of, link_is, cluster_is, wants_are}

-- ---- settled

found_true : {X : Type 0} (f : X → Bool) (o : Option X) → option_map_or f o false ≡ true → (x : X) × (o ≡ Some x) × (f x ≡ true)
found_true f None is = absurd cc
found_true f (Some x) is = (x, refl, is)

-- what it is that a client is settled
pub record AtRest (w : World) (p : Peer) (t : TypeName) : Type 0 where
  pub link : Link
  pub linked : p.link ≡ Some link
  pub quiet : is_quiet t link ≡ true
  pub site : Site
  pub there : finmap.get w.sites link.replica ≡ Some site
  pub stream : Stream
  pub opened : finmap.get site.core.streams link.stream ≡ Some stream
  pub nothing : owes_of site.core.store stream t ≡ false

pub at_rest : (w : World) (c : ℕ) (p : Peer) (t : TypeName) → finmap.get w.peers c ≡ Some p → is_settled w c t ≡ true → AtRest w p t
at_rest w c p t has settled =
    let up = found_true (is_settled_on w t) p.link (ap (λ o. option_map_or (λ q. option_map_or (is_settled_on w t) q.link false) o false) (sym has) ∙ settled) in
    let parts = both_parts (is_quiet t up.0) (option_map_or (owes_nothing t up.0.stream) (finmap.get w.sites up.0.replica) false) up.2 in
    let site = found_true (owes_nothing t up.0.stream) (finmap.get w.sites up.0.replica) parts.1 in
    let stream = found_true (λ x. not (owes_of site.0.core.store x t)) (finmap.get site.0.core.streams up.0.stream) site.2 in
    record { link = up.0; linked = up.1; quiet = parts.0; site = site.0; there = site.1; stream = stream.0; opened = stream.1; nothing = not-true (owes_of site.0.core.store stream.0 t) stream.2 }

-- the same with what is kept of its link: its stream, its replica, and what that holds
pub record Settled (test : Test) (hs : List Happening) (c r : ℕ) (p : Peer) (t : TypeName) : Type 0 where
  pub link : Link
  pub site : Site
  pub stream : Stream
  pub quiet : is_quiet t link ≡ true
  pub nothing : owes_of site.core.store stream t ≡ false
  pub linked : LinkedTo p.kind (made_after test empty_world [] hs) p.client link stream
  pub known : AllKnown (made_after test empty_world [] hs) t (at site.core.store t).entries
  pub held : (name : List ℕ) → finmap.get (at site.core.store t).entries name ≡ best (writes_of t (knows test hs r)) name
  pub placed : cluster_of test hs c ≡ p.client.cluster
  pub wanted : wants test hs c t ≡ (shelf p.client t).wants

pub settled_link : (test : Test) (hs : List Happening) (c r : ℕ) (p : Peer) (t : TypeName) → PutResources hs → finmap.get (world test hs).peers c ≡ Some p → link test hs c ≡ Some r → is_settled (world test hs) c t ≡ true → Settled test hs c r p t
settled_link test hs c r p t put has linked settled =
    let w : World = world test hs in
    let k : Knowledge = known_after test empty_world nothing_known hs in
    let all : List TypedWrite = made_after test empty_world [] hs in
    let all_sure = sure test hs put in
    let rest = at_rest w c p t has settled in
    let here = all_sure.fine.ups c p rest.link has rest.linked in
    let there : stream_at w rest.link.replica rest.link.stream ≡ Some rest.stream = ap (λ o. option_and_then (λ (s : Site). finmap.get s.core.streams rest.link.stream) o) rest.there ∙ rest.opened in
    let same : here.0 ≡ rest.stream = some_is here.0 rest.stream (sym here.1 ∙ there) in
    let replica : rest.link.replica ≡ r = some_is rest.link.replica r (ap (option_map (λ l. l.replica)) (sym rest.linked) ∙ ap linked_to (sym has) ∙ sym (link_is test hs c) ∙ linked) in
    record {
      link = rest.link;
      site = rest.site;
      stream = rest.stream;
      quiet = rest.quiet;
      nothing = rest.nothing;
      linked = subst (LinkedTo p.kind all p.client rest.link) same here.2;
      known = sites_known w k all all_sure.kept all_sure.stamped all_sure.ranged rest.link.replica rest.site t rest.there;
      held = λ name.
          ap (λ m. finmap.get m name) (all_sure.kept.holds rest.link.replica rest.site t rest.there) ∙ get-catalogue_of (writes_of t (k.at rest.link.replica)) name ∙ ap (λ n. best (writes_of t (k.at n)) name) replica;
      placed = cluster_is test hs c ∙ ap placed_of has;
      wanted = wants_are test hs c t ∙ ap (wanted_of t) has;
    }

-- what is to be shown, by what the replica holds and by what it knows
shown_is : (test : Test) (hs : List Happening) (c r : ℕ) (p : Peer) (t : TypeName) (name : List ℕ) → (s : Settled test hs c r p t)
    → shown_in (interest t p.client.cluster (shelf p.client t).wants) (at s.site.core.store t).entries name ≡ content_at t (writes_of t (knows test hs r)) (cluster_of test hs c) (wants test hs c t) name
shown_is test hs c r p t name s = λ i. option_and_then (shown_of (interest t (sym s.placed i) (sym s.wanted i)) name) (s.held name i)

-- the clients' half, for delta clients
pub settled_is_exact : (test : Test) (hs : List Happening) → PutResources hs → SettledIsExact test hs
settled_is_exact test hs put c r p t has delta linked settled name =
    let all : List TypedWrite = made_after test empty_world [] hs in
    let all_sure = sure test hs put in
    let s = settled_link test hs c r p t put has linked settled in
    (link_shows Delta all t p.client s.link (started p.client.cluster s.stream) s.site.core.store (subst (λ v. LinkedTo v all p.client s.link s.stream) delta s.linked).1.1 all_sure.stamped.unique all_sure.ranged.stamps s.known s.quiet (owes_started p.client.cluster s.site.core.store s.stream t ∙ s.nothing)).exact name refl
    ∙ shown_is test hs c r p t name s

-- and for clients of the state of the world
pub settled_agrees : (test : Test) (hs : List Happening) → PutResources hs → SettledAgrees test hs
settled_agrees test hs put c r p t has sotw linked settled =
    let all : List TypedWrite = made_after test empty_world [] hs in
    let all_sure = sure test hs put in
    let s = settled_link test hs c r p t put has linked settled in
    let shows = link_shows StateOfTheWorld all t p.client s.link (started p.client.cluster s.stream) s.site.core.store (subst (λ v. LinkedTo v all p.client s.link s.stream) sotw s.linked).1.1 all_sure.stamped.unique all_sure.ranged.stamps s.known s.quiet (owes_started p.client.cluster s.site.core.store s.stream t ∙ s.nothing) in (
      λ complete name. shows.exact name complete ∙ ap (option_map (λ h. h.body)) (shown_is test hs c r p t name s),
      (λ name h is. shows.agrees name h (shown_is test hs c r p t name s ∙ is), λ name unwanted. shows.within name (ap (λ w. is_wanted t w name) (sym s.wanted) ∙ unwanted)),
    )

-- all of it
pub headline : (test : Test) (hs : List Happening) → PutResources hs → Headline test hs
headline test hs put = record {
  holds = holds_what_it_knows test hs;
  same = same_knowledge test hs;
  exact = settled_is_exact test hs put;
  agrees = settled_agrees test hs put;
  followed = links_are_followed test hs;
  stamped = one_write_a_stamp test hs;
  journals = journals_are_legal test hs;
  told = journals_tell_all test hs;
  polled = polled_is_exact test hs put;
  taken = polled_is_taken test hs put;
  lost = lost_leaves_the_view test hs;
  possible = polls_are_possible test hs;
  streamless = pollers_have_no_stream test hs put;
}

-- one more
pub put_more : (hs : List Happening) (h : Happening) → PutResources hs → PutsAResource h → PutResources (hs ++ h ∷ [])
put_more [] h put puts = (puts, tt)
put_more (x ∷ hs) h put puts = (put.0, put_more hs h put.1 puts)
