-- What is kept of all clients is kept where more writes are made.
use Rattle.std.proofs.Common.{ℕ, List, ◌++◌, Bool, Option, Some, None}
use Rattle.std.specs.FinMap as finmap
use Rattle.std.proofs.lemmas.List.Elements.{Contains-append_left}
use Rattle.xds_resource.specs.declared.types.TypeName.{TypeName}
use Rattle.xds_message.specs.declared.draft.Draft.{Draft}
use Rattle.xds_ledger.specs.declared.entry.Due.{Due}
use Rattle.xds_ledger.specs.declared.entry.Due.TheVariants.{Stated, Removed}
use Rattle.xds_ledger.specs.declared.variant.VariantName.{VariantName}
use Rattle.xds_ledger.specs.declared.variant.VariantName.TheVariants.{StateOfTheWorld, Delta}
use Rattle.xds_ledger.specs.Believing.{Sent}
use Rattle.xds_ledger.specs.Sessions.{Session}
use Rattle.xds_core.specs.Streams.{Stream, Message}
use Rattle.xds_cache.specs.Shelves.{Wants, Holding, Shelf}
use Rattle.xds_cache.specs.Clients.{Client, shelf}
use Rattle.xds_world.specs.Worlds.{Link, World}
use Rattle.xds_world.specs.Knows.{TypedWrite}
use Rattle.xds_world.proofs.ByOneName.{IsHeld, Says}
use Rattle.xds_world.proofs.Folding.{folded}
use Rattle.xds_world.proofs.Lanes.{IsAt, IsMade, Delivers, Awaits, Abreast}
use Rattle.xds_world.proofs.Queues.{Lane, Linked, started}
use Rattle.xds_world.proofs.LinkTakes.{Rests, spoken}
use Rattle.xds_world.proofs.Everyone.{Fine}

module _ (all more : List TypedWrite) where
  at_more : (v : VariantName) (t : TypeName) (name version : List ℕ) (h : Holding) → IsAt v all t name version h → IsAt v (all ++ more) t name version h
  at_more StateOfTheWorld t name version h is = (is.0, Contains-append_left all more (t, is.0) is.1, is.2, is.3, is.4)
  at_more Delta t name version h is = is

  made_more : (v : VariantName) (t : TypeName) (name : List ℕ) (h : Holding) → IsMade v all t name h → IsMade v (all ++ more) t name h
  made_more StateOfTheWorld t name h made = made
  made_more Delta t name h made = (made.0, Contains-append_left all more (t, made.0) made.1, made.2, made.3)

  held_more : (v : VariantName) (t : TypeName) (name version : List ℕ) (held : Option Holding) → IsHeld (IsAt v all t name) version held → IsHeld (IsAt v (all ++ more) t name) version held
  held_more v t name version held is = (is.0, is.1, at_more v t name version is.0 is.2)

  says_more : (v : VariantName) (t : TypeName) (name : List ℕ) (d : Option Due) (removed : Bool) (stated : Option Holding) → Says (IsAt v all t name) d removed stated → Says (IsAt v (all ++ more) t name) d removed stated
  says_more v t name None removed stated is = is
  says_more v t name (Some (Stated version)) removed stated is = held_more v t name version stated is
  says_more v t name (Some Removed) removed stated is = is

  delivers_more : (v : VariantName) (t : TypeName) (n : ℕ) (sent : Sent) (w : Wants) (d : Draft) → Delivers v all t n sent w d → Delivers v (all ++ more) t n sent w d
  delivers_more v t n sent w d is = record {
    speaks = is.speaks;
    nonce = is.nonce;
    numbered = is.numbered;
    says = λ name. says_more v t name _ _ _ (is.says name);
    made = λ name h states. made_more v t name h (is.made name h states);
    wanted = is.wanted;
  }

  awaits_more : (v : VariantName) (t : TypeName) (n : ℕ) (o : Option Sent) (w : Wants) (last : List ℕ) (d : Option Draft) → Awaits v all t n o w last d → Awaits v (all ++ more) t n o w last d
  awaits_more v t n None w last None is = is
  awaits_more v t n None w last (Some d) is = absurd is
  awaits_more v t n (Some sent) w last None is = absurd is
  awaits_more v t n (Some sent) w last (Some d) is = (delivers_more v t n sent w d is.0, is.1)

  abreast_more : (v : VariantName) (cluster : List ℕ) (t : TypeName) (s : Session) (d : Option Draft) (f : Shelf) → Abreast v cluster all t s d f → Abreast v cluster (all ++ more) t s d f
  abreast_more v cluster t s d f lane = record {
    asks = lane.asks;
    awaits = awaits_more v t s.account.nonce s.account.sent f.wants f.nonce d lane.awaits;
    touched = lane.touched;
    told = λ name version is. held_more v t name version (finmap.get f.cache name) (lane.told name version is);
    none = lane.none;
    within = lane.within;
    made = λ name h held. made_more v t name h (lane.made name h held);
  }

  lane_more : (v : VariantName) (cluster : List ℕ) (t : TypeName) (s : Session) (count : ℕ) (ups : List Message) (downs : List Draft) (f : Shelf) → Lane v cluster all t s count ups downs f → Lane v cluster (all ++ more) t s count ups downs f
  lane_more v cluster t s count ups downs f lane = record {
    down = lane.down;
    downs_are = lane.downs_are;
    stands = lane.stands;
    taken = lane.taken;
    numbered = lane.numbered;
    answered = lane.answered;
    last = lane.last;
    abreast = abreast_more v cluster t (folded t s ups) lane.down f lane.abreast;
  }

  linked_more : (v : VariantName) (c : Client) (l : Link) (x : Stream) → Linked v all c l x → Linked v (all ++ more) c l x
  linked_more v c l x linked = record { variant = linked.variant; counted = linked.counted; requests = linked.requests; lanes = λ t. lane_more v c.cluster t _ _ _ _ (shelf c t) (linked.lanes t) }

  rests_more : (v : VariantName) (t : TypeName) (f : Shelf) → Rests v all t f → Rests v (all ++ more) t f
  rests_more v t f rests = record { within = rests.within; made = λ name h held. made_more v t name h (rests.made name h held) }

  pub fine_more : (w : World) → Fine w all → Fine w (all ++ more)
  fine_more w fine = record {
    ups = λ c p l has link. let x = fine.ups c p l has link in (x.0, x.1, (x.2.0, (x.2.1.0, linked_more (spoken p.kind) p.client l (started p.client.cluster x.0) x.2.1.1)));
    downs = λ c p has none t. rests_more (spoken p.kind) t (shelf p.client t) (fine.downs c p has none t);
    apart = fine.apart;
    usable = fine.usable;
    counted = fine.counted;
  }
