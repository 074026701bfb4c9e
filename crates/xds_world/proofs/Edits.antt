-- A value of a world that is taken out, changed and put back.
use Rattle.std.proofs.Common.{◌≡◌, ℕ, Bool, true, false, Option, Some, None, Result, Ok, Err, refl, sym, ap, subst, ◌∙◌}
use Rattle.std.specs.Prelude.{IfOk, option_map, is_some}
use Rattle.std.specs.Option.{option_and_then, option_map_or}
use Rattle.std.specs.Ordering.{nat_cmp}
use Rattle.std.specs.FinMap as finmap
use Rattle.std.specs.FinMap.{FinMap}
use Rattle.xds_resource.specs.declared.refusal.Refusal.{Refusal}
use Rattle.xds_core.specs.Events as events
use Rattle.xds_core.specs.Events.{Event}
use Rattle.xds_events.specs.declared.event.Reply.{Reply}
use Rattle.xds_core.specs.Seen.{reply_of}
use Rattle.xds_core.specs.Steps.{Step, step}
use Rattle.xds_core.proofs.StreamSteps.{put_twice, put_back}
use Rattle.xds_cache.specs.Clients.{unlinked}
use Rattle.xds_world.specs.Worlds.{Site, Link, Peer, World, with_peer, answered_at, at_site}
use Rattle.xds_world.specs.Calls.{Gave, Happened}
use Rattle.xds_world.specs.Peers.{peer_lost}
use Rattle.xds_world.specs.Parts.{answered, if_answered, peer_event}

abbrev pub with_peers : World → FinMap nat_cmp Peer → World
with_peers w m = record w { peers = m }

abbrev pub with_sites : World → FinMap nat_cmp Site → World
with_sites w m = record w { sites = m }

-- what was lent out of a map was there before
pub lent : {X : Type 0} (inside now : FinMap nat_cmp X) (n : ℕ) (o : Option X) (x : X) → inside ≡ now → o ≡ finmap.get inside n → o ≡ Some x → finmap.get now n ≡ Some x
lent inside now n o x view old is = ap (λ m. finmap.get m n) (sym view) ∙ sym old ∙ is

-- what is put back stands over what stood there in the meantime
pub put_over : {X : Type 0} (inside now held back : FinMap nat_cmp X) (n : ℕ) (x left : X) → inside ≡ now → held ≡ finmap.insert inside n x → back ≡ finmap.insert held n left → back ≡ finmap.insert (finmap.insert now n x) n left
put_over inside now held back n x left view found puts = puts ∙ (λ i. finmap.insert (found i) n left) ∙ (λ i. finmap.insert (finmap.insert (view i) n x) n left)

-- ---- a client

module _ (w : World) (c : ℕ) (f : Peer → Option Peer) (p x left : Peer) (has : finmap.get w.peers c ≡ Some p) (back : FinMap nat_cmp Peer) (puts : back ≡ finmap.insert (finmap.insert w.peers c x) c left) where
  event_is : peer_event w c f ≡ option_map (with_peer w c) (f p)
  event_is = ap (option_and_then (λ p. option_map (with_peer w c) (f p))) has

  pub put_peer : (b : Bool) → Happened p b left (f p) → Happened w b (with_peers w back) (peer_event w c f)
  put_peer true is = event_is ∙ ap (option_map (with_peer w c)) is ∙ (λ i. Some (with_peers w (sym (puts ∙ put_twice w.peers c x left) i)))
  put_peer false is = (event_is ∙ ap (option_map (with_peer w c)) is.0, (λ i. with_peers w ((puts ∙ ap (finmap.insert (finmap.insert w.peers c x) c) is.1 ∙ put_back w.peers c x p has) i)))

  put_peers_at : (r : Result Bool Refusal) → IfOk r (λ b. Happened p b left (f p)) → IfOk r (λ b. Happened w b (with_peers w back) (peer_event w c f))
  put_peers_at (Ok b) is = put_peer b is
  put_peers_at (Err e) is = is

  pub put_peers : (r : Result Bool Refusal) (after : World) → after ≡ with_peers w back → IfOk r (λ b. Happened p b left (f p)) → IfOk r (λ b. Happened w b after (peer_event w c f))
  put_peers r after same is = subst (λ v. IfOk r (λ b. Happened w b v (peer_event w c f))) (sym same) (put_peers_at r is)

-- ---- a replica

answered_is : (w : World) (r : ℕ) (s : Site) (e : Event) (q : Step) (back : FinMap nat_cmp Site) (left : Site) (y : events.Reply) → if_answered s e q ≡ Some (y, left) → back ≡ finmap.insert w.sites r left → answered_at w r s e q ≡ Some (y, with_sites w back)
answered_is w r s e (Ok p) back left y is puts = ap (option_map (λ a. (a.0, with_sites w (finmap.insert w.sites r a.1)))) is ∙ (λ i. Some (y, with_sites w (sym puts i)))
answered_is w r s e (Err refusal) back left y is puts = absurd cc

refused_is : (w : World) (r : ℕ) (s : Site) (e : Event) (q : Step) → if_answered s e q ≡ None → answered_at w r s e q ≡ None
refused_is w r s e (Ok p) is = absurd cc
refused_is w r s e (Err refusal) is = refl

module _ (w : World) (r : ℕ) (e : Event) (s x left : Site) (has : finmap.get w.sites r ≡ Some s) (back : FinMap nat_cmp Site) (puts : back ≡ finmap.insert (finmap.insert w.sites r x) r left) where
  site_is : at_site w r e ≡ answered_at w r s e (step s.core e)
  site_is = ap (option_and_then (λ s. answered_at w r s e (step s.core e))) has

  put_site : (o : Option Reply) → Gave reply_of s o left (answered s e) → Gave reply_of w o (with_sites w back) (at_site w r e)
  put_site (Some y) is = site_is ∙ answered_is w r s e (step s.core e) back left (reply_of y) is (puts ∙ put_twice w.sites r x left)
  put_site None is = (site_is ∙ refused_is w r s e (step s.core e) is.0, (λ i. with_sites w ((puts ∙ ap (finmap.insert (finmap.insert w.sites r x) r) is.1 ∙ put_back w.sites r x s has) i)))

  put_sites_at : (q : Result (Option Reply) Refusal) → IfOk q (λ o. Gave reply_of s o left (answered s e)) → IfOk q (λ o. Gave reply_of w o (with_sites w back) (at_site w r e))
  put_sites_at (Ok o) is = put_site o is
  put_sites_at (Err e) is = is

  pub put_sites : (q : Result (Option Reply) Refusal) (after : World) → after ≡ with_sites w back → IfOk q (λ o. Gave reply_of s o left (answered s e)) → IfOk q (λ o. Gave reply_of w o after (at_site w r e))
  put_sites q after same is = subst (λ v. IfOk q (λ o. Gave reply_of w o v (at_site w r e))) (sym same) (put_sites_at q is)

-- the same of a change that needs no memory
pub put_one : (w : World) (c : ℕ) (f : Peer → Option Peer) (p x left : Peer) → finmap.get w.peers c ≡ Some p → (back : FinMap nat_cmp Peer) → back ≡ finmap.insert (finmap.insert w.peers c x) c left → (b : Bool) (after : World) → after ≡ with_peers w back
    → Happened p b left (f p) → Happened w b after (peer_event w c f)
put_one w c f p x left has back puts b after same is = subst (λ v. Happened w b v (peer_event w c f)) (sym same) (put_peer w c f p x left has back puts b is)

-- a client whose stream is lost, if it had one
lost_at : (p left : Peer) (o : Option Link) → p.link ≡ o → left ≡ option_map_or (λ p. p) (peer_lost p) p → Happened p (is_some o) left (peer_lost p)
lost_at p left None none is = (ap (option_map (λ l. record p { client = unlinked p.client; link = None })) none, is ∙ ap (λ o. option_map_or (λ p. p) (option_map (λ l. record p { client = unlinked p.client; link = None }) o) p) none)
lost_at p left (Some l) up is =
    ap (option_map (λ l. record p { client = unlinked p.client; link = None })) up ∙ ap Some (sym (is ∙ ap (λ o. option_map_or (λ p. p) (option_map (λ l. record p { client = unlinked p.client; link = None }) o) p) up))

pub lost : (p left : Peer) (b : Bool) → b ≡ is_some p.link → left ≡ option_map_or (λ p. p) (peer_lost p) p → Happened p b left (peer_lost p)
lost p left b up is = subst (λ b. Happened p b left (peer_lost p)) (sym up) (lost_at p left p.link refl is)

-- whether there is something, however it is seen
pub some_seen : {X Y : Type 0} (f : X → Y) (o : Option X) (p : Option Y) → option_map f o ≡ p → is_some o ≡ is_some p
some_seen f None p is = ap is_some is
some_seen f (Some x) p is = ap is_some is
