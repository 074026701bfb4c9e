-- What settling a client still has before it: its requests under way, and its responses twice, since each is answered.
use Rattle.std.proofs.Common.{◌≡◌, ℕ, suc, ◌+◌, ◌≤◌, List, [], ◌∷◌, ◌++◌, Option, Some, None, refl, sym, ap, subst, ◌∙◌, length, arith}
use Rattle.std.specs.Option.{option_and_then, option_map_or}
use Rattle.std.specs.FinMap as finmap
use Rattle.std.proofs.lemmas.List.{length-append}
use Rattle.xds_resource.specs.declared.types.TypeName.{TypeName}
use Rattle.xds_message.specs.declared.draft.Draft.{Draft}
use Rattle.xds_core.specs.Streams.{Message}
use Rattle.xds_core.specs.Events as events
use Rattle.xds_core.specs.Events.{Reply}
use Rattle.xds_cache.specs.Faults.{Test}
use Rattle.xds_script.specs.Happenings.{Up, Poll, Down}
use Rattle.xds_world.specs.Worlds.{World, Peer, Link, happens, at_site, with_peer, up_taken, polled, down_taken, taken_down, received, under_way}
use Rattle.xds_world.specs.Settling.{link_in}
use Rattle.xds_world.proofs.Replicas.{some_is, bound_some, mapped_some}
use Rattle.xds_world.proofs.EveryEvent.{link_there, get_put}

abbrev pub weight_on : Link → ℕ
weight_on l = length l.up + (length l.down + length l.down)

abbrev pub weight : World → ℕ → ℕ
weight w c = option_map_or weight_on (link_in w c) 0

-- the weight where the link is known
weight_at : (w : World) (c : ℕ) (p : Peer) (l : Link) → finmap.get w.peers c ≡ Some p → p.link ≡ Some l → weight w c ≡ weight_on l
weight_at w c p l has linked = ap (λ o. option_map_or weight_on (option_and_then (λ q. q.link) o) 0) has ∙ ap (λ o. option_map_or weight_on o 0) linked

-- and after a change of that client
weight_then : (w x : World) (c : ℕ) (p : Peer) (l : Link) → x ≡ with_peer w c p → p.link ≡ Some l → weight x c ≡ weight_on l
weight_then w x c p l is linked = ap (λ y. weight y c) is ∙ weight_at (with_peer w c p) c p l (get_put w.peers c p) linked

one_less : (n k : ℕ) → suc (n + k) ≡ suc n + k
one_less n k = omega arith

up_falls : (w x : World) (c : ℕ) (p : Peer) (l : Link) (ms : List Message) → l.up ≡ ms → up_taken w c p l ms ≡ Some x → suc (weight x c) ≡ weight_on l
up_falls w x c p l [] up is = absurd cc
up_falls w x c p l (m ∷ rest) up is =
    let after : Peer = record p { link = Some (record l { up = rest }) } in
    let made = mapped_some (λ q. with_peer q.1 c after) (at_site w l.replica (events.Request l.stream m)) x is in
    ap suc (weight_then made.0.1 x c after (record l { up = rest }) made.2 refl) ∙ one_less (length rest) (length l.down + length l.down) ∙ ap (λ ys. length ys + (length l.down + length l.down)) (sym up)

-- a request is taken
pub up_lightens : (test : Test) (w x : World) (c : ℕ) → happens test w (Up c) ≡ Some x → suc (weight x c) ≡ weight w c
up_lightens test w x c is =
    let there = link_there w c (λ p l. up_taken w c p l l.up) x is in
    up_falls w x c there.0 there.1 there.1.up refl there.4 ∙ sym (weight_at w c there.0 there.1 there.2 there.3)

one_longer : (ms : List Message) (m : Message) (n k : ℕ) → n ≡ suc k → suc (length (ms ++ m ∷ []) + (k + k)) ≡ length ms + (n + n)
one_longer ms m n k is = ap (λ a. suc (a + (k + k))) (length-append ms (m ∷ [])) ∙ sym (ap (λ b. length ms + (b + b)) is ∙ (omega arith))

down_falls : (test : Test) (w x : World) (c : ℕ) (p : Peer) (l : Link) (ds : List Draft) → l.down ≡ ds → down_taken test w c p l ds ≡ Some x → suc (weight x c) ≡ weight_on l
down_falls test w x c p l [] down is = absurd cc
down_falls test w x c p l (d ∷ rest) down is =
    let made = mapped_some (λ q. with_peer w c (taken_down p l rest q)) (received test p d) x is in
    let next : Link = record l { up = l.up ++ made.0.1 ∷ []; down = rest } in
    ap suc (weight_then w x c (taken_down p l rest made.0) next made.2 refl) ∙ one_longer l.up made.0.1 (length l.down) (length rest) (ap length down)

-- a response is taken, and answered
pub down_lightens : (test : Test) (w x : World) (c : ℕ) → happens test w (Down c) ≡ Some x → suc (weight x c) ≡ weight w c
down_lightens test w x c is =
    let there = link_there w c (λ p l. down_taken test w c p l l.down) x is in
    down_falls test w x c there.0 there.1 there.1.down refl there.4 ∙ sym (weight_at w c there.0 there.1 there.2 there.3)

one_more_at_most : (ds : List Draft) (o : Option Draft) (n : ℕ) → n + (length (ds ++ under_way o) + length (ds ++ under_way o)) ≤ (n + (length ds + length ds)) + 2
one_more_at_most ds o n = subst (λ k. n + (k + k) ≤ (n + (length ds + length ds)) + 2) (sym (length-append ds (under_way o))) (at_most_one o)
  where
    at_most_one : (o : Option Draft) → n + ((length ds + length (under_way o)) + (length ds + length (under_way o))) ≤ (n + (length ds + length ds)) + 2
    at_most_one None = omega arith
    at_most_one (Some d) = omega arith

poll_adds : (w x : World) (c : ℕ) (p : Peer) (l : Link) (reply : Reply) (v : World) → polled c p l (reply, v) ≡ Some x → weight x c ≤ weight_on l + 2
poll_adds w x c p l (events.Polled o) v is =
    let after : Peer = record p { link = Some (record l { down = l.down ++ under_way o }) } in
    subst (λ n. n ≤ weight_on l + 2) (sym (weight_then v x c after (record l { down = l.down ++ under_way o }) (sym (some_is (with_peer v c after) x is)) refl)) (one_more_at_most l.down o (length l.up))
poll_adds w x c p l reply v is = absurd cc

-- a response is sent, or none
pub poll_burdens : (test : Test) (w x : World) (c : ℕ) (which : Option TypeName) → happens test w (Poll c which) ≡ Some x → weight x c ≤ weight w c + 2
poll_burdens test w x c which is =
    let there = link_there w c (λ p l. option_and_then (polled c p l) (at_site w l.replica (events.Poll l.stream which))) x is in
    let made = bound_some (polled c there.0 there.1) (at_site w there.1.replica (events.Poll there.1.stream which)) x there.4 in
    subst (λ n. weight x c ≤ n + 2) (sym (weight_at w c there.0 there.1 there.2 there.3)) (poll_adds w x c there.0 there.1 made.0.0 made.0.1 made.2)
