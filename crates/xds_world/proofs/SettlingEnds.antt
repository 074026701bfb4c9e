-- Where settling a client of a type ends.
use Rattle.std.proofs.Common.{◌≡◌, inl, inr, ℕ, List, [], ◌∷◌, Bool, true, false, Some, None, refl, sym, ap, subst, ◌∙◌}
use Rattle.std.specs.Prelude.{if◌then◌else◌, option_map}
use Rattle.std.specs.Option.{option_map_or}
use Rattle.std.specs.FinMap as finmap
use Rattle.xds_resource.specs.declared.types.TypeName.{TypeName}
use Rattle.xds_cache.specs.Faults.{Test}
use Rattle.xds_script.specs.Happenings.{Happening}
use Rattle.xds_world.specs.Worlds.{World, Link, Peer, happens, after, world}
use Rattle.xds_world.specs.Claims.{PutResources, is_quiet, owes_nothing, is_settled_on, is_settled}
use Rattle.xds_world.specs.Settling.{next_on, link_in, gave_nothing, Done, IsAtEnd, TwoResponsesSuffice, QuietAtTheEnd}
use Rattle.xds_world.proofs.Replicas.{some_is, bound_some, both_parts}
use Rattle.xds_world.proofs.SettlingWalks.{then_there}
use Rattle.xds_world.proofs.SettlingSteps.{Spot, link_at}
use Rattle.xds_world.proofs.SettlingMoves.{next_moved}
use Rattle.xds_world.proofs.SettlingPolls.{IsSure, world_sure, next_there, sure_next, takes_two}

pub two_responses_suffice : (test : Test) (hs : List Happening) → PutResources hs → TwoResponsesSuffice test hs
two_responses_suffice test hs put c t more settling = takes_two (IsAtEnd c t) test c t more (world test hs) (world_sure test hs put) settling

-- ---- nothing is under way

pub link_settled : (w : World) (c : ℕ) (t : TypeName) (l : Link) → link_in w c ≡ Some l → is_settled w c t ≡ is_settled_on w t l
link_settled w c t l is =
    let peer = bound_some (λ (p : Peer). p.link) (finmap.get w.peers c) l is in
    ap (λ o. option_map_or (λ (p : Peer). option_map_or (is_settled_on w t) p.link false) o false) peer.1 ∙ ap (λ o. option_map_or (is_settled_on w t) o false) peer.2

-- where nothing is to be done, what has a stream is settled
pub done_if_settled : (w : World) (c : ℕ) (t : TypeName) (l : Link) (b : Bool) → is_settled w c t ≡ b → link_in w c ≡ Some l → (if b then None else option_map (λ k. next_on c t k k.up) (link_in w c)) ≡ None → is_settled w c t ≡ true
done_if_settled w c t l true settled is none = settled
done_if_settled w c t l false settled is none = let never : Some (next_on c t l l.up) ≡ None = sym (ap (option_map (λ k. next_on c t k k.up)) is) ∙ none in absurd cc

settled_quiet : (w : World) (c : ℕ) (t : TypeName) (l : Link) → link_in w c ≡ Some l → is_settled w c t ≡ true → is_quiet t l ≡ true
settled_quiet w c t l is settled = (both_parts (is_quiet t l) (option_map_or (owes_nothing t l.stream) (finmap.get w.sites l.replica) false) (sym (link_settled w c t l is) ∙ settled)).0

at_end_quiet : (w : World) (c : ℕ) (t : TypeName) (l : Link) → IsAtEnd c t false w → link_in w c ≡ Some l → is_quiet t l ≡ true
at_end_quiet w c t l (inl gave) is = absurd cc
at_end_quiet w c t l (inr none) is = settled_quiet w c t l is (done_if_settled w c t l (is_settled w c t) refl is none)

-- after a poll that gave nothing
ended_quiet : (test : Test) (c : ℕ) (t : TypeName) (y : World) (s : Spot y c) (hs : List Happening) (l : Link) → is_quiet t s.link ≡ true → Done (IsAtEnd c t) test c t true y hs → link_in (after test y hs) c ≡ Some l → is_quiet t l ≡ true
ended_quiet test c t y s [] l quiet done is = ap (is_quiet t) (some_is l s.link (sym is ∙ link_at y c s)) ∙ quiet
ended_quiet test c t y s (h ∷ hs) l quiet done is = let never : true ≡ false = done.0 in absurd cc

quiet_after : (test : Test) (c : ℕ) (t : TypeName) (hs : List Happening) (w : World) (l : Link) → IsSure w → Done (IsAtEnd c t) test c t false w hs → link_in (after test w hs) c ≡ Some l → is_quiet t l ≡ true
quiet_after test c t [] w l all done is = at_end_quiet w c t l done is
quiet_after test c t (h ∷ hs) w l all done is =
    let there = then_there (happens test w h) (λ x. Done (IsAtEnd c t) test c t (gave_nothing t h (link_in x c)) x hs) done.1.1 in
    let y : World = there.0 in
    let next = next_there test w c t h all done.1.0 in
    let m = next_moved test w y all.1 c t h next.spot next.three there.1 all.2.fine in
    let left : link_in (after test y hs) c ≡ Some l = ap (λ o. link_in (after test (option_map_or (λ x. x) o w) hs) c) (sym there.1) ∙ is in
    let later = λ (gave : gave_nothing t h (link_in y c) ≡ false). quiet_after test c t hs y l (sure_next test w y c t h next.spot next.three there.1 all) (subst (λ b. Done (IsAtEnd c t) test c t b y hs) gave there.2) left in
    elim m.how [
      | inl stays ↦ later stays.4
      | inr (inl takes) ↦ later takes.5
      | inr (inr (inl sends)) ↦ later sends.gave
      | inr (inr (inr ends)) ↦ ended_quiet test c t y m.spot hs l ends.2 (subst (λ b. Done (IsAtEnd c t) test c t b y hs) ends.1 there.2) left
    ]

pub quiet_at_the_end : (test : Test) (hs : List Happening) → PutResources hs → QuietAtTheEnd test hs
quiet_at_the_end test hs put c t more l settling is = quiet_after test c t more (world test hs) l (world_sure test hs put) settling is
