-- What keeps a link's lanes on the client's side: a response that it takes, a change, the start of a stream and its loss.
use Rattle.std.proofs.Common.{◌≡◌, ◌≢◌, ◌⊎◌, inl, inr, ℕ, zero, List, [], ◌∷◌, ◌++◌, Bool, true, false, Option, Some, None, Result, Ok, Err, refl, sym, ap, subst, ◌∙◌, append-nil, arith}
use Rattle.std.specs.Prelude.{if◌then◌else◌}
use Rattle.std.specs.Option.{option_and_then}
use Rattle.std.specs.List.{AllByRecursion}
use Rattle.std.specs.FinMap as finmap
use Rattle.xds_resource.specs.declared.types.TypeName.{TypeName}
use Rattle.xds_resource.specs.declared.refusal.Refusal.{Refusal}
use Rattle.xds_resource.specs.declared.refusal.Refusal.TheVariants.{NoStream}
use Rattle.xds_resource.specs.Types.{row, types, is_same_type}
use Rattle.xds_resource.specs.Writes.{text_cmp}
use Rattle.xds_resource.specs.PerType.{at, with_at}
use Rattle.xds_resource.proofs.TypesApart.{same_type, is_same_type-same, at-with_at, at-with_at_other, at-each, at-per_type}
use Rattle.xds_interest.specs.Asked.{IsStarOfComplete}
use Rattle.xds_message.specs.Messages.{Identity}
use Rattle.xds_message.specs.declared.draft.Draft.{Draft}
use Rattle.xds_message.specs.declared.draft.Draft.TheVariants as drafts
use Rattle.xds_message.specs.Drafts.{message_of, delta_message_of}
use Rattle.xds_message.specs.DraftTexts.{kind_of}
use Rattle.xds_ledger.specs.declared.variant.VariantName.{VariantName}
use Rattle.xds_ledger.specs.declared.variant.VariantName.TheVariants as variants
use Rattle.xds_ledger.specs.Sessions.{Session, unopened}
use Rattle.xds_core.specs.Streams as streams
use Rattle.xds_core.specs.Streams.{Stream, Message, variant_of, url_of, nonce_of, session_after, opening}
use Rattle.xds_cache.specs.Shelves.{Wants, Shelf, is_wanted, wants_some, wanting, connected, lost, bare}
use Rattle.xds_cache.specs.Faults.{Test}
use Rattle.xds_cache.specs.Clients.{Client, shelf, with_shelf, node, is_sent, shelf_after, changed, linked, unlinked, addressing, addressed_or, if_asked}
use Rattle.xds_cache.specs.Deliveries.{fault_in, delivered}
use Rattle.xds_cache.specs.Sends.{sotw_first, delta_first}
use Rattle.xds_cache.specs.Receives.{Outcome, sotw_answered, delta_answered, if_addressed}
use Rattle.xds_cache.proofs.Interests.{kept_by_name, holds_what_is_wanted}
use Rattle.xds_script.specs.declared.event.ClientKind.{ClientKind}
use Rattle.xds_script.specs.declared.event.ClientKind.TheVariants.{Sotw, Delta, Rest}
use Rattle.xds_world.specs.Worlds.{Link, received_in, received_by, opening_requests, under_way, has_streams}
use Rattle.xds_world.specs.Knows.{TypedWrite}
use Rattle.xds_world.proofs.Replicas.{some_is, never}
use Rattle.xds_world.proofs.Folding.{folded, quiet_folded, folded_more, taken_more}
use Rattle.xds_world.proofs.ByOneName.{kept_after, kept_made}
use Rattle.xds_world.proofs.Lanes.{variant_in, delivery, delivered_parts, reply, reply_variant, reply_url, reply_nonce, IsMade, IsWithin, AllMade, Abreast, asks_none, none_sent, awaited, nothing_sent, taken_if_sent}
use Rattle.xds_world.proofs.LaneSteps.{abreast_delivered, IsChange, change_taken, abreast_changed, nothing_wanted, abreast_unopened, abreast_asked, opening_of, abreast_opened}
use Rattle.xds_world.proofs.Queues.{lane_up, lane_down, own_more, other_more, IsOf, all_of-append, IsNumbered, all_numbered-append, Lane, Linked, started}
use Rattle.xds_world.proofs.LinkSteps.{undecided_session}
use Rattle.xds_world.proofs.Firsts.{firsts, once, all_firsts, first_lane}
use Rattle.xds_message.proofs.StampedWriteLemmas.{type_of_url-url}

-- ---- Down

pub one_down : (d : Draft) (rest : List Draft) (down : Option Draft) → d ∷ rest ≡ under_way down → (down ≡ Some d) × (rest ≡ [])
one_down d rest None is = absurd cc
one_down d rest (Some e) is = (ap Some (sym (head_is d e rest [] is)), tail_is d e rest [] is)
  where
    head_is : (x y : Draft) (xs ys : List Draft) → x ∷ xs ≡ y ∷ ys → x ≡ y
    head_is x y xs ys e = cc

    tail_is : (x y : Draft) (xs ys : List Draft) → x ∷ xs ≡ y ∷ ys → xs ≡ ys
    tail_is x y xs ys e = cc

own_first : (d : Draft) (rest ds : List Draft) → ds ≡ d ∷ rest → lane_down (kind_of d) ds ≡ d ∷ lane_down (kind_of d) rest
own_first d rest ds is = ap (lane_down (kind_of d)) is ∙ ap (λ b. if b then d ∷ lane_down (kind_of d) rest else lane_down (kind_of d) rest) (is_same_type-same (kind_of d))

-- the oldest response is the one that is unanswered of its type
pub brought : (v : VariantName) (all : List TypedWrite) (c : Client) (l : Link) (x : Stream) (d : Draft) (rest : List Draft) → l.down ≡ d ∷ rest → Linked v all c l x
    → let t = kind_of d in Abreast v c.cluster all t (folded t (at x.sessions t) (lane_up t l.up)) (Some d) (shelf c t)
brought v all c l x d rest down linked =
    let t : TypeName = kind_of d in
    let lane = linked.lanes t in
    subst (λ o. Abreast v c.cluster all t (folded t (at x.sessions t) (lane_up t l.up)) o (shelf c t)) (one_down d (lane_down t rest) lane.down (sym (own_first d rest l.down down) ∙ lane.downs_are)).0 lane.abreast

-- and is of the client's variant
pub brought_speaks : (v : VariantName) (all : List TypedWrite) (c : Client) (l : Link) (x : Stream) (d : Draft) (rest : List Draft) → l.down ≡ d ∷ rest → Linked v all c l x → variant_in d ≡ v
brought_speaks v all c l x d rest down linked =
    let t : TypeName = kind_of d in
    let s : Session = folded t (at x.sessions t) (lane_up t l.up) in
    (awaited v all t s.account.nonce s.account.sent (shelf c t).wants (shelf c t).nonce d (brought v all c l x d rest down linked).awaits).2.speaks

-- while the stream's variant isn't decided, there is none
pub none_brought : (v : VariantName) (all : List TypedWrite) (c : Client) (l : Link) (x : Stream) (d : Draft) (rest : List Draft) → l.down ≡ d ∷ rest → x.variant ≡ None → Linked v all c l x → ⊥
none_brought v all c l x d rest down none linked =
    let t : TypeName = kind_of d in
    let s : Session = folded t (at x.sessions t) (lane_up t l.up) in
    let sent = awaited v all t s.account.nonce s.account.sent (shelf c t).wants (shelf c t).nonce d (brought v all c l x d rest down linked).awaits in
    none_sent s.account.sent sent.0 (quiet_folded t (at x.sessions t) (lane_up t l.up) (ap (λ (k : Session). k.account.sent) (undecided_session v c.cluster x t linked.variant none))) sent.1

-- the lane of the type of a response that the client took
lane_delivered : (v : VariantName) (cluster : List ℕ) (all : List TypedWrite) (t : TypeName) (test : Test) (s : Session) (count : ℕ) (ups : List Message) (rest : List Draft) (d : Draft) (f : Shelf) → Lane v cluster all t s count ups (d ∷ rest) f
    → Lane v cluster all t s count (ups ++ reply t test f d ∷ []) rest (delivered t test f (delivery t d))
lane_delivered v cluster all t test s count ups rest d f lane =
    let m : Message = reply t test f d in
    let here = one_down d rest lane.down lane.downs_are in
    let abreast : Abreast v cluster all t (folded t s ups) (Some d) f = subst (λ x. Abreast v cluster all t (folded t s ups) x f) here.0 lane.abreast in
    let number = lane.answered d here.0 in
    let sent = awaited v all t (folded t s ups).account.nonce (folded t s ups).account.sent f.wants f.nonce d abreast.awaits in
    record {
      down = None;
      downs_are = here.1;
      stands = lane.stands;
      taken = taken_more t s ups m lane.taken (taken_if_sent (folded t s ups) (nonce_of m) sent.0 sent.1);
      numbered = all_numbered-append count ups m lane.numbered (number.0, number.1, reply_nonce t test f d ∙ number.2);
      answered = λ e is. absurd (never e is);
      last = (number.0, number.1, (delivered_parts t f (delivery t d) (fault_in t test (delivery t d))).1 ∙ number.2);
      abreast = subst (λ x. Abreast v cluster all t x None (delivered t test f (delivery t d))) (sym (folded_more t s ups m)) (abreast_delivered v cluster all t test (folded t s ups) f d abreast);
    }

down_lane : (v : VariantName) (all : List TypedWrite) (test : Test) (c : Client) (l : Link) (x : Stream) (d : Draft) (rest : List Draft) (s t : TypeName) → ((s ≡ t) × (is_same_type s t ≡ true)) ⊎ ((s ≢ t) × (is_same_type s t ≡ false)) → kind_of d ≡ s
    → Lane v c.cluster all t (at x.sessions t) x.count (lane_up t l.up) (lane_down t (d ∷ rest)) (shelf c t)
    → Lane v c.cluster all t (at x.sessions t) x.count (lane_up t (l.up ++ reply s test (shelf c s) d ∷ [])) (lane_down t rest) (at (with_at c.shelves s (delivered s test (shelf c s) (delivery s d))) t)
down_lane v all test c l x d rest s t (inl same) kind lane =
    let m : Message = reply s test (shelf c s) d in
    let f : Shelf = delivered s test (shelf c s) (delivery s d) in
    let here : Lane v c.cluster all s (at x.sessions s) x.count (lane_up s l.up) (d ∷ lane_down s rest) (shelf c s) =
    subst (λ b. Lane v c.cluster all s (at x.sessions s) x.count (lane_up s l.up) (if b then d ∷ lane_down s rest else lane_down s rest) (shelf c s)) (ap (λ r. is_same_type r s) kind ∙ is_same_type-same s)
    (subst (λ r. Lane v c.cluster all r (at x.sessions r) x.count (lane_up r l.up) (lane_down r (d ∷ rest)) (shelf c r)) (sym same.0) lane) in
    subst (λ r. Lane v c.cluster all r (at x.sessions r) x.count (lane_up r (l.up ++ m ∷ [])) (lane_down r rest) (at (with_at c.shelves s f) r)) same.0
    (subst (λ ups. Lane v c.cluster all s (at x.sessions s) x.count ups (lane_down s rest) (at (with_at c.shelves s f) s)) (sym (own_more s l.up m (reply_url s test (shelf c s) d)))
    (subst (Lane v c.cluster all s (at x.sessions s) x.count (lane_up s l.up ++ m ∷ []) (lane_down s rest)) (sym (at-with_at c.shelves s f)) (lane_delivered v c.cluster all s test (at x.sessions s) x.count (lane_up s l.up) (lane_down s rest) d (shelf c s) here)))
down_lane v all test c l x d rest s t (inr other) kind lane =
    let m : Message = reply s test (shelf c s) d in
    let f : Shelf = delivered s test (shelf c s) (delivery s d) in
    subst (λ ups. Lane v c.cluster all t (at x.sessions t) x.count ups (lane_down t rest) (at (with_at c.shelves s f) t)) (sym (other_more s t l.up m (reply_url s test (shelf c s) d) other.1))
    (subst (Lane v c.cluster all t (at x.sessions t) x.count (lane_up t l.up) (lane_down t rest)) (sym (at-with_at_other c.shelves s f t (λ e. other.0 (sym e))))
    (subst (λ b. Lane v c.cluster all t (at x.sessions t) x.count (lane_up t l.up) (if b then d ∷ lane_down t rest else lane_down t rest) (shelf c t)) (ap (λ r. is_same_type r t) kind ∙ other.1) lane))

-- a client that took a response, and its answer
abbrev pub once_taken : Test → Client → Draft → Client × Message
once_taken test c d = let t = kind_of d in (with_shelf c t (delivered t test (shelf c t) (delivery t d)), reply t test (shelf c t) d)

received_ok : {X : Type 0} (tag : X → Message) (r : Outcome X) (q : Client × Message) → received_by tag r ≡ Some q → (p : Client × X) × (r ≡ Ok p) × (q ≡ (p.0, tag p.1))
received_ok tag (Ok p) q is = (p, refl, sym (some_is (p.0, tag p.1) q is))
received_ok tag (Err e) q is = absurd cc

answered_ok : {X : Type 0} (g : TypeName → Client × X) (r : Result TypeName Refusal) (p : Client × X) → if_addressed g r ≡ Ok p → (t : TypeName) × (r ≡ Ok t) × (p ≡ g t)
answered_ok {X} g (Ok t) p is = (t, refl, ok_is (g t) p is)
  where
    ok_is : (x y : Client × X) → ◌≡◌ {A = Outcome X} (Ok x) (Ok y) → y ≡ x
    ok_is x y e = cc
answered_ok g (Err e) p is = absurd cc

addressed_to : (broken asked : Bool) (s t : TypeName) → ◌≡◌ {A = Result TypeName Refusal} (if broken then Err NoStream else addressed_or (if asked then Some s else None)) (Ok t) → t ≡ s
addressed_to true asked s t is = absurd cc
addressed_to false true s t is = cc
addressed_to false false s t is = absurd cc

-- by the answer of a type, to a response that is of that type where the client asked for it
taken_as : {X : Type 0} (tag : X → Message) (g : TypeName → Client × X) (c : Client) (t : TypeName) (q : Client × Message) → received_by tag (if_addressed g (addressing c (row t).url)) ≡ Some q → q ≡ ((g t).0, tag (g t).1)
taken_as tag g c t q is =
    let made = received_ok tag (if_addressed g (addressing c (row t).url)) q is in
    let answer = answered_ok g (addressing c (row t).url) made.0 made.1 in
    let typed : answer.0 ≡ t = addressed_to c.broken (shelf c t).asked t answer.0 (ap (λ o. if c.broken then Err NoStream else addressed_or (option_and_then (if_asked c) o)) (sym (type_of_url-url t)) ∙ answer.1) in
    made.2 ∙ ap (λ p. (p.0, tag p.1)) (answer.2 ∙ ap g typed)

pub received_is : (k : ClientKind) (test : Test) (c : Client) (d : Draft) (q : Client × Message) → received_in test k c d ≡ Some q → q ≡ once_taken test c d
received_is Sotw test c (drafts.Sotw d) q is = taken_as streams.Sotw (sotw_answered test c (message_of d)) c d.kind q is
received_is Sotw test c (drafts.Delta d) q is = absurd cc
received_is Delta test c (drafts.Sotw d) q is = absurd cc
received_is Delta test c (drafts.Delta d) q is = taken_as streams.Delta (delta_answered test c (delta_message_of d)) c d.kind q is
received_is Rest test c d q is = absurd (never q is)

with_wants : (c : Client) (s : TypeName) (f : Shelf) (t : TypeName) → f.wants ≡ (shelf c s).wants → (shelf (with_shelf c s f) t).wants ≡ (shelf c t).wants
with_wants c s f t same =
    elim (same_type s t) [
      | inl equal ↦ subst (λ r. (shelf (with_shelf c s f) r).wants ≡ (shelf c r).wants) equal.0 (ap (λ (x : Shelf). x.wants) (at-with_at c.shelves s f) ∙ same)
      | inr other ↦ ap (λ (x : Shelf). x.wants) (at-with_at_other c.shelves s f t (λ e. other.0 (sym e)))
    ]

-- and wants what it wanted
pub received_wants : (k : ClientKind) (test : Test) (c : Client) (d : Draft) (q : Client × Message) (t : TypeName) → received_in test k c d ≡ Some q → (shelf q.0 t).wants ≡ (shelf c t).wants
received_wants k test c d q t is =
    let s : TypeName = kind_of d in
    ap (λ (p : Client × Message). (shelf p.0 t).wants) (received_is k test c d q is) ∙ with_wants c s (delivered s test (shelf c s) (delivery s d)) t (delivered_parts s (shelf c s) (delivery s d) (fault_in s test (delivery s d))).0

-- the client took the oldest response
pub linked_down : (v : VariantName) (all : List TypedWrite) (test : Test) (c : Client) (l : Link) (x : Stream) (d : Draft) (rest : List Draft) → l.down ≡ d ∷ rest → Linked v all c l x
    → let q = once_taken test c d in Linked v all q.0 (record l { up = l.up ++ q.1 ∷ []; down = rest }) x
linked_down v all test c l x d rest down linked =
    let s : TypeName = kind_of d in
    let m : Message = reply s test (shelf c s) d in
    record {
      variant = linked.variant;
      counted = linked.counted;
      requests = all_of-append v l.up (m ∷ []) linked.requests ((s, reply_variant s test (shelf c s) d ∙ brought_speaks v all c l x d rest down linked, reply_url s test (shelf c s) d), tt);
      lanes = λ t. down_lane v all test c l x d rest s t (same_type s t) refl (subst (λ ds. Lane v c.cluster all t (at x.sessions t) x.count (lane_up t l.up) (lane_down t ds) (shelf c t)) down (linked.lanes t));
    }

-- ---- Change

change_numbered : (count : ℕ) (f : Shelf) (nonce : List ℕ) → (nonce ≡ []) ⊎ (nonce ≡ f.nonce) → IsNumbered count f.nonce → IsNumbered count nonce
change_numbered count f nonce (inl none) is = (zero, omega arith, none)
change_numbered count f nonce (inr last) is = (is.0, is.1, last ∙ is.2)

module _ (v : VariantName) (cluster : List ℕ) (all : List TypedWrite) (t : TypeName) (w : Wants) (m : Message) (f : Shelf) (change : IsChange v t f w m) where
  -- what is under way and kept once the client wants something else of a type, and says so
  lane_changed : (s : Session) (count : ℕ) (ups : List Message) (downs : List Draft) → f.asked ≡ true → Lane v cluster all t s count ups downs f → Lane v cluster all t s count (ups ++ m ∷ []) downs (wanting t w true f)
  lane_changed s count ups downs asked lane = record {
    down = lane.down;
    downs_are = lane.downs_are;
    stands = lane.stands;
    taken = taken_more t s ups m lane.taken (change_taken v all t (folded t s ups) f lane.down (nonce_of m) change.nonce lane.abreast.awaits);
    numbered = all_numbered-append count ups m lane.numbered (change_numbered count f (nonce_of m) change.nonce lane.last);
    answered = lane.answered;
    last = lane.last;
    abreast = subst (λ x. Abreast v cluster all t x lane.down (wanting t w true f)) (sym (folded_more t s ups m)) (abreast_changed v cluster all t w m (folded t s ups) lane.down f asked change lane.abreast);
  }

  -- the same for the first time on its stream
  lane_asked : (s : Session) (count : ℕ) (ups : List Message) (downs : List Draft) → f.asked ≡ false → wants_some w ≡ true → Lane v cluster all t s count ups downs f → Lane v cluster all t s count (ups ++ m ∷ []) downs (wanting t w true f)
  lane_asked s count ups downs not_asked some lane =
      let before = asks_none v cluster t (folded t s ups) f not_asked lane.abreast.asks in
      let none = nothing_sent v all t (folded t s ups).account.nonce (folded t s ups).account.sent f.wants f.nonce lane.down (ap (λ x. x.account.sent) before.0) lane.abreast.awaits in
      record {
        down = None;
        downs_are = lane.downs_are ∙ ap under_way none.0;
        stands = lane.stands;
        taken = taken_more t s ups m lane.taken (change_taken v all t (folded t s ups) f lane.down (nonce_of m) change.nonce lane.abreast.awaits);
        numbered = all_numbered-append count ups m lane.numbered (change_numbered count f (nonce_of m) change.nonce lane.last);
        answered = λ d is. absurd (never d is);
        last = lane.last;
        abreast = subst (λ x. Abreast v cluster all t x None (wanting t w true f)) (sym (folded_more t s ups m ∙ ap (λ x. session_after t x m) before.0)) (abreast_asked v cluster all t w m f change before.1 some before.2 lane.abreast.within);
      }

  -- what isn't sent: nothing is wanted, and the type wasn't asked for
  lane_unsent : (s : Session) (count : ℕ) (ups : List Message) (downs : List Draft) → f.asked ≡ false → wants_some w ≡ false → Lane v cluster all t s count ups downs f → Lane v cluster all t s count ups downs (wanting t w f.asked f)
  lane_unsent s count ups downs not_asked some lane =
      let before = asks_none v cluster t (folded t s ups) f not_asked lane.abreast.asks in
      let none = nothing_sent v all t (folded t s ups).account.nonce (folded t s ups).account.sent f.wants f.nonce lane.down (ap (λ x. x.account.sent) before.0) lane.abreast.awaits in
      record {
        down = None;
        downs_are = lane.downs_are ∙ ap under_way none.0;
        stands = lane.stands;
        taken = lane.taken;
        numbered = lane.numbered;
        answered = λ d is. absurd (never d is);
        last = lane.last;
        abreast = subst (λ x. Abreast v cluster all t x None (wanting t w f.asked f)) (sym before.0)
            (abreast_unopened v cluster all t (wanting t w f.asked f) not_asked some before.2 (λ name. kept_by_name t w f.cache name ∙ ap (λ b. kept_after b (finmap.get f.cache name)) (nothing_wanted t w name some)));
      }

  lane_wished : (s : Session) (count : ℕ) (ms : List Message) (downs : List Draft) (asked some : Bool) → f.asked ≡ asked → wants_some w ≡ some → Lane v cluster all t s count (lane_up t ms) downs f
      → let sent = (if asked then true else some) in Lane v cluster all t s count (lane_up t (ms ++ (if sent then m ∷ [] else []))) downs (wanting t w (if sent then true else f.asked) f)
  lane_wished s count ms downs true some asked is lane = subst (λ ups. Lane v cluster all t s count ups downs (wanting t w true f)) (sym (own_more t ms m change.url)) (lane_changed s count (lane_up t ms) downs asked lane)
  lane_wished s count ms downs false true asked is lane = subst (λ ups. Lane v cluster all t s count ups downs (wanting t w true f)) (sym (own_more t ms m change.url)) (lane_asked s count (lane_up t ms) downs asked is lane)
  lane_wished s count ms downs false false asked is lane = subst (λ l. Lane v cluster all t s count (lane_up t l) downs (wanting t w f.asked f)) (sym (append-nil ms)) (lane_unsent s count (lane_up t ms) downs asked is lane)

-- what a message of another type adds
lane_beside : (v : VariantName) (cluster : List ℕ) (all : List TypedWrite) (s t : TypeName) (k : Session) (count : ℕ) (ms : List Message) (downs : List Draft) (f : Shelf) (m : Message) (sent : Bool) → url_of m ≡ (row s).url → is_same_type s t ≡ false
    → Lane v cluster all t k count (lane_up t ms) downs f → Lane v cluster all t k count (lane_up t (ms ++ (if sent then m ∷ [] else []))) downs f
lane_beside v cluster all s t k count ms downs f m true url other lane = subst (λ ups. Lane v cluster all t k count ups downs f) (sym (other_more s t ms m url other)) lane
lane_beside v cluster all s t k count ms downs f m false url other lane = subst (λ l. Lane v cluster all t k count (lane_up t l) downs f) (sym (append-nil ms)) lane

module _ (v : VariantName) (all : List TypedWrite) (c : Client) (l : Link) (x : Stream) (s : TypeName) (w : Wants) (m : Message) (change : IsChange v s (shelf c s) w m) where
  -- the requests under way then
  abbrev ups : List Message
  ups = l.up ++ (if is_sent true (shelf c s) w then m ∷ [] else [])

  change_lane : (t : TypeName) → ((s ≡ t) × (is_same_type s t ≡ true)) ⊎ ((s ≢ t) × (is_same_type s t ≡ false)) → Lane v c.cluster all t (at x.sessions t) x.count (lane_up t l.up) (lane_down t l.down) (shelf c t)
      → Lane v c.cluster all t (at x.sessions t) x.count (lane_up t ups) (lane_down t l.down) (at (with_at c.shelves s (shelf_after true s w c)) t)
  change_lane t (inl same) lane =
      subst (λ r. Lane v c.cluster all r (at x.sessions r) x.count (lane_up r ups) (lane_down r l.down) (at (with_at c.shelves s (shelf_after true s w c)) r)) same.0
      (subst (Lane v c.cluster all s (at x.sessions s) x.count (lane_up s ups) (lane_down s l.down)) (sym (at-with_at c.shelves s (shelf_after true s w c)))
      (lane_wished v c.cluster all s w m (shelf c s) change (at x.sessions s) x.count l.up (lane_down s l.down) (shelf c s).asked (wants_some w) refl refl
      (subst (λ r. Lane v c.cluster all r (at x.sessions r) x.count (lane_up r l.up) (lane_down r l.down) (shelf c r)) (sym same.0) lane)))
  change_lane t (inr other) lane =
      subst (Lane v c.cluster all t (at x.sessions t) x.count (lane_up t ups) (lane_down t l.down)) (sym (at-with_at_other c.shelves s (shelf_after true s w c) t (λ e. other.0 (sym e))))
      (lane_beside v c.cluster all s t (at x.sessions t) x.count l.up (lane_down t l.down) (shelf c t) m (is_sent true (shelf c s) w) change.url other.1 lane)

  sent_of : (sent : Bool) → AllByRecursion (IsOf v) (if sent then m ∷ [] else [])
  sent_of true = ((s, change.variant, change.url), tt)
  sent_of false = tt

  -- the client changed what it wants
  pub linked_changed : Linked v all c l x → Linked v all (changed true s w c) (record l { up = ups }) x
  linked_changed linked = record {
    variant = linked.variant;
    counted = linked.counted;
    requests = all_of-append v l.up (if is_sent true (shelf c s) w then m ∷ [] else []) linked.requests (sent_of (is_sent true (shelf c s) w));
    lanes = λ t. change_lane t (same_type s t) (linked.lanes t);
  }

-- ---- the start of a stream

-- what is kept of a type while the client has no stream
pub record Rests (v : VariantName) (all : List TypedWrite) (t : TypeName) (f : Shelf) : Type 0 where
  pub within : IsWithin t f
  pub made : AllMade v all t f

opening_nonce : (v : VariantName) (t : TypeName) (who : Option Identity) (f : Shelf) → nonce_of (opening_of v t who f) ≡ []
opening_nonce variants.StateOfTheWorld t who f = refl
opening_nonce variants.Delta t who f = refl

opening_is : (v : VariantName) (t : TypeName) (who : Option Identity) (f : Shelf) → IsOf v (opening_of v t who f)
opening_is variants.StateOfTheWorld t who f = (t, refl, refl)
opening_is variants.Delta t who f = (t, refl, refl)

opening_url : (v : VariantName) (t : TypeName) (who : Option Identity) (f : Shelf) → url_of (opening_of v t who f) ≡ (row t).url
opening_url variants.StateOfTheWorld t who f = refl
opening_url variants.Delta t who f = refl

star_of_none : (cluster : List ℕ) (t : TypeName) → IsStarOfComplete t (unopened cluster).asked
star_of_none cluster t incomplete = refl

-- the lane of a type at the start of a stream
lane_opened : (v : VariantName) (cluster : List ℕ) (all : List TypedWrite) (t : TypeName) (who : Option Identity) (f : Shelf) (some : Bool) → wants_some f.wants ≡ some → Rests v all t f
    → Lane v cluster all t (unopened cluster) 0 (if some then opening_of v t who f ∷ [] else []) [] (connected f)
lane_opened v cluster all t who f true some rests = record {
  down = None;
  downs_are = refl;
  stands = star_of_none cluster t;
  taken = (refl, tt);
  numbered = ((zero, omega arith, opening_nonce v t who f), tt);
  answered = λ d is. absurd (never d is);
  last = (zero, omega arith, refl);
  abreast = abreast_opened v cluster all t who f some rests.within rests.made;
}
lane_opened v cluster all t who f false some rests = record {
  down = None;
  downs_are = refl;
  stands = star_of_none cluster t;
  taken = tt;
  numbered = tt;
  answered = λ d is. absurd (never d is);
  last = (zero, omega arith, refl);
  abreast = abreast_unopened v cluster all t (connected f) some some refl (λ name. rests.within name (nothing_wanted t f.wants name some));
}

pub connected_shelf : (c : Client) (greeted : Bool) (t : TypeName) → shelf (linked greeted c) t ≡ connected (shelf c t)
connected_shelf c greeted t = at-per_type (λ s. connected (shelf c s)) t

opened_by : {X : Type 0} (tag : X → Message) (make : TypeName → Bool → X) (v : VariantName) (all : List TypedWrite) (c : Client) (r n : ℕ) (greeted : Bool) → ((t : TypeName) (g : Bool) → opening_of v t (node g c) (shelf c t) ≡ tag (make t g)) → ((t : TypeName) → Rests v all t (shelf c t))
    → Linked v all (linked greeted c) (record { replica = r; stream = n; up = firsts tag make c false types; down = [] }) (started c.cluster opening)
opened_by tag make v all c r n greeted same rests = record {
  variant = inl (refl, refl);
  counted = omega arith;
  requests = all_firsts tag make c (IsOf v) (λ t g. subst (IsOf v) (same t g) (opening_is v t (node g c) (shelf c t))) false types;
  lanes = λ t.
      let first = first_lane tag make c (λ s g. ap url_of (sym (same s g)) ∙ opening_url v s (node g c) (shelf c s)) t false types (once t) in
      subst (λ k. Lane v c.cluster all t k 0 (lane_up t (firsts tag make c false types)) [] (shelf (linked greeted c) t)) (sym (at-each (unopened c.cluster) t))
      (subst (λ ups. Lane v c.cluster all t (unopened c.cluster) 0 ups [] (shelf (linked greeted c) t)) (sym first.1)
      (subst (λ m. Lane v c.cluster all t (unopened c.cluster) 0 (if wants_some (shelf c t).wants then m ∷ [] else []) [] (shelf (linked greeted c) t)) (same t first.0)
      (subst (Lane v c.cluster all t (unopened c.cluster) 0 (if wants_some (shelf c t).wants then opening_of v t (node first.0 c) (shelf c t) ∷ [] else []) []) (sym (connected_shelf c greeted t))
      (lane_opened v c.cluster all t (node first.0 c) (shelf c t) (wants_some (shelf c t).wants) refl (rests t)))));
}

-- the variant that a client speaks; one that polls has no stream
abbrev pub spoken : ClientKind → VariantName
spoken Sotw = variants.StateOfTheWorld
spoken Delta = variants.Delta
spoken Rest = variants.StateOfTheWorld

-- the client connected
pub linked_opened : (k : ClientKind) (all : List TypedWrite) (c : Client) (r n : ℕ) (greeted : Bool) → has_streams k ≡ true → ((t : TypeName) → Rests (spoken k) all t (shelf c t))
    → Linked (spoken k) all (linked greeted c) (record { replica = r; stream = n; up = opening_requests k c; down = [] }) (started c.cluster opening)
linked_opened Sotw all c r n greeted has rests = opened_by streams.Sotw (sotw_first c) variants.StateOfTheWorld all c r n greeted (λ t g. refl) rests
linked_opened Delta all c r n greeted has rests = opened_by streams.Delta (delta_first c) variants.Delta all c r n greeted (λ t g. refl) rests
linked_opened Rest all c r n greeted has rests = absurd cc

-- ---- its loss

pub lost_shelf : (c : Client) (t : TypeName) → shelf (unlinked c) t ≡ lost (shelf c t)
lost_shelf c t = at-per_type (λ s. lost (shelf c s)) t

pub rests_lost : (v : VariantName) (all : List TypedWrite) (c : Client) (l : Link) (x : Stream) → Linked v all c l x → (t : TypeName) → Rests v all t (shelf (unlinked c) t)
rests_lost v all c l x linked t =
    let lane = linked.lanes t in
    subst (Rests v all t) (sym (lost_shelf c t)) (record { within = lane.abreast.within; made = lane.abreast.made })

-- and a change without a stream
pub rests_changed : (v : VariantName) (all : List TypedWrite) (c : Client) (s : TypeName) (w : Wants) → ((t : TypeName) → Rests v all t (shelf c t)) → (t : TypeName) → Rests v all t (shelf (changed false s w c) t)
rests_changed v all c s w rests t = by_type (same_type s t)
  where
    by_type : ((s ≡ t) × (is_same_type s t ≡ true)) ⊎ ((s ≢ t) × (is_same_type s t ≡ false)) → Rests v all t (shelf (changed false s w c) t)
    by_type (inl same) =
        subst (λ r. Rests v all r (at (with_at c.shelves s (shelf_after false s w c)) r)) same.0
        (subst (Rests v all s) (sym (at-with_at c.shelves s (shelf_after false s w c)))
        (record {
          within = λ name unwanted. (holds_what_is_wanted s w false finmap.empty finmap.empty (shelf c s).cache name unwanted).1;
          made = λ name h held. kept_made (IsMade v all s name) (is_wanted s w name) (finmap.get (shelf c s).cache name) h ((rests s).made name) (sym (kept_by_name s w (shelf c s).cache name) ∙ held);
        }))
    by_type (inr other) = subst (Rests v all t) (sym (at-with_at_other c.shelves s (shelf_after false s w c) t (λ e. other.0 (sym e)))) (rests t)

-- a client that is new
pub rests_fresh : (v : VariantName) (all : List TypedWrite) (t : TypeName) → Rests v all t bare
rests_fresh v all t = record { within = λ name unwanted. finmap.get-empty text_cmp name; made = λ name h held. absurd (never h (sym (finmap.get-empty text_cmp name) ∙ held)) }
