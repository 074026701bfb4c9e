-- What a session has refused, and what a client will reject, states what its test refuses: what keeps this of a link.
use Rattle.std.proofs.Common.{◌≡◌, ◌≢◌, ◌⊎◌, inl, inr, ℕ, suc, ◌+◌, ◌≤◌, List, [], ◌∷◌, ◌++◌, Bool, true, false, Option, Some, None, Ok, refl, sym, ap, subst, ◌∙◌, append-nil}
use Rattle.std.specs.Prelude.{if◌then◌else◌, is_some, option_map}
use Rattle.std.specs.Option.{option_map_or}
use Rattle.std.specs.List.{AllByRecursion}
use Rattle.std.proofs.lemmas.List.Elements.{Contains-append_left}
use Rattle.std.proofs.Math.Numerals.{suc-eq-add-one}
use Rattle.xds_resource.specs.declared.types.TypeName.{TypeName}
use Rattle.xds_resource.specs.Types.{types, is_same_type}
use Rattle.xds_resource.specs.Stamps.{max_counter}
use Rattle.xds_resource.specs.PerType.{at}
use Rattle.xds_resource.proofs.TypesApart.{same_type, is_same_type-same, at-with_at, at-with_at_other, at-each}
use Rattle.xds_interest.specs.Touches.{Touch}
use Rattle.xds_message.specs.declared.draft.Draft.{Draft}
use Rattle.xds_message.specs.DraftTexts.{kind_of}
use Rattle.xds_ledger.specs.declared.outcome.Outcome.{Outcome}
use Rattle.xds_ledger.specs.declared.variant.VariantName.{VariantName}
use Rattle.xds_ledger.specs.Offers.{Offer}
use Rattle.xds_ledger.specs.Ledgers.{Account, settled, answers, answered}
use Rattle.xds_ledger.specs.Believing.{Sent, touched_since}
use Rattle.xds_ledger.specs.Sessions as sessions
use Rattle.xds_ledger.specs.Sessions.{Session, Answer, Names, unopened, is_stale, taken, send, sotw_names, delta_names}
use Rattle.xds_ledger.specs.Laws.{with_sent}
use Rattle.xds_core.specs.Stores.{Store}
use Rattle.xds_core.specs.Streams as streams
use Rattle.xds_core.specs.Streams.{Stream, Message, opening, variant_of, session_after, requested, polled_first, response_of}
use Rattle.xds_cache.specs.Faults.{Test}
use Rattle.xds_cache.specs.Deliveries.{fault_in}
use Rattle.xds_cache.specs.Clients.{Client, shelf, is_sent}
use Rattle.xds_cache.specs.Sends.{sotw_first, delta_first}
use Rattle.xds_script.specs.declared.event.ClientKind.{ClientKind}
use Rattle.xds_script.specs.declared.event.ClientKind.TheVariants.{Sotw, Delta, Rest}
use Rattle.xds_script.specs.Happenings.{Wish}
use Rattle.xds_world.specs.Worlds.{Link, Peer, opening_requests, has_streams, under_way, received_in, with_request, wish_of}
use Rattle.xds_world.specs.Knows.{TypedWrite, wished}
use Rattle.xds_world.specs.Claims.{asks_for}
use Rattle.xds_world.proofs.Replicas.{some_is, mapped_some, never}
use Rattle.xds_world.proofs.Delivering.{AllKnown}
use Rattle.xds_world.proofs.Firsts.{all_firsts}
use Rattle.xds_world.proofs.Folding.{names_of, rejects_in, answer_of, after_request, touched_by, sending_folded}
use Rattle.xds_world.proofs.Lanes.{delivery, answered_quiet, HasAnswer}
use Rattle.xds_world.proofs.Queues.{lane_up, lane_down, lane_down-append, none_answers, Linked, started}
use Rattle.xds_world.proofs.Starting.{started_decided}
use Rattle.xds_world.proofs.LinkSteps.{IsSent, poll_sent, poll_quiet, sending_facts, due_as, room_is, kind_is, draft_is}
use Rattle.xds_world.proofs.LinkTakes.{one_down, spoken}
use Rattle.xds_world.proofs.ByKind.{LinkedTo, none_brought, wished_is, rest_wished}
use Rattle.xds_world.proofs.SettlingSteps.{ahead, ahead_more, up_home, first_down, answer_asks, folded_ahead, down_answers}
use Rattle.xds_world.proofs.SettlingFaults.{IsBlamed, sent_blamed}

-- of a session, and the responses of its type that are under way: what was refused is to be blamed, and so is what will be
pub record IsFair (all : List TypedWrite) (test : Test) (t : TypeName) (a : Session) (downs : List Draft) : Type 0 where
  pub refused : (o : Offer) → a.account.refused ≡ Some o → IsBlamed all test t o
  pub awaits : (sent : Sent) (d : Draft) → a.account.sent ≡ Some sent → downs ≡ d ∷ [] → is_some (fault_in t test (delivery t d)) ≡ true → IsBlamed all test t sent.offer

blamed_more : (all more : List TypedWrite) (test : Test) (t : TypeName) (o : Offer) → IsBlamed all test t o → IsBlamed (all ++ more) test t o
blamed_more all more test t o is =
    record { name = is.name; version = is.version; write = is.write; body = is.body; states = is.states; made = Contains-append_left all more (t, is.write) is.made; is_at = is.is_at; puts = is.puts; refused = is.refused }

pub fair_more : (all more : List TypedWrite) (test : Test) (t : TypeName) (a : Session) (downs : List Draft) → IsFair all test t a downs → IsFair (all ++ more) test t a downs
fair_more all more test t a downs fair = record {
  refused = λ o is. blamed_more all more test t o (fair.refused o is);
  awaits = λ sent d has are at_fault. blamed_more all more test t sent.offer (fair.awaits sent d has are at_fault);
}

-- ---- a request that rejects nothing

-- what is refused then was before, and so was what is unanswered
abbrev pub Softer : Account → Account → Type 0
Softer before after = ((o : Offer) → after.refused ≡ Some o → before.refused ≡ Some o) × ((sent : Sent) → after.sent ≡ Some sent → (was : Sent) × (before.sent ≡ Some was) × (sent.offer ≡ was.offer))

softer_itself : (a : Account) → Softer a a
softer_itself a = (λ o is. is, λ sent is. (sent, is, refl))

softer_settled : (v : VariantName) (t : TypeName) (a : Account) (b : Bool) (o : Option Sent) → Softer a (if b then option_map_or (λ sent. answered v t a sent false) o a else a)
softer_settled v t a false o = softer_itself a
softer_settled v t a true None = softer_itself a
softer_settled v t a true (Some sent) = (λ o is. absurd (never o is), λ x is. absurd (never x is))

softer_taken : (v : VariantName) (t : TypeName) (s : Session) (answer : Answer) (names : Names) → answer.rejects ≡ false → Softer s.account (taken v t s answer names).account
softer_taken v t s answer names accepts =
    let soft : Softer s.account (settled v t s.account answer.nonce answer.rejects) =
    subst (λ b. Softer s.account (settled v t s.account answer.nonce b)) (sym accepts) (softer_settled v t s.account (answers s.account answer.nonce) s.account.sent) in
    (soft.0, λ sent is. let made = mapped_some (λ x. touched_since x names.touched) (settled v t s.account answer.nonce answer.rejects).sent sent is in let was = soft.1 made.0 made.1 in (was.0, was.1, ap (λ x. x.offer) made.2 ∙ was.2))

softer_after : (t : TypeName) (s : Session) (m : Message) → rejects_in m ≡ false → Softer s.account (session_after t s m).account
softer_after t s m accepts = after_request (λ x. Softer s.account x.account) t s m (softer_taken (variant_of m) t s (answer_of m) (names_of t s.asked m) accepts) (softer_itself s.account)

fair_soft : (all : List TypedWrite) (test : Test) (t : TypeName) (a b : Session) (downs : List Draft) → Softer a.account b.account → IsFair all test t a downs → IsFair all test t b downs
fair_soft all test t a b downs soft fair = record {
  refused = λ o is. fair.refused o (soft.0 o is);
  awaits = λ sent d has are at_fault. let was = soft.1 sent has in subst (IsBlamed all test t) (sym was.2) (fair.awaits was.0 d was.1 are at_fault);
}

softer_if : (t : TypeName) (s : Session) (m : Message) (b : Bool) → rejects_in m ≡ false → Softer s.account (if b then session_after t s m else s).account
softer_if t s m true accepts = softer_after t s m accepts
softer_if t s m false accepts = softer_itself s.account

-- one more under way
fair_request : (all : List TypedWrite) (test : Test) (t : TypeName) (s : Session) (ms : List Message) (m : Message) (downs : List Draft) → rejects_in m ≡ false → IsFair all test t (ahead t s ms) downs → IsFair all test t (ahead t s (ms ++ m ∷ [])) downs
fair_request all test t s ms m downs accepts fair =
    subst (λ a. IsFair all test t a downs) (sym (ahead_more t s ms m)) (fair_soft all test t (ahead t s ms) (if asks_for t m then session_after t (ahead t s ms) m else ahead t s ms) downs (softer_if t (ahead t s ms) m (asks_for t m) accepts) fair)

-- ---- on a link

-- with these sessions
abbrev pub FairAt : List TypedWrite → Test → Link → Stream → Type 0
FairAt all test l x = (t : TypeName) → IsFair all test t (ahead t (at x.sessions t) l.up) (lane_down t l.down)

-- and with those of a client of whatever cluster
abbrev pub FairOn : List TypedWrite → Test → Link → Stream → Type 0
FairOn all test l x = (cluster : List ℕ) → FairAt all test l (started cluster x)

-- once the variant is decided, that is the same
fair_as : (all : List TypedWrite) (test : Test) (l : Link) (x : Stream) (v : VariantName) → x.variant ≡ Some v → FairOn all test l x → FairAt all test l x
fair_as all test l x v decided fair = subst (FairAt all test l) (started_decided [] x v decided) (fair [])

linked_as : (k : ClientKind) (all : List TypedWrite) (c : Client) (l : Link) (x : Stream) (v : VariantName) → x.variant ≡ Some v → LinkedTo k all c l x → Linked (spoken k) all c l x
linked_as k all c l x v decided linked = subst (Linked (spoken k) all c l) (started_decided c.cluster x v decided) linked.1.1

pub fair_up : (k : ClientKind) (all : List TypedWrite) (test : Test) (c : Client) (l : Link) (x : Stream) (m : Message) (rest : List Message) (z : Outcome × Stream) → l.up ≡ m ∷ rest → requested x m ≡ Ok z → LinkedTo k all c l x → FairOn all test l x
    → FairOn all test (record l { up = rest }) z.1
fair_up k all test c l x m rest z up is linked fair cluster t = subst (λ a. IsFair all test t a (lane_down t l.down)) (sym (up_home k all c l x cluster t m rest z up is linked)) (fair c.cluster t)

-- ---- a change

fair_requested : (all : List TypedWrite) (test : Test) (l : Link) (x : Stream) (b : Bool) (m : Message) → rejects_in m ≡ false → FairOn all test l x → FairOn all test (with_request (if b then Some m else None) l) x
fair_requested all test l x false m accepts fair cluster t = fair cluster t
fair_requested all test l x true m accepts fair cluster t = fair_request all test t (at (started cluster x).sessions t) l.up m (lane_down t l.down) accepts (fair cluster t)

fair_wished : (k : ClientKind) → has_streams k ≡ true → (all : List TypedWrite) (test : Test) (p : Peer) (l : Link) (x : Stream) (t : TypeName) (wish : Wish) (q : Client × Option Message) → wish_of k p true t wish ≡ Some q → FairOn all test l x → FairOn all test (with_request q.1 l) x
fair_wished k has all test p l x t wish q is fair =
    let made = wished_is k has p true t wish q is in
    subst (λ o. FairOn all test (with_request o l) x) (sym made.sent) (fair_requested all test l x (is_sent true (shelf p.client t) (wished wish (shelf p.client t).wants)) made.message made.accepts fair)

pub fair_changed : (k : ClientKind) (all : List TypedWrite) (test : Test) (p : Peer) (l : Link) (x : Stream) (t : TypeName) (wish : Wish) (q : Client × Option Message) → wish_of k p true t wish ≡ Some q → FairOn all test l x → FairOn all test (with_request q.1 l) x
fair_changed Sotw all test p l x t wish q is fair = fair_wished Sotw refl all test p l x t wish q is fair
fair_changed Delta all test p l x t wish q is fair = fair_wished Delta refl all test p l x t wish q is fair
fair_changed Rest all test p l x t wish q is fair = subst (λ (y : Client × Option Message). FairOn all test (with_request y.1 l) x) (sym (rest_wished p true t wish q is)) fair

-- ---- the start of a stream

abbrev AllAccept : List Message → Type 0
AllAccept ms = AllByRecursion (λ m. rejects_in m ≡ false) ms

opening_accepts : (k : ClientKind) (c : Client) → AllAccept (opening_requests k c)
opening_accepts Sotw c = all_firsts streams.Sotw (sotw_first c) c (λ m. rejects_in m ≡ false) (λ t g. refl) false types
opening_accepts Delta c = all_firsts streams.Delta (delta_first c) c (λ m. rejects_in m ≡ false) (λ t g. refl) false types
opening_accepts Rest c = tt

fair_requests : (all : List TypedWrite) (test : Test) (t : TypeName) (s : Session) (ms : List Message) (downs : List Draft) → AllAccept ms → IsFair all test t s downs → IsFair all test t (ahead t s ms) downs
fair_requests all test t s [] downs accepts fair = fair
fair_requests all test t s (m ∷ ms) downs accepts fair =
    fair_requests all test t (if asks_for t m then session_after t s m else s) ms downs accepts.1 (fair_soft all test t s (if asks_for t m then session_after t s m else s) downs (softer_if t s m (asks_for t m) accepts.0) fair)

pub fair_opened : (k : ClientKind) (all : List TypedWrite) (test : Test) (c : Client) (r n : ℕ) → FairOn all test (record { replica = r; stream = n; up = opening_requests k c; down = [] }) opening
fair_opened k all test c r n cluster t =
    fair_requests all test t (at (started cluster opening).sessions t) (opening_requests k c) [] (opening_accepts k c)
    (subst (λ a. IsFair all test t a []) (sym (at-each (unopened cluster) t)) (record { refused = λ o is. absurd (never o is); awaits = λ sent d has. absurd (never sent has) }))

-- ---- a poll

-- to send before what is under way is to send after it
ahead_sent : (v : VariantName) (all : List TypedWrite) (c : Client) (l : Link) (x : Stream) (t : TypeName) (o : Offer) → Linked v all c l x → (at x.sessions t).account.sent ≡ None → suc x.count ≤ max_counter
    → (touched : List Touch) × (ahead t (send (at x.sessions t) o (suc x.count)) l.up ≡ with_sent (ahead t (at x.sessions t) l.up) o touched (suc x.count))
ahead_sent v all c l x t o linked none room =
    let lane = linked.lanes t in
    let s : Session = at x.sessions t in
    let ups : List Message = lane_up t l.up in (
      touched_by t s ups,
      sym (folded_ahead t (send s o (suc x.count)) l.up) ∙ sending_folded t s o [] (suc x.count) ups none lane.taken (none_answers x.count ups room lane.numbered)
          ∙ ap (λ a. with_sent a o (touched_by t s ups) (suc x.count)) (folded_ahead t s l.up),
    )

only_one : (xs : List Draft) (d e : Draft) → xs ++ d ∷ [] ≡ e ∷ [] → d ≡ e
only_one [] d e is = head_is d e [] [] is
  where
    head_is : (x y : Draft) (xs ys : List Draft) → x ∷ xs ≡ y ∷ ys → x ≡ y
    head_is x y xs ys e = cc
only_one (x ∷ xs) d e is = absurd (not_empty xs d (tail_is x e (xs ++ d ∷ []) [] is))
  where
    tail_is : (x y : Draft) (xs ys : List Draft) → x ∷ xs ≡ y ∷ ys → xs ≡ ys
    tail_is x y xs ys e = cc

    not_empty : (ys : List Draft) (z : Draft) → ys ++ z ∷ [] ≡ [] → ⊥
    not_empty [] z e = absurd cc
    not_empty (y ∷ ys) z e = absurd cc

fair_own : (v : VariantName) (all : List TypedWrite) (test : Test) (t : TypeName) (replica : ℕ) (store : Store) (x : Stream) (l : Link) (d : Draft) (o : Offer) (a : Session) (touched : List Touch) (n : ℕ) → AllKnown all t (at store t).entries
    → sessions.sending v t (at x.sessions t) (at store t).entries ≡ Some o → d ≡ response_of replica store x.sessions t o n v → a ≡ with_sent (ahead t (at x.sessions t) l.up) o touched n → IsFair all test t (ahead t (at x.sessions t) l.up) (lane_down t l.down)
    → IsFair all test t a (lane_down t l.down ++ d ∷ [])
fair_own v all test t replica store x l d o a touched n known due draft is fair =
    subst (λ (b : Session). IsFair all test t b (lane_down t l.down ++ d ∷ [])) (sym is)
    (record {
      refused = fair.refused;
      awaits = λ sent e has are at_fault.
          let same : record { offer = o; touched = touched } ≡ sent = some_is (record { offer = o; touched = touched }) sent has in
          let here : e ≡ response_of replica store x.sessions t o n v = sym (only_one (lane_down t l.down) d e are) ∙ draft in
          subst (λ (y : Sent). IsBlamed all test t y.offer) same (sent_blamed v all test t replica store x.sessions o n known due (ap (λ y. is_some (fault_in t test (delivery t y))) (sym here) ∙ at_fault));
    })

fair_poll_at : (v : VariantName) (all : List TypedWrite) (test : Test) (replica : ℕ) (store : Store) (c : Client) (l : Link) (x y : Stream) (d : Draft) (t : TypeName) → ((s : TypeName) → AllKnown all s (at store s).entries) → (is : IsSent replica store x y d)
    → kind_of d ≡ is.kind → ((is.kind ≡ t) × (is_same_type is.kind t ≡ true)) ⊎ ((is.kind ≢ t) × (is_same_type is.kind t ≡ false)) → Linked v all c l x → FairAt all test l x
    → IsFair all test t (ahead t (at y.sessions t) l.up) (lane_down t (l.down ++ d ∷ []))
fair_poll_at v all test replica store c l x y d t known is kind (inl same) linked fair =
    let s : TypeName = is.kind in
    let due = due_as v c.cluster store x s is.offer linked.variant is.due in
    let none = (sending_facts v s (at x.sessions s) (at store s).entries is.offer due.1).1 in
    let sent = ahead_sent v all c l x s is.offer linked none (room_is x.count is.room linked.counted) in
    let draft : d ≡ response_of replica store x.sessions s is.offer (suc x.count) v = draft_is v replica store x y d is due.0 in
    let left : at y.sessions s ≡ send (at x.sessions s) is.offer (suc x.count) =
    ap (λ (z : Stream). at z.sessions s) is.left ∙ at-with_at x.sessions s (send (at x.sessions s) is.offer (x.count + 1)) ∙ ap (send (at x.sessions s) is.offer) (sym (suc-eq-add-one x.count)) in
    subst (λ r. IsFair all test r (ahead r (at y.sessions r) l.up) (lane_down r (l.down ++ d ∷ []))) same.0
    (subst (IsFair all test s (ahead s (at y.sessions s) l.up))
    (sym (lane_down-append s l.down (d ∷ []) ∙ ap (λ b. lane_down s l.down ++ (if b then d ∷ [] else [])) (ap (λ r. is_same_type r s) kind ∙ is_same_type-same s)))
    (fair_own v all test s replica store x l d is.offer (ahead s (at y.sessions s) l.up) sent.0 (suc x.count) (known s) due.1 draft (ap (λ z. ahead s z l.up) left ∙ sent.1) (fair s)))
fair_poll_at v all test replica store c l x y d t known is kind (inr other) linked fair =
    let s : TypeName = is.kind in
    let left : at y.sessions t ≡ at x.sessions t = ap (λ (z : Stream). at z.sessions t) is.left ∙ at-with_at_other x.sessions s (send (at x.sessions s) is.offer (x.count + 1)) t (λ e. other.0 (sym e)) in
    subst (λ z. IsFair all test t (ahead t z l.up) (lane_down t (l.down ++ d ∷ []))) (sym left)
    (subst (IsFair all test t (ahead t (at x.sessions t) l.up))
    (sym (lane_down-append t l.down (d ∷ []) ∙ ap (λ b. lane_down t l.down ++ (if b then d ∷ [] else [])) (ap (λ r. is_same_type r t) kind ∙ other.1) ∙ append-nil (lane_down t l.down))) (fair t))

sent_decides : (replica : ℕ) (store : Store) (x y : Stream) (d : Draft) → IsSent replica store x y d → (o : Option VariantName) → x.variant ≡ o → (v : VariantName) × (x.variant ≡ Some v)
sent_decides replica store x y d is None none = absurd (never d (sym (is.sends ∙ ap (option_map (response_of replica store x.sessions is.kind is.offer (x.count + 1))) none)))
sent_decides replica store x y d is (Some v) decided = (v, decided)

pub fair_poll : (k : ClientKind) (all : List TypedWrite) (test : Test) (replica : ℕ) (store : Store) (c : Client) (l : Link) (x y : Stream) (ts : List TypeName) (o : Option Draft) → ((s : TypeName) → AllKnown all s (at store s).entries)
    → polled_first replica store x ts ≡ Ok (o, y) → LinkedTo k all c l x → FairOn all test l x → FairOn all test (record l { down = l.down ++ under_way o }) y
fair_poll k all test replica store c l x y ts None known is linked fair cluster t =
    subst (λ (z : Stream). IsFair all test t (ahead t (at (started cluster z).sessions t) l.up) (lane_down t (l.down ++ []))) (sym (poll_quiet replica store x y ts is))
    (subst (λ ds. IsFair all test t (ahead t (at (started cluster x).sessions t) l.up) (lane_down t ds)) (sym (append-nil l.down)) (fair cluster t))
fair_poll k all test replica store c l x y ts (Some d) known is linked fair cluster t =
    let sent = poll_sent replica store x y ts d is in
    let v = sent_decides replica store x y d sent x.variant refl in
    subst (λ (z : Stream). IsFair all test t (ahead t (at z.sessions t) l.up) (lane_down t (l.down ++ d ∷ []))) (sym (started_decided cluster y v.0 (ap (λ (z : Stream). z.variant) sent.left ∙ v.1)))
    (fair_poll_at (spoken k) all test replica store c l x y d t known sent (ap kind_of (draft_is v.0 replica store x y d sent v.1) ∙ kind_is replica store x.sessions sent.kind sent.offer (suc x.count) v.0) (same_type sent.kind t)
    (linked_as k all c l x v.0 v.1 linked) (fair_as all test l x v.0 v.1 fair))

-- ---- a response that the client takes

fair_answer : (v : VariantName) (all : List TypedWrite) (test : Test) (t : TypeName) (a b : Session) (d : Draft) (downs : List Draft) → IsFair all test t a (d ∷ []) → (h : HasAnswer v t a b) → h.rejects ≡ is_some (fault_in t test (delivery t d)) → IsFair all test t b downs
fair_answer v all test t a b d downs fair h rejects = record {
  refused = λ o is. by_answer h.rejects refl o (sym (ap (λ x. x.refused) h.account) ∙ is);
  awaits = λ sent e has. absurd (never sent (sym (answered_quiet v t a.account h.sent h.rejects) ∙ sym (ap (λ x. x.sent) h.account) ∙ has));
}
  where
    by_answer : (r : Bool) → h.rejects ≡ r → (o : Offer) → (answered v t a.account h.sent h.rejects).refused ≡ Some o → IsBlamed all test t o
    by_answer true is o refused =
        subst (IsBlamed all test t) (some_is h.sent.offer o (sym (ap (λ r. (answered v t a.account h.sent r).refused) is) ∙ refused)) (fair.awaits h.sent d h.has refl (sym rejects ∙ is))
    by_answer false is o refused = absurd (never o (sym (ap (λ r. (answered v t a.account h.sent r).refused) is) ∙ refused))

fair_down_at : (k : ClientKind) (all : List TypedWrite) (test : Test) (c : Client) (l : Link) (x : Stream) (d : Draft) (rest : List Draft) (q : Client × Message) (t : TypeName) (own : Bool) → l.down ≡ d ∷ rest → received_in test k c d ≡ Some q → is_same_type (kind_of d) t ≡ own
    → Linked (spoken k) all c l x → FairAt all test l x → IsFair all test t (if own then session_after t (ahead t (at x.sessions t) l.up) q.1 else ahead t (at x.sessions t) l.up) (lane_down t rest)
fair_down_at k all test c l x d rest q t true down is own linked fair =
    let answer = down_answers k all test c l x d rest q t down is own linked in
    let here : lane_down t l.down ≡ d ∷ lane_down t rest = first_down t d rest l.down down own in
    let alone : lane_down t l.down ≡ d ∷ [] = here ∙ ap (λ ds. d ∷ ds) (one_down d (lane_down t rest) (linked.lanes t).down (sym here ∙ (linked.lanes t).downs_are)).1 in
    fair_answer (spoken k) all test t (ahead t (at x.sessions t) l.up) (session_after t (ahead t (at x.sessions t) l.up) q.1) d (lane_down t rest) (subst (IsFair all test t (ahead t (at x.sessions t) l.up)) alone (fair t)) answer.0 answer.1
fair_down_at k all test c l x d rest q t false down is own linked fair =
    subst (IsFair all test t (ahead t (at x.sessions t) l.up)) (ap (lane_down t) down ∙ ap (λ b. if b then d ∷ lane_down t rest else lane_down t rest) own) (fair t)

fair_down_as : (k : ClientKind) (all : List TypedWrite) (test : Test) (c : Client) (l : Link) (x : Stream) (d : Draft) (rest : List Draft) (q : Client × Message) → l.down ≡ d ∷ rest → received_in test k c d ≡ Some q → Linked (spoken k) all c l x → FairAt all test l x
    → FairAt all test (record l { up = l.up ++ q.1 ∷ []; down = rest }) x
fair_down_as k all test c l x d rest q down is linked fair t =
    let own : Bool = is_same_type (kind_of d) t in
    let left : ahead t (at x.sessions t) (l.up ++ q.1 ∷ []) ≡ (if own then session_after t (ahead t (at x.sessions t) l.up) q.1 else ahead t (at x.sessions t) l.up) =
    ahead_more t (at x.sessions t) l.up q.1 ∙ ap (λ b. if b then session_after t (ahead t (at x.sessions t) l.up) q.1 else ahead t (at x.sessions t) l.up) (answer_asks k test c d q t is) in
    subst (λ a. IsFair all test t a (lane_down t rest)) (sym left) (fair_down_at k all test c l x d rest q t own down is refl linked fair)

pub fair_down : (k : ClientKind) (all : List TypedWrite) (test : Test) (c : Client) (l : Link) (x : Stream) (d : Draft) (rest : List Draft) (q : Client × Message) → l.down ≡ d ∷ rest → received_in test k c d ≡ Some q → LinkedTo k all c l x → FairOn all test l x
    → FairOn all test (record l { up = l.up ++ q.1 ∷ []; down = rest }) x
fair_down k all test c l x d rest q down is linked fair cluster = by_variant x.variant refl
  where
    next : Link
    next = record l { up = l.up ++ q.1 ∷ []; down = rest }

    by_variant : (o : Option VariantName) → x.variant ≡ o → FairAt all test next (started cluster x)
    by_variant None none = absurd (none_brought all k c l (started c.cluster x) d rest down none linked.1)
    by_variant (Some v) decided =
        subst (FairAt all test next) (sym (started_decided cluster x v decided)) (fair_down_as k all test c l x d rest q down is (linked_as k all c l x v decided linked) (fair_as all test l x v decided fair))
