-- One client and one type, of either variant: the session as it will be once all requests under way are taken, against what the
-- client holds.
use Rattle.std.proofs.Common.{◌≡◌, ◌⊎◌, inl, inr, ℕ, suc, List, [], Bool, true, false, ◌&&◌, ◌||◌, not, Option, Some, None, refl, sym, ap, ◌∙◌, ◌≤◌}
use Rattle.std.specs.Prelude.{bytes_eq, if◌then◌else◌, is_some, is_none, option_map, Contains, ⊤}
use Rattle.std.specs.Option.{option_map_or}
use Rattle.std.specs.FinMap as finmap
use Rattle.std.specs.FinSet as set
use Rattle.std.proofs.Math.Bool.{and-false}
use Rattle.xds_resource.specs.declared.types.TypeName.{TypeName}
use Rattle.xds_resource.specs.Types.{row}
use Rattle.xds_resource.specs.Stamps.{max_counter}
use Rattle.xds_resource.specs.Writes.{StampedWrite, version_of, text_cmp}
use Rattle.xds_resource.proofs.NameMaps.{bytes_eq_same, same_names}
use Rattle.xds_interest.specs.Interests.{Selection}
use Rattle.xds_interest.specs.Asked.{Asked, sotw_asked, delta_asked}
use Rattle.xds_interest.specs.Touches.{touches, sotw_touch, delta_touch}
use Rattle.xds_interest.proofs.AskedLaws.{sotw_touch_is_a_set, delta_touch_is_a_set}
use Rattle.xds_interest.proofs.Choices.{exactly_one_of_same}
use Rattle.xds_message.specs.declared.draft.Draft.{Draft}
use Rattle.xds_message.specs.declared.draft.Draft.TheVariants as drafts
use Rattle.xds_message.specs.Drafts.{message_of, delta_message_of}
use Rattle.xds_ledger.specs.declared.variant.VariantName.{VariantName}
use Rattle.xds_ledger.specs.declared.variant.VariantName.TheVariants.{StateOfTheWorld, Delta}
use Rattle.xds_ledger.specs.declared.entry.Entry.TheVariants.{Told}
use Rattle.xds_ledger.specs.declared.entry.Due.TheVariants.{Stated}
use Rattle.xds_ledger.specs.Variants.{is_delta, is_whole}
use Rattle.xds_ledger.specs.Owed.{Beliefs}
use Rattle.xds_ledger.specs.Ledgers.{Account, nonce_text, settled, answered, touch, resume}
use Rattle.xds_ledger.specs.Believing.{Sent, was_touched, touched_since, beliefs_taken, beliefs_resumed}
use Rattle.xds_ledger.specs.Sessions.{Session, Answer, Names, unopened, taken, is_stale}
use Rattle.xds_ledger.proofs.BeliefsByName.{untouched_keeps_belief}
use Rattle.xds_ledger.proofs.Made.{resumed_by_name}
use Rattle.xds_core.specs.Streams as streams
use Rattle.xds_core.specs.Streams.{Message, variant_of, url_of, nonce_of, session_after}
use Rattle.xds_cache.specs.Shelves.{Wants, Holding, Cache, Shelf, texts, interest, is_wanted, wants_some, wants_after}
use Rattle.xds_cache.specs.Faults.{Test}
use Rattle.xds_cache.specs.Deliveries.{Delivery, sotw_delivery, delta_delivery, fault_in, statements, taking, rejecting, delivered}
use Rattle.xds_cache.specs.Sends.{failure, sotw_request, delta_answer}
use Rattle.xds_cache.proofs.Interests.{wanted_by_name, change_is_asked, no_texts}
use Rattle.xds_world.specs.Knows.{TypedWrite}
use Rattle.xds_world.specs.Claims.{holding_of}
use Rattle.xds_world.proofs.Folding.{names_of, rejects_in, answer_of, take_is, never_stale, nothing_resumed}
use Rattle.xds_world.proofs.ByOneName.{Says, IsTold, IsNone}

-- ---- a response, and its answer

abbrev pub variant_in : Draft → VariantName
variant_in (drafts.Sotw d) = StateOfTheWorld
variant_in (drafts.Delta d) = Delta

abbrev pub delivery : TypeName → Draft → Delivery
delivery t (drafts.Sotw d) = sotw_delivery t (message_of d)
delivery t (drafts.Delta d) = delta_delivery (delta_message_of d)

-- what it states, and what it removes
abbrev pub stated_in : TypeName → Draft → Cache
stated_in t d = statements t (delivery t d)

abbrev pub is_removed_in : TypeName → Draft → List ℕ → Bool
is_removed_in t d name = finmap.contains_key (delivery t d).removed name

pub whole_in : (t : TypeName) (d : Draft) → (delivery t d).whole ≡ is_whole (variant_in d) t
whole_in t (drafts.Sotw d) = refl
whole_in t (drafts.Delta d) = refl

-- the answer of a client that takes it
abbrev pub reply : TypeName → Test → Shelf → Draft → Message
reply t test f (drafts.Sotw d) =
    streams.Sotw (sotw_request t None (delivered t test f (sotw_delivery t (message_of d))) (fault_in t test (sotw_delivery t (message_of d))))
reply t test f (drafts.Delta d) = streams.Delta (delta_answer t d.nonce (fault_in t test (delta_delivery (delta_message_of d))))

pub reply_variant : (t : TypeName) (test : Test) (f : Shelf) (d : Draft) → variant_of (reply t test f d) ≡ variant_in d
reply_variant t test f (drafts.Sotw d) = refl
reply_variant t test f (drafts.Delta d) = refl

pub reply_url : (t : TypeName) (test : Test) (f : Shelf) (d : Draft) → url_of (reply t test f d) ≡ (row t).url
reply_url t test f (drafts.Sotw d) = refl
reply_url t test f (drafts.Delta d) = refl

-- the client wants what it wanted, and keeps the nonce of the response
pub delivered_parts : (t : TypeName) (f : Shelf) (d : Delivery) (fault : Option (List ℕ)) → let g = option_map_or (λ x. rejecting f d) fault (taking t f d) in (g.wants ≡ f.wants) × (g.nonce ≡ d.nonce)
delivered_parts t f d None = (refl, refl)
delivered_parts t f d (Some x) = (refl, refl)

pub reply_nonce : (t : TypeName) (test : Test) (f : Shelf) (d : Draft) → nonce_of (reply t test f d) ≡ (delivery t d).nonce
reply_nonce t test f (drafts.Sotw d) = (delivered_parts t f (sotw_delivery t (message_of d)) (fault_in t test (sotw_delivery t (message_of d)))).1
reply_nonce t test f (drafts.Delta d) = refl

failed : (o : Option (List ℕ)) → is_some (option_map failure o) ≡ is_some o
failed None = refl
failed (Some x) = refl

pub reply_rejects : (t : TypeName) (test : Test) (f : Shelf) (d : Draft) → rejects_in (reply t test f d) ≡ is_some (fault_in t test (delivery t d))
reply_rejects t test f (drafts.Sotw d) = failed (fault_in t test (sotw_delivery t (message_of d)))
reply_rejects t test f (drafts.Delta d) = failed (fault_in t test (delta_delivery (delta_message_of d)))

-- ---- what is kept

-- that this is held of a name at a version: in the state of the world a body alone is held, of a write of that version
abbrev pub IsAt : VariantName → List TypedWrite → TypeName → List ℕ → List ℕ → Holding → Type 0
IsAt StateOfTheWorld all t name version h = (w : StampedWrite) × Contains all (t, w) × (w.name ≡ name) × (version_of w ≡ version) × (w.body ≡ Some h.body)
IsAt Delta all t name version h = h.version ≡ version

-- in Delta a write of the type that puts this under the name was made
abbrev pub IsMade : VariantName → List TypedWrite → TypeName → List ℕ → Holding → Type 0
IsMade StateOfTheWorld all t name h = ⊤
IsMade Delta all t name h = (w : StampedWrite) × Contains all (t, w) × (w.name ≡ name) × (holding_of w ≡ Some h)

-- what is kept of the requests where these texts are wanted
abbrev pub asking : VariantName → List ℕ → TypeName → Wants → Asked
asking v cluster t w = record { begun = true; named = not (is_delta v); interest = interest t cluster w }

-- the client asked for the type on its stream, and its session has its interest; or it didn't, and wants nothing
abbrev pub Asks : VariantName → List ℕ → TypeName → Session → Shelf → Type 0
Asks v cluster t s f = ((f.asked ≡ true) × (s.asked ≡ asking v cluster t f.wants)) ⊎ ((f.asked ≡ false) × (s ≡ unopened cluster) × (wants_some f.wants ≡ false) × (f.nonce ≡ []))

-- a response under way is that of the offer that is unanswered
pub record Delivers (v : VariantName) (all : List TypedWrite) (t : TypeName) (n : ℕ) (sent : Sent) (w : Wants) (d : Draft) : Type 0 where
  pub speaks : variant_in d ≡ v
  pub nonce : (delivery t d).nonce ≡ nonce_text n
  pub numbered : (k : ℕ) × (n ≡ suc k) × (suc k ≤ max_counter)
  pub says : (name : List ℕ) → Says (IsAt v all t name) (finmap.get sent.offer name) (is_removed_in t d name) (finmap.get (stated_in t d) name)
  pub made : (name : List ℕ) (h : Holding) → finmap.get (stated_in t d) name ≡ Some h → IsMade v all t name h
  pub wanted : (name version : List ℕ) → finmap.get sent.offer name ≡ Some (Stated version) → was_touched sent name ≡ false → is_wanted t w name ≡ true

-- a response is under way exactly where one is unanswered, and the client's last nonce is another then
abbrev pub Awaits : VariantName → List TypedWrite → TypeName → ℕ → Option Sent → Wants → List ℕ → Option Draft → Type 0
Awaits v all t n None w last None = last ≡ nonce_text n
Awaits v all t n None w last (Some d) = ⊥
Awaits v all t n (Some sent) w last None = ⊥
Awaits v all t n (Some sent) w last (Some d) = Delivers v all t n sent w d × (bytes_eq last (nonce_text n) ≡ false)

-- where a response is the whole, a name that was touched since doesn't count as told
abbrev pub TouchedIsUnsure : VariantName → TypeName → Session → Sent → Type 0
TouchedIsUnsure v t s sent = (name version : List ℕ) → is_whole v t ≡ true → was_touched sent name ≡ true → finmap.get s.account.beliefs name ≡ Some (Told version) → ⊥

-- nothing is held that isn't wanted
abbrev pub IsWithin : TypeName → Shelf → Type 0
IsWithin t f = (name : List ℕ) → is_wanted t f.wants name ≡ false → finmap.get f.cache name ≡ None

abbrev pub AllMade : VariantName → List TypedWrite → TypeName → Shelf → Type 0
AllMade v all t f = (name : List ℕ) (h : Holding) → finmap.get f.cache name ≡ Some h → IsMade v all t name h

pub record Abreast (v : VariantName) (cluster : List ℕ) (all : List TypedWrite) (t : TypeName) (s : Session) (down : Option Draft) (f : Shelf) : Type 0 where
  pub asks : Asks v cluster t s f
  pub awaits : Awaits v all t s.account.nonce s.account.sent f.wants f.nonce down
  pub touched : (sent : Sent) → s.account.sent ≡ Some sent → TouchedIsUnsure v t s sent
  pub told : (name : List ℕ) → IsTold (IsAt v all t name) (finmap.get s.account.beliefs name) (finmap.get f.cache name)
  -- where a response is the whole, once one was accepted
  pub none : (name : List ℕ) → (is_whole v t ≡ true → s.account.accepted ≡ true) → IsNone (finmap.get s.account.beliefs name) (finmap.get f.cache name)
  pub within : IsWithin t f
  pub made : AllMade v all t f

-- ---- what a session asked for

pub asked_of : (v : VariantName) (cluster : List ℕ) (t : TypeName) (s : Session) (f : Shelf) → f.asked ≡ true → Asks v cluster t s f → s.asked ≡ asking v cluster t f.wants
asked_of v cluster t s f asked (inl is) = is.1
asked_of v cluster t s f asked (inr never) = let not_asked : true ≡ false = sym asked ∙ never.0 in absurd cc

pub asks_none : (v : VariantName) (cluster : List ℕ) (t : TypeName) (s : Session) (f : Shelf) → f.asked ≡ false → Asks v cluster t s f → (s ≡ unopened cluster) × (wants_some f.wants ≡ false) × (f.nonce ≡ [])
asks_none v cluster t s f not_asked (inl asked) = let never : false ≡ true = sym not_asked ∙ asked.0 in absurd cc
asks_none v cluster t s f not_asked (inr never) = (never.1, never.2, never.3)

-- one that has begun, or has sent something, was asked
pub asks_begun : (v : VariantName) (cluster : List ℕ) (t : TypeName) (s : Session) (f : Shelf) → s.asked.begun ≡ true → Asks v cluster t s f → (f.asked ≡ true) × (s.asked ≡ asking v cluster t f.wants)
asks_begun v cluster t s f begun (inl asked) = asked
asks_begun v cluster t s f begun (inr never) = let not_begun : true ≡ false = sym begun ∙ ap (λ x. x.asked.begun) never.1 in absurd cc

pub none_sent : (o : Option Sent) (sent : Sent) → o ≡ None → o ≡ Some sent → ⊥
none_sent o sent none some = let never : None ≡ Some sent = sym none ∙ some in absurd cc

pub asks_if_sent : (v : VariantName) (cluster : List ℕ) (t : TypeName) (s : Session) (f : Shelf) (sent : Sent) → s.account.sent ≡ Some sent → Asks v cluster t s f → (f.asked ≡ true) × (s.asked ≡ asking v cluster t f.wants)
asks_if_sent v cluster t s f sent has (inl asked) = asked
asks_if_sent v cluster t s f sent has (inr never) = absurd (none_sent s.account.sent sent (ap (λ x. x.account.sent) never.1) has)

-- ---- what awaits

pub awaited : (v : VariantName) (all : List TypedWrite) (t : TypeName) (n : ℕ) (o : Option Sent) (w : Wants) (last : List ℕ) (d : Draft) → Awaits v all t n o w last (Some d) → (sent : Sent) × (o ≡ Some sent) × Delivers v all t n sent w d × (bytes_eq last (nonce_text n) ≡ false)
awaited v all t n None w last d is = absurd is
awaited v all t n (Some sent) w last d is = (sent, refl, is.0, is.1)

pub nothing_sent : (v : VariantName) (all : List TypedWrite) (t : TypeName) (n : ℕ) (o : Option Sent) (w : Wants) (last : List ℕ) (d : Option Draft) → o ≡ None → Awaits v all t n o w last d → (d ≡ None) × (last ≡ nonce_text n)
nothing_sent v all t n None w last None none is = (refl, is)
nothing_sent v all t n None w last (Some d) none is = absurd is
nothing_sent v all t n (Some sent) w last d none is = absurd cc

pub awaits_none : (v : VariantName) (all : List TypedWrite) (t : TypeName) (n : ℕ) (o : Option Sent) (w : Wants) (last : List ℕ) → o ≡ None → last ≡ nonce_text n → Awaits v all t n o w last None
awaits_none v all t n None w last none is = is
awaits_none v all t n (Some sent) w last none is = absurd cc

-- ---- a request that is taken

pub taken_if_sent : (s : Session) (nonce : List ℕ) (sent : Sent) → s.account.sent ≡ Some sent → not (is_stale s nonce) ≡ true
taken_if_sent s nonce sent has = ap (λ o. not (s.asked.begun && (is_none o && not (bytes_eq nonce []) && not (bytes_eq nonce (nonce_text s.account.nonce))))) has ∙ never_stale s.asked.begun

plain : (b c d : Bool) → not (b && (c && false && d)) ≡ true
plain true true d = refl
plain true false d = refl
plain false c d = refl

-- a request with no nonce is taken
pub taken_if_plain : (s : Session) → not (is_stale s []) ≡ true
taken_if_plain s = plain s.asked.begun (is_none s.account.sent) (not (bytes_eq [] (nonce_text s.account.nonce)))

settles : (v : VariantName) (t : TypeName) (a : Account) (nonce : List ℕ) (rejects : Bool) (sent : Sent) → a.sent ≡ Some sent → bytes_eq nonce (nonce_text a.nonce) ≡ true → settled v t a nonce rejects ≡ answered v t a sent rejects
settles v t a nonce rejects sent has same = λ i. if is_some (has i) && same i then option_map_or (λ x. answered v t a x rejects) (has i) a else a

pub answered_quiet : (v : VariantName) (t : TypeName) (a : Account) (sent : Sent) (rejects : Bool) → (answered v t a sent rejects).sent ≡ None
answered_quiet v t a sent true = refl
answered_quiet v t a sent false = refl

-- an answer whose names touch nothing only answers
answers_alone : (v : VariantName) (t : TypeName) (s : Session) (answer : Answer) (names : Names) (sent : Sent) → s.account.sent ≡ Some sent → bytes_eq answer.nonce (nonce_text s.account.nonce) ≡ true → ((q : List ℕ) → touches names.touched q ≡ false)
    → names.versions ≡ finmap.empty → (taken v t s answer names).account ≡ answered v t s.account sent answer.rejects
answers_alone v t s answer names sent has same untouched versions =
    let a : Account = answered v t s.account sent answer.rejects in
    let kept : Beliefs = beliefs_taken names.asked.interest names.touched names.mentioned a.beliefs in
    let beliefs : beliefs_resumed names.versions kept ≡ a.beliefs =
    ap (λ x. beliefs_resumed x kept) versions
    ∙ same_names (beliefs_resumed finmap.empty kept) a.beliefs (λ q. resumed_by_name finmap.empty kept q ∙ nothing_resumed (finmap.get kept q) q ∙ untouched_keeps_belief names.asked.interest names.touched names.mentioned a.beliefs q (untouched q)) in
    let quiet : option_map (λ x. touched_since x names.touched) a.sent ≡ a.sent =
    ap (option_map (λ x. touched_since x names.touched)) (answered_quiet v t s.account sent answer.rejects) ∙ sym (answered_quiet v t s.account sent answer.rejects) in
    ap (λ x. resume (touch x names.asked.interest names.touched names.mentioned) names.versions) (settles v t s.account answer.nonce answer.rejects sent has same) ∙ (λ i. record a { beliefs = beliefs i; sent = quiet i })

-- ---- an answer touches nothing: in Delta it has no names, and in the state of the world it lists what was wanted before, too

unmentioned : (t : TypeName) (q : List ℕ) → touches (delta_touch t (record { subscribe = []; unsubscribe = [] })) q ≡ false
unmentioned t q = delta_touch_is_a_set t (record { subscribe = []; unsubscribe = [] }) q ∙ and-false (row t).is_complete

same_wants : (w : Wants) → wants_after finmap.empty finmap.empty w ≡ w
same_wants w =
    same_names (wants_after finmap.empty finmap.empty w) w
    (λ q. wanted_by_name finmap.empty finmap.empty w q ∙ ap (λ (o : Option (Unit {0})). if is_some o then Some tt else if is_some o then None else finmap.get w q) (finmap.get-empty text_cmp q))

asked_again : (cluster : List ℕ) (t : TypeName) (w : Wants) → delta_asked t (asking Delta cluster t w) (record { subscribe = []; unsubscribe = [] }) ≡ asking Delta cluster t w
asked_again cluster t w =
    ap (λ x. record { begun = true; named = false; interest = x })
    (ap (λ names. (delta_asked t (asking Delta cluster t w) (record { subscribe = names; unsubscribe = names })).interest) (sym no_texts) ∙ sym (change_is_asked t cluster finmap.empty finmap.empty w) ∙ ap (interest t cluster) (same_wants w))

untouched_again : (s : Selection) (q : List ℕ) → touches (sotw_touch s s) q ≡ false
untouched_again s q = sotw_touch_is_a_set s s q ∙ (λ i. exactly_one_of_same s.star i || exactly_one_of_same (set.contains s.names q) i)

reply_alone : (cluster : List ℕ) (t : TypeName) (test : Test) (f : Shelf) (d : Draft)
    → let a = asking (variant_in d) cluster t f.wants in
    let names = names_of t a (reply t test f d) in
    (names.asked ≡ a) × ((q : List ℕ) → touches names.touched q ≡ false) × (names.versions ≡ finmap.empty)
reply_alone cluster t test f (drafts.Sotw d) =
    let a : Asked = asking StateOfTheWorld cluster t f.wants in
    let lists = ap texts (delivered_parts t f (sotw_delivery t (message_of d)) (fault_in t test (sotw_delivery t (message_of d)))).0 in
    let after : (names_of t a (reply t test f (drafts.Sotw d))).asked ≡ a = λ i. sotw_asked t a (lists i) in
    (after, λ q. ap (λ (x : Asked). touches (sotw_touch (interest t cluster f.wants) x.interest) q) after ∙ untouched_again (interest t cluster f.wants) q, refl)
reply_alone cluster t test f (drafts.Delta d) = (asked_again cluster t f.wants, unmentioned t, refl)

-- that a session is as the answer to what it sent leaves it
pub record HasAnswer (v : VariantName) (t : TypeName) (before after : Session) : Type 0 where
  pub sent : Sent
  pub rejects : Bool
  pub has : before.account.sent ≡ Some sent
  pub asked : after.asked ≡ before.asked
  pub account : after.account ≡ answered v t before.account sent rejects

-- the session after an answer to what it sent
pub after_reply : (v : VariantName) (cluster : List ℕ) (t : TypeName) (test : Test) (s : Session) (f : Shelf) (d : Draft) (sent : Sent) → variant_in d ≡ v → s.asked ≡ asking v cluster t f.wants → s.account.sent ≡ Some sent → (delivery t d).nonce ≡ nonce_text s.account.nonce
    → let m = reply t test f d in
    ((session_after t s m).asked ≡ s.asked) × ((session_after t s m).account ≡ answered v t s.account sent (is_some (fault_in t test (delivery t d))))
after_reply v cluster t test s f d sent speaks asked_it has nonce =
    let m : Message = reply t test f d in
    let asked : s.asked ≡ asking (variant_in d) cluster t f.wants = asked_it ∙ ap (λ k. asking k cluster t f.wants) (sym speaks) in
    let alone = reply_alone cluster t test f d in
    let same : bytes_eq (nonce_of m) (nonce_text s.account.nonce) ≡ true = ap (λ x. bytes_eq x (nonce_text s.account.nonce)) (reply_nonce t test f d ∙ nonce) ∙ bytes_eq_same (nonce_text s.account.nonce) in
    let is = take_is t s m (taken_if_sent s (nonce_of m) sent has) in (
      ap (λ x. x.asked) is ∙ ap (λ a. (names_of t a m).asked) asked ∙ alone.0 ∙ sym asked,
      ap (λ x. x.account) is
          ∙ answers_alone (variant_of m) t s (answer_of m) (names_of t s.asked m) sent has same (λ q. ap (λ a. touches (names_of t a m).touched q) asked ∙ alone.1 q) (ap (λ a. (names_of t a m).versions) asked ∙ alone.2)
          ∙ (λ i. answered ((reply_variant t test f d ∙ speaks) i) t s.account sent (reply_rejects t test f d i)),
    )

-- the client's answer is taken, and answers
pub reply_answers : (v : VariantName) (cluster : List ℕ) (all : List TypedWrite) (t : TypeName) (test : Test) (s : Session) (f : Shelf) (d : Draft) → Abreast v cluster all t s (Some d) f
    → (h : HasAnswer v t s (session_after t s (reply t test f d))) × (h.rejects ≡ is_some (fault_in t test (delivery t d)))
reply_answers v cluster all t test s f d lane =
    let sent = awaited v all t s.account.nonce s.account.sent f.wants f.nonce d lane.awaits in
    let after = after_reply v cluster t test s f d sent.0 sent.2.speaks (asks_if_sent v cluster t s f sent.0 sent.1 lane.asks).1 sent.1 sent.2.nonce in
    (record { sent = sent.0; rejects = is_some (fault_in t test (delivery t d)); has = sent.1; asked = after.0; account = after.1 }, refl)
