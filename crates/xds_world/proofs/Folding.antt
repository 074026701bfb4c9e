-- A session after all requests that are under way, of either variant: taking them one after another, and sending meanwhile.
use Rattle.std.proofs.Common.{◌≡◌, ℕ, List, [], ◌∷◌, ◌++◌, Bool, true, false, ◌&&◌, ◌||◌, Option, Some, None, refl, sym, ap, subst, ◌∙◌, append_assoc, append-nil, not}
use Rattle.std.specs.Prelude.{bytes_eq, if◌then◌else◌, is_some, option_map, ⊤}
use Rattle.std.specs.Option.{option_map_or}
use Rattle.std.specs.List.{list_any}
use Rattle.std.specs.FinMap as finmap
use Rattle.std.specs.FinSet as set
use Rattle.std.proofs.lemmas.Bool.{or_parts}
use Rattle.xds_resource.specs.declared.types.TypeName.{TypeName}
use Rattle.xds_resource.specs.Writes.{text_cmp}
use Rattle.xds_interest.specs.Interests.{reaches}
use Rattle.xds_interest.specs.Asked.{Asked, IsStarOfComplete}
use Rattle.xds_interest.specs.Touches.{Touch, touches}
use Rattle.xds_interest.proofs.AskedLaws.{kept_star_is_of_complete, untouched_keeps_reach_of_kept, untouched_keeps_reach_of_kept_in_delta}
use Rattle.xds_ledger.specs.declared.variant.VariantName.{VariantName}
use Rattle.xds_ledger.specs.declared.entry.Entry.{Entry}
use Rattle.xds_ledger.specs.declared.entry.Entry.TheVariants.{Told}
use Rattle.xds_ledger.specs.Offers.{Offer}
use Rattle.xds_ledger.specs.Owed.{Beliefs}
use Rattle.xds_ledger.specs.Ledgers.{Account, nonce_text, settled, answered}
use Rattle.xds_ledger.specs.Believing.{Sent, touched_since, beliefs_taken}
use Rattle.xds_ledger.specs.Sessions as sessions
use Rattle.xds_ledger.specs.Sessions.{Session, Answer, Names, taken, is_stale, sotw_names, delta_names}
use Rattle.xds_ledger.specs.Laws.{with_sent}
use Rattle.xds_ledger.proofs.BeliefsByName.{taken_by_name}
use Rattle.xds_ledger.proofs.Made.{resumed_by_name}
use Rattle.xds_ledger.proofs.Settling.{sending_commutes}
use Rattle.xds_sessions.specs.DeltaPolls.{mention}
use Rattle.xds_core.specs.Streams as streams
use Rattle.xds_core.specs.Streams.{Message, variant_of, nonce_of, session_after}
use Rattle.xds_world.proofs.ByOneName.{resumed_after, believed_after, not_told, touched_not_told}

-- ---- a request

-- what it says of names, and of the response that it answers
abbrev pub names_of : TypeName → Asked → Message → Names
names_of t a (streams.Sotw m) = sotw_names t a m.resource_names
names_of t a (streams.Delta m) = delta_names t a (mention m) m.initial_resource_versions

abbrev pub rejects_in : Message → Bool
rejects_in (streams.Sotw m) = is_some m.error_detail
rejects_in (streams.Delta m) = is_some m.error_detail

abbrev pub answer_of : Message → Answer
answer_of m = record { nonce = nonce_of m; rejects = rejects_in m }

take_by : (t : TypeName) (s : Session) (m : Message) → session_after t s m ≡ sessions.take (variant_of m) t s (answer_of m) (names_of t s.asked m)
take_by t s (streams.Sotw m) = refl
take_by t s (streams.Delta m) = refl

pub take_is : (t : TypeName) (s : Session) (m : Message) → not (is_stale s (nonce_of m)) ≡ true → session_after t s m ≡ taken (variant_of m) t s (answer_of m) (names_of t s.asked m)
take_is t s m is = take_by t s m ∙ ap (λ b. if b then taken (variant_of m) t s (answer_of m) (names_of t s.asked m) else s) is

-- what is kept of the requests after it
names_begun : (t : TypeName) (a : Asked) (m : Message) → (names_of t a m).asked.begun ≡ true
names_begun t a (streams.Sotw m) = refl
names_begun t a (streams.Delta m) = refl

pub names_stand : (t : TypeName) (a : Asked) (m : Message) → IsStarOfComplete t (names_of t a m).asked
names_stand t a (streams.Sotw m) = (kept_star_is_of_complete t).1 a m.resource_names
names_stand t a (streams.Delta m) = (kept_star_is_of_complete t).2 a (mention m)

-- a name that a later request doesn't touch is reached as before
pub names_reach : (t : TypeName) (a : Asked) (m : Message) (name : List ℕ) → a.begun ≡ true → IsStarOfComplete t a → touches (names_of t a m).touched name ≡ false → reaches (names_of t a m).asked.interest name ≡ reaches a.interest name
names_reach t a (streams.Sotw m) name begun stands untouched = untouched_keeps_reach_of_kept t a m.resource_names name untouched
names_reach t a (streams.Delta m) name begun stands untouched = untouched_keeps_reach_of_kept_in_delta t a (mention m) name begun stands untouched

-- and it resumes nothing
pub names_resume : (t : TypeName) (a : Asked) (m : Message) → a.begun ≡ true → (names_of t a m).versions ≡ finmap.empty
names_resume t a (streams.Sotw m) begun = refl
names_resume t a (streams.Delta m) begun = ap (λ b. if b then finmap.empty else m.initial_resource_versions) begun

-- ---- what is believed after a request

pub believed_by_name : (v : VariantName) (t : TypeName) (s : Session) (answer : Answer) (names : Names) (q : List ℕ)
    → finmap.get (taken v t s answer names).account.beliefs q
    ≡ resumed_after (finmap.get names.versions q)
    (believed_after (touches names.touched q) (reaches names.asked.interest q) (set.contains names.mentioned q) (finmap.get (settled v t s.account answer.nonce answer.rejects).beliefs q))
believed_by_name v t s answer names q =
    let before : Beliefs = (settled v t s.account answer.nonce answer.rejects).beliefs in
    resumed_by_name names.versions (beliefs_taken names.asked.interest names.touched names.mentioned before) q
    ∙ ap (resumed_after (finmap.get names.versions q)) (taken_by_name names.asked.interest names.touched names.mentioned before q)

-- where the client doesn't say what it holds, there is nothing to resume from
pub nothing_resumed : (b : Option Entry) (q : List ℕ) → resumed_after (finmap.get {R = text_cmp} finmap.empty q) b ≡ b
nothing_resumed b q = ap (λ o. resumed_after o b) (finmap.get-empty text_cmp q)

-- of one that settles this and resumes nothing
pub believed_quiet : (t : TypeName) (s : Session) (m : Message) (a : Account) (q : List ℕ) → settled (variant_of m) t s.account (nonce_of m) (rejects_in m) ≡ a → not (is_stale s (nonce_of m)) ≡ true → (names_of t s.asked m).versions ≡ finmap.empty
    → let names = names_of t s.asked m in
    finmap.get (session_after t s m).account.beliefs q ≡ believed_after (touches names.touched q) (reaches names.asked.interest q) (set.contains names.mentioned q) (finmap.get a.beliefs q)
believed_quiet t s m a q settles is versions =
    let names : Names = names_of t s.asked m in
    let after : Account → Option Entry = λ x. believed_after (touches names.touched q) (reaches names.asked.interest q) (set.contains names.mentioned q) (finmap.get x.beliefs q) in
    ap (λ x. finmap.get x.account.beliefs q) (take_is t s m is) ∙ believed_by_name (variant_of m) t s (answer_of m) names q ∙ (λ i. resumed_after (finmap.get (versions i) q) (after (settles i))) ∙ nothing_resumed (after a) q

-- ---- requests one after another

-- the session after them
abbrev pub folded : TypeName → Session → List Message → Session
folded t s [] = s
folded t s (m ∷ ms) = folded t (session_after t s m) ms

-- each request is taken when its turn comes
abbrev pub AllTaken : TypeName → Session → List Message → Type 0
AllTaken t s [] = ⊤
AllTaken t s (m ∷ ms) = (not (is_stale s (nonce_of m)) ≡ true) × AllTaken t (session_after t s m) ms

-- none of them has this nonce
abbrev pub NoneAnswers : ℕ → List Message → Type 0
NoneAnswers n [] = ⊤
NoneAnswers n (m ∷ ms) = (bytes_eq (nonce_of m) (nonce_text n) ≡ false) × NoneAnswers n ms

-- what they touch, one after another
abbrev pub touched_by : TypeName → Session → List Message → List Touch
touched_by t s [] = []
touched_by t s (m ∷ ms) = (names_of t s.asked m).touched ∷ touched_by t (session_after t s m) ms

-- one request more
pub folded_more : (t : TypeName) (s : Session) (ms : List Message) (m : Message) → folded t s (ms ++ m ∷ []) ≡ session_after t (folded t s ms) m
folded_more t s [] m = refl
folded_more t s (x ∷ ms) m = folded_more t (session_after t s x) ms m

pub taken_more : (t : TypeName) (s : Session) (ms : List Message) (m : Message) → AllTaken t s ms → not (is_stale (folded t s ms) (nonce_of m)) ≡ true → AllTaken t s (ms ++ m ∷ [])
taken_more t s [] m all last = (last, tt)
taken_more t s (x ∷ ms) m all last = (all.0, taken_more t (session_after t s x) ms m all.1 last)

pub unsettled : (v : VariantName) (t : TypeName) (a : Account) (nonce : List ℕ) (rejects : Bool) → a.sent ≡ None → settled v t a nonce rejects ≡ a
unsettled v t a nonce rejects none = ap (λ (o : Option Sent). if is_some o && bytes_eq nonce (nonce_text a.nonce) then option_map_or (λ sent. answered v t a sent rejects) o a else a) none

either_session : (P : Session → Type 0) (b : Bool) (x s : Session) → P x → P s → P (if b then x else s)
either_session P true x s left right = left
either_session P false x s left right = right

-- whatever holds of the session and after a request that is taken
pub after_request : (P : Session → Type 0) (t : TypeName) (s : Session) (m : Message) → P (taken (variant_of m) t s (answer_of m) (names_of t s.asked m)) → P s → P (session_after t s m)
after_request P t s m left right = subst P (sym (take_by t s m)) (either_session P (not (is_stale s (nonce_of m))) (taken (variant_of m) t s (answer_of m) (names_of t s.asked m)) s left right)

-- while nothing is unanswered, taking a request leaves it so
pub still_none : (t : TypeName) (s : Session) (m : Message) → s.account.sent ≡ None → (session_after t s m).account.sent ≡ None
still_none t s m none =
    let touched : Touch = (names_of t s.asked m).touched in
    after_request (λ x. x.account.sent ≡ None) t s m
    (ap (λ (a : Account). option_map (λ sent. touched_since sent touched) a.sent) (unsettled (variant_of m) t s.account (nonce_of m) (rejects_in m) none) ∙ ap (option_map (λ sent. touched_since sent touched)) none) none

pub quiet_folded : (t : TypeName) (s : Session) (ms : List Message) → s.account.sent ≡ None → (folded t s ms).account.sent ≡ None
quiet_folded t s [] none = none
quiet_folded t s (m ∷ ms) none = quiet_folded t (session_after t s m) ms (still_none t s m none)

begun_after : (t : TypeName) (s : Session) (m : Message) → s.asked.begun ≡ true → (session_after t s m).asked.begun ≡ true
begun_after t s m begun = after_request (λ x. x.asked.begun ≡ true) t s m (names_begun t s.asked m) begun

pub begun_folded : (t : TypeName) (s : Session) (ms : List Message) → s.asked.begun ≡ true → (folded t s ms).asked.begun ≡ true
begun_folded t s [] begun = begun
begun_folded t s (m ∷ ms) begun = begun_folded t (session_after t s m) ms (begun_after t s m begun)

pub stands_after : (t : TypeName) (s : Session) (m : Message) → IsStarOfComplete t s.asked → IsStarOfComplete t (session_after t s m).asked
stands_after t s m stands = after_request (λ x. IsStarOfComplete t x.asked) t s m (names_stand t s.asked m) stands

pub never_stale : (b : Bool) → not (b && false) ≡ true
never_stale true = refl
never_stale false = refl

-- a request that comes while a response is unanswered is taken
pub taken_meanwhile : (s : Session) (o : Offer) (since : List Touch) (n : ℕ) (nonce : List ℕ) → not (is_stale (with_sent s o since n) nonce) ≡ true
taken_meanwhile s o since n nonce = never_stale s.asked.begun

sent_once : (t : TypeName) (s : Session) (o : Offer) (since : List Touch) (n : ℕ) (m : Message) → s.account.sent ≡ None → not (is_stale s (nonce_of m)) ≡ true → bytes_eq (nonce_of m) (nonce_text n) ≡ false
    → session_after t (with_sent s o since n) m ≡ with_sent (session_after t s m) o (since ++ (names_of t s.asked m).touched ∷ []) n
sent_once t s o since n m none is apart =
    take_is t (with_sent s o since n) m (taken_meanwhile s o since n (nonce_of m)) ∙ sending_commutes (variant_of m) t s o since n (answer_of m) (names_of t s.asked m) none apart
    ∙ ap (λ x. with_sent x o (since ++ (names_of t s.asked m).touched ∷ []) n) (sym (take_is t s m is))

-- to send and then take requests that don't answer is to take them and then send
pub sending_folded : (t : TypeName) (s : Session) (o : Offer) (since : List Touch) (n : ℕ) (ms : List Message) → s.account.sent ≡ None → AllTaken t s ms → NoneAnswers n ms
    → folded t (with_sent s o since n) ms ≡ with_sent (folded t s ms) o (since ++ touched_by t s ms) n
sending_folded t s o since n [] none all apart = ap (λ l. with_sent s o l n) (sym (append-nil since))
sending_folded t s o since n (m ∷ ms) none all apart =
    ap (λ x. folded t x ms) (sent_once t s o since n m none all.0 apart.0)
    ∙ sending_folded t (session_after t s m) o (since ++ (names_of t s.asked m).touched ∷ []) n ms (still_none t s m none) all.1 apart.1
    ∙ ap (λ l. with_sent (folded t (session_after t s m) ms) o l n) (append_assoc since ((names_of t s.asked m).touched ∷ []) (touched_by t (session_after t s m) ms))

-- and all of them are taken
pub taken_meanwhile_all : (t : TypeName) (s : Session) (o : Offer) (since : List Touch) (n : ℕ) (ms : List Message) → s.account.sent ≡ None → AllTaken t s ms → NoneAnswers n ms → AllTaken t (with_sent s o since n) ms
taken_meanwhile_all t s o since n [] none all apart = tt
taken_meanwhile_all t s o since n (m ∷ ms) none all apart = (
  taken_meanwhile s o since n (nonce_of m),
  subst (λ x. AllTaken t x ms) (sym (sent_once t s o since n m none all.0 apart.0))
      (taken_meanwhile_all t (session_after t s m) o (since ++ (names_of t s.asked m).touched ∷ []) n ms (still_none t s m none) all.1 apart.1),
)

-- ---- one name

-- one that requests don't touch is reached as before
pub untouched_folded : (t : TypeName) (s : Session) (ms : List Message) (name : List ℕ) → s.asked.begun ≡ true → IsStarOfComplete t s.asked → AllTaken t s ms → list_any (λ x. touches x name) (touched_by t s ms) ≡ false
    → reaches (folded t s ms).asked.interest name ≡ reaches s.asked.interest name
untouched_folded t s [] name begun stands all untouched = refl
untouched_folded t s (m ∷ ms) name begun stands all untouched =
    let parts = or_parts (touches (names_of t s.asked m).touched name) (list_any (λ x. touches x name) (touched_by t (session_after t s m) ms)) untouched in
    untouched_folded t (session_after t s m) ms name (begun_after t s m begun) (stands_after t s m stands) all.1 parts.1 ∙ ap (λ x. reaches x.asked.interest name) (take_is t s m all.0) ∙ names_reach t s.asked m name begun stands parts.0

-- one that doesn't count as told isn't told again
believed_next : (t : TypeName) (s : Session) (m : Message) (q : List ℕ) → s.asked.begun ≡ true → s.account.sent ≡ None → not (is_stale s (nonce_of m)) ≡ true
    → let names = names_of t s.asked m in
    finmap.get (session_after t s m).account.beliefs q ≡ believed_after (touches names.touched q) (reaches names.asked.interest q) (set.contains names.mentioned q) (finmap.get s.account.beliefs q)
believed_next t s m q begun none is = believed_quiet t s m s.account q (unsettled (variant_of m) t s.account (nonce_of m) (rejects_in m) none) is (names_resume t s.asked m begun)

never_told_again : (t : TypeName) (s : Session) (ms : List Message) (name v : List ℕ) → s.asked.begun ≡ true → AllTaken t s ms → s.account.sent ≡ None → (finmap.get s.account.beliefs name ≡ Some (Told v) → ⊥) → finmap.get (folded t s ms).account.beliefs name ≡ Some (Told v) → ⊥
never_told_again t s [] name v begun all none never is = never is
never_told_again t s (m ∷ ms) name v begun all none never is =
    let names : Names = names_of t s.asked m in
    never_told_again t (session_after t s m) ms name v (begun_after t s m begun) all.1 (still_none t s m none)
    (λ told. not_told (touches names.touched name) (reaches names.asked.interest name) (set.contains names.mentioned name) (finmap.get s.account.beliefs name) v never (sym (believed_next t s m name begun none all.0) ∙ told)) is

either_of : (a b : Bool) → (a || b) ≡ true → b ≡ false → a ≡ true
either_of true b is other = refl
either_of false true is other = absurd cc
either_of false false is other = absurd cc

-- one that one of them touches doesn't count as told after them
pub touched_folded : (t : TypeName) (s : Session) (ms : List Message) (name v : List ℕ) → s.asked.begun ≡ true → AllTaken t s ms → s.account.sent ≡ None → list_any (λ x. touches x name) (touched_by t s ms) ≡ true → finmap.get (folded t s ms).account.beliefs name ≡ Some (Told v) → ⊥
touched_folded t s [] name v begun all none touched is = absurd cc
touched_folded t s (m ∷ ms) name v begun all none touched is =
    later (list_any (λ x. touches x name) (touched_by t (session_after t s m) ms)) refl (touched_folded t (session_after t s m) ms name v (begun_after t s m begun) all.1 (still_none t s m none))
  where
    later : (b : Bool) → list_any (λ x. touches x name) (touched_by t (session_after t s m) ms) ≡ b → (list_any (λ x. touches x name) (touched_by t (session_after t s m) ms) ≡ true → finmap.get (folded t (session_after t s m) ms).account.beliefs name ≡ Some (Told v) → ⊥) → ⊥
    later true rest again = again rest is
    later false rest again =
        let names : Names = names_of t s.asked m in
        never_told_again t (session_after t s m) ms name v (begun_after t s m begun) all.1 (still_none t s m none)
        (λ told. touched_not_told (touches names.touched name) (reaches names.asked.interest name) (set.contains names.mentioned name) (finmap.get s.account.beliefs name) v
        (either_of (touches names.touched name) (list_any (λ x. touches x name) (touched_by t (session_after t s m) ms)) touched rest) (sym (believed_next t s m name begun none all.0) ∙ told)) is
