-- What a server keeps of one type on one stream, with the list of what it may owe: when the list suffices, what it takes from a
-- request, and what a session with such a list is. This project's own.
--     Books, books_code   an account, with the list of what may be owed
--     new_books           before the first request
--     sent_books          once an offer was sent as the response of this number
--     is_owed_then        whether something is owed of a name once the unanswered response is accepted
--     IsForetold          of an unanswered response it is known what its acceptance leaves
--     Foretells           where there is one, and the list has the mark of its sending
--     Fits                the list suffices for a client of this interest, at a catalogue of these holdings
--     refreshed           once the changes above the mark were looked at
--     accepts             whether a request with this nonce accepts the unanswered response
--     StaysPresent        from one interest to another
--     IsPassedOver        what a request, and the response that it accepts, say nothing of
--     ListsRequest        all of which a request may change what is owed is listed
--     ListsNames          what is listed once a request is taken: what was, and all of which it may change what is owed
--     ListsTouched        what is listed once a response was accepted of which that is known: the touched names
--     ListsNext           what is listed once a request is taken
--     FitsNext            what a request that is taken leaves
--     with_names          with some names
--     with_said           with the names of which a client says that it holds a version
--     with_offer          with the names of the unanswered response, where it is accepted
--     with_all            with the names that are believed held and those that a request mentions
--     with_changes        with every change to be looked at again, where every name is touched
--     listed_after        with all of which a request may change what is owed
--     Kept, kept_code     a session, with the list of what may be owed
--     new_kept            before the first request, of a client with this cluster text
--     sent_kept           once an offer was sent as the response of this number
--     SessionFits         the list of a session suffices, at a catalogue of these holdings
--     StaysFit            wherever the list of a session sufficed, it suffices
use Rattle.std.specs.Prelude.{◌≡◌, ◌⊎◌, ℕ, ◌≤◌, List, [], ◌∷◌, Bool, true, false, ◌&&◌, ◌||◌, not, if◌then◌else◌, Some, None, IfSome, refl}
use Rattle.std.specs.Option.{option_map_or}
use Rattle.std.specs.FinMap as finmap
use Rattle.std.specs.FinSet as set
use Rattle.std.specs.Coded.{Coded, code_by, coded×}
use Rattle.xds_resource.specs.declared.types.TypeName.{TypeName}
use Rattle.xds_resource.specs.Writes.{text_cmp}
use Rattle.xds_interest.specs.Interests.{Selection}
use Rattle.xds_interest.specs.Asked.{IsStarOfComplete}
use Rattle.xds_interest.specs.Touches.{Touch, touches}
use Rattle.xds_catalogue.specs.Holdings.{Holdings, Entries}
use Rattle.xds_ledger.specs.declared.variant.VariantName.{VariantName}
use Rattle.xds_ledger.specs.Owed.{Beliefs, present, owed}
use Rattle.xds_ledger.specs.Offers.{Offer}
use Rattle.xds_ledger.specs.Listed as lists
use Rattle.xds_ledger.specs.Listed.{Listed, listed_code, unlisted, is_listed, IsPast, IsWider}
use Rattle.xds_ledger.specs.Variants.{is_whole, is_told}
use Rattle.xds_ledger.specs.Ledgers.{Account, account_code, Sent, Names, was_touched, believed_accepted, untold, send, answers}
use Rattle.xds_ledger.specs.Sessions as sessions
use Rattle.xds_ledger.specs.Sessions.{Session, session_code, unopened}

-- an account, with the list of what may be owed
pub record Books : Type 0 where
  pub account : Account
  pub listed : Listed

abbrev pub books_code : Coded Books
books_code = code_by (Account × Listed) (coded× account_code listed_code) (λ b. (b.account, b.listed)) (λ p. record { account = p.0; listed = p.1 }) (λ _. refl)

-- before the first request
abbrev pub new_books : Books
new_books = record { account = untold; listed = unlisted }

-- once an offer was sent as the response of this number: the list has its mark as that of the sending
abbrev pub sent_books : Books → Offer → ℕ → Books
sent_books b o nonce = record { account = send b.account o nonce; listed = lists.with_sending b.listed }

-- rule: owed
-- whether something is owed that can be told of a name that no request touched since the response was sent, once that is accepted
abbrev pub is_owed_then : VariantName → TypeName → Selection → Entries → Beliefs → Sent → List ℕ → Bool
is_owed_then v t s m b sent name =
    option_map_or (is_told v t) (owed (believed_accepted (is_whole v t) false (finmap.get sent.offer name) (finmap.get b name)) (present s m name)) false

-- Of an unanswered response it is known what its acceptance leaves of each name that no request touched since it was sent, and whose
-- latest change isn't above the list's mark then: nothing is owed of it that can be told. The list's mark isn't below that one.
pub record IsForetold (v : VariantName) (t : TypeName) (s : Selection) (h : Holdings) (b : Beliefs) (mark : ℕ) (sent : Sent) (sent_mark : ℕ) : Type 0 where
  pub below : sent_mark ≤ mark
  pub settled : (name : List ℕ) → was_touched sent name ≡ false → IsPast h sent_mark name → is_owed_then v t s h.entries b sent name ≡ false

-- of the response that is unanswered, if the list has the mark of its sending
abbrev pub Foretells : VariantName → TypeName → Selection → Holdings → Account → Listed → Type 0
Foretells v t s h a l = IfSome a.sent (λ sent. IfSome l.sent_mark (IsForetold v t s h a.beliefs l.mark sent))

-- The list suffices for a client of this interest, at a catalogue of these holdings, and so does what is left of it once the
-- unanswered response is accepted.
pub record Fits (v : VariantName) (t : TypeName) (s : Selection) (h : Holdings) (b : Books) : Type 0 where
  pub list : lists.Fits v t s h b.account.beliefs b.listed
  pub foretold : Foretells v t s h b.account b.listed

-- once the changes above the mark were looked at
abbrev pub refreshed : Holdings → Books → Books
refreshed h b = record b { listed = lists.refreshed h b.listed }

-- ---- requests

-- rule: accept-reject
-- whether a request with this nonce accepts the unanswered response
abbrev pub accepts : Account → List ℕ → Bool → Bool
accepts a nonce rejects = not rejects && answers a nonce

-- From one interest to another: an untouched name whose latest change isn't above the mark stays present at its version, or absent.
abbrev pub StaysPresent : Selection → Selection → Holdings → ℕ → Touch → Type 0
StaysPresent old new h mark touched = (name : List ℕ) → touches touched name ≡ false → IsPast h mark name → present old h.entries name ≡ present new h.entries name

-- What a request, and the response that it accepts, say nothing of: a name that isn't touched by itself, that isn't among the
-- versions or in the accepted offer; and, where all that is believed may change, one that isn't believed held and isn't mentioned.
pub record IsPassedOver (a : Account) (accepting whole : Bool) (touched : Touch) (mentioned : set.FinSet text_cmp) (versions : finmap.FinMap text_cmp (List ℕ)) (name : List ℕ) : Type 0 where
  pub untouched : set.contains touched.names name ≡ false
  pub unsaid : finmap.get versions name ≡ None
  pub unoffered : accepting ≡ true → IfSome a.sent (λ sent. finmap.get sent.offer name ≡ None)
  pub unbelieved : (touched.all || (accepting && whole)) ≡ true → finmap.get a.beliefs name ≡ None
  pub unmentioned : (touched.all || (accepting && whole)) ≡ true → set.contains mentioned name ≡ false

-- All of which a request may change what is owed is listed; where it touches every name, all changes are to be looked at again. Where
-- it says versions, the list has no mark of the sending.
pub record ListsRequest (a : Account) (accepting whole : Bool) (touched : Touch) (mentioned : set.FinSet text_cmp) (versions : finmap.FinMap text_cmp (List ℕ)) (l : Listed) : Type 0 where
  pub mark : touched.all ≡ true → l.mark ≡ 0
  pub sending : IfSome l.sent_mark (λ m. (name : List ℕ) → finmap.get versions name ≡ None)
  pub others : (name : List ℕ) → is_listed l name ≡ false → IsPassedOver a accepting whole touched mentioned versions name

-- What is listed once a request is taken: what was, and all of which the request may change what is owed.
pub record ListsNames (v : VariantName) (t : TypeName) (b : Books) (accepting : Bool) (names : Names) (l : Listed) : Type 0 where
  pub wider : IsWider b.listed l
  pub request : ListsRequest b.account accepting (is_whole v t) names.touched names.mentioned names.versions l

-- What is listed once a request accepts the unanswered response, where it is known what that leaves: the names that requests
-- touched since it was sent, those that this one touches, and those of which it says a version. The mark is that of the sending.
pub record ListsTouched (v : VariantName) (t : TypeName) (b : Books) (accepting : Bool) (names : Names) (l : Listed) : Type 0 where
  pub accepted : accepting ≡ true
  pub mark : b.listed.sent_mark ≡ Some l.mark
  pub since : IfSome b.account.sent (λ sent. (name : List ℕ) → is_listed l name ≡ false → was_touched sent name ≡ false)
  pub untouched : (name : List ℕ) → is_listed l name ≡ false → touches names.touched name ≡ false
  pub unsaid : (name : List ℕ) → is_listed l name ≡ false → finmap.get names.versions name ≡ None

-- what is listed once a request is taken, which accepts the unanswered response or doesn't
abbrev pub ListsNext : VariantName → TypeName → Books → Bool → Names → Listed → Type 0
ListsNext v t b accepting names l = ListsTouched v t b accepting names l ⊎ ListsNames v t b accepting names l

-- What a request that is taken leaves: wherever the list sufficed, it suffices for each interest that leaves the untouched names alone.
abbrev pub FitsNext : VariantName → TypeName → Touch → Books → Books → Type 0
FitsNext v t touched old new = (s next : Selection) (h : Holdings) → Fits v t s h old → StaysPresent s next h old.listed.mark touched → Fits v t next h new

-- ---- how the list is made

-- with some names
abbrev pub with_names : Listed → List (List ℕ) → Listed
with_names l [] = l
with_names l (n ∷ ns) = with_names (lists.with_name l n) ns

-- with the names of which a client says that it holds a version, and without the mark of the sending if there is such a name
abbrev pub with_said : Listed → List (List ℕ) → Listed
with_said l [] = l
with_said l (n ∷ ns) = with_said (lists.without_sending (lists.with_name l n)) ns

-- with the names of the unanswered response, where it is accepted
abbrev pub with_offer : Account → Bool → Listed → Listed
with_offer a accepting l = if accepting then option_map_or (λ sent. with_names l (finmap.keys sent.offer)) a.sent l else l

-- with the names that are believed held and those that a request mentions, where these may all change
abbrev pub with_all : Account → Bool → List (List ℕ) → Listed → Listed
with_all a all mentioned l = if all then with_names (with_names l (finmap.keys a.beliefs)) mentioned else l

-- with every change to be looked at again, where every name is touched
abbrev pub with_changes : Bool → Listed → Listed
with_changes all l = if all then lists.without_mark l else l

-- with all of which a request may change what is owed
abbrev pub listed_after : Account → Bool → Bool → Bool → List (List ℕ) → List (List ℕ) → List (List ℕ) → Listed → Listed
listed_after a accepting whole all touched mentioned said l =
    with_changes all (with_all a (all || (accepting && whole)) mentioned (with_offer a accepting (with_said (with_names l touched) said)))

-- ---- sessions

-- a session, with the list of what may be owed
pub record Kept : Type 0 where
  pub session : Session
  pub listed : Listed

abbrev pub kept_code : Coded Kept
kept_code = code_by (Session × Listed) (coded× session_code listed_code) (λ k. (k.session, k.listed)) (λ p. record { session = p.0; listed = p.1 }) (λ _. refl)

-- before the first request, of a client with this cluster text
abbrev pub new_kept : List ℕ → Kept
new_kept cluster = record { session = unopened cluster; listed = unlisted }

-- once an offer was sent as the response of this number
abbrev pub sent_kept : Kept → Offer → ℕ → Kept
sent_kept k o nonce = record { session = sessions.send k.session o nonce; listed = lists.with_sending k.listed }

-- The list of a session suffices, at a catalogue of these holdings, and so does what is left of it once the unanswered response is
-- accepted. Before its first request every change is still to be looked at, and the star is asked for of a complete type alone.
pub record SessionFits (v : VariantName) (t : TypeName) (h : Holdings) (k : Kept) : Type 0 where
  pub list : lists.Fits v t k.session.asked.interest h k.session.account.beliefs k.listed
  pub foretold : Foretells v t k.session.asked.interest h k.session.account k.listed
  pub unbegun : k.session.asked.begun ≡ false → k.listed.mark ≡ 0
  pub star : IsStarOfComplete t k.session.asked

-- wherever the list of a session sufficed, it suffices
abbrev pub StaysFit : VariantName → TypeName → Kept → Kept → Type 0
StaysFit v t old new = (h : Holdings) → SessionFits v t h old → SessionFits v t h new
