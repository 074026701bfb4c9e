-- What the responses of a type on a stream say, and what the session's account of them has: the last nonce, the response that is
-- unanswered, and the offer that was refused last.
use Rattle.std.proofs.Common.{◌≡◌, ℕ, List, [], ◌∷◌, map, Bool, true, false, ◌&&◌, not, Option, Some, None, refl, sym, ap, subst, ◌∙◌}
use Rattle.std.specs.Prelude.{if◌then◌else◌, is_some, is_none, bytes_eq, unwrap_or, option_map}
use Rattle.std.specs.Option.{option_map_or}
use Rattle.std.specs.FinMap as finmap
use Rattle.std.specs.FinSet as set
use Rattle.xds_resource.specs.declared.types.TypeName.{TypeName}
use Rattle.xds_resource.specs.Writes.{text_cmp}
use Rattle.xds_resource.proofs.NameMaps.{bytes_eq_swap}
use Rattle.xds_interest.specs.Interests.{Selection}
use Rattle.xds_interest.specs.Touches.{Touch}
use Rattle.xds_ledger.specs.declared.variant.VariantName.{VariantName}
use Rattle.xds_ledger.specs.Offers.{Offer}
use Rattle.xds_ledger.specs.Ledgers as ledgers
use Rattle.xds_ledger.specs.Ledgers.{Account, untold, nonce_text, settled, answered, is_stale, touch, resume, touched_since, send}
use Rattle.xds_check.specs.declared.asking.Asking.{Asking}
use Rattle.xds_check.specs.Answers.{nonce_of, rejects}
use Rattle.xds_check.specs.Lines as told_of
use Rattle.xds_check.specs.Lines.{Fate, Unanswered, Accepted, Refused, Sent, answered_by, is_waiting, last_nonce, refused_offer}
use Rattle.xds_check.proofs.Talking.{unanswering_all}

-- what an account has unanswered is the last of the responses, and no other waits
abbrev pub IsOpen : Option ledgers.Sent → ℕ → List Sent → Type 0
IsOpen None nonce rs = is_waiting rs ≡ false
IsOpen (Some x) nonce rs = (before : List Sent) × (rs ≡ record { nonce = nonce_text nonce; offer = x.offer; fate = Unanswered } ∷ before) × (is_waiting before ≡ false)

-- the account tells of the responses what they say
pub record Tells (k : Account) (rs : List Sent) : Type 0 where
  pub nonce : unwrap_or (last_nonce rs) [] ≡ nonce_text k.nonce
  pub waiting : IsOpen k.sent k.nonce rs
  pub refused : refused_offer rs ≡ k.refused

pub tells_nothing : Tells untold []
tells_nothing = record { nonce = refl; waiting = refl; refused = refl }

-- ---- whether something waits

-- rule: one-unanswered
pub waits_as : (o : Option ledgers.Sent) (nonce : ℕ) (rs : List Sent) → IsOpen o nonce rs → is_waiting rs ≡ is_some o
waits_as None nonce rs waiting = waiting
waits_as (Some x) nonce rs waiting = ap is_waiting waiting.1

is_none_not : {X : Type 0} (o : Option X) → not (is_some o) ≡ is_none o
is_none_not None = refl
is_none_not (Some x) = refl

-- rule: stale-nonce
stale_by : (begun empty waiting : Bool) (n : List ℕ) (last : Option (List ℕ)) (text : List ℕ) → bytes_eq n [] ≡ empty → unwrap_or last [] ≡ text
    → (begun && (not waiting && not empty && not (option_map_or (bytes_eq n) last false))) ≡ (begun && (not waiting && not empty && not (bytes_eq n text)))
stale_by false empty waiting n last text is same = refl
stale_by true empty true n last text is same = refl
stale_by true true false n last text is same = refl
stale_by true false false n None text is same = ap not (sym is ∙ ap (bytes_eq n) same)
stale_by true false false n (Some z) text is same = ap (λ x. not (bytes_eq n x)) same

-- rule: stale-nonce
-- a request is ignored by the lines just where it is out of date by the account
pub ignored_as : (begun : Bool) (k : Account) (rs : List Sent) (m : Asking) → Tells k rs → told_of.is_stale begun rs m ≡ (begun && is_stale k (nonce_of m))
ignored_as begun k rs m told =
    stale_by begun (bytes_eq (nonce_of m) []) (is_waiting rs) (nonce_of m) (last_nonce rs) (nonce_text k.nonce) refl told.nonce
    ∙ ap (λ b. begun && (b && not (bytes_eq (nonce_of m) []) && not (bytes_eq (nonce_of m) (nonce_text k.nonce)))) (ap not (waits_as k.sent k.nonce rs told.waiting) ∙ is_none_not k.sent)

-- ---- an answer

abbrev fated : Sent → Fate → Sent
fated r fate = record { nonce = r.nonce; offer = r.offer; fate = fate }

abbrev waiting_one : Account → ledgers.Sent → Sent
waiting_one k x = record { nonce = nonce_text k.nonce; offer = x.offer; fate = Unanswered }

-- the one that waits, and those before it, once a request came
first_answered : (k : Account) (x : ledgers.Sent) (m : Asking) (before : List Sent) (same : Bool) → bytes_eq (nonce_text k.nonce) (nonce_of m) ≡ same → is_waiting before ≡ false
    → map (answered_by m) (waiting_one k x ∷ before) ≡ (if same then fated (waiting_one k x) (if rejects m then Refused else Accepted) else waiting_one k x) ∷ before
first_answered k x m before same is none = λ i. (if is i then fated (waiting_one k x) (if rejects m then Refused else Accepted) else waiting_one k x) ∷ unanswering_all m before none i

-- an account after the answer, if it is one
abbrev pub settled_as : VariantName → TypeName → Account → Option ledgers.Sent → Bool → Bool → Account
settled_as v t k o same rejected = if is_some o && same then option_map_or (λ sent. answered v t k sent rejected) o k else k

-- rule: accept-reject
told_answered : (v : VariantName) (t : TypeName) (k : Account) (x : ledgers.Sent) (before : List Sent) (rejected : Bool) → unwrap_or (last_nonce (waiting_one k x ∷ before)) [] ≡ nonce_text k.nonce → is_waiting before ≡ false
    → Tells (answered v t k x rejected) (fated (waiting_one k x) (if rejected then Refused else Accepted) ∷ before)
told_answered v t k x before true nonce none = record { nonce = refl; waiting = none; refused = refl }
told_answered v t k x before false nonce none = record { nonce = refl; waiting = none; refused = refl }

told_open : (v : VariantName) (t : TypeName) (k : Account) (x : ledgers.Sent) (before : List Sent) (same rejected : Bool) → k.sent ≡ Some x → is_waiting before ≡ false → refused_offer before ≡ k.refused
    → Tells (settled_as v t k (Some x) same rejected) ((if same then fated (waiting_one k x) (if rejected then Refused else Accepted) else waiting_one k x) ∷ before)
told_open v t k x before true rejected sent none refused = told_answered v t k x before rejected refl none
told_open v t k x before false rejected sent none refused = record { nonce = refl; waiting = subst (λ o. IsOpen o k.nonce (waiting_one k x ∷ before)) (sym sent) (before, refl, none); refused = refused }

told_by : (v : VariantName) (t : TypeName) (k : Account) (rs : List Sent) (m : Asking) (o : Option ledgers.Sent) → k.sent ≡ o → IsOpen o k.nonce rs → Tells k rs
    → Tells (settled_as v t k o (bytes_eq (nonce_of m) (nonce_text k.nonce)) (rejects m)) (map (answered_by m) rs)
told_by v t k rs m None sent waiting told = subst (Tells k) (sym (unanswering_all m rs waiting)) told
told_by v t k rs m (Some x) sent waiting told =
    subst (Tells (settled_as v t k (Some x) (bytes_eq (nonce_of m) (nonce_text k.nonce)) (rejects m)))
    (sym (ap (map (answered_by m)) waiting.1 ∙ first_answered k x m waiting.0 (bytes_eq (nonce_of m) (nonce_text k.nonce)) (bytes_eq_swap (nonce_text k.nonce) (nonce_of m)) waiting.2))
    (told_open v t k x waiting.0 (bytes_eq (nonce_of m) (nonce_text k.nonce)) (rejects m) sent waiting.2 (sym (ap refused_offer waiting.1) ∙ told.refused))

-- rule: accept-reject
-- a request that isn't the first settles what it answers, on both sides
pub told_settled : (v : VariantName) (t : TypeName) (k : Account) (rs : List Sent) (m : Asking) → Tells k rs → Tells (settled v t k (nonce_of m) (rejects m)) (map (answered_by m) rs)
told_settled v t k rs m told = told_by v t k rs m k.sent refl told.waiting told

-- ---- what else a request does

open_noted : (o : Option ledgers.Sent) (nonce : ℕ) (rs : List Sent) (touched : Touch) → IsOpen o nonce rs → IsOpen (option_map (λ sent. touched_since sent touched) o) nonce rs
open_noted None nonce rs touched waiting = waiting
open_noted (Some x) nonce rs touched waiting = waiting

-- the names of a request change nothing of it
pub told_touched : (k : Account) (rs : List Sent) (s : Selection) (touched : Touch) (mentioned : set.FinSet text_cmp) (versions : finmap.FinMap text_cmp (List ℕ)) → Tells k rs → Tells (resume (touch k s touched mentioned) versions) rs
told_touched k rs s touched mentioned versions told = record { nonce = told.nonce; waiting = open_noted k.sent k.nonce rs touched told.waiting; refused = told.refused }

-- ---- a response

-- rule: one-unanswered
pub told_sent : (k : Account) (rs : List Sent) (o : Offer) (number : ℕ) → k.sent ≡ None → Tells k rs → Tells (send k o number) (record { nonce = nonce_text number; offer = o; fate = Unanswered } ∷ rs)
told_sent k rs o number none told = record { nonce = refl; waiting = (rs, refl, waits_as k.sent k.nonce rs told.waiting ∙ ap is_some none); refused = told.refused }
