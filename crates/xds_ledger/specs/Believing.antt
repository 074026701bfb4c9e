-- What a server believes that a client holds, once a response is accepted and once a request's names are taken. This project's own.
--     Sent, sent_code                  a response that was sent and isn't answered
--     touched_since                    the response that is unanswered, once a request touched names
--     last_touch_forgotten             the same without the touch that was noted last
--     was_touched                      whether a request touched the name since the response was sent
--     once_told                        what is believed of a name that was told
--     believed_accepted                the belief about a name once the response is accepted
--     beliefs_accepted                 all beliefs once the response is accepted
--     believed_touched                 what is believed of a name that a request touches
--     believed_taken                   the belief about a name once a request's names are taken
--     beliefs_taken                    all beliefs once a request's names are taken
--     AreInOrder                       names with versions, as a client says that it holds them: their names ascend
--     versions_of                      the version of each of them
--     beliefs_resumed                  what is believed once a client said which versions it holds: it was told these
--     Names, names_code                what a request says of names
--     beliefs_after                    what is believed once a request's names are taken
use Rattle.std.specs.Prelude.{ℕ, ◌-◌, T, List, [], ◌∷◌, ◌++◌, length, take, Bool, ◌&&◌, ◌||◌, not, if◌then◌else◌, Option, Some, None, is_some, option_map, refl}
use Rattle.std.specs.Option.{option_or}
use Rattle.std.specs.List.{list_any}
use Rattle.std.specs.FinMap as finmap
use Rattle.std.specs.FinMap.Entries.{is_sorted}
use Rattle.std.specs.FinSet as set
use Rattle.xds_resource.specs.Writes.{text_cmp}
use Rattle.xds_resource.specs.Names.{tabulate}
use Rattle.xds_interest.specs.Interests.{Selection, selection_code, reaches}
use Rattle.std.specs.Coded.{Coded, code_by, coded×, coded_ℕ, coded_list}
use Rattle.xds_interest.specs.Touches.{Touch, touch_code, touches}
use Rattle.xds_ledger.specs.declared.entry.Entry.{Entry}
use Rattle.xds_ledger.specs.declared.entry.Entry.TheVariants.{Told, Unsure}
use Rattle.xds_ledger.specs.declared.entry.Due.{Due}
use Rattle.xds_ledger.specs.declared.entry.Due.TheVariants.{Stated, Removed}
use Rattle.xds_ledger.specs.Owed.{Beliefs}
use Rattle.xds_ledger.specs.Offers.{due_code}

-- a response that was sent and isn't answered: what it offers, and what the requests touched that were taken since
pub record Sent : Type 0 where
  pub offer : finmap.FinMap text_cmp Due
  pub touched : List Touch

abbrev pub sent_code : Coded Sent
sent_code =
    code_by (finmap.FinMap text_cmp Due × List Touch) (coded× (finmap.code (coded_list coded_ℕ) due_code) (coded_list touch_code)) (λ s. (s.offer, s.touched))
    (λ p. record { offer = p.0; touched = p.1 }) (λ _. refl)

-- the response that is unanswered, once a request touched names
abbrev pub touched_since : Sent → Touch → Sent
touched_since sent touch = record sent { touched = sent.touched ++ touch ∷ [] }

-- the same without the touch that was noted last
abbrev pub last_touch_forgotten : Sent → Sent
last_touch_forgotten sent = record sent { touched = take (length sent.touched - 1) sent.touched }

-- ---- answers

-- whether a request touched the name since the response was sent
abbrev pub was_touched : Sent → List ℕ → Bool
was_touched sent name = list_any (λ touch. touches touch name) sent.touched

-- rule: accept-reject
-- what is believed of a name that was told
abbrev pub once_told : Due → Option Entry
once_told (Stated v) = Some (Told v)
once_told Removed = None

-- rule: accept-reject, rule: whole-response
-- What is believed of a name once the response is accepted, from what the response says of it and what was believed before.
-- A name that was touched meanwhile is unsure; a whole response leaves no other name that wasn't touched.
abbrev pub believed_accepted : Bool → Bool → Option Due → Option Entry → Option Entry
believed_accepted whole touched (Some due) before = if touched then Some Unsure else once_told due
believed_accepted whole touched None before = if whole && not touched then None else before

-- rule: accept-reject
abbrev pub beliefs_accepted : Bool → Sent → Beliefs → Beliefs
beliefs_accepted whole sent beliefs =
    tabulate (λ name. believed_accepted whole (was_touched sent name) (finmap.get sent.offer name) (finmap.get beliefs name)) (finmap.keys sent.offer ++ finmap.keys beliefs)

-- ---- names

-- What is believed of a name that a request touches: nothing if the interest doesn't reach it, and else unsure if the
-- request mentions it or it was believed held.
abbrev pub believed_touched : Bool → Bool → Option Entry → Option Entry
believed_touched reached mentioned before = if reached && (mentioned || is_some before) then Some Unsure else None

-- the same of any name: one that isn't touched keeps what is believed of it
abbrev pub believed_taken : Selection → Touch → set.FinSet text_cmp → Beliefs → List ℕ → Option Entry
believed_taken s touch mentioned beliefs name =
    if touches touch name then believed_touched (reaches s name) (set.contains mentioned name) (finmap.get beliefs name) else finmap.get beliefs name

abbrev pub beliefs_taken : Selection → Touch → set.FinSet text_cmp → Beliefs → Beliefs
beliefs_taken s touch mentioned beliefs = tabulate (believed_taken s touch mentioned beliefs) (set.items mentioned ++ finmap.keys beliefs)

-- names with versions, as a client says that it holds them: their names ascend
abbrev pub AreInOrder : List (List ℕ × List ℕ) → Type 0
AreInOrder pairs = T (is_sorted text_cmp pairs)

-- the version of each of them
abbrev pub versions_of : List (List ℕ × List ℕ) → finmap.FinMap text_cmp (List ℕ)
versions_of pairs = finmap.from_sorted pairs

-- what is believed once a client said which versions it holds: it was told these
abbrev pub beliefs_resumed : finmap.FinMap text_cmp (List ℕ) → Beliefs → Beliefs
beliefs_resumed versions beliefs =
    tabulate (λ name. option_or (option_map Told (finmap.get versions name)) (finmap.get beliefs name)) (finmap.keys versions ++ finmap.keys beliefs)

-- What a request says of names: the client's interest then, what it touches and mentions, and the versions that it resumes from.
pub record Names : Type 0 where
  pub interest : Selection
  pub touched : Touch
  pub mentioned : set.FinSet text_cmp
  pub versions : finmap.FinMap text_cmp (List ℕ)

abbrev pub names_code : Coded Names
names_code =
    code_by (Selection × (Touch × (set.FinSet text_cmp × finmap.FinMap text_cmp (List ℕ))))
    (coded× selection_code (coded× touch_code (coded× (set.code (coded_list coded_ℕ)) (finmap.code (coded_list coded_ℕ) (coded_list coded_ℕ)))))
    (λ n. (n.interest, (n.touched, (n.mentioned, n.versions)))) (λ p. record { interest = p.0; touched = p.1.0; mentioned = p.1.1.0; versions = p.1.1.1 }) (λ _. refl)

-- what is believed once a request's names are taken
abbrev pub beliefs_after : Names → Beliefs → Beliefs
beliefs_after names beliefs = beliefs_resumed names.versions (beliefs_taken names.interest names.touched names.mentioned beliefs)
