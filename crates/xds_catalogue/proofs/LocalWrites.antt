-- A replica's own writes, from their stamps and from how each is joined.
use Rattle.std.proofs.Common.{◌≡◌, ◌≢◌, ℕ, ◌+◌, ◌==◌, ◌≤◌, List, [], ◌∷◌, Bool, true, false, not, cond, Result, Ok, Err, refl, sym, ap, ◌∙◌, arith}
use Rattle.std.specs.FinMap as finmap
use Rattle.std.proofs.lemmas.Bool.{ne_eqb, eq-eqb}
use Rattle.xds_resource.specs.declared.refusal.Refusal.{Refusal}
use Rattle.xds_resource.specs.declared.refusal.Refusal.TheVariants.{CounterSpent, NotFound}
use Rattle.xds_resource.specs.Refusals.{unless_refused}
use Rattle.xds_resource.specs.Resources.{NamedBody, written, deleted}
use Rattle.xds_resource.specs.Stamps.{max_counter}
use Rattle.xds_resource.specs.Writes.{StampedWrite}
use Rattle.xds_resource.proofs.Refusing.{unless_refused-append, unless_refused-value}
use Rattle.xds_catalogue.specs.Holdings.{Holdings}
use Rattle.xds_catalogue.specs.Joins.{joined, joining}
use Rattle.xds_catalogue.specs.Local.{greatest_counter, next_counter, spent_conditions, has_live, putting, deleting}
use Rattle.xds_catalogue.proofs.News.{changes_after-le}
use Rattle.xds_catalogue.proofs.Joining.{joined_Ok, spent}

-- the counter of the next write, or that there is none
abbrev pub next : Holdings → Result ℕ Refusal
next h = unless_refused (spent_conditions h) (next_counter h)

either_spent : {A : Type 0} (a b : Bool) (x : A) → cond {A = Result A Refusal} a (Err CounterSpent) (cond b (Err CounterSpent) (Ok x)) ≡ cond b (Err CounterSpent) (cond a (Err CounterSpent) (Ok x))
either_spent true true x = refl
either_spent true false x = refl
either_spent false true x = refl
either_spent false false x = refl

pub next-spent_counter : (h : Holdings) → greatest_counter h.entries ≡ max_counter → next h ≡ Err CounterSpent
next-spent_counter h top = ap (λ b. cond b (Err CounterSpent) (cond (h.changes == max_counter) (Err CounterSpent) (Ok (next_counter h)))) (eq-eqb _ max_counter top)

pub next-spent_changes : (h : Holdings) → h.changes ≡ max_counter → next h ≡ Err CounterSpent
next-spent_changes h top =
    either_spent (greatest_counter h.entries == max_counter) (h.changes == max_counter) (next_counter h)
    ∙ ap (λ b. cond b (Err CounterSpent) (cond (greatest_counter h.entries == max_counter) (Err CounterSpent) (Ok (next_counter h)))) (eq-eqb h.changes max_counter top)

pub next-Ok : (h : Holdings) (c : ℕ) → greatest_counter h.entries ≢ max_counter → h.changes ≢ max_counter → c ≡ greatest_counter h.entries + 1 → next h ≡ Ok c
next-Ok h c counter changes next_is =
    ap (λ b. cond b (Err CounterSpent) (cond (h.changes == max_counter) (Err CounterSpent) (Ok (next_counter h)))) (ne_eqb _ max_counter counter)
    ∙ ap (λ b. cond b (Err CounterSpent) (Ok (next_counter h))) (ne_eqb h.changes max_counter changes) ∙ ap Ok (sym next_is)

-- what a next counter says
next-value : (h : Holdings) (c : ℕ) → next h ≡ Ok c → next_counter h ≡ c
next-value h c e = unless_refused-value (spent_conditions h) (next_counter h) c e

room_at : (a b : Bool) (n c : ℕ) → cond {A = Result ℕ Refusal} a (Err CounterSpent) (cond b (Err CounterSpent) (Ok n)) ≡ Ok c → b ≡ false
room_at true b n c e = absurd cc
room_at false true n c e = absurd cc
room_at false false n c e = refl

-- where there is a next counter, one more change fits
next_fits : (h : Holdings) (c : ℕ) (w : StampedWrite) (e : Refusal) → next h ≡ Ok c → h.changes ≤ max_counter → joining h (w ∷ []) ≢ Err e
next_fits h c w e next_is short was =
    let past = (spent h (w ∷ []) e was).0 in
    let one = changes_after-le (finmap.values h.entries) (w ∷ []) in
    let full : h.changes ≡ max_counter = omega (arith, past, one, short) in
    let room = room_at (greatest_counter h.entries == max_counter) (h.changes == max_counter) (next_counter h) c next_is in
    let top = eq-eqb h.changes max_counter full in
    absurd cc

refused_at : {A B : Type 0} (a b : Bool) (x : A) (y : B) (e : Refusal) → cond {A = Result A Refusal} a (Err CounterSpent) (cond b (Err CounterSpent) (Ok x)) ≡ Err e → cond {A = Result B Refusal} a (Err CounterSpent) (cond b (Err CounterSpent) (Ok y)) ≡ Err e
refused_at true b x y e h = cc
refused_at false true x y e h = cc
refused_at false false x y e h = absurd cc

-- why there is no next counter is why nothing is written
pub unless_refused-refused : {B : Type 0} (h : Holdings) (y : B) (e : Refusal) → next h ≡ Err e → unless_refused (spent_conditions h) y ≡ Err e
unless_refused-refused h y e was = refused_at (greatest_counter h.entries == max_counter) (h.changes == max_counter) (next_counter h) y e was

-- a put whose write was joined
pub putting-Ok : (h k : Holdings) (r : NamedBody) (groups : List (List ℕ)) (writer c n : ℕ) → next h ≡ Ok c → joining h (written c writer r groups ∷ []) ≡ Ok (n, k) → putting h r groups writer ≡ Ok (c, k)
putting-Ok h k r groups writer c n next_is joins =
    let is = next-value h c next_is in
    unless_refused-append (spent_conditions h) [] (next_counter h) c (next_counter h, joined h (written (next_counter h) writer r groups ∷ [])) next_is
    ∙ ap (λ m. Ok (m, joined h (written m writer r groups ∷ []))) is ∙ ap (λ l. Ok (c, l)) (joined_Ok h k (written c writer r groups ∷ []) n joins)

pub putting-fits : (h : Holdings) (r : NamedBody) (groups : List (List ℕ)) (writer c : ℕ) (e : Refusal) → next h ≡ Ok c → h.changes ≤ max_counter → joining h (written c writer r groups ∷ []) ≡ Err e → putting h r groups writer ≡ Err e
putting-fits h r groups writer c e next_is short was = absurd (next_fits h c (written c writer r groups) e next_is short was)

past_front : {A : Type 0} (b : Bool) (r : Result A Refusal) → b ≡ true → cond (not b) (Err NotFound) r ≡ r
past_front b r live = ap (λ b. cond (not b) (Err NotFound) r) live

pub deleting-NotFound : (h : Holdings) (name : List ℕ) (writer : ℕ) → has_live h.entries name ≡ false → deleting h name writer ≡ Err NotFound
deleting-NotFound h name writer dead =
    ap (λ b. cond (not b) (Err NotFound) (unless_refused (spent_conditions h) (next_counter h, joined h (deleted (next_counter h) writer name ∷ [])))) dead

pub deleting-refused : (h : Holdings) (name : List ℕ) (writer : ℕ) (e : Refusal) → has_live h.entries name ≡ true → next h ≡ Err e → deleting h name writer ≡ Err e
deleting-refused h name writer e live was = past_front (has_live h.entries name) _ live ∙ unless_refused-refused h _ e was

-- rule: tombstones
-- a deletion whose write was joined
pub deleting-Ok : (h k : Holdings) (name : List ℕ) (writer c n : ℕ) → has_live h.entries name ≡ true → next h ≡ Ok c → joining h (deleted c writer name ∷ []) ≡ Ok (n, k) → deleting h name writer ≡ Ok (c, k)
deleting-Ok h k name writer c n live next_is joins =
    past_front (has_live h.entries name) _ live
    ∙ unless_refused-append (spent_conditions h) [] (next_counter h) c (next_counter h, joined h (deleted (next_counter h) writer name ∷ [])) next_is
    ∙ ap (λ m. Ok (m, joined h (deleted m writer name ∷ []))) (next-value h c next_is) ∙ ap (λ l. Ok (c, l)) (joined_Ok h k (deleted c writer name ∷ []) n joins)

pub deleting-fits : (h : Holdings) (name : List ℕ) (writer c : ℕ) (e : Refusal) → next h ≡ Ok c → h.changes ≤ max_counter → joining h (deleted c writer name ∷ []) ≡ Err e → deleting h name writer ≡ Err e
deleting-fits h name writer c e next_is short was = absurd (next_fits h c (deleted c writer name) e next_is short was)
