-- Replies that are given twice: what a first answer says of both, and that an event with a long answer changes nothing.
use Rattle.std.proofs.Common.{◌≡◌, ℕ, Bool, true, false, Option, Some, None, Result, Ok, Err, refl, sym, ap, subst, ◌∙◌}
use Rattle.std.specs.Prelude.{◌==◌, if◌then◌else◌, IfOk, IfErr, OnErr, ⊤}
use Rattle.std.specs.Option.{option_map_or}
use Rattle.std.specs.FinMap as finmap
use Rattle.xds_resource.specs.declared.types.TypeName.{TypeName}
use Rattle.xds_resource.specs.declared.refusal.Refusal.{Refusal}
use Rattle.xds_resource.specs.declared.refusal.Refusal.TheVariants.{OutOfMemory, NoStream, CounterSpent}
use Rattle.xds_resource.specs.Refusals.{Gives}
use Rattle.xds_resource.specs.Stamps.{max_counter}
use Rattle.xds_events.specs.Stores.{if_done, putting_at, deleting_at, merging}
use Rattle.xds_core.specs.Talks.{firsts}
use Rattle.xds_events.specs.Streams.{Stream, requested}
use Rattle.xds_events.specs.Events.{Event, Open, Request, Poll, Owes, Close, Put, Delete, Merge, Snapshot, Rest, Since, Reply, Opened, Answered, Written, Merged}
use Rattle.xds_events.specs.declared.event.Reply as declared
use Rattle.xds_events.specs.Seen.{reply_of}
use Rattle.xds_events.specs.Steps.{Core, Step, step, with_stream}
use Rattle.xds_events.specs.Twice.{is_light, poll_in, IsShortBeside}

-- ---- from the first of two replies

pub first_gives : {Y T : Type 0} (view : declared.Reply → Y) (r : Result (declared.Reply × T) Refusal) (answer : Result Y Refusal) → Gives view (if_done (λ p. p.0) r) answer → Gives (λ p. view p.0) r answer
first_gives view (Ok p) answer gives = gives
first_gives view (Err e) answer gives = gives

pub first_short : {T : Type 0} (P : Refusal → Type 0) (r : Result (declared.Reply × T) Refusal) → IfErr (if_done (λ p. p.0) r) P → IfErr r P
first_short P (Ok p) short = tt
first_short P (Err e) short = short

pub first_kept : {T : Type 0} (P : Type 0) (r : Result (declared.Reply × T) Refusal) → OnErr (if_done (λ p. p.0) r) P → OnErr r P
first_kept P (Ok p) kept = tt
first_kept P (Err e) kept = kept

pub firsts_short : {D T : Type 0} (P : Refusal → Type 0) (r : Result (Option (D × T)) Refusal) → IfErr r P → IfErr (firsts r) P
firsts_short P (Ok o) short = tt
firsts_short P (Err e) short = short

pub firsts_kept : {D T : Type 0} (P : Type 0) (r : Result (Option (D × T)) Refusal) → OnErr r P → OnErr (firsts r) P
firsts_kept P (Ok o) kept = tt
firsts_kept P (Err e) kept = kept

-- what holds of drafts holds of the reply

pub done_short : {D T Y : Type 0} (reply : Option D → Y) (P : Refusal → Type 0) (r : Result (Option (D × T)) Refusal) → IfErr r P → IfErr (if_done reply (firsts r)) P
done_short reply P (Ok o) short = tt
done_short reply P (Err e) short = short

pub done_kept : {D T Y : Type 0} (reply : Option D → Y) (P : Type 0) (r : Result (Option (D × T)) Refusal) → OnErr r P → OnErr (if_done reply (firsts r)) P
done_kept reply P (Ok o) kept = tt
done_kept reply P (Err e) kept = kept

-- and the other way

pub undone_short : {D T Y : Type 0} (reply : Option D → Y) (P : Refusal → Type 0) (r : Result (Option (D × T)) Refusal) → IfErr (if_done reply (firsts r)) P → IfErr r P
undone_short reply P (Ok o) short = tt
undone_short reply P (Err e) short = short

pub undone_kept : {D T Y : Type 0} (reply : Option D → Y) (P : Type 0) (r : Result (Option (D × T)) Refusal) → OnErr (if_done reply (firsts r)) P → OnErr r P
undone_kept reply P (Ok o) kept = tt
undone_kept reply P (Err e) kept = kept

-- ---- an event that is a poll

poll_at : (e : Event) (n : ℕ) (which : Option TypeName) → poll_in e ≡ Some (n, which) → e ≡ Poll n which
poll_at Open n which is = absurd cc
poll_at (Request k m) n which is = absurd cc
poll_at (Poll k kind) n which is = λ i. Poll ((first is) i) ((second is) i)
  where
    number_or : Option (ℕ × Option TypeName) → ℕ
    number_or o = option_map_or (λ p. p.0) o 0

    kind_or : Option (ℕ × Option TypeName) → Option TypeName
    kind_or o = option_map_or (λ p. p.1) o None

    first : {a b : ℕ × Option TypeName} → Some a ≡ Some b → a.0 ≡ b.0
    first same = ap number_or same

    second : {a b : ℕ × Option TypeName} → Some a ≡ Some b → a.1 ≡ b.1
    second same = ap kind_or same
poll_at (Owes k kind) n which is = absurd cc
poll_at (Close k) n which is = absurd cc
poll_at (Put t r groups) n which is = absurd cc
poll_at (Delete t name) n which is = absurd cc
poll_at (Merge b) n which is = absurd cc
poll_at Snapshot n which is = absurd cc
poll_at (Rest t names version cluster) n which is = absurd cc
poll_at (Since marks) n which is = absurd cc

pub poll_is : (e : Event) (n : ℕ) (which : Option TypeName) → Some (n, which) ≡ poll_in e → e ≡ Poll n which
poll_is e n which is = poll_at e n which (sym is)

-- ---- what has a long answer

-- the answer is short, if there is one
abbrev IsLight : Step → Type 0
IsLight (Ok p) = is_light p.0 ≡ true
IsLight (Err e) = ⊤

light_opened : (b : Bool) (n : ℕ) (left : Core) → IsLight (if b then Err CounterSpent else Ok (Opened n, left))
light_opened true n left = tt
light_opened false n left = refl

light_done : {X : Type 0} (reply : X → Reply) (left : X → Core) → ((x : X) → is_light (reply x) ≡ true) → (r : Result X Refusal) → IsLight (if_done (λ x. (reply x, left x)) r)
light_done reply left light (Ok x) = light x
light_done reply left light (Err e) = tt

light_open : (f : Stream → Step) → ((s : Stream) → IsLight (f s)) → (o : Option Stream) → IsLight (option_map_or f o (Err NoStream))
light_open f light None = tt
light_open f light (Some s) = light s

never_long : (r : Step) (y : Reply) (d : Core) → IsLight r → r ≡ Ok (y, d) → is_light y ≡ false → ⊥
never_long r y d light is long = let same : false ≡ true = sym long ∙ subst IsLight is light in absurd cc

-- what an event leaves, and where it needs memory, if its answer is long and it isn't a poll
abbrev Stays : Core → Event → Core → Type 0
Stays c e d = (d ≡ c) × IsShortBeside c e

left_is : (y z : Reply) (c d : Core) → ◌≡◌ {A = Step} (Ok (z, c)) (Ok (y, d)) → d ≡ c
left_is y z c d is = sym (ap (left_or c) is)
  where
    left_or : Core → Step → Core
    left_or k (Ok p) = p.1
    left_or k (Err e) = k

pub long_stays : (c : Core) (e : Event) (y : Reply) (d : Core) → poll_in e ≡ None → is_light y ≡ false → step c e ≡ Ok (y, d) → Stays c e d
long_stays c Open y d other long is = absurd (never_long (step c Open) y d (light_opened (c.opened == max_counter) _ _) is long)
long_stays c (Request n m) y d other long is =
    absurd (never_long (step c (Request n m)) y d (light_open _ (λ s. light_done (λ p. Answered p.0) (λ p. with_stream c n p.1) (λ p. refl) (requested s m)) (finmap.get c.streams n)) is long)
long_stays c (Poll n which) y d other long is = absurd cc
long_stays c (Owes n which) y d other long is = absurd (never_long (step c (Owes n which)) y d (light_open _ (λ s. refl) (finmap.get c.streams n)) is long)
long_stays c (Close n) y d other long is = absurd (never_long (step c (Close n)) y d (light_open _ (λ s. refl) (finmap.get c.streams n)) is long)
long_stays c (Put t r groups) y d other long is =
    absurd (never_long (step c (Put t r groups)) y d (light_done (λ p. Written p.0 c.replica) (λ p. record c { store = p.1 }) (λ p. refl) (putting_at c.store t r groups c.replica)) is long)
long_stays c (Delete t name) y d other long is =
    absurd (never_long (step c (Delete t name)) y d (light_done (λ p. Written p.0 c.replica) (λ p. record c { store = p.1 }) (λ p. refl) (deleting_at c.store t name c.replica)) is long)
long_stays c (Merge b) y d other long is = absurd (never_long (step c (Merge b)) y d (light_done (λ p. Merged p.0) (λ p. record c { store = p.1 }) (λ p. refl) (merging c.store b)) is long)
long_stays c Snapshot y d other long is = (left_is y _ c d is, refl)
long_stays c (Rest t names version cluster) y d other long is = (left_is y _ c d is, refl)
long_stays c (Since marks) y d other long is = (left_is y _ c d is, refl)

-- ---- an answer and its copy

pub both_give : (c left : Core) (e : Event) (answer : declared.Reply) (copy : Result declared.Reply Refusal) (result : Result (declared.Reply × declared.Reply) Refusal) → step c e ≡ Ok (reply_of answer, left) → IfErr copy (λ x. x ≡ OutOfMemory)
    → IfOk result (λ p. p.0 ≡ answer) → IfErr result (λ x. copy ≡ Err x) → Gives (λ p. (reply_of p.0, left)) result (step c e)
both_give c left e answer copy (Ok p) is short first refused = is ∙ (λ i. Ok (reply_of (sym first i), left))
both_give c left e answer copy (Err x) is short first refused = λ other. absurd (other (subst (λ y. IfErr y (λ x. x ≡ OutOfMemory)) refused short))

pub both_alike : (answer : declared.Reply) (copy : Result declared.Reply Refusal) (result : Result (declared.Reply × declared.Reply) Refusal) → IfOk copy (λ r. reply_of r ≡ reply_of answer) → IfOk result (λ p. p.0 ≡ answer) → IfOk result (λ p. copy ≡ Ok p.1)
    → IfOk result (λ p. reply_of p.1 ≡ reply_of p.0)
both_alike answer copy (Ok p) alike first second = subst (λ y. IfOk y (λ r. reply_of r ≡ reply_of answer)) second alike ∙ ap reply_of (sym first)
both_alike answer copy (Err x) alike first second = tt

-- where there is no copy, the answer is long
pub none_stays : (c left : Core) (e : Event) (answer : declared.Reply) (copy : Result declared.Reply Refusal) (x : Refusal) → poll_in e ≡ None → step c e ≡ Ok (reply_of answer, left) → IfErr copy (λ x. is_light (reply_of answer) ≡ false) → copy ≡ Err x
    → (left ≡ c) × IsShortBeside c e
none_stays c left e answer copy x other is long refused = long_stays c e (reply_of answer) left other (subst (λ y. IfErr y (λ x. is_light (reply_of answer) ≡ false)) refused long) is

pub both_kept : (c left : Core) (e : Event) (answer : declared.Reply) (copy : Result declared.Reply Refusal) (result : Result (declared.Reply × declared.Reply) Refusal) → poll_in e ≡ None → step c e ≡ Ok (reply_of answer, left)
    → IfErr copy (λ x. is_light (reply_of answer) ≡ false) → IfErr result (λ x. copy ≡ Err x) → OnErr result (left ≡ c)
both_kept c left e answer copy (Ok p) other is long refused = tt
both_kept c left e answer copy (Err x) other is long refused = (none_stays c left e answer copy x other is long refused).0

pub both_short : (c left : Core) (e : Event) (answer : declared.Reply) (copy : Result declared.Reply Refusal) (result : Result (declared.Reply × declared.Reply) Refusal) → poll_in e ≡ None → step c e ≡ Ok (reply_of answer, left)
    → IfErr copy (λ x. is_light (reply_of answer) ≡ false) → IfErr result (λ x. copy ≡ Err x) → IfErr result (λ x. x ≡ OutOfMemory → IsShortBeside c e)
both_short c left e answer copy (Ok p) other is long refused = tt
both_short c left e answer copy (Err x) other is long refused = λ none. (none_stays c left e answer copy x other is long refused).1
