-- What a node answers to the poll that a request asks, and the reply by it.
use Rattle.std.proofs.Common.{◌≡◌, ◌≢◌, inl, inr, ℕ, Option, Result, Ok, Err, IfOk, IfErr, refl, ap, subst, ◌∙◌}
use Rattle.xds_resource.specs.declared.refusal.Refusal.{Refusal}
use Rattle.xds_resource.specs.declared.refusal.Refusal.TheVariants.{JournalFull}
use Rattle.xds_message.specs.Drafts.{Drafted}
use Rattle.xds_core.specs.Events.{Event, Open, Request, Poll, Owes, Close, Put, Delete, Merge, Snapshot, Rest, Since, Reply, Rested}
use Rattle.xds_core.specs.Steps.{Core, fresh, step, rested}
use Rattle.xds_core.specs.Legal.{answer_of, replayed}
use Rattle.xds_node.specs.Told.{Calls, also_refused, IsStepAt, LeavesNoRecord}
use Rattle.xds_polls.specs.Polls.{HttpReply}
use Rattle.xds_rest.specs.Posted.{IsRest, IsToldReply, IsToldNoReply, IsTriedReply, IsTriedNoReply}

-- a step refuses no poll without a stream
rests : (c : Core) (e : Event) (a : Result Reply Refusal) → IsRest e → a ≡ answer_of (step c e) → (o : Option Drafted) × (a ≡ Ok (Rested o))
rests c Open a is answered = absurd is
rests c (Request n m) a is answered = absurd is
rests c (Poll n which) a is answered = absurd is
rests c (Owes n which) a is answered = absurd is
rests c (Close n) a is answered = absurd is
rests c (Put t r groups) a is answered = absurd is
rests c (Delete t name) a is answered = absurd is
rests c (Merge b) a is answered = absurd is
rests c Snapshot a is answered = absurd is
rests c (Rest t names version cluster) a is answered = (rested c t names version cluster, answered)
rests c (Since marks) a is answered = absurd is

pub step_rests : (replica : ℕ) (old new : Calls) (e : Event) (a : Result Reply Refusal) → IsRest e → IsStepAt replica old.told new.told e a →
    (o : Option Drafted) × (a ≡ Ok (Rested o))
step_rests replica old new e a is s = rests (replayed (fresh replica) s.past) e a is s.answered

-- ---- by two calls at most

pub short_no_reply : (replica : ℕ) (old new : Calls) (e : Event) (x : Refusal) → LeavesNoRecord x → x ≢ JournalFull → new ≡ also_refused e x old →
    IsTriedNoReply replica old new e
short_no_reply replica old new e x (inl short) other was = inl (inl (inl refl, subst (λ y. new ≡ also_refused e y old) short was))
short_no_reply replica old new e x (inr is) other was = absurd (other is)

pub second_reply : (replica : ℕ) (old full new : Calls) (e e' : Event) (x : Refusal) (made : Result HttpReply Refusal) →
    e' ≡ e → x ≡ JournalFull → full ≡ also_refused e x old →
    IfOk made (λ r. IsToldReply replica full new e' r) → IfOk made (λ r. IsTriedReply replica old new e r)
second_reply replica old full new e e' x (Ok r) same is was told =
    inr (subst (λ f. IsToldReply replica f new e r) (was ∙ ap (λ z. also_refused e z old) is) (subst (λ y. IsToldReply replica full new y r) same told))
second_reply replica old full new e e' x (Err y) same is was told = tt

pub second_no_reply : (replica : ℕ) (old full new : Calls) (e e' : Event) (x : Refusal) (made : Result HttpReply Refusal) →
    e' ≡ e → x ≡ JournalFull → full ≡ also_refused e x old →
    IfErr made (λ x. IsToldNoReply replica full new e' x) → IfErr made (λ x. IsTriedNoReply replica old new e)
second_no_reply replica old full new e e' x (Ok r) same is was told = tt
second_no_reply replica old full new e e' x (Err y) same is was told =
    inr (y, subst (λ f. IsToldNoReply replica f new e y) (was ∙ ap (λ z. also_refused e z old) is) (subst (λ z. IsToldNoReply replica full new z y) same told))
