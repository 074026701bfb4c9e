-- What a replica that is asked by a poll replies, and what that says of the request that asks it.
use Rattle.std.proofs.Common.{◌≡◌, ◌≢◌, ◌⊎◌, inl, inr, ℕ, List, Result, Ok, Err, IfOk, IfErr, refl, sym, ap, subst, ◌∙◌}
use Rattle.xds_resource.specs.declared.types.TypeName.{TypeName}
use Rattle.xds_resource.specs.declared.refusal.Refusal.{Refusal}
use Rattle.xds_resource.specs.declared.refusal.Refusal.TheVariants.{OutOfMemory}
use Rattle.xds_resource.proofs.Refusing.{memory_or_not}
use Rattle.xds_core.specs.Events.{Event, Open, Request, Poll, Owes, Close, Put, Delete, Merge, Snapshot, Rest, Since, Reply, Rested}
use Rattle.xds_core.specs.Steps.{Core, step, rested}
use Rattle.xds_rest.specs.Posts.{HttpReply, Asked, Finished, Asks, without_body, IsAskedBy}
use Rattle.xds_rest.specs.Replies.{IfPoll, http_of, reply_to, IsReplyBy}

abbrev seen_or : Reply → Result (Reply × Core) Refusal → Reply
seen_or other (Ok p) = p.0
seen_or other (Err e) = other

abbrev left_or : Core → Result (Reply × Core) Refusal → Core
left_or other (Ok p) = p.1
left_or other (Err e) = other

-- the reply to a poll that a replica answers
pub replied : (c left : Core) (e : Event) (seen : Reply) (h : HttpReply) → step c e ≡ Ok (seen, left) → h ≡ reply_to seen → IfPoll e (λ t names version cluster. h ≡ http_of (rested c t names version cluster))
replied c left Open seen h is made = tt
replied c left (Request n m) seen h is made = tt
replied c left (Poll n which) seen h is made = tt
replied c left (Owes n which) seen h is made = tt
replied c left (Close n) seen h is made = tt
replied c left (Put t r groups) seen h is made = tt
replied c left (Delete t name) seen h is made = tt
replied c left (Merge b) seen h is made = tt
replied c left Snapshot seen h is made = tt
replied c left (Rest t names version cluster) seen h is made = made ∙ sym (ap (λ r. reply_to (seen_or seen r)) is)
replied c left (Since marks) seen h is made = tt

-- and it stays as it was
pub stays : (c left : Core) (e : Event) (seen : Reply) → step c e ≡ Ok (seen, left) → IfPoll e (λ _ _ _ _. left ≡ c)
stays c left Open seen is = tt
stays c left (Request n m) seen is = tt
stays c left (Poll n which) seen is = tt
stays c left (Owes n which) seen is = tt
stays c left (Close n) seen is = tt
stays c left (Put t r groups) seen is = tt
stays c left (Delete t name) seen is = tt
stays c left (Merge b) seen is = tt
stays c left Snapshot seen is = tt
stays c left (Rest t names version cluster) seen is = sym (ap (left_or c) is)
stays c left (Since marks) seen is = tt

never_ok : {X Y : Type 0} (x : X) (e : Refusal) → Ok x ≡ Err e → Y
never_ok x e is = absurd cc

unless_memory : {X : Type 0} (x : X) (e : Refusal) → (e ≡ OutOfMemory) ⊎ (e ≢ OutOfMemory) → (e ≢ OutOfMemory → Ok x ≡ Err e) → e ≡ OutOfMemory
unless_memory x e (inl same) refused = same
unless_memory x e (inr other) refused = never_ok x e (refused other)

-- a poll is refused for memory alone
pub refused : (c : Core) (e : Event) (x : Refusal) → (x ≢ OutOfMemory → step c e ≡ Err x) → IfPoll e (λ _ _ _ _. x ≡ OutOfMemory)
refused c Open x is = tt
refused c (Request n m) x is = tt
refused c (Poll n which) x is = tt
refused c (Owes n which) x is = tt
refused c (Close n) x is = tt
refused c (Put t r groups) x is = tt
refused c (Delete t name) x is = tt
refused c (Merge b) x is = tt
refused c Snapshot x is = tt
refused c (Rest t names version cluster) x is = unless_memory (Rested (rested c t names version cluster), c) x (memory_or_not x) is
refused c (Since marks) x is = tt

-- ---- of a request

-- one that is finished
pub finished : (c : Core) (a : Result TypeName ℕ) (body : List ℕ) (h : HttpReply) → IsAskedBy a body (Finished h) → IsReplyBy c a body h
finished c (Ok t) body h asked = inr asked
finished c (Err status) body h asked = cc

never : {X : Type 0} (h : HttpReply) (e : Event) → (◌≡◌ {A = Asked} (Asks e) (Finished h)) → X
never h e is = absurd cc

-- one that asks a replica
pub asked : (c : Core) (a : Result TypeName ℕ) (body : List ℕ) (e : Event) (h : HttpReply) → IsAskedBy a body (Asks e) → IfPoll e (λ t names version cluster. h ≡ http_of (rested c t names version cluster)) → IsReplyBy c a body h
asked c (Ok t) body e h is made = inl (is.0, is.1, subst (λ e. IfPoll e (λ t names version cluster. h ≡ http_of (rested c t names version cluster))) is.2 made)
asked c (Err status) body e h is made = never (without_body status) e is

-- what is said of it where it is a poll, since it is one
pub of_poll : (a : Result TypeName ℕ) (body : List ℕ) (e : Event) (P : Type 0) → IsAskedBy a body (Asks e) → IfPoll e (λ _ _ _ _. P) → P
of_poll (Ok t) body e P is said = subst (λ e. IfPoll e (λ _ _ _ _. P)) is.2 said
of_poll (Err status) body e P is said = never (without_body status) e is

-- and it polls a type
pub polls : (a : Result TypeName ℕ) (body : List ℕ) (e : Event) → IsAskedBy a body (Asks e) → (t : TypeName) × (a ≡ Ok t)
polls (Ok t) body e is = (t, refl)
polls (Err status) body e is = never (without_body status) e is

-- the same of what comes back for one that asks a replica
pub asked_ok : (c : Core) (a : Result TypeName ℕ) (body : List ℕ) (e : Event) (r : Result HttpReply Refusal) → IsAskedBy a body (Asks e) → IfOk r (λ h. IfPoll e (λ t names version cluster. h ≡ http_of (rested c t names version cluster))) → IfOk r (IsReplyBy c a body)
asked_ok c a body e (Ok h) is made = asked c a body e h is made
asked_ok c a body e (Err x) is made = tt

pub asked_err : (a : Result TypeName ℕ) (body : List ℕ) (e : Event) (r : Result HttpReply Refusal) → IsAskedBy a body (Asks e) → IfErr r (λ x. IfPoll e (λ _ _ _ _. x ≡ OutOfMemory)) → IfErr r (λ x. x ≡ OutOfMemory)
asked_err a body e (Ok h) is said = tt
asked_err a body e (Err x) is said = of_poll a body e (x ≡ OutOfMemory) is said
