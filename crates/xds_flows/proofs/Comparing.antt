-- Two workers of an exchange, and what passed between them.
use Rattle.std.proofs.Common.{◌≡◌, ℕ, List, [], ◌++◌, Bool, Result, sym, ap, subst, ◌∙◌}
use Rattle.crossbeam_channel.specs.Ends.{sends_on, receives_on}
use Rattle.xds_resource.specs.declared.refusal.Refusal.{Refusal}
use Rattle.xds_core.specs.Legal.{Record}
use Rattle.xds_exchange.specs.Ends.{AreEnds, Begins, IsOf, IsSameEnd, IsSameSource}
use Rattle.xds_exchange.specs.declared.ends.Incoming.{Incoming}
use Rattle.xds_exchange.specs.declared.ends.Outgoing.{Outgoing}
use Rattle.xds_exchange.specs.declared.ends.Taken.{Taken}
use Rattle.xds_flows.specs.declared.replication.exchange.Ended.{Ended}
use Rattle.xds_flows.specs.declared.replication.parcels.Receipt.{Receipt}
use Rattle.xds_flows.specs.Exchanging.{HasMerged}
use Rattle.xds_flows.specs.TwoNodes.{Exchange, IsExchange, MergesAll, TellsAll}

-- an end that left after more was taken from it is of the same channel
pub left_same : {T : Type 0} (i j : Incoming T) (t : Taken T) → IsSameSource i j → ((o : Outgoing T) → AreEnds o j → IsOf o t) → (o : Outgoing T) → AreEnds o i → IsOf o t
left_same i j t same left o are = left o (ap receives_on same ∙ are)

-- and it is of an end after more was put into that
pub of_same : {T : Type 0} (o p : Outgoing T) (i : Incoming T) (t : Taken T) → AreEnds o i → IsSameEnd o p → ((q : Outgoing T) → AreEnds q i → IsOf q t) → IsOf p t
of_same o p i t are same left = left p (are ∙ ap sends_on (sym same))

-- all of a channel, where it began with nothing
begins_of : {X : Type 0} (t0 t1 taken p0 p1 put : List X) → Begins t1 p1 → t0 ≡ [] → p0 ≡ [] → t1 ≡ t0 ++ taken → p1 ≡ p0 ++ put → Begins taken put
begins_of t0 t1 taken p0 p1 put (rest, is) none_taken none_put took more =
    let all_taken : t1 ≡ taken = took ∙ ap (λ l. l ++ taken) none_taken in
    let all_put : p1 ≡ put = more ∙ ap (λ l. l ++ put) none_put in
    (rest, sym all_put ∙ is ∙ ap (λ l. l ++ rest) all_taken)

-- the same of ends that are left
pub tells_left : (s0 s1 : List (ℕ × Record)) (q0 q1 : List Record) (p0 p1 p2 : List (List ℕ × Bool)) (g0 g1 g2 : List Receipt) (ended : Result Ended Refusal) → p2 ≡ p1 → g2 ≡ g1
    → TellsAll s0 s1 q0 q1 p0 p1 g0 g1 ended → TellsAll s0 s1 q0 q1 p0 p2 g0 g2 ended
tells_left s0 s1 q0 q1 p0 p1 p2 g0 g1 g2 ended p_same g_same (told, tried, put, got, s, q, p, g, has) = (told, tried, put, got, s, q, p_same ∙ p, g_same ∙ g, has)

pub merges_left : (s0 s1 : List (ℕ × Record)) (q0 q1 : List Record) (t0 t1 t2 : List (List ℕ × Bool)) (v0 v1 v2 : List Receipt) (f0 f1 f2 dropped : ℕ) → t2 ≡ t1 → v2 ≡ v1 → f2 ≡ f1
    → MergesAll s0 s1 q0 q1 t0 t1 v0 v1 f0 f1 dropped → MergesAll s0 s1 q0 q1 t0 t2 v0 v2 f0 f2 dropped
merges_left s0 s1 q0 q1 t0 t1 t2 v0 v1 v2 f0 f1 f2 dropped t_same v_same f_same (told, tried, taken, given, s, q, t, v, has) =
    (told, tried, taken, given, s, q, t_same ∙ t, v_same ∙ v, subst (λ (f : ℕ). HasMerged told tried taken given dropped f0 f) (sym f_same) has)

-- both together
pub exchanged : (s0 s1 m0 m1 : List (ℕ × Record)) (q0 q1 n0 n1 : List Record) (p0 p1 t0 t1 : List (List ℕ × Bool)) (g0 g1 v0 v1 : List Receipt) (ended : Result Ended Refusal) (f0 f1 f2 dropped : ℕ)
    → TellsAll s0 s1 q0 q1 p0 p1 g0 g1 ended → MergesAll m0 m1 n0 n1 t0 t1 v0 v1 f0 f1 dropped → (p0 ≡ []) × (t0 ≡ []) → (v0 ≡ []) × (g0 ≡ []) → Begins t1 p1 → Begins g1 v1 → f2 ≡ f1
    → (x : Exchange) × (s1 ≡ s0 ++ x.told) × (q1 ≡ q0 ++ x.tried) × (m1 ≡ m0 ++ x.merged) × (n1 ≡ n0 ++ x.retried) × IsExchange x ended dropped f0 f2
exchanged s0 s1 m0 m1 q0 q1 n0 n1 p0 p1 t0 t1 g0 g1 v0 v1 ended f0 f1 f2 dropped (told, tried, put, got, s, q, p, g, tells) (merged, retried, taken, given, m, n, t, v, merges) (no_put, no_taken) (no_given, no_got) parcels receipts counts = (
  record { told = told; tried = tried; put = put; got = got; merged = merged; retried = retried; taken = taken; given = given },
  s,
  q,
  m,
  n,
  record {
    tells = tells;
    merges = subst (λ (f : ℕ). HasMerged merged retried taken given dropped f0 f) (sym counts) merges;
    parcels = begins_of t0 t1 taken p0 p1 put parcels no_taken no_put t p;
    receipts = begins_of g0 g1 got v0 v1 given receipts no_got no_given g v;
  },
)
