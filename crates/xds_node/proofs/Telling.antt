-- What a seat was told by a call, without the books that only the lock's holder sees.
use Rattle.std.proofs.Common.{◌≡◌, [], ◌∷◌, ◌++◌, Result, Ok, Err, IfOk, sym, ap, ◌∙◌}
use Rattle.xds_resource.specs.declared.refusal.Refusal.{Refusal}
use Rattle.xds_core.specs.Events.{Event}
use Rattle.xds_core.specs.Seen.{answer_of}
use Rattle.xds_events.specs.declared.event.Reply.{Reply}
use Rattle.xds_node.specs.Entries.{AllBelow}
use Rattle.xds_node.specs.Books.{Books, next_number, record_of}
use Rattle.xds_node.specs.Told.{Calls, also_told, IsTold}

pub is_told : {U : Type 0} (result : Result (Result Reply Refusal) U) (old new : Calls) (b : Books) (e : Event) → IfOk result (λ a. answer_of a ≡ (record_of b e).answer) → IfOk result (λ a. new ≡ also_told (next_number b, record_of b e) old) → IfOk result (λ a. AllBelow (next_number b) old.told) → IfOk result (λ a. IsTold old.told new.told e (answer_of a))
is_told (Ok a) old new b e answer told rising =
    (next_number b, ap (λ (c : Calls). c.told) told ∙ ap (λ x. old.told ++ (next_number b, record { event = e; answer = x }) ∷ []) (sym answer), rising)
is_told (Err u) old new b e answer told rising = tt

-- it was refused no more than before
pub nothing_refused : {U : Type 0} (result : Result (Result Reply Refusal) U) (old new : Calls) (b : Books) (e : Event) → IfOk result (λ a. new ≡ also_told (next_number b, record_of b e) old) → IfOk result (λ a. new.refused ≡ old.refused)
nothing_refused (Ok a) old new b e told = ap (λ (c : Calls). c.refused) told
nothing_refused (Err u) old new b e told = tt
