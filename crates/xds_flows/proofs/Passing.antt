-- Events one after another, and what is written meanwhile.
use Rattle.std.proofs.Common.{◌≡◌, ℕ, List, [], ◌∷◌, ◌++◌, Option, Ok, Err, refl, sym, ap, subst, ◌∙◌}
use Rattle.std.specs.Io.KnownBytes.{Appends, Keeps}
use Rattle.std.proofs.KnownBytes.{Appends-nil, Appends-trans, Appends-kept}
use Rattle.xds_resource.specs.declared.refusal.Refusal.{Refusal}
use Rattle.xds_frames.specs.Devices.{Device}
use Rattle.xds_frames.proofs.Gatherings.{of_calls as dev}
use Rattle.xds_core.specs.Events.{Event, Reply}
use Rattle.xds_core.specs.Steps.{Core, step}
use Rattle.xds_core.specs.Legal.{Record, IsLegal, replayed, after, left_by, answer_of}
use Rattle.xds_node.specs.Records.{refused}
use Rattle.xds_node.specs.Serving.{Does}

pub legal_then : (c : Core) (rs ss : List Record) → IsLegal c rs → IsLegal (replayed c rs) ss → IsLegal c (rs ++ ss)
legal_then c [] ss first second = second
legal_then c (r ∷ rs) ss first second = (first.0, legal_then (after c r.event) rs ss first.1 second)

pub replayed_then : (c : Core) (rs ss : List Record) → replayed c (rs ++ ss) ≡ replayed (replayed c rs) ss
replayed_then c [] ss = refl
replayed_then c (r ∷ rs) ss = replayed_then (after c r.event) rs ss

-- nothing was done yet
pub does_nothing : (c : Core) (b : Option (List ℕ)) (f g : ℕ) → Does c (dev b b f g) [] [] c
does_nothing c b f g = record { legal = tt; leaves = refl; wrote = Appends-nil b }

-- more events, and more text
pub does_then : (c l k : Core) (b m a : Option (List ℕ)) (f g h i : ℕ) (rs ss : List Record) (s t : List ℕ) → Does c (dev b m f g) rs s l → Does l (dev m a g h) ss t k
    → Does c (dev b a f i) (rs ++ ss) (s ++ t) k
does_then c l k b m a f g h i rs ss s t first second = record {
  legal = legal_then c rs ss first.legal (subst (λ (x : Core). IsLegal x ss) first.leaves second.legal);
  leaves = second.leaves ∙ ap (λ x. replayed x ss) first.leaves ∙ sym (replayed_then c rs ss);
  wrote = Appends-trans b m a s t first.wrote second.wrote;
}

-- one event, of which nothing is written
pub does_event : (c l : Core) (b a : Option (List ℕ)) (f g : ℕ) (event : Event) (reply : Reply) → step c event ≡ Ok (reply, l) → Keeps b a
    → Does c (dev b a f g) (record { event = event; answer = Ok reply } ∷ []) [] l
does_event c l b a f g event reply is kept = record {
  legal = (ap answer_of is, tt);
  leaves = sym (ap (left_by c) is);
  wrote = Appends-kept b b a [] (Appends-nil b) kept;
}

-- and one that is refused
pub does_refused : (c : Core) (b a : Option (List ℕ)) (f g : ℕ) (event : Event) (e : Refusal) → step c event ≡ Err e → Keeps b a
    → Does c (dev b a f g) (refused event e ∷ []) [] c
does_refused c b a f g event e is kept = record {
  legal = (ap answer_of is, tt);
  leaves = sym (ap (left_by c) is);
  wrote = Appends-kept b b a [] (Appends-nil b) kept;
}

-- a text alone
pub does_text : (c : Core) (b a : Option (List ℕ)) (f g : ℕ) (t : List ℕ) → Appends b a t → Does c (dev b a f g) [] t c
does_text c b a f g t wrote = record { legal = tt; leaves = refl; wrote = wrote }

-- the same under other names
pub does_as : (c l : Core) (d : Device) (rs ss : List Record) (s t : List ℕ) → rs ≡ ss → s ≡ t → Does c d rs s l → Does c d ss t l
does_as c l d rs ss s t same_records same_text does = subst (λ (x : List Record). Does c d x t l) same_records (subst (λ (x : List ℕ). Does c d rs x l) same_text does)
