-- How far the responses to a request were sent.
use Rattle.std.proofs.Common.{◌≡◌, ℕ, List, [], ◌∷◌, ◌++◌, Option, Some, None, Ok, inl, inr, map, refl, sym, subst, ◌∙◌, append-nil}
use Rattle.std.specs.Prelude.{All}
use Rattle.std.specs.Io.KnownBytes.{Appends}
use Rattle.std.proofs.KnownBytes.{Keeps-refl}
use Rattle.std.proofs.lemmas.Grind.{flat_map-append}
use Rattle.std.proofs.lemmas.List.{map-append}
use Rattle.std.proofs.lemmas.List.Elements.{All-nil, All-push}
use Rattle.xds_resource.specs.declared.refusal.Refusal.{Refusal}
use Rattle.xds_message.specs.declared.draft.Draft.{Draft}
use Rattle.xds_frames.specs.Frames.{frame_bytes}
use Rattle.xds_frames.specs.Devices.{MoreFailed}
use Rattle.xds_frames.proofs.Gatherings.{of_calls as dev}
use Rattle.xds_core.specs.Events as events
use Rattle.xds_core.specs.Steps.{Core, step}
use Rattle.xds_core.specs.Legal.{Record, IsShort}
use Rattle.xds_node.specs.Records.{Refuses, gave, polled_out, refused}
use Rattle.xds_node.specs.Sending.{Fits, IsUnsent, frame_of, sent}
use Rattle.xds_node.specs.Serving.{Does}
use Rattle.xds_node.specs.Ending.{PollsEnd}
use Rattle.xds_flows.proofs.Passing.{does_nothing, does_then, does_event, does_refused, does_text, does_as}

-- polls gave these responses, which were sent
pub record IsSentTo (n : ℕ) (c now : Core) (b m : Option (List ℕ)) (f g : ℕ) : Type 0 where
  pub responses : List Draft
  pub fit : All Fits responses
  pub does : Does c (dev b m f g) (map (gave n) responses) (sent responses) now
  pub none_failed : g ≡ f

pub sent-start : (n : ℕ) (c : Core) (b : Option (List ℕ)) (f : ℕ) → IsSentTo n c c b b f f
sent-start n c b f = record { responses = []; fit = All-nil Fits; does = does_nothing c b f f; none_failed = refl }

gave_by : (n : ℕ) (now next : Core) (o d : Option Draft) → step now (events.Poll n None) ≡ Ok (events.Polled o, next) → o ≡ d → step now (events.Poll n None) ≡ Ok (events.Polled d, next)
gave_by n now next o d is same = subst (λ (x : Option Draft). step now (events.Poll n None) ≡ Ok (events.Polled x, next)) same is

one_sent : (d : Draft) → sent (d ∷ []) ≡ frame_bytes (frame_of d)
one_sent d = append-nil (frame_bytes (frame_of d))

-- one more
pub sent-more : (n : ℕ) (c now next : Core) (b m a : Option (List ℕ)) (f g h : ℕ) (d : Draft) (o : Option Draft) → IsSentTo n c now b m f g
    → step now (events.Poll n None) ≡ Ok (events.Polled o, next) → o ≡ Some d → Fits d × Appends m a (frame_bytes (frame_of d)) × (h ≡ g) → IsSentTo n c next b a f h
sent-more n c now next b m a f g h d o so gave_it some sends = let is = gave_by n now next o (Some d) gave_it some in record {
  responses = so.responses ++ d ∷ [];
  fit = All-push Fits so.responses d so.fit sends.0;
  does = does_as c next (dev b a f h) _ _ _ _ (sym (map-append (gave n) so.responses (d ∷ [])))
      (sym (flat_map-append (λ x. frame_bytes (frame_of x)) so.responses (d ∷ [])))
      (does_then c now next b m a f g h h _ _ _ _ so.does
      (does_then now next next m m a g g h h _ _ _ _ (does_event now next m m g g (events.Poll n None) (events.Polled (Some d)) is (Keeps-refl m))
      (does_text next m a g h (sent (d ∷ [])) (subst (Appends m a) (sym (one_sent d)) sends.1))));
  none_failed = sends.2 ∙ so.none_failed;
}

-- the last poll gives none
pub sent-whole : (n : ℕ) (c now next : Core) (b m : Option (List ℕ)) (f g : ℕ) (o : Option Draft) → IsSentTo n c now b m f g
    → step now (events.Poll n None) ≡ Ok (events.Polled o, next) → o ≡ None → (ds : List Draft) × All Fits ds × Does c (dev b m f g) (polled_out n ds) (sent ds) next × (g ≡ f)
sent-whole n c now next b m f g o so gave_it none = let is = gave_by n now next o None gave_it none in (
  so.responses,
  so.fit,
  does_as c next (dev b m f g) _ _ _ _ refl (append-nil (sent so.responses))
      (does_then c now next b m m f g g g _ _ _ _ so.does (does_event now next m m g g (events.Poll n None) (events.Polled None) is (Keeps-refl m))),
  so.none_failed,
)

-- how responses end where the next poll is refused
refused_from : (n : ℕ) (c now : Core) (b m : Option (List ℕ)) (f g : ℕ) (e : Refusal) → IsSentTo n c now b m f g → Refuses now (events.Poll n None) e
    → (last : List Record) × (part : List ℕ) × Does c (dev b m f g) last part now × PollsEnd n c last part e (dev b m f g)
refused_from n c now b m f g e so (inl is) =
    let last = refused (events.Poll n None) e ∷ [] in (
      map (gave n) so.responses ++ last,
      sent so.responses ++ [],
      does_then c now now b m m f g g g _ _ _ _ so.does (does_refused now m m g g (events.Poll n None) e is (Keeps-refl m)),
      (so.responses, last, [], so.fit, refl, refl, inl (refl, refl, so.none_failed)),
    )
refused_from n c now b m f g e so (inr memory) = (
  map (gave n) so.responses ++ [],
  sent so.responses ++ [],
  does_then c now now b m m f g g g _ _ _ _ so.does (does_nothing now m g g),
  (so.responses, [], [], so.fit, refl, refl, inr (inl (memory.0, subst (λ (x : Core). IsShort x (events.Poll n None)) so.does.leaves memory.1, (refl, refl, so.none_failed)))),
)

pub sent-refused : (n : ℕ) (c now left : Core) (b m : Option (List ℕ)) (f g : ℕ) (e : Refusal) → IsSentTo n c now b m f g → Refuses now (events.Poll n None) e → left ≡ now
    → (last : List Record) × (part : List ℕ) × Does c (dev b m f g) last part left × PollsEnd n c last part e (dev b m f g)
sent-refused n c now left b m f g e so refuses same =
    subst (λ (k : Core). (last : List Record) × (part : List ℕ) × Does c (dev b m f g) last part k × PollsEnd n c last part e (dev b m f g)) (sym same) (refused_from n c now b m f g e so refuses)

-- what is said of the writer from its last count of failed calls on
unsent_from : (d : Draft) (part : List ℕ) (e : Refusal) (b m a : Option (List ℕ)) (f g h : ℕ) → g ≡ f → IsUnsent d part e (dev m a g h) → IsUnsent d part e (dev b a f h)
unsent_from d part e b m a f g h same (inl long) = inl (long.0, long.1, long.2, long.3 ∙ same)
unsent_from d part e b m a f g h same (inr (inl memory)) = inr (inl (memory.0, memory.1, memory.2 ∙ same))
unsent_from d part e b m a f g h same (inr (inr failed)) = inr (inr (failed.0, failed.1, subst (λ (x : ℕ). MoreFailed x h) same failed.2, failed.3))

-- how they end where the next one isn't sent
pub sent-unsent : (n : ℕ) (c now next : Core) (b m a : Option (List ℕ)) (f g h : ℕ) (d : Draft) (e : Refusal) (o : Option Draft) → IsSentTo n c now b m f g
    → step now (events.Poll n None) ≡ Ok (events.Polled o, next) → o ≡ Some d
    → ((part : List ℕ) × Appends m a part × IsUnsent d part e (dev m a g h))
    → (last : List Record) × (part : List ℕ) × Does c (dev b a f h) last part next × PollsEnd n c last part e (dev b a f h)
sent-unsent n c now next b m a f g h d e o so gave_it some (part, wrote, unsent) =
    let is = gave_by n now next o (Some d) gave_it some in
    let last = gave n d ∷ [] in (
      map (gave n) so.responses ++ last,
      sent so.responses ++ part,
      does_then c now next b m a f g h h _ _ _ _ so.does
          (does_then now next next m m a g g h h _ _ _ _ (does_event now next m m g g (events.Poll n None) (events.Polled (Some d)) is (Keeps-refl m)) (does_text next m a g h part wrote)),
      (so.responses, last, part, so.fit, refl, refl, inr (inr (d, refl, unsent_from d part e b m a f g h so.none_failed unsent))),
    )
