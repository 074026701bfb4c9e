-- The first requests of a stream, type by type: one of each type that is wanted.
use Rattle.std.proofs.Common.{◌≡◌, ◌⊎◌, inl, inr, List, [], ◌∷◌, map, Bool, true, false, refl, ap, ◌∙◌}
use Rattle.std.specs.Prelude.{if◌then◌else◌, ⊤}
use Rattle.std.specs.List.{AllByRecursion}
use Rattle.xds_resource.specs.declared.types.TypeName.{TypeName}
use Rattle.xds_resource.specs.declared.types.TypeName.TheVariants.{Cluster, Endpoint, Listener, Route, Secret}
use Rattle.xds_resource.specs.Types.{row, types, is_same_type}
use Rattle.xds_resource.proofs.TypesApart.{is_same_type-same}
use Rattle.xds_core.specs.Streams.{Message, url_of}
use Rattle.xds_cache.specs.Shelves.{wants_some}
use Rattle.xds_cache.specs.Clients.{Client, shelf}
use Rattle.xds_cache.specs.Sends.{first_requests}
use Rattle.xds_world.proofs.Queues.{lane_up, asks_as}

-- no type of a list is this one
abbrev pub IsOut : TypeName → List TypeName → Type 0
IsOut t [] = ⊤
IsOut t (s ∷ ss) = (is_same_type s t ≡ false) × IsOut t ss

-- one is, once
abbrev pub IsOnce : TypeName → List TypeName → Type 0
IsOnce t [] = ⊥
IsOnce t (s ∷ ss) = ((s ≡ t) × IsOut t ss) ⊎ ((is_same_type s t ≡ false) × IsOnce t ss)

pub once : (t : TypeName) → IsOnce t types
once Cluster = inl (refl, (refl, (refl, (refl, (refl, tt)))))
once Endpoint = inr (refl, inl (refl, (refl, (refl, (refl, tt)))))
once Listener = inr (refl, inr (refl, inl (refl, (refl, (refl, tt)))))
once Route = inr (refl, inr (refl, inr (refl, inl (refl, (refl, tt)))))
once Secret = inr (refl, inr (refl, inr (refl, inr (refl, inl (refl, tt)))))

-- requests of either variant
module _ {X : Type 0} (tag : X → Message) (make : TypeName → Bool → X) (c : Client) where
  -- one if something is wanted, and else none
  abbrev pub one_first : TypeName → Bool → List Message
  one_first t greeted = if wants_some (shelf c t).wants then tag (make t greeted) ∷ [] else []

  abbrev pub firsts : Bool → List TypeName → List Message
  firsts greeted ts = map tag (first_requests make c greeted ts)

  abbrev pub firsts_by : Bool → Bool → TypeName → List TypeName → List Message
  firsts_by some greeted s ss = map tag (if some then make s greeted ∷ first_requests make c true ss else first_requests make c greeted ss)

  -- whatever holds of each
  module _ (P : Message → Type 0) (each : (t : TypeName) (g : Bool) → P (tag (make t g))) where
    all_by : (greeted : Bool) (s : TypeName) (ss : List TypeName) (some : Bool) → ((g : Bool) → AllByRecursion P (firsts g ss)) → AllByRecursion P (firsts_by some greeted s ss)
    all_by greeted s ss true rest = (each s greeted, rest true)
    all_by greeted s ss false rest = rest greeted

    pub all_firsts : (greeted : Bool) (ts : List TypeName) → AllByRecursion P (firsts greeted ts)
    all_firsts greeted [] = tt
    all_firsts greeted (s ∷ ss) = all_by greeted s ss (wants_some (shelf c s).wants) (λ g. all_firsts g ss)

  -- those of a type
  module _ (url : (t : TypeName) (g : Bool) → url_of (tag (make t g)) ≡ (row t).url) where
    passed : (t : TypeName) (s : TypeName) (g same : Bool) (ms : List Message) → is_same_type s t ≡ same → lane_up t (tag (make s g) ∷ ms) ≡ (if same then tag (make s g) ∷ lane_up t ms else lane_up t ms)
    passed t s g same ms is = ap (λ b. if b then tag (make s g) ∷ lane_up t ms else lane_up t ms) (asks_as s t (tag (make s g)) (url s g) ∙ is)

    out_by : (t : TypeName) (greeted : Bool) (s : TypeName) (ss : List TypeName) (some : Bool) → is_same_type s t ≡ false → ((g : Bool) → lane_up t (firsts g ss) ≡ []) → lane_up t (firsts_by some greeted s ss) ≡ []
    out_by t greeted s ss true other rest = passed t s greeted false (firsts true ss) other ∙ rest true
    out_by t greeted s ss false other rest = rest greeted

    none_first : (t : TypeName) (greeted : Bool) (ts : List TypeName) → IsOut t ts → lane_up t (firsts greeted ts) ≡ []
    none_first t greeted [] out = refl
    none_first t greeted (s ∷ ss) out = out_by t greeted s ss (wants_some (shelf c s).wants) out.0 (λ g. none_first t g ss out.1)

    own_by : (t : TypeName) (greeted : Bool) (ss : List TypeName) (some : Bool) → ((g : Bool) → lane_up t (firsts g ss) ≡ []) → lane_up t (firsts_by some greeted t ss) ≡ (if some then tag (make t greeted) ∷ [] else [])
    own_by t greeted ss true rest = passed t t greeted true (firsts true ss) (is_same_type-same t) ∙ ap (λ l. tag (make t greeted) ∷ l) (rest true)
    own_by t greeted ss false rest = rest greeted

    later_by : (t : TypeName) (greeted : Bool) (s : TypeName) (ss : List TypeName) (some : Bool) → is_same_type s t ≡ false → lane_up t (firsts_by some greeted s ss) ≡ lane_up t (firsts (if some then true else greeted) ss)
    later_by t greeted s ss true other = passed t s greeted false (firsts true ss) other
    later_by t greeted s ss false other = refl

    pub first_lane : (t : TypeName) (greeted : Bool) (ts : List TypeName) → IsOnce t ts → (g : Bool) × (lane_up t (firsts greeted ts) ≡ one_first t g)
    first_lane t greeted [] is = absurd is
    first_lane t greeted (s ∷ ss) (inl here) =
        (greeted, ap (λ r. lane_up t (firsts_by (wants_some (shelf c r).wants) greeted r ss)) here.0 ∙ own_by t greeted ss (wants_some (shelf c t).wants) (λ g. none_first t g ss here.1))
    first_lane t greeted (s ∷ ss) (inr later) =
        let rest = first_lane t (if wants_some (shelf c s).wants then true else greeted) ss later.1 in
        (rest.0, later_by t greeted s ss (wants_some (shelf c s).wants) later.0 ∙ rest.1)
