-- What all clients are told that want everything of a type and are believed to hold nothing of it. This project's own.
--     all_of        the interest of a client of this cluster that wants everything, and names nothing
--     first_offer   what such a client is offered that is believed to hold nothing
--     IsFirst       what a session is offered next is that
--     IsShared      what is kept for the clients of a cluster is what each of them is told
--     AreShared     and so for each cluster
--     SaysItsOffer  what is kept of a response is what it says, and its names
--     most_shared   the most clusters for which it is kept, of one type and variant
--     Fits          what is kept of both variants is what clients are told at these entries, and no more than that
use Rattle.std.specs.Prelude.{◌≡◌, ◌≤◌, ◌⊎◌, ℕ, List, true, is_some, IfSome}
use Rattle.std.specs.FinMap as finmap
use Rattle.std.specs.FinSet as set
use Rattle.xds_resource.specs.declared.types.TypeName.{TypeName}
use Rattle.xds_resource.specs.Writes.{text_cmp}
use Rattle.xds_interest.specs.Interests.{Selection}
use Rattle.xds_catalogue.specs.Holdings.{Entries}
use Rattle.xds_ledger.specs.declared.variant.VariantName.{VariantName}
use Rattle.xds_ledger.specs.declared.variant.VariantName.TheVariants.{StateOfTheWorld, Delta}
use Rattle.xds_ledger.specs.Variants.{is_whole}
use Rattle.xds_ledger.specs.Sessions.{Session}
use Rattle.xds_ledger.specs.Offers.{Offer, offer}
use Rattle.xds_sessions.specs.declared.wildcards.Wildcard.{Wildcard}
use Rattle.xds_sessions.specs.declared.wildcards.Wildcards.{Wildcards}
use Rattle.xds_sessions.specs.SotwPolls.{stated_bodies}
use Rattle.xds_sessions.specs.DeltaPolls.{Said, said_by}

-- the interest of a client of this cluster that wants everything, and names nothing
abbrev pub all_of : List ℕ → Selection
all_of cluster = record { star = true; names = set.empty; cluster = cluster }

-- what such a client is offered that is believed to hold nothing
abbrev pub first_offer : VariantName → TypeName → List ℕ → Entries → Offer
first_offer v t cluster m = offer v t (all_of cluster) m finmap.empty

-- what a session is offered next is that: its client wants everything, and responses are the whole, or nothing is believed held
pub record IsFirst (v : VariantName) (t : TypeName) (s : Session) : Type 0 where
  pub wants_all : s.asked.interest ≡ all_of s.asked.interest.cluster
  pub whole : (is_whole v t ≡ true) ⊎ (s.account.beliefs ≡ finmap.empty)

-- what is kept for the clients of a cluster is what each of them is told
pub record IsShared {S : Type 0} (v : VariantName) (t : TypeName) (IsSaid : Entries → Selection → Offer → S → Type 0) (m : Entries) (cluster : List ℕ) (w : Wildcard S) : Type 0 where
  pub offer_is : w.offer ≡ first_offer v t cluster m
  pub said_is : IsSaid m (all_of cluster) w.offer w.said
  pub names_are : (name : List ℕ) → is_some (finmap.get w.names name) ≡ is_some (finmap.get w.offer name)

-- and so for each cluster
abbrev pub AreShared : {S : Type 0} → VariantName → TypeName → (Entries → Selection → Offer → S → Type 0) → Entries → finmap.FinMap text_cmp (Wildcard S) → Type 0
AreShared v t IsSaid m kept = (cluster : List ℕ) → IfSome (finmap.get kept cluster) (IsShared v t IsSaid m cluster)

-- What is kept of an incremental response is what each response with its offer says, and the offer's names.
pub record SaysItsOffer (m : Entries) (w : Wildcard Said) : Type 0 where
  pub said_is : w.said ≡ said_by m w.offer
  pub names_are : (name : List ℕ) → is_some (finmap.get w.names name) ≡ is_some (finmap.get w.offer name)

-- the most clusters for which it is kept, of one type and variant: clients choose the texts of their clusters
abbrev pub most_shared : ℕ
most_shared = 16

-- what is kept of both variants is what clients are told at these entries, and no more than that
pub record Fits (t : TypeName) (m : Entries) (w : Wildcards) : Type 0 where
  pub sotw : AreShared StateOfTheWorld t (λ m s o x. x ≡ stated_bodies m s o) m w.sotw
  pub delta : AreShared Delta t (λ m s o x. x ≡ said_by m o) m w.delta
  pub told : (cluster : List ℕ) → IfSome (finmap.get w.told cluster) (SaysItsOffer m)
  pub few_sotw : finmap.len w.sotw ≤ most_shared
  pub few_delta : finmap.len w.delta ≤ most_shared
  pub few_told : finmap.len w.told ≤ most_shared
