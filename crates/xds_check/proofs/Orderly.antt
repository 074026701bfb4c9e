-- What is kept of streams is what the lines say of them.
use Rattle.std.proofs.Common.{◌≡◌, ℕ, List, [], ◌∷◌, Bool, true, false, cond, Option, Some, None, inl, inr, refl, ap, sym, ◌∙◌, ne_eqb}
use Rattle.std.proofs.lemmas.Bool.{eq-eqb}
use Rattle.std.specs.Prelude.{◌==◌, ◌&&◌, is_none}
use Rattle.std.specs.Option.{option_or, option_map_or, unwrap_or}
use Rattle.std.specs.Ordering.{nat_cmp}
use Rattle.std.specs.Cmp.{nat_cmp_total}
use Rattle.std.specs.FinMap as finmap
use Rattle.std.specs.FinMap.{nat_cmp-IsAntisymmetric}
use Rattle.xds_catalogue.proofs.Lookups.{get-inserted}
use Rattle.xds_ledger.specs.Variants.{is_delta}
use Rattle.xds_check.specs.declared.line.Line.{Line}
use Rattle.xds_check.specs.declared.line.Line.TheVariants as lines
use Rattle.xds_check.specs.Answers.{variant_of}
use Rattle.xds_check.specs.Streams.{open_on, delta_on, is_same, may_follow}
use Rattle.xds_check.specs.Orders.{OrderKept, IsOrderOf, nothing_kept, may_follow_in, kept_after}

-- a number after a value was put at one
pub at_number : {X : Type 0} (m : finmap.FinMap nat_cmp X) (r s : ℕ) (v : X) (o : Option X) → finmap.get m s ≡ o → finmap.get (finmap.insert m r v) s ≡ option_or (cond (r == s) (Some v) None) o
at_number m r s v o e =
    elim (get-inserted nat_cmp_total nat_cmp-IsAntisymmetric m r v s) [
      | inl here ↦ here.1 ∙ sym (ap (λ b. option_or (cond b (Some v) None) o) (eq-eqb r s here.0))
      | inr other ↦ other.1 ∙ e ∙ sym (ap (λ b. option_or (cond b (Some v) None) o) (ne_eqb r s other.0))
    ]

pub nothing_yet : IsOrderOf [] nothing_kept
nothing_yet = record { opened = λ s. finmap.get-empty nat_cmp s; delta = λ s. finmap.get-empty nat_cmp s }

pub order_after : (earlier : List Line) (k : OrderKept) (l : Line) → IsOrderOf earlier k → IsOrderOf (l ∷ earlier) (kept_after k l)
order_after earlier k (lines.Write w) o = record { opened = o.opened; delta = o.delta }
order_after earlier k (lines.Open r) o = record { opened = λ s. at_number k.opened r s true (open_on s earlier) (o.opened s); delta = o.delta }
order_after earlier k (lines.Close r) o = record { opened = λ s. at_number k.opened r s false (open_on s earlier) (o.opened s); delta = o.delta }
order_after earlier k (lines.Request r m) o = record { opened = o.opened; delta = λ s. at_number k.delta r s (is_delta (variant_of m)) (delta_on s earlier) (o.delta s) }
order_after earlier k (lines.Response r a) o = record { opened = o.opened; delta = λ s. at_number k.delta r s (is_delta a.variant) (delta_on s earlier) (o.delta s) }
order_after earlier k (lines.Idle r t) o = record { opened = o.opened; delta = o.delta }

-- rule: first-variant
spoken : (earlier : List Line) (k : OrderKept) (s : ℕ) (delta : Bool) → IsOrderOf earlier k
    → (unwrap_or (finmap.get k.opened s) false && option_map_or (is_same delta) (finmap.get k.delta s) true) ≡ (unwrap_or (open_on s earlier) false && option_map_or (is_same delta) (delta_on s earlier) true)
spoken earlier k s delta o = λ i. unwrap_or (o.opened s i) false && option_map_or (is_same delta) (o.delta s i) true

pub follows_same : (earlier : List Line) (k : OrderKept) (l : Line) → IsOrderOf earlier k → may_follow_in k l ≡ may_follow earlier l
follows_same earlier k (lines.Write w) o = refl
follows_same earlier k (lines.Open s) o = ap is_none (o.opened s)
follows_same earlier k (lines.Close s) o = ap (λ x. unwrap_or x false) (o.opened s)
follows_same earlier k (lines.Request s m) o = spoken earlier k s (is_delta (variant_of m)) o
follows_same earlier k (lines.Response s a) o = spoken earlier k s (is_delta a.variant) o
follows_same earlier k (lines.Idle s t) o = ap (λ x. unwrap_or x false) (o.opened s)
