-- That what an incremental client is believed to hold is, but for the listed names, what a client is offered that holds nothing.
use Rattle.std.proofs.Common.{◌≡◌, ◌≤◌, ℕ, List, Bool, true, false, Option, Some, None, refl, sym, ap, ◌∙◌}
use Rattle.std.specs.Prelude.{bytes_eq, is_some, nat_lt, unwrap_or, option_map, if◌then◌else◌, IfSome}
use Rattle.std.specs.Option.{option_map_or, option_and_then, option_or}
use Rattle.std.specs.FinMap as finmap
use Rattle.std.proofs.lemmas.Bool.{le-ltb}
use Rattle.xds_resource.specs.declared.types.TypeName.{TypeName}
use Rattle.xds_resource.specs.Writes.{text_cmp}
use Rattle.xds_resource.specs.Names.{put_all}
use Rattle.xds_resource.proofs.NameMaps.{bytes_eq_tells, same_names}
use Rattle.xds_resource.proofs.MadeMaps.{get-put_all}
use Rattle.xds_interest.specs.Interests.{Selection}
use Rattle.xds_catalogue.specs.Holdings.{Holdings, Entries, Latest, IsNumbered}
use Rattle.xds_ledger.specs.declared.variant.VariantName.{VariantName}
use Rattle.xds_ledger.specs.declared.variant.VariantName.TheVariants.{StateOfTheWorld, Delta}
use Rattle.xds_ledger.specs.declared.entry.Entry.{Entry}
use Rattle.xds_ledger.specs.declared.entry.Entry.TheVariants.{Told, Unsure}
use Rattle.xds_ledger.specs.Variants.{is_delta, is_told}
use Rattle.xds_ledger.specs.Owed.{Beliefs, present, owed}
use Rattle.xds_ledger.specs.Listed.{Listed, is_listed, is_since, Fits}
use Rattle.xds_ledger.specs.Offers.{Offer, offer}
use Rattle.xds_ledger.specs.Believing.{once_told}
use Rattle.xds_ledger.specs.Overlay.{Differences, told_in, told_by, overlaid}
use Rattle.xds_ledger.proofs.ByName.{offer_says_it}
use Rattle.xds_ledger.proofs.Fitting.{unowed_else}
use Rattle.xds_ledger.proofs.Overlaying.{believed_at}

-- ---- one name

-- rule: owed
-- where nothing is owed to an incremental client, it is believed to hold what is present
unowed_is_told : (t : TypeName) (e : Option Entry) (p : Option (List ℕ)) → option_map_or (is_told Delta t) (owed e p) false ≡ false → e ≡ option_map Told p
unowed_is_told t None None unowed = refl
unowed_is_told t None (Some v) unowed = absurd cc
unowed_is_told t (Some Unsure) None unowed = absurd cc
unowed_is_told t (Some Unsure) (Some v) unowed = absurd cc
unowed_is_told t (Some (Told w)) None unowed = absurd cc
unowed_is_told t (Some (Told w)) (Some v) unowed = at (bytes_eq w v) refl unowed
  where
    at : (same : Bool) → bytes_eq w v ≡ same → option_map_or (is_told Delta t) (owed (Some (Told w)) (Some v)) false ≡ false → Some (Told w) ≡ Some (Told v)
    at true same unowed = ap (λ x. Some (Told x)) (bytes_eq_tells w v same)
    at false other unowed =
        let never : true ≡ false = sym (ap (λ b. option_map_or (is_told Delta t) (if b then None else owed None (Some v)) false) other) ∙ unowed in absurd cc

first_step : (t : TypeName) (e : Option Entry) (p : Option (List ℕ)) → e ≡ None → option_and_then once_told (if option_map_or (is_told Delta t) (owed e p) false then owed e p else None) ≡ option_map Told p
first_step t None None is = refl
first_step t None (Some v) is = refl
first_step t (Some x) p is = absurd cc

-- what is offered first tells what is present
first_tells : (t : TypeName) (s : Selection) (m : Entries) (q : List ℕ) → told_in (Some (offer Delta t s m finmap.empty)) q ≡ option_map Told (present s m q)
first_tells t s m q =
    ap (option_and_then once_told) (offer_says_it Delta t s m finmap.empty q) ∙ first_step t (finmap.get {R = text_cmp} finmap.empty q) (present s m q) (finmap.get-empty text_cmp q)

-- ---- all names

not_since : (n : ℕ) (o : Option ℕ) → IfSome o (λ k. (1 ≤ k) × (k ≤ n)) → option_map_or (nat_lt n) o false ≡ false
not_since n None is = refl
not_since n (Some k) is = le-ltb n k is.1

-- rule: owed
-- once all changes were looked at, a name that isn't listed is believed to be what is offered first
pub told_first : (v : VariantName) (t : TypeName) (s : Selection) (h : Holdings) (b : Beliefs) (l : Listed) (o : Offer) → is_delta v ≡ true → IsNumbered h → Fits v t s h b l → l.mark ≡ h.changes
    → o ≡ offer v t s h.entries finmap.empty → (q : List ℕ) → is_listed l q ≡ false → finmap.get b q ≡ told_in (Some o) q
told_first StateOfTheWorld t s h b l o delta numbered fits all first q out = absurd cc
told_first Delta t s h b l o delta numbered fits all first q out =
    let unchanged : is_since h l.mark q ≡ false = ap (λ n. is_since h n q) all ∙ not_since h.changes (finmap.get h.latest q) (numbered.counted q) in
    unowed_is_told t (finmap.get b q) (present s h.entries q) (unowed_else Delta t s h b l q numbered fits out unchanged)
    ∙ sym (first_tells t s h.entries q) ∙ ap (λ x. told_in (Some x) q) (sym first)

listed_step : (e told : Option Entry) (listed : Option ℕ) → (is_some listed ≡ false → e ≡ told) → unwrap_or (option_or (option_and_then (λ number. Some e) listed) None) told ≡ e
listed_step e told None is = sym (is refl)
listed_step e told (Some k) is = refl

-- so they stand as differences at the listed names
pub stands_over : (b : Beliefs) (o : Offer) (names : Latest) → ((q : List ℕ) → is_some (finmap.get names q) ≡ false → finmap.get b q ≡ told_in (Some o) q)
    → overlaid (told_by (Some o)) (put_all (λ name number. Some (finmap.get b name)) finmap.empty (finmap.entries names)) ≡ b
stands_over b o names elsewhere =
    same_names _ _ (λ q.
    let changed : Differences = put_all (λ name number. Some (finmap.get b name)) finmap.empty (finmap.entries names) in
    believed_at (Some o) changed q
    ∙ ap (λ x. unwrap_or x (told_in (Some o) q)) (get-put_all (λ name number. Some (finmap.get b name)) finmap.empty names q
    ∙ ap (option_or (option_and_then (λ number. Some (finmap.get b q)) (finmap.get names q))) (finmap.get-empty text_cmp q))
    ∙ listed_step (finmap.get b q) (told_in (Some o) q) (finmap.get names q) (elsewhere q))
