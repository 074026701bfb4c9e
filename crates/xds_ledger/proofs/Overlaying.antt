-- What was told and a few differences, name by name.
use Rattle.std.proofs.Common.{◌≡◌, ℕ, List, [], ◌++◌, Bool, true, false, cond, Option, Some, None, refl, sym, ap, ◌∙◌}
use Rattle.std.specs.Prelude.{bytes_eq, is_some, unwrap_or, if◌then◌else◌}
use Rattle.std.specs.Option.{option_or, option_and_then}
use Rattle.std.specs.FinMap as finmap
use Rattle.xds_resource.specs.Writes.{text_cmp}
use Rattle.xds_resource.specs.Names.{put_all}
use Rattle.xds_resource.proofs.NameMaps.{same_names, get-insert, get-tabulated, absent_key, in_neither}
use Rattle.xds_resource.proofs.MadeMaps.{get-put_all}
use Rattle.xds_ledger.specs.declared.entry.Entry.{Entry}
use Rattle.xds_ledger.specs.declared.entry.Due.{Due}
use Rattle.xds_ledger.specs.Owed.{Beliefs}
use Rattle.xds_ledger.specs.Offers.{Offer}
use Rattle.xds_ledger.specs.Believing.{once_told}
use Rattle.xds_ledger.specs.Changes.{Changes, believed_now}
use Rattle.xds_ledger.specs.Overlay.{Differences, told_in, told_by, overlaid, unless_changed, flat}

-- what an accepted offer told of a name
pub get-told_by : (o : Option Offer) (q : List ℕ) → finmap.get (told_by o) q ≡ told_in o q
get-told_by None q = finmap.get-empty text_cmp q
get-told_by (Some offer) q =
    get-tabulated (told_in (Some offer)) (finmap.keys offer) q (λ e. ap (option_and_then once_told) (absent_key offer q e))

absent : (o : Option (Option Entry)) (e : Option Entry) → o ≡ None → e ≡ None → unwrap_or o e ≡ None
absent o e unsaid unheld = (λ i. unwrap_or (unsaid i) (unheld i))

-- what is believed of a name
pub get-overlaid : (told : Beliefs) (changed : Differences) (q : List ℕ) → finmap.get (overlaid told changed) q ≡ unwrap_or (finmap.get changed q) (finmap.get told q)
get-overlaid told changed q =
    get-tabulated (believed_now changed told) (finmap.keys changed ++ finmap.keys told) q
    (λ e. let parts = in_neither (finmap.keys changed) (finmap.keys told) q e in absent _ _ (absent_key changed q parts.0) (absent_key told q parts.1))

-- and so from an offer
pub believed_at : (o : Option Offer) (changed : Differences) (q : List ℕ) → finmap.get (overlaid (told_by o) changed) q ≡ unwrap_or (finmap.get changed q) (told_in o q)
believed_at o changed q = get-overlaid (told_by o) changed q ∙ ap (unwrap_or (finmap.get changed q)) (get-told_by o q)

-- nothing is believed where nothing was told and nothing differs
pub nothing_overlaid : overlaid finmap.empty finmap.empty ≡ finmap.empty
nothing_overlaid =
    same_names _ _ (λ q. get-overlaid finmap.empty finmap.empty q ∙ (λ i. unwrap_or (finmap.get-empty text_cmp q i) (finmap.get-empty text_cmp q i)) ∙ sym (finmap.get-empty text_cmp q))

-- a difference more
pub overlaid_inserted : (told : Beliefs) (changed : Differences) (n : List ℕ) (e : Entry) → overlaid told (finmap.insert changed n (Some e)) ≡ finmap.insert (overlaid told changed) n e
overlaid_inserted told changed n e =
    same_names _ _ (λ q. get-overlaid told (finmap.insert changed n (Some e)) q ∙ ap (λ o. unwrap_or o (finmap.get told q)) (get-insert changed n (Some e) q)
    ∙ entry_step (bytes_eq n q) e (finmap.get changed q) (finmap.get told q) ∙ ap (cond (bytes_eq n q) (Some e)) (sym (get-overlaid told changed q))
    ∙ sym (get-insert (overlaid told changed) n e q))
  where
    entry_step : (here : Bool) (new : Entry) (old : Option (Option Entry)) (held : Option Entry) → unwrap_or (cond here (Some (Some new)) old) held ≡ cond here (Some new) (unwrap_or old held)
    entry_step true new old held = refl
    entry_step false new old held = refl

-- differences into which changes were made
pub overlaid_changed : (o : Option Offer) (old new : Differences) (c : Changes) → ((q : List ℕ) → unwrap_or (finmap.get new q) (told_in o q) ≡ unwrap_or (finmap.get c q) (unwrap_or (finmap.get old q) (told_in o q)))
    → (q : List ℕ) → finmap.get (overlaid (told_by o) new) q ≡ believed_now c (overlaid (told_by o) old) q
overlaid_changed o old new c made q =
    believed_at o new q ∙ made q ∙ ap (unwrap_or (finmap.get c q)) (sym (believed_at o old q))

-- ---- one map

flat_at : (c : Option (Option Entry)) (e : Option Due) → option_or (option_and_then (λ x. x) c) (option_or (option_and_then (λ due. if is_some c then None else once_told due) e) None) ≡ unwrap_or c (option_and_then once_told e)
flat_at None None = refl
flat_at None (Some due) = or_none (once_told due)
  where
    or_none : (o : Option Entry) → option_or o None ≡ o
    or_none None = refl
    or_none (Some x) = refl
flat_at (Some None) None = refl
flat_at (Some None) (Some due) = refl
flat_at (Some (Some y)) None = refl
flat_at (Some (Some y)) (Some due) = refl

alone_at : (c : Option (Option Entry)) → option_or (option_and_then (λ x. x) c) None ≡ unwrap_or c None
alone_at None = refl
alone_at (Some None) = refl
alone_at (Some (Some y)) = refl

pub flat_is : (o : Option Offer) (changed : Differences) → flat o changed ≡ overlaid (told_by o) changed
flat_is None changed =
    same_names _ _ (λ q. get-put_all (λ name entry. entry) finmap.empty changed q ∙ ap (option_or (option_and_then (λ x. x) (finmap.get changed q))) (finmap.get-empty text_cmp q)
    ∙ alone_at (finmap.get changed q) ∙ sym (believed_at None changed q))
flat_is (Some offer) changed =
    same_names _ _ (λ q. get-put_all (λ name entry. entry) (put_all (unless_changed changed) finmap.empty (finmap.entries offer)) changed q
    ∙ ap (option_or (option_and_then (λ x. x) (finmap.get changed q)))
    (get-put_all (unless_changed changed) finmap.empty offer q ∙ ap (option_or (option_and_then (unless_changed changed q) (finmap.get offer q))) (finmap.get-empty text_cmp q))
    ∙ flat_at (finmap.get changed q) (finmap.get offer q) ∙ sym (believed_at (Some offer) changed q))

-- ---- no difference

-- a map that has no entries is the empty one
pub no_entries : {X : Type 0} (m : finmap.FinMap text_cmp X) → finmap.entries m ≡ [] → m ≡ finmap.empty
no_entries m none = same_names _ _ (λ q. finmap.get-entries m q ∙ ap (finmap.find text_cmp q) none ∙ sym (finmap.get-empty text_cmp q))
