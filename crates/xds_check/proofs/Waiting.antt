-- The names that wait, by what is kept of them.
use Rattle.std.proofs.Common.{◌≡◌, ℕ, List, Bool, true, false, cond, not, ◌&&◌, ◌||◌, Option, Some, None, refl, sym, ap, ◌∙◌}
use Rattle.std.specs.Prelude.{is_some}
use Rattle.std.specs.Option.{unwrap_or, option_or}
use Rattle.std.specs.FinMap as finmap
use Rattle.std.specs.FinSet as set
use Rattle.xds_resource.specs.declared.types.TypeName.{TypeName}
use Rattle.xds_resource.specs.Writes.{text_cmp}
use Rattle.xds_resource.proofs.MadeMaps.{get-put_each}
use Rattle.xds_interest.specs.Interests.{Selection, has_name, is_star, names_among}
use Rattle.xds_interest.proofs.SotwLaws.{has_name-names_among}
use Rattle.xds_message.specs.DeltaMessages.{DeltaRequest}
use Rattle.xds_check.proofs.Marking.{get-without_each}
use Rattle.xds_check.specs.Kept.{Marks, is_marked, listed_mark, listed_marks, left_marks, joined_mark, mentioned_marks, unmarked}

-- ---- a request of the state of the world

listed_case : (star here waits : Bool) → unwrap_or (cond here (option_or (cond (not star && waits) (Some true) None) None) None) false ≡ ((not star && here) && waits)
listed_case true true waits = refl
listed_case true false waits = refl
listed_case false true true = refl
listed_case false true false = refl
listed_case false false waits = refl

-- rule: awaited-names
pub listed_waits : (t : TypeName) (old : Selection) (m : Marks) (names : List (List ℕ)) (q : List ℕ)
    → is_marked (listed_marks t old m names) q ≡ (has_name (names_among t names) q && (is_marked m q || not (set.contains old.names q)))
listed_waits t old m names q =
    ap (λ o. unwrap_or o false) (get-put_each (listed_mark t old m) finmap.empty names q ∙ ap (λ (o : Option Bool). cond (has_name names q) (option_or (listed_mark t old m q) o) o) (finmap.get-empty text_cmp q))
    ∙ listed_case (is_star t q) (has_name names q) (is_marked m q || not (set.contains old.names q))
    ∙ ap (λ b. b && (is_marked m q || not (set.contains old.names q))) (sym (has_name-names_among t names q))

-- ---- a delta request

-- joined: whether it says so of a name that it subscribes; sub and unsub: whether it subscribes and unsubscribes the name
mentioned_case : (star sub unsub fresh : Bool) (o : Option Bool)
    → unwrap_or (cond sub (option_or (cond (not star && fresh) (Some true) None) (cond (unsub && not sub) None o)) (cond (unsub && not sub) None o)) false
    ≡ (((not star && sub) && fresh) || (unwrap_or o false && not (unsub && not sub)))
mentioned_case true true true fresh None = refl
mentioned_case true true false fresh None = refl
mentioned_case true false true fresh None = refl
mentioned_case true false false fresh None = refl
mentioned_case false true unsub true None = refl
mentioned_case false true true false None = refl
mentioned_case false true false false None = refl
mentioned_case false false true fresh None = refl
mentioned_case false false false fresh None = refl
mentioned_case true true true fresh (Some true) = refl
mentioned_case true true false fresh (Some true) = refl
mentioned_case true false true fresh (Some true) = refl
mentioned_case true false false fresh (Some true) = refl
mentioned_case false true unsub true (Some true) = refl
mentioned_case false true true false (Some true) = refl
mentioned_case false true false false (Some true) = refl
mentioned_case false false true fresh (Some true) = refl
mentioned_case false false false fresh (Some true) = refl
mentioned_case true true true fresh (Some false) = refl
mentioned_case true true false fresh (Some false) = refl
mentioned_case true false true fresh (Some false) = refl
mentioned_case true false false fresh (Some false) = refl
mentioned_case false true unsub true (Some false) = refl
mentioned_case false true true false (Some false) = refl
mentioned_case false true false false (Some false) = refl
mentioned_case false false true fresh (Some false) = refl
mentioned_case false false false fresh (Some false) = refl

-- rule: awaited-names
pub mentioned_waits : (t : TypeName) (begun : Bool) (r : DeltaRequest) (m : Marks) (q : List ℕ)
    → is_marked (mentioned_marks t begun r m) q
    ≡ ((has_name (names_among t r.resource_names_subscribe) q && (begun || not (is_some (finmap.get r.initial_resource_versions q))))
    || (is_marked m q && not (has_name r.resource_names_unsubscribe q && not (has_name r.resource_names_subscribe q))))
mentioned_waits t begun r m q =
    let sub = has_name r.resource_names_subscribe q in
    let unsub = has_name r.resource_names_unsubscribe q in
    let fresh = begun || not (is_some (finmap.get r.initial_resource_versions q)) in
    let left = left_marks r.resource_names_subscribe m r.resource_names_unsubscribe in
    ap (λ o. unwrap_or o false) (get-put_each (joined_mark t begun r.initial_resource_versions) left r.resource_names_subscribe q
    ∙ ap (λ (o : Option Bool). cond sub (option_or (joined_mark t begun r.initial_resource_versions q) o) o) (get-without_each (λ name. not (has_name r.resource_names_subscribe name)) m r.resource_names_unsubscribe q))
    ∙ mentioned_case (is_star t q) sub unsub fresh (finmap.get m q)
    ∙ ap (λ b. (b && fresh) || (is_marked m q && not (unsub && not sub))) (sym (has_name-names_among t r.resource_names_subscribe q))

-- ---- a response

unmarked_case : (here : Bool) (o : Option Bool) → unwrap_or (cond (here && true) None o) false ≡ (unwrap_or o false && not here)
unmarked_case true None = refl
unmarked_case true (Some true) = refl
unmarked_case true (Some false) = refl
unmarked_case false None = refl
unmarked_case false (Some true) = refl
unmarked_case false (Some false) = refl

unmarked_waits : (m : Marks) (names : List (List ℕ)) (q : List ℕ) → is_marked (unmarked m names) q ≡ (is_marked m q && not (has_name names q))
unmarked_waits m names q = ap (λ o. unwrap_or o false) (get-without_each (λ _. true) m names q) ∙ unmarked_case (has_name names q) (finmap.get m q)

neither_told : (m s r : Bool) → ((m && not s) && not r) ≡ (m && not (s || r))
neither_told true true r = refl
neither_told true false r = refl
neither_told false true r = refl
neither_told false false r = refl

-- rule: awaited-names
pub told_waits : (m : Marks) (stated removed : List (List ℕ)) (q : List ℕ) → is_marked (unmarked (unmarked m stated) removed) q ≡ (is_marked m q && not (has_name stated q || has_name removed q))
told_waits m stated removed q =
    unmarked_waits (unmarked m stated) removed q ∙ ap (λ b. b && not (has_name removed q)) (unmarked_waits m stated q) ∙ neither_told (is_marked m q) (has_name stated q) (has_name removed q)
