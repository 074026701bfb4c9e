-- That a ledger whose beliefs changed in place is the ledger that took the request.
use Rattle.std.proofs.Common.{◌≡◌, ℕ, List, Bool, true, false, ◌&&◌, not, Option, Some, None, refl, sym, ap, ◌∙◌, arith, length, ◌-◌, [], ◌∷◌, ◌++◌, option_map}
use Rattle.std.proofs.lemmas.List.{take_at, length-append}
use Rattle.std.specs.Prelude.{IfSome, unwrap_or}
use Rattle.std.specs.FinMap as finmap
use Rattle.xds_resource.specs.declared.types.TypeName.{TypeName}
use Rattle.xds_resource.specs.Writes.{text_cmp}
use Rattle.xds_resource.proofs.NameMaps.{same_names}
use Rattle.xds_interest.specs.Touches.{Touch}
use Rattle.xds_ledger.specs.declared.variant.VariantName.{VariantName}
use Rattle.xds_ledger.specs.Variants.{is_whole}
use Rattle.xds_ledger.specs.Owed.{Beliefs}
use Rattle.xds_ledger.specs.Ledgers.{Sent, Account, Names, answered, beliefs_accepted, beliefs_after, noted, forgotten, taken, touched_since, last_touch_forgotten}
use Rattle.xds_ledger.specs.Changes.{Changes, believed_now, changes_answered}
use Rattle.xds_ledger.proofs.Changing.{told_by_name}

-- no change changes nothing
pub unchanged : (start : Changes) (b : Beliefs) → start ≡ finmap.empty → (q : List ℕ) → finmap.get b q ≡ believed_now start b q
unchanged start b none q = sym (ap (λ (c : Changes). unwrap_or (finmap.get c q) (finmap.get b q)) none ∙ ap (λ o. unwrap_or o (finmap.get b q)) (finmap.get-empty text_cmp q))

-- a request that answers nothing
pub names_in_place : (a before middle : Account) (names : Names) (start changes : Changes) (new : Beliefs)
    → before ≡ a → middle ≡ noted before names.touched → start ≡ finmap.empty
    → ((b : Beliefs) → ((q : List ℕ) → finmap.get b q ≡ believed_now start before.beliefs q) → (q : List ℕ) → finmap.get (beliefs_after names b) q ≡ believed_now changes before.beliefs q)
    → ((q : List ℕ) → finmap.get new q ≡ believed_now changes middle.beliefs q) → ◌≡◌ {A = Account} (record middle { beliefs = new }) (taken a names)
names_in_place a before middle names start changes new same note none makes made =
    let all : new ≡ beliefs_after names before.beliefs =
    same_names _ _ (λ q. made q ∙ ap (λ (x : Account). believed_now changes x.beliefs q) note ∙ sym (makes before.beliefs (unchanged start before.beliefs none) q)) in
    (λ i. record (note i) { beliefs = all i }) ∙ ap (λ (x : Account). taken x names) same

answer_cases : (v : VariantName) (t : TypeName) (rejects : Bool) (names : Names) (a : Account) (new : Beliefs) (start : Changes) (sent : Sent) (out : Account)
    → (not rejects && is_whole v t) ≡ false → start ≡ changes_answered sent rejects
    → ((b : Beliefs) → ((q : List ℕ) → finmap.get b q ≡ believed_now start a.beliefs q) → new ≡ beliefs_after names b)
    → out ≡ record (answered v t (record a { beliefs = new }) sent rejects) { beliefs = new } → a.sent ≡ Some sent → out ≡ taken (answered v t a sent rejects) names
answer_cases v t true names a new start sent out partial is makes settled there =
    settled ∙ (λ i. record (answered v t a sent true) { beliefs = makes a.beliefs (unchanged start a.beliefs is) i })
answer_cases v t false names a new start sent out partial is makes settled there =
    let accepted : Beliefs = beliefs_accepted (is_whole v t) sent a.beliefs in
    let told : (q : List ℕ) → finmap.get accepted q ≡ believed_now start a.beliefs q =
    λ q. ap (λ whole. finmap.get (beliefs_accepted whole sent a.beliefs) q) partial ∙ told_by_name sent a.beliefs q ∙ ap (λ (c : Changes). believed_now c a.beliefs q) (sym is) in
    settled ∙ (λ i. record (answered v t a sent false) { beliefs = makes accepted told i })

answer_at : (v : VariantName) (t : TypeName) (rejects : Bool) (names : Names) (a : Account) (new : Beliefs) (start : Changes) (out : Account) (o : Option Sent) → a.sent ≡ o
    → (not rejects && is_whole v t) ≡ false → IfSome o (λ sent. start ≡ changes_answered sent rejects)
    → ((b : Beliefs) → ((q : List ℕ) → finmap.get b q ≡ believed_now start a.beliefs q) → new ≡ beliefs_after names b)
    → IfSome o (λ sent. out ≡ record (answered v t (record a { beliefs = new }) sent rejects) { beliefs = new })
    → IfSome o (λ sent. out ≡ taken (answered v t a sent rejects) names)
answer_at v t rejects names a new start out None there partial is makes settled = tt
answer_at v t rejects names a new start out (Some sent) there partial is makes settled =
    answer_cases v t rejects names a new start sent out partial is makes settled there

-- a request that answers a response which isn't the whole, or rejects it
pub answer_in_place : (v : VariantName) (t : TypeName) (rejects : Bool) (names : Names) (a : Account) (new : Beliefs) (start : Changes) (out : Account)
    → (not rejects && is_whole v t) ≡ false → IfSome a.sent (λ sent. start ≡ changes_answered sent rejects)
    → ((b : Beliefs) → ((q : List ℕ) → finmap.get b q ≡ believed_now start a.beliefs q) → new ≡ beliefs_after names b)
    → IfSome a.sent (λ sent. out ≡ record (answered v t (record a { beliefs = new }) sent rejects) { beliefs = new })
    → IfSome a.sent (λ sent. out ≡ taken (answered v t a sent rejects) names)
answer_in_place v t rejects names a new start out partial is makes settled =
    answer_at v t rejects names a new start out a.sent refl partial is makes settled

last_out : (o : Option Sent) (touched : Touch) → option_map last_touch_forgotten (option_map (λ sent. touched_since sent touched) o) ≡ o
last_out None touched = refl
last_out (Some sent) touched =
    let shorter : length sent.touched ≡ length (sent.touched ++ touched ∷ []) - 1 = omega (arith, length-append sent.touched (touched ∷ [])) in
    λ i. Some (record sent { touched = take_at sent.touched (touched ∷ []) (length (sent.touched ++ touched ∷ []) - 1) shorter i })

-- what was noted, forgotten again, where the beliefs are as they were
pub note_taken_back : (a before middle out : Account) (touched : Touch) (new : Beliefs)
    → before ≡ a → middle ≡ noted before touched → new ≡ middle.beliefs → out ≡ forgotten (record middle { beliefs = new }) → out ≡ a
note_taken_back a before middle out touched new same note kept is =
    is ∙ (λ i. forgotten (record middle { beliefs = kept i })) ∙ ap forgotten note ∙ (λ i. record before { sent = last_out before.sent touched i }) ∙ same
