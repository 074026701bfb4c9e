-- A response that says what its offer says, where that is what is owed, breaks no rule.
use Rattle.std.proofs.Common.{◌≡◌, ℕ, List, [], ◌∷◌, ◌++◌, map, Bool, true, false, ◌&&◌, ◌||◌, not, Option, Some, None, refl, sym, ap, ◌∙◌}
use Rattle.std.specs.Prelude.{if◌then◌else◌, is_some, bytes_eq, option_map}
use Rattle.std.specs.Option.{option_map_or, option_and_then}
use Rattle.std.specs.List.{list_any}
use Rattle.std.specs.FinMap as finmap
use Rattle.std.proofs.lemmas.Bool.{or_parts}
use Rattle.std.proofs.lemmas.List.Folds.{list_any-append}
use Rattle.std.proofs.Math.Bool.{or-true}
use Rattle.xds_resource.specs.Writes.{StampedWrite, version_of}
use Rattle.xds_resource.proofs.NameMaps.{get-tabulated, same_names, bytes_eq_same, bytes_eq_tells}
use Rattle.xds_interest.specs.Interests.{Selection, covers, has_name}
use Rattle.xds_catalogue.specs.Holdings.{Entries}
use Rattle.xds_catalogue.specs.Content.{if_live}
use Rattle.xds_ledger.specs.declared.variant.VariantName.{VariantName}
use Rattle.xds_ledger.specs.declared.entry.Due.{Due}
use Rattle.xds_ledger.specs.declared.entry.Due.TheVariants.{Stated, Removed}
use Rattle.xds_ledger.specs.Variants.{is_whole}
use Rattle.xds_ledger.specs.Owed.{Beliefs, present_as, present, owed_of, is_owed}
use Rattle.xds_ledger.specs.Offers.{Offer, offer}
use Rattle.xds_ledger.proofs.ByName.{offer_says_it}
use Rattle.xds_check.specs.declared.line.Line.{Line}
use Rattle.xds_check.specs.declared.line.Line.TheVariants as lines
use Rattle.xds_check.specs.declared.rule.Rule.TheVariants.{FreshNonce, BestResources, CoveredResources, WholeResponse, RightRemovals, OneAtATime, NothingRefusedAgain, NothingPending}
use Rattle.xds_check.specs.Answers.{Statement, Answer, stated_names}
use Rattle.xds_check.specs.Lines as said
use Rattle.xds_check.specs.Lines.{standing, is_used, interest, is_covered, is_shown, sent, is_waiting, refused_offer, offer_at, tells}
use Rattle.xds_check.specs.Rules.{is_best, is_put_by, is_label_of, KeepsRules}
use Rattle.xds_trace.proofs.Answering.{IsRight, AllRight}
use Rattle.xds_trace.proofs.Offering.{removed_is_absent, present_of}

-- what is known of a response when it is sent: of what its offer was made, and what it says
pub record IsSent (n : ℕ) (ls : List Line) (v : VariantName) (s : Selection) (m : Entries) (b : Beliefs) (a : Answer) : Type 0 where
  pub variant : a.variant ≡ v
  pub held : (q : List ℕ) → finmap.get m q ≡ standing a.kind ls q
  pub wanted : interest n a.kind ls ≡ s
  pub right : AllRight m s (offer v a.kind s m b) a.statements
  pub removed : (q : List ℕ) → has_name a.removed q ≡ true → finmap.get (offer v a.kind s m b) q ≡ Some Removed
  pub told : (q : List ℕ) → is_some (finmap.get (offer v a.kind s m b) q) ≡ true → tells a q ≡ true

pub unless_true : {X : Type 0} (b : Bool) → b ≡ false → b ≡ true → X
unless_true true none is = absurd cc
unless_true false none is = absurd cc

-- a name of a list that passes
abbrev Found : (List ℕ → Bool) → List (List ℕ) → Type 0
Found p xs = (q : List ℕ) × (has_name xs q ≡ true) × (p q ≡ true)

found_at : (p : List ℕ → Bool) (x : List ℕ) (xs : List (List ℕ)) (b : Bool) → p x ≡ b → (b || list_any p xs) ≡ true → (list_any p xs ≡ true → Found p xs) → Found p (x ∷ xs)
found_at p x xs true is or later = (x, ap (λ b. b || has_name xs x) (bytes_eq_same x), is)
found_at p x xs false is or later = let rest = later or in (rest.0, ap (λ b. bytes_eq rest.0 x || b) rest.1 ∙ or-true (bytes_eq rest.0 x), rest.2)

named_any : (p : List ℕ → Bool) (xs : List (List ℕ)) → list_any p xs ≡ true → Found p xs
named_any p [] is = absurd cc
named_any p (x ∷ xs) is = found_at p x xs (p x) refl is (named_any p xs)

neither : (a b : Bool) → a ≡ true → b ≡ false → (not a || b) ≡ false
neither true b is none = none
neither false b is none = absurd cc

module _ (n : ℕ) (ls : List Line) (v : VariantName) (s : Selection) (m : Entries) (b : Beliefs) (a : Answer) (known : IsSent n ls v s m b a) where
  abbrev this : Offer
  this = offer v a.kind s m b

  found : (q : List ℕ) (w : StampedWrite) → finmap.get m q ≡ Some w → standing a.kind ls q ≡ Some w
  found q w is = sym (known.held q) ∙ is

  -- P2

  live_write : (w : StampedWrite) (body : List ℕ) (o : Option (List ℕ)) → o ≡ Some body → (if is_some o then Some w else None) ≡ Some w
  live_write w body o is = ap (λ x. if is_some x then Some w else None) is

  -- rule: best-writes
  put_by : (x : Statement) (w : StampedWrite) → w.body ≡ Some x.body → option_map_or (is_label_of w) x.label true ≡ true → is_put_by x w ≡ true
  put_by x w body label = (λ i. option_map_or (bytes_eq x.body) (body i) false && label i) ∙ both (bytes_eq x.body x.body) (bytes_eq_same x.body)
    where
      both : (c : Bool) → c ≡ true → (c && true) ≡ true
      both true is = refl
      both false is = absurd cc

  -- rule: best-writes
  best_one : (x : Statement) → IsRight m s this x → is_best a.kind ls x ≡ true
  best_one x right =
      ap (λ o. option_map_or (is_put_by x) (option_and_then if_live o) false) (found x.name right.write right.found)
      ∙ ap (λ o. option_map_or (is_put_by x) o false) (live_write right.write x.body right.write.body right.body)
      ∙ put_by x right.write right.body right.label

  -- rule: best-writes
  all_best : (xs : List Statement) → AllRight m s this xs → list_any (λ x. not (is_best a.kind ls x)) xs ≡ false
  all_best [] right = refl
  all_best (x ∷ xs) right = neither (is_best a.kind ls x) _ (best_one x right.0) (all_best xs right.1)

  -- P3

  -- rule: covered-only
  covered_by : (q : List ℕ) (w : StampedWrite) → finmap.get m q ≡ Some w → covers s q w.groups ≡ true → is_covered n a.kind ls q ≡ true
  covered_by q w is covered = (λ i. option_map_or (λ x. covers (known.wanted i) q x.groups) (found q w is i) false) ∙ covered

  -- rule: covered-only
  all_covered : (xs : List Statement) → AllRight m s this xs → list_any (λ q. not (is_covered n a.kind ls q)) (map (λ x. x.name) xs) ≡ false
  all_covered [] right = refl
  all_covered (x ∷ xs) right = neither (is_covered n a.kind ls x.name) _ (covered_by x.name right.0.write right.0.found right.0.covered) (all_covered xs right.1)

  -- P4 and P5

  shown_there : (q : List ℕ) → is_shown n a.kind ls q ≡ true → (w : StampedWrite) × (present s m q ≡ Some (version_of w))
  shown_there q is = present_of s q (finmap.get m q) ((λ i. is_some (present_as (sym known.wanted i) q (known.held q i))) ∙ is)

  told_of : (q : List ℕ) (stated gone : Bool) → has_name a.removed q ≡ gone → (stated || gone) ≡ true → stated ≡ false → finmap.get this q ≡ Some Removed
  told_of q true gone is or none = absurd cc
  told_of q false true is or none = known.removed q is
  told_of q false false is or none = absurd cc

  -- rule: whole-response
  pub whole_states : (q : List ℕ) → is_whole a.variant a.kind ≡ true → is_shown n a.kind ls q ≡ true → has_name (stated_names a) q ≡ false → ⊥
  whole_states q whole shown none =
      let there = shown_there q shown in
      let wholly : is_whole v a.kind ≡ true = ap (λ u. is_whole u a.kind) (sym known.variant) ∙ whole in
      let offers : finmap.get this q ≡ Some (Stated (version_of there.0)) =
      offer_says_it v a.kind s m b q ∙ ap (λ w. if w then option_map Stated (present s m q) else if is_owed v a.kind s m b q then owed_of s m b q else None) wholly ∙ ap (option_map Stated) there.1 in
      let removed : finmap.get this q ≡ Some Removed = told_of q (has_name (stated_names a) q) (has_name a.removed q) refl (known.told q (ap is_some offers)) none in
      differ (sym removed ∙ offers)
    where
      differ : {version : List ℕ} → Some Removed ≡ Some (Stated version) → ⊥
      differ e = cc

  -- rule: no-live-removal
  pub removed_hidden : list_any (is_shown n a.kind ls) a.removed ≡ true → ⊥
  removed_hidden is =
      let one = named_any (is_shown n a.kind ls) a.removed is in
      let there = shown_there one.0 one.2 in
      differ (sym (removed_is_absent v a.kind s m b one.0 (known.removed one.0 one.1)) ∙ there.1)
    where
      differ : {version : List ℕ} → None ≡ Some version → ⊥
      differ e = cc

  -- ---- the offer by the lines

  -- what is known of a name that is stated
  abbrev IsNamed : List ℕ → Type 0
  IsNamed q = (w : StampedWrite) × (finmap.get m q ≡ Some w) × (finmap.get this q ≡ Some (Stated (version_of w)))

  name_at : (x : Statement) (xs : List Statement) → IsRight m s this x → (q : List ℕ) (same : Bool) → bytes_eq q x.name ≡ same → (same || has_name (map (λ y. y.name) xs) q) ≡ true
      → (has_name (map (λ y. y.name) xs) q ≡ true → IsNamed q) → IsNamed q
  name_at x xs right q true is or later =
      let equal : q ≡ x.name = bytes_eq_tells q x.name is in (right.write, ap (finmap.get m) equal ∙ right.found, ap (finmap.get this) equal ∙ right.stated)
  name_at x xs right q false is or later = later or

  right_name : (xs : List Statement) → AllRight m s this xs → (q : List ℕ) → has_name (map (λ x. x.name) xs) q ≡ true → IsNamed q
  right_name [] right q is = absurd cc
  right_name (x ∷ xs) right q is = name_at x xs right.0 q (bytes_eq q x.name) refl is (right_name xs right.1 q)

  offered_by : (q : List ℕ) (gone stated : Bool) → has_name a.removed q ≡ gone → has_name (stated_names a) q ≡ stated
      → (if gone then Some Removed else if stated then option_map (λ w. Stated (version_of w)) (standing a.kind ls q) else None) ≡ finmap.get this q
  offered_by q true stated is names = sym (known.removed q is)
  offered_by q false true is names =
      let one = right_name a.statements known.right q names in ap (option_map (λ w. Stated (version_of w))) (found q one.0 one.1) ∙ sym one.2
  offered_by q false false is names = sym (none_told (finmap.get this q) refl)
    where
      none_told : (o : Option Due) → finmap.get this q ≡ o → finmap.get this q ≡ None
      none_told None same = same
      none_told (Some d) same = unless_true (tells a q) ((λ i. names i || is i)) (known.told q (ap is_some same))

  -- rule: refused-offer
  -- the offer that the lines say is the one that was sent
  pub offer_is : offer_at ls a ≡ this
  offer_is = same_names (offer_at ls a) this (λ q.
      get-tabulated (said.offered ls a) (a.removed ++ stated_names a) q
      (λ none. let parts = or_parts (has_name a.removed q) (has_name (stated_names a) q) (sym (list_any-append (bytes_eq q) a.removed (stated_names a)) ∙ none) in
      (λ i. if parts.0 i then Some Removed else if parts.1 i then option_map (λ w. Stated (version_of w)) (standing a.kind ls q) else None))
      ∙ offered_by q (has_name a.removed q) (has_name (stated_names a) q) refl refl)

  -- ---- all rules

  pub keeps_rules : (bytes_eq a.nonce [] || is_used n ls a.nonce) ≡ false → is_waiting (sent n a.kind ls) ≡ false → (refused_offer (sent n a.kind ls) ≡ Some this → ⊥) → KeepsRules ls (lines.Response n a)
  keeps_rules fresh free other FreshNonce broken = unless_true _ fresh broken
  keeps_rules fresh free other BestResources broken = unless_true _ (all_best a.statements known.right) broken
  keeps_rules fresh free other CoveredResources broken = unless_true _ (all_covered a.statements known.right) broken
  keeps_rules fresh free other WholeResponse broken = whole_states broken.1 broken.0 broken.2 broken.3
  keeps_rules fresh free other RightRemovals broken = removed_hidden broken
  keeps_rules fresh free other OneAtATime broken = unless_true _ free broken
  keeps_rules fresh free other NothingRefusedAgain broken = other (broken ∙ ap Some offer_is)
  keeps_rules fresh free other NothingPending broken = broken
