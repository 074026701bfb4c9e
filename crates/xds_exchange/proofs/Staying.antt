-- What is known stays known, whatever happens at the replica that tells and at the one that is told.
use Rattle.std.proofs.Common.{◌≡◌, ◌≢◌, ◌⊎◌, inl, inr, ℕ, ◌≤◌, List, [], ◌∷◌, ◌++◌, Bool, true, false, not, cond, Option, Some, None, is_some, Result, Ok, Err, refl, sym, ap, subst, ◌∙◌, arith}
use Rattle.std.specs.Prelude.{IfSome, IsSomeAnd, IfOk, OnErr, nat_lt}
use Rattle.std.specs.declared.cmp.Ordering.TheVariants.{Greater}
use Rattle.std.specs.FinMap as finmap
use Rattle.std.specs.Option.{option_map_or}
use Rattle.std.proofs.lemmas.Bool.{le-ltb, ltb-false}
use Rattle.xds_resource.specs.declared.types.TypeName.{TypeName}
use Rattle.xds_resource.specs.declared.refusal.Refusal.{Refusal}
use Rattle.xds_resource.specs.declared.refusal.Refusal.TheVariants.{CounterSpent}
use Rattle.xds_resource.specs.PerType.{PerType, at, with_at, each}
use Rattle.xds_resource.specs.Resources.{written, deleted}
use Rattle.xds_resource.specs.Types.{is_same_type}
use Rattle.xds_resource.specs.Writes.{StampedWrite, write_cmp}
use Rattle.xds_resource.proofs.TypesApart.{at-with_at, at-with_at_other, at-each, same_type, at-per_type}
use Rattle.xds_resource.proofs.Refusing.{unless_once}
use Rattle.xds_catalogue.specs.Holdings.{Entries, Holdings, IsCatalogue, IsNumbered}
use Rattle.xds_catalogue.specs.Joins.{joined, IsAbove}
use Rattle.xds_catalogue.specs.Local.{next_counter}
use Rattle.xds_catalogue.proofs.Catalogues.{catalogue_of-IsCatalogue}
use Rattle.xds_catalogue.proofs.Numbering.{entries_are_numbered}
use Rattle.xds_ledger.specs.Listed.{IsPast, IsLater}
use Rattle.xds_ledger.proofs.Later.{later_itself, joined_is_later, past_more}
use Rattle.xds_core.specs.Since.{is_above, marks_of}
use Rattle.xds_core.specs.Stores.{Store, merging, putting_at, deleting_at, is_spent, grown, merged, if_done}
use Rattle.xds_core.specs.Events.{Event, Open, Request, Poll, Owes, Close, Put, Delete, Merge, Snapshot, Rest, Since, Reply, Written, Merged}
use Rattle.xds_core.specs.Legal.{after, left_by}
use Rattle.xds_core.specs.Steps.{Core}
use Rattle.xds_core.specs.Laws.{is_write}
use Rattle.xds_core.proofs.StepLaws.{only_writes_change_the_store, put_is, delete_is}
use Rattle.xds_exchange.specs.Laws.{EventsKeepCatalogues, TellersMayWrite, HearersMayWrite, MarksAreTaken}
use Rattle.xds_exchange.specs.Rounds.{unchanged_after, AreTaken}
use Rattle.xds_exchange.proofs.Knowing.{above_joined}
use Rattle.xds_exchange.proofs.OneMerge.{at-merged}
use Rattle.xds_exchange.proofs.Skipping.{same_told}

-- ---- a catalogue that came after another

-- an entry whose latest change isn't above the mark has a number that isn't
past_by : (e : Option StampedWrite) (l : Option ℕ) (mark n : ℕ) → is_some l ≡ is_some e → IfSome l (λ k. (1 ≤ k) × (k ≤ n)) → option_map_or (nat_lt mark) l false ≡ false → (e ≡ None) ⊎ IsSomeAnd l (λ k. (1 ≤ k) × (k ≤ mark))
past_by None l mark n same counted low = inl refl
past_by (Some w) None mark n same counted low = absurd cc
past_by (Some w) (Some k) mark n same counted low = inr (counted.0, ltb-false mark k low)

unchanged_by : (e : Option StampedWrite) (l : Option ℕ) (mark : ℕ) → is_some l ≡ is_some e → (e ≡ None) ⊎ IsSomeAnd l (λ k. (1 ≤ k) × (k ≤ mark)) → option_map_or (nat_lt mark) l false ≡ false
unchanged_by e None mark same past = refl
unchanged_by e (Some k) mark same (inl none) = absurd cc
unchanged_by e (Some k) mark same (inr there) = le-ltb mark k there.1

module _ (h later : Holdings) (mark : ℕ) (to : Entries) (old : IsNumbered h) (new : IsNumbered later) (is_later : IsLater h later) (low : mark ≤ h.changes) (above : IsAbove to (unchanged_after h mark)) where
  abbrev AtLeast : List ℕ → StampedWrite → Type 0
  AtLeast name v = IsSomeAnd (finmap.get to name) (λ w. write_cmp v w ≢ Greater)

  same_there : (name : List ℕ) → IsPast later mark name → IfSome (finmap.get later.entries name) (AtLeast name)
  same_there name past =
      let stays = λ (q : List ℕ). not (is_above h mark q) in
      let unchanged = unchanged_by (finmap.get h.entries name) (finmap.get h.latest name) mark (old.each name) (is_later.past name mark low past) in
      let here = finmap.get-retain_keys h.entries stays name (same_told stays name) ∙ ap (λ b. cond (not b) (finmap.get h.entries name) None) unchanged in
      subst (λ o. IfSome o (AtLeast name)) (here ∙ sym (is_later.same name (past_more later mark h.changes name low past))) (above name)

  still_by : (name : List ℕ) (b : Bool) → is_above later mark name ≡ b → IfSome (cond (not b) (finmap.get later.entries name) None) (AtLeast name)
  still_by name true is = tt
  still_by name false is = same_there name (past_by (finmap.get later.entries name) (finmap.get later.latest name) mark later.changes (new.each name) (new.counted name) is)

  -- what changed since has a number above the mark, and the rest is as it was
  still_above : IsAbove to (unchanged_after later mark)
  still_above name =
      let stays = λ (q : List ℕ). not (is_above later mark q) in
      subst (λ o. IfSome o (AtLeast name)) (sym (finmap.get-retain_keys later.entries stays name (same_told stays name))) (still_by name (is_above later mark name) refl)

-- ---- what events do to catalogues

-- the catalogue stayed, or writes were joined to it
abbrev Grows : Holdings → Holdings → Type 0
Grows h later = (later ≡ h) ⊎ ((ws : List StampedWrite) × (later ≡ joined h ws))

abbrev AllGrow : Store → Store → Type 0
AllGrow s later = (t : TypeName) → Grows (at s t) (at later t)

one_grows_by : (s : Store) (t : TypeName) (ws : List StampedWrite) (u : TypeName) → ((u ≡ t) × (is_same_type u t ≡ true)) ⊎ ((u ≢ t) × (is_same_type u t ≡ false)) → Grows (at s u) (at (with_at s t (joined (at s t) ws)) u)
one_grows_by s t ws u (inl same) = inr (ws, subst (λ v. at (with_at s t (joined (at s t) ws)) v ≡ joined (at s v) ws) (sym same.0) (at-with_at s t (joined (at s t) ws)))
one_grows_by s t ws u (inr other) = inl (at-with_at_other s t (joined (at s t) ws) u other.0)

one_grows : (s : Store) (t : TypeName) (ws : List StampedWrite) → AllGrow s (with_at s t (joined (at s t) ws))
one_grows s t ws u = one_grows_by s t ws u (same_type u t)

all_stay : (s later : Store) → later ≡ s → AllGrow s later
all_stay s later same t = inl (ap (λ (k : Store). at k t) same)

done_grows : (c : Core) (reply : ℕ → Reply) (r : Result (ℕ × Store) Refusal) → ((q : ℕ × Store) → r ≡ Ok q → AllGrow c.store q.1) → AllGrow c.store (left_by c (if_done (λ p. (reply p.0, record c { store = p.1 })) r)).store
done_grows c reply (Ok q) grows = grows q refl
done_grows c reply (Err e) grows = λ t. inl refl

others_stay : (c : Core) (e : Event) → is_write e ≡ false → AllGrow c.store (after c e).store
others_stay c e other = all_stay c.store (after c e).store (only_writes_change_the_store c e other)

all_grow : (c : Core) (e : Event) → AllGrow c.store (after c e).store
all_grow c Open = others_stay c Open refl
all_grow c (Request n m) = others_stay c (Request n m) refl
all_grow c (Poll n which) = others_stay c (Poll n which) refl
all_grow c (Owes n which) = others_stay c (Owes n which) refl
all_grow c (Close n) = others_stay c (Close n) refl
all_grow c (Put t r groups) =
    done_grows c (λ n. Written n c.replica) (putting_at c.store t r groups c.replica)
    (λ q is. subst (AllGrow c.store) (sym (put_is c.store t r groups c.replica q is).1) (one_grows c.store t (written (next_counter (at c.store t)) c.replica r groups ∷ [])))
all_grow c (Delete t name) =
    done_grows c (λ n. Written n c.replica) (deleting_at c.store t name c.replica)
    (λ q is. subst (AllGrow c.store) (sym (delete_is c.store t name c.replica q is).1) (one_grows c.store t (deleted (next_counter (at c.store t)) c.replica name ∷ [])))
all_grow c (Merge b) =
    done_grows c Merged (merging c.store b)
    (λ q is. subst (AllGrow c.store) (sym (ap (λ (x : ℕ × Store). x.1) (unless_once (is_spent c.store b) CounterSpent (grown c.store b, merged c.store b) q is))) (λ t. inr (at b t, at-merged c.store b t)))
all_grow c Snapshot = others_stay c Snapshot refl
all_grow c (Rest t names version cluster) = others_stay c (Rest t names version cluster) refl
all_grow c (Since marks) = others_stay c (Since marks) refl

-- ---- the laws

kept_by : (h later : Holdings) → Grows h later → IsCatalogue h.entries × IsNumbered h → IsCatalogue later.entries × IsNumbered later
kept_by h later (inl same) kept = subst (λ (k : Holdings). IsCatalogue k.entries × IsNumbered k) (sym same) kept
kept_by h later (inr more) kept =
    subst (λ (k : Holdings). IsCatalogue k.entries × IsNumbered k) (sym more.1) (catalogue_of-IsCatalogue (finmap.values h.entries ++ more.0), entries_are_numbered h more.0 kept.0 kept.1)

later_by : (h later : Holdings) → Grows h later → IsCatalogue h.entries → IsLater h later
later_by h later (inl same) named = subst (IsLater h) (sym same) (later_itself h)
later_by h later (inr more) named = subst (IsLater h) (sym more.1) (joined_is_later h more.0 named)

above_by : (h later : Holdings) (n : Entries) → Grows h later → IsCatalogue h.entries → IsAbove h.entries n → IsAbove later.entries n
above_by h later n (inl same) named above = subst (λ (k : Holdings). IsAbove k.entries n) (sym same) above
above_by h later n (inr more) named above = subst (λ (k : Holdings). IsAbove k.entries n) (sym more.1) (above_joined h more.0 n named above)

pub events_keep : EventsKeepCatalogues
events_keep c e kept t = kept_by (at c.store t) (at (after c e).store t) (all_grow c e t) (kept t)

not_above : (m a b : ℕ) → m ≤ a → a ≤ b → m ≤ b
not_above m a b low grows = omega arith

-- rule: marks
pub tellers_write : TellersMayWrite
tellers_write c e marks to kept taken knows =
    let later = λ (t : TypeName). later_by (at c.store t) (at (after c e).store t) (all_grow c e t) (kept t).0 in (
      λ t. still_above (at c.store t) (at (after c e).store t) (at marks t) (at to t).entries (kept t).1 (events_keep c e kept t).1 (later t) (taken t) (knows t),
      λ t. not_above (at marks t) (at c.store t).changes (at (after c e).store t).changes (taken t) (later t).grows,
    )

-- rule: marks
pub hearers_write : HearersMayWrite
hearers_write c e marks from kept knows t = above_by (at c.store t) (at (after c e).store t) (unchanged_after (at from t) (at marks t)) (all_grow c e t) (kept t).0 (knows t)

same_is_low : (m n : ℕ) → m ≡ n → m ≤ n
same_is_low m n is = omega (arith, is)

zero_is_low : (m n : ℕ) → m ≡ 0 → m ≤ n
zero_is_low m n is = omega (arith, is)

-- rule: marks
pub marks_taken : MarksAreTaken
marks_taken s = (λ t. same_is_low (at (marks_of s) t) (at s t).changes (at-per_type (λ u. (at s u).changes) t), λ t. zero_is_low (at (each 0) t) (at s t).changes (at-each 0 t))

-- the marks that a round leaves
pub left_taken : {X : Type 0} (from : Store) (marks : PerType ℕ) (r : Result X Refusal) → IfOk r (λ x. marks ≡ marks_of from) → OnErr r (marks ≡ each 0) → AreTaken from marks
left_taken from marks (Ok x) is lost = subst (AreTaken from) (sym is) (marks_taken from).0
left_taken from marks (Err e) is lost = subst (AreTaken from) (sym lost) (marks_taken from).1
