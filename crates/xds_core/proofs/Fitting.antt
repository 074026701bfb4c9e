-- That the lists of all streams suffice, whatever happens to one of them or to what is held; and the streams without their lists.
use Rattle.std.proofs.Common.{◌≡◌, ◌≢◌, ◌⊎◌, inl, inr, ℕ, ◌+◌, List, ◌∷◌, [], map, Bool, true, false, cond, Option, Some, None, Result, Ok, Err, refl, sym, ap, subst, ◌∙◌}
use Rattle.std.specs.Option.{option_map, option_map_or}
use Rattle.std.specs.Ordering.{nat_cmp, eq_by_cmp}
use Rattle.std.specs.Cmp.{nat_cmp_total}
use Rattle.std.specs.FinMap as finmap
use Rattle.std.specs.FinMap.{FinMap, nat_cmp-IsAntisymmetric}
use Rattle.xds_resource.specs.declared.types.TypeName.{TypeName}
use Rattle.xds_resource.specs.declared.types.TypeName.TheVariants.{Cluster, Endpoint, Listener, Route, Secret}
use Rattle.xds_resource.specs.PerType.{at, with_at, each}
use Rattle.xds_resource.specs.Resources.{NamedBody, written, deleted}
use Rattle.xds_resource.specs.Types.{is_same_type}
use Rattle.std.specs.Prelude.{◌==◌, if◌then◌else◌, is_some, IfSome, IfOk, OnOk, OnErr}
use Rattle.xds_resource.specs.declared.refusal.Refusal.{Refusal}
use Rattle.xds_resource.specs.Writes.{StampedWrite, text_cmp}
use Rattle.xds_resource.proofs.TypesApart.{at-with_at, at-with_at_other, at-each, same_type}
use Rattle.xds_resource.proofs.Refusing.{unless_once}
use Rattle.xds_catalogue.specs.Holdings.{Holdings, IsCatalogue, nothing_held}
use Rattle.xds_catalogue.specs.Joins.{joined}
use Rattle.xds_catalogue.specs.Local.{next_counter}
use Rattle.xds_catalogue.proofs.Catalogues.{catalogue_of-IsCatalogue}
use Rattle.xds_catalogue.proofs.Lookups.{get-inserted, get-removed}
use Rattle.xds_ledger.specs.Listed.{IsLater}
use Rattle.xds_ledger.proofs.Later.{later_itself, joined_is_later}
use Rattle.xds_events.specs.Stores.{Store, Batch, merging, putting_at, deleting_at, is_spent, grown, merged, if_done}
use Rattle.xds_resource.specs.declared.refusal.Refusal.TheVariants.{CounterSpent, NoStream}
use Rattle.xds_resource.specs.Stamps.{max_counter}
use Rattle.xds_events.specs.Streams.{Stream, opening}
use Rattle.xds_core.specs.Talks.{Followed, followed_opening, StreamFits, StreamStaysFit}
use Rattle.xds_core.proofs.StreamsFitting.{later_stream_fits, opening_fits}
use Rattle.xds_events.specs.Events.{Open, Close, Reply, Opened, Closed}
use Rattle.xds_events.specs.Steps.{Core, step, fresh, with_stream, stream_step}
use Rattle.xds_core.specs.Lists.{AllFit, streams_of}
use Rattle.xds_core.proofs.StepLaws.{put_is, delete_is}

-- ---- the streams without their lists

seen_entries : (es : List (ℕ × Followed)) (n : ℕ) → finmap.find nat_cmp n (map (λ e. (e.0, e.1.stream)) es) ≡ option_map (λ f. f.stream) (finmap.find nat_cmp n es)
seen_entries [] n = refl
seen_entries (e ∷ es) n = ap (cond (eq_by_cmp nat_cmp n e.0) (Some e.1.stream)) (seen_entries es n) ∙ either (eq_by_cmp nat_cmp n e.0) e.1 (finmap.find nat_cmp n es)
  where
    either : (b : Bool) (f : Followed) (o : Option Followed) → cond b (Some f.stream) (option_map (λ f. f.stream) o) ≡ option_map (λ f. f.stream) (cond b (Some f) o)
    either true f o = refl
    either false f o = refl

pub get-streams_of : (m : FinMap nat_cmp Followed) (n : ℕ) → finmap.get (streams_of m) n ≡ option_map (λ f. f.stream) (finmap.get m n)
get-streams_of m n =
    finmap.get-from_entries nat_cmp_total (map (λ e. (e.0, e.1.stream)) (finmap.entries m)) n ∙ seen_entries (finmap.entries m) n ∙ ap (option_map (λ f. f.stream)) (sym (finmap.get-entries m n))

seen_cond : (b : Bool) (o p : Option Followed) → option_map (λ f. f.stream) (cond b o p) ≡ cond b (option_map (λ f. f.stream) o) (option_map (λ f. f.stream) p)
seen_cond true o p = refl
seen_cond false o p = refl

pub streams_of-insert : (m : FinMap nat_cmp Followed) (n : ℕ) (f : Followed) → streams_of (finmap.insert m n f) ≡ finmap.insert (streams_of m) n f.stream
streams_of-insert m n f =
    finmap.same_map nat_cmp_total nat_cmp-IsAntisymmetric _ _ (λ q. get-streams_of (finmap.insert m n f) q ∙ ap (option_map (λ f. f.stream)) (finmap.get-insert nat_cmp_total m n f q)
    ∙ seen_cond (eq_by_cmp nat_cmp q n) (Some f) (finmap.get m q) ∙ ap (cond (eq_by_cmp nat_cmp q n) (Some f.stream)) (sym (get-streams_of m q)) ∙ sym (finmap.get-insert nat_cmp_total (streams_of m) n f.stream q))

pub streams_of-remove : (m : FinMap nat_cmp Followed) (n : ℕ) → streams_of (finmap.remove m n) ≡ finmap.remove (streams_of m) n
streams_of-remove m n =
    finmap.same_map nat_cmp_total nat_cmp-IsAntisymmetric _ _ (λ q. get-streams_of (finmap.remove m n) q ∙ ap (option_map (λ f. f.stream)) (finmap.get-remove nat_cmp_total m n q)
    ∙ seen_cond (eq_by_cmp nat_cmp q n) None (finmap.get m q) ∙ ap (cond (eq_by_cmp nat_cmp q n) None) (sym (get-streams_of m q)) ∙ sym (finmap.get-remove nat_cmp_total (streams_of m) n q))

pub streams_of-empty : streams_of finmap.empty ≡ finmap.empty
streams_of-empty =
    finmap.same_map nat_cmp_total nat_cmp-IsAntisymmetric _ _ (λ q. get-streams_of finmap.empty q ∙ ap (option_map (λ f. f.stream)) (finmap.get-empty nat_cmp q) ∙ sym (finmap.get-empty nat_cmp q))

-- ---- one stream

some_is : (f g : Followed) → Some f ≡ Some g → g ≡ f
some_is f g is = cc

pub insert_fits : (store : Store) (m : FinMap nat_cmp Followed) (n : ℕ) (f : Followed) → StreamFits store f → AllFit store m → AllFit store (finmap.insert m n f)
insert_fits store m n f fits all = record {
  named = all.named;
  fits = λ q g has. elim (get-inserted nat_cmp_total nat_cmp-IsAntisymmetric m n f q) [
    | inl (here, is) ↦ subst (StreamFits store) (sym (some_is f g (sym is ∙ has))) fits
    | inr (other, is) ↦ all.fits q g (sym is ∙ has)
  ];
}

none_is : (g : Followed) → None ≡ Some g → ⊥
none_is g is = cc

pub remove_fits : (store : Store) (m : FinMap nat_cmp Followed) (n : ℕ) → AllFit store m → AllFit store (finmap.remove m n)
remove_fits store m n all = record {
  named = all.named;
  fits = λ q g has. elim (get-removed nat_cmp_total nat_cmp-IsAntisymmetric m n q) [
    | inl (here, is) ↦ absurd (none_is g (sym is ∙ has))
    | inr (other, is) ↦ all.fits q g (sym is ∙ has)
  ];
}

pub nothing_named : IsCatalogue nothing_held.entries
nothing_named name = subst (λ o. IfSome o (λ w. w.name ≡ name)) (sym (finmap.get-empty text_cmp name)) tt

each_named : (t : TypeName) → IsCatalogue (at (each nothing_held) t).entries
each_named t = subst (λ (h : Holdings). IsCatalogue h.entries) (sym (at-each nothing_held t)) nothing_named

pub fresh_fits : AllFit (each nothing_held) finmap.empty
fresh_fits = record { named = each_named; fits = λ n f has. absurd (none_is f (sym (finmap.get-empty nat_cmp n) ∙ has)) }

-- ---- what is held

-- the store came after another, and each of its writes stands under its own name
pub record IsLaterStore (store after : Store) : Type 0 where
  pub named : (t : TypeName) → IsCatalogue (at after t).entries
  pub later : (t : TypeName) → IsLater (at store t) (at after t)

pub later_fits : (store later : Store) (m : FinMap nat_cmp Followed) → IsLaterStore store later → AllFit store m → AllFit later m
later_fits store later m is all = record { named = is.named; fits = λ n f has. later_stream_fits store later f is.later (all.fits n f has) }

joined_by : (store : Store) (t : TypeName) (ws : List StampedWrite) (s : TypeName) → ((u : TypeName) → IsCatalogue (at store u).entries) → ((s ≡ t) × (is_same_type s t ≡ true)) ⊎ ((s ≢ t) × (is_same_type s t ≡ false))
    → IsCatalogue (at (with_at store t (joined (at store t) ws)) s).entries × IsLater (at store s) (at (with_at store t (joined (at store t) ws)) s)
joined_by store t ws s named (inl same) =
    subst (λ u. IsCatalogue (at (with_at store t (joined (at store t) ws)) u).entries × IsLater (at store u) (at (with_at store t (joined (at store t) ws)) u)) (sym same.0)
    (subst (λ (h : Holdings). IsCatalogue h.entries × IsLater (at store t) h) (sym (at-with_at store t (joined (at store t) ws))) (catalogue_of-IsCatalogue _, joined_is_later (at store t) ws (named t)))
joined_by store t ws s named (inr other) =
    subst (λ (h : Holdings). IsCatalogue h.entries × IsLater (at store s) h) (sym (at-with_at_other store t (joined (at store t) ws) s other.0)) (named s, later_itself (at store s))

joined_at : (store : Store) (t : TypeName) (ws : List StampedWrite) → ((u : TypeName) → IsCatalogue (at store u).entries) → IsLaterStore store (with_at store t (joined (at store t) ws))
joined_at store t ws named = record { named = λ s. (joined_by store t ws s named (same_type s t)).0; later = λ s. (joined_by store t ws s named (same_type s t)).1 }

pub put_later : (store : Store) (t : TypeName) (r : NamedBody) (groups : List (List ℕ)) (writer : ℕ) (q : ℕ × Store) → putting_at store t r groups writer ≡ Ok q → ((u : TypeName) → IsCatalogue (at store u).entries) → IsLaterStore store q.1
put_later store t r groups writer q is named =
    subst (IsLaterStore store) (sym (put_is store t r groups writer q is).1) (joined_at store t (written (next_counter (at store t)) writer r groups ∷ []) named)

pub delete_later : (store : Store) (t : TypeName) (name : List ℕ) (writer : ℕ) (q : ℕ × Store) → deleting_at store t name writer ≡ Ok q → ((u : TypeName) → IsCatalogue (at store u).entries) → IsLaterStore store q.1
delete_later store t name writer q is named =
    subst (IsLaterStore store) (sym (delete_is store t name writer q is).1) (joined_at store t (deleted (next_counter (at store t)) writer name ∷ []) named)

merged_named : (store : Store) (b : Batch) (t : TypeName) → IsCatalogue (at (merged store b) t).entries
merged_named store b Cluster = catalogue_of-IsCatalogue _
merged_named store b Endpoint = catalogue_of-IsCatalogue _
merged_named store b Listener = catalogue_of-IsCatalogue _
merged_named store b Route = catalogue_of-IsCatalogue _
merged_named store b Secret = catalogue_of-IsCatalogue _

merged_later : (store : Store) (b : Batch) (t : TypeName) → ((u : TypeName) → IsCatalogue (at store u).entries) → IsLater (at store t) (at (merged store b) t)
merged_later store b Cluster named = joined_is_later store.cluster b.cluster (named Cluster)
merged_later store b Endpoint named = joined_is_later store.endpoint b.endpoint (named Endpoint)
merged_later store b Listener named = joined_is_later store.listener b.listener (named Listener)
merged_later store b Route named = joined_is_later store.route b.route (named Route)
merged_later store b Secret named = joined_is_later store.secret b.secret (named Secret)

pub merge_later : (store : Store) (b : Batch) (q : ℕ × Store) → merging store b ≡ Ok q → ((u : TypeName) → IsCatalogue (at store u).entries) → IsLaterStore store q.1
merge_later store b q is named =
    subst (IsLaterStore store) (sym (ap (λ x. x.1) (unless_once (is_spent store b) CounterSpent (grown store b, merged store b) q is)))
    (record { named = merged_named store b; later = λ t. merged_later store b t named })

-- ---- a stream that is taken out and put back

pub has_stream : (m : FinMap nat_cmp Followed) (now : FinMap nat_cmp Stream) (n : ℕ) (o : Option Followed) (f : Followed) → streams_of m ≡ now → o ≡ finmap.get m n → o ≡ Some f → finmap.get now n ≡ Some f.stream
has_stream m now n o f seen was is = ap (λ k. finmap.get k n) (sym seen) ∙ get-streams_of m n ∙ ap (option_map (λ f. f.stream)) (sym was ∙ is)

pub none_there : (m : FinMap nat_cmp Followed) (now : FinMap nat_cmp Stream) (n : ℕ) (o : Option Followed) → streams_of m ≡ now → o ≡ finmap.get m n → o ≡ None → finmap.get now n ≡ None
none_there m now n o seen was is = ap (λ k. finmap.get k n) (sym seen) ∙ get-streams_of m n ∙ ap (option_map (λ f. f.stream)) (sym was ∙ is)

-- what is asked of a stream that isn't open
pub not_open : {X : Type 0} (c : Core) (n : ℕ) (reply : X → Reply) (f : Stream → Result (X × Stream) Refusal) → finmap.get c.streams n ≡ None → stream_step c n reply f ≡ Err NoStream
not_open c n reply f none = ap (λ o. option_map_or (λ s. if_done (λ p. (reply p.0, with_stream c n p.1)) (f s)) o (Err NoStream)) none

pub puts_back : (m mid back : FinMap nat_cmp Followed) (now : FinMap nat_cmp Stream) (n : ℕ) (x left : Followed) → streams_of m ≡ now → mid ≡ finmap.insert m n x → back ≡ finmap.insert mid n left
    → streams_of back ≡ finmap.insert (finmap.insert now n x.stream) n left.stream
puts_back m mid back now n x left seen out put =
    ap streams_of (put ∙ ap (λ k. finmap.insert k n left) out) ∙ streams_of-insert (finmap.insert m n x) n left ∙ ap (λ k. finmap.insert k n left.stream) (streams_of-insert m n x ∙ ap (λ k. finmap.insert k n x.stream) seen)

pub fits_back : (store : Store) (m mid back : FinMap nat_cmp Followed) (n : ℕ) (x left : Followed) → mid ≡ finmap.insert m n x → back ≡ finmap.insert mid n left → StreamFits store x → StreamFits store left → AllFit store m
    → AllFit store back
fits_back store m mid back n x left out put opening fits all =
    subst (AllFit store) (sym (put ∙ ap (λ k. finmap.insert k n left) out)) (insert_fits store (finmap.insert m n x) n left fits (insert_fits store m n x opening all))

-- what a request leaves of a stream, be it taken or not
pub after_request : {X : Type 0} (f left : Followed) (r : Result X Refusal) → OnOk r (StreamStaysFit f left) → OnErr r (left ≡ f) → StreamStaysFit f left
after_request f left (Ok o) stays same = stays
after_request f left (Err e) stays same = λ store fits. subst (StreamFits store) (sym same) fits

pub stream_kept : {X : Type 0} (f left : Followed) (r : Result X Refusal) → OnErr r (left ≡ f) → OnErr r (left.stream ≡ f.stream)
stream_kept f left (Ok o) same = same
stream_kept f left (Err e) same = ap (λ (k : Followed). k.stream) same

-- ---- what the calls of a replica leave

pub new_fits : (held : Store) (m : FinMap nat_cmp Followed) → held ≡ each nothing_held → m ≡ finmap.empty → AllFit held m
new_fits held m holds none = subst (λ (h : Store). AllFit h m) (sym holds) (subst (AllFit (each nothing_held)) (sym none) fresh_fits)

pub opened_fits : (store : Store) (m after : FinMap nat_cmp Followed) (n : ℕ) (x : Followed) → after ≡ finmap.insert m n x → x ≡ followed_opening → AllFit store m → AllFit store after
opened_fits store m after n x put is all = subst (AllFit store) (sym put) (insert_fits store m n x (subst (StreamFits store) (sym is) (opening_fits store)) all)

pub closed_fits : (store : Store) (m after : FinMap nat_cmp Followed) (n : ℕ) → after ≡ finmap.remove m n → AllFit store m → AllFit store after
closed_fits store m after n gone all = subst (AllFit store) (sym gone) (remove_fits store m n all)

pub kept_fits : (store later : Store) (m : FinMap nat_cmp Followed) → later ≡ store → AllFit store m → AllFit later m
kept_fits store later m same all = subst (λ (h : Store). AllFit h m) (sym same) all

pub put_fits : (store later : Store) (m : FinMap nat_cmp Followed) (t : TypeName) (r : NamedBody) (groups : List (List ℕ)) (writer counter : ℕ) → putting_at store t r groups writer ≡ Ok (counter, later) → AllFit store m → AllFit later m
put_fits store later m t r groups writer counter is all = later_fits store later m (put_later store t r groups writer (counter, later) is all.named) all

pub delete_fits : (store later : Store) (m : FinMap nat_cmp Followed) (t : TypeName) (name : List ℕ) (writer counter : ℕ) → deleting_at store t name writer ≡ Ok (counter, later) → AllFit store m → AllFit later m
delete_fits store later m t name writer counter is all = later_fits store later m (delete_later store t name writer (counter, later) is all.named) all

pub merge_fits : (store later : Store) (m : FinMap nat_cmp Followed) (b : Batch) (n : ℕ) → merging store b ≡ Ok (n, later) → AllFit store m → AllFit later m
merge_fits store later m b n is all = later_fits store later m (merge_later store b (n, later) is all.named) all

-- a copy
pub copied_fits : (store held : Store) (m made : FinMap nat_cmp Followed) → held ≡ store → made ≡ m → AllFit store m → AllFit held made
copied_fits store held m made holds is all = kept_fits store held made holds (subst (AllFit store) (sym is) all)

pub copied_as : {X : Type 0} (r : Result X Refusal) (made x : X) → r ≡ Ok made → IfOk r (λ c. c ≡ x) → made ≡ x
copied_as r made x is ok = subst (λ o. IfOk o (λ c. c ≡ x)) is ok

-- ---- what is seen of a stream that is looked at

seen_twice : {X : Type 0} (f : Stream → X) (o : Option Followed) → option_map f (option_map (λ k. k.stream) o) ≡ option_map (λ k. f k.stream) o
seen_twice f None = refl
seen_twice f (Some k) = refl

pub looked : {X : Type 0} (m : FinMap nat_cmp Followed) (now : FinMap nat_cmp Stream) (n : ℕ) (f : Stream → X) (o : Option Followed) → streams_of m ≡ now → o ≡ finmap.get m n → option_map (λ k. f k.stream) o ≡ option_map f (finmap.get now n)
looked m now n f o seen is = ap (option_map (λ k. f k.stream)) is ∙ sym (seen_twice f (finmap.get m n)) ∙ ap (option_map f) (sym (get-streams_of m n)) ∙ ap (λ k. option_map f (finmap.get k n)) seen

-- ---- what a replica is seen as once a stream was opened or closed

pub fresh_seen : (replica : ℕ) (held : Store) (m : FinMap nat_cmp Followed) → held ≡ each nothing_held → m ≡ finmap.empty → ◌≡◌ {A = Core} (record { replica = replica; store = held; opened = 0; streams = streams_of m }) (fresh replica)
fresh_seen replica held m holds none = λ i. record { replica = replica; store = holds i; opened = 0; streams = (ap streams_of none ∙ streams_of-empty) i }

pub opened_step : (k core : Core) (m after : FinMap nat_cmp Followed) (n : ℕ) (x : Followed) → (k.opened == max_counter) ≡ false → streams_of m ≡ k.streams → n ≡ k.opened + 1 → after ≡ finmap.insert m n x → x ≡ followed_opening
    → core ≡ record { replica = k.replica; store = k.store; opened = n; streams = streams_of after } → step k Open ≡ Ok (Opened n, core)
opened_step k core m after n x unspent seen next put is left =
    let streams : streams_of after ≡ finmap.insert k.streams n opening = ap streams_of put ∙ streams_of-insert m n x ∙ (λ i. finmap.insert (seen i) n (is i).stream) in
    (λ i. if unspent i then Err CounterSpent else Ok (Opened (k.opened + 1), record k { opened = k.opened + 1; streams = finmap.insert k.streams (k.opened + 1) opening }))
    ∙ (λ i. Ok (Opened (sym next i), record k { opened = sym next i; streams = finmap.insert k.streams (sym next i) opening }))
    ∙ (λ i. Ok (Opened n, record { replica = k.replica; store = k.store; opened = n; streams = sym streams i })) ∙ (λ i. Ok (Opened n, sym left i))

there_by : {X Y : Type 0} (y z : Y) (o : Option X) → is_some o ≡ true → option_map_or (λ _. y) o z ≡ y
there_by y z None is = let never : false ≡ true = is in absurd cc
there_by y z (Some x) is = refl

seen_there : (o : Option Followed) → is_some (option_map (λ f. f.stream) o) ≡ is_some o
seen_there None = refl
seen_there (Some f) = refl

pub closed_step : (k core : Core) (m after : FinMap nat_cmp Followed) (n : ℕ) → streams_of m ≡ k.streams → after ≡ finmap.remove m n → is_some (finmap.get m n) ≡ true → core ≡ record k { streams = streams_of after } → step k (Close n) ≡ Ok (Closed, core)
closed_step k core m after n seen gone there left =
    let open_there : is_some (finmap.get k.streams n) ≡ true = ap (λ s. is_some (finmap.get s n)) (sym seen) ∙ ap is_some (get-streams_of m n) ∙ seen_there (finmap.get m n) ∙ there in
    let streams : streams_of after ≡ finmap.remove k.streams n = ap streams_of gone ∙ streams_of-remove m n ∙ ap (λ s. finmap.remove s n) seen in
    there_by (Ok (Closed, record k { streams = finmap.remove k.streams n })) (Err NoStream) (finmap.get k.streams n) open_there
    ∙ (λ i. Ok (Closed, record k { streams = sym streams i })) ∙ (λ i. Ok (Closed, sym left i))

absent_by : {X Y : Type 0} (f : X → Y) (z : Y) (o : Option X) → is_some o ≡ false → option_map_or f o z ≡ z
absent_by f z None is = refl
absent_by f z (Some x) is = let never : true ≡ false = is in absurd cc

pub no_stream_step : (k : Core) (m : FinMap nat_cmp Followed) (n : ℕ) → streams_of m ≡ k.streams → is_some (finmap.get m n) ≡ false → step k (Close n) ≡ Err NoStream
no_stream_step k m n seen gone =
    absent_by (λ (s : Stream). Ok (Closed, record k { streams = finmap.remove k.streams n })) (Err NoStream) (finmap.get k.streams n)
    (ap (λ s. is_some (finmap.get s n)) (sym seen) ∙ ap is_some (get-streams_of m n) ∙ seen_there (finmap.get m n) ∙ gone)
