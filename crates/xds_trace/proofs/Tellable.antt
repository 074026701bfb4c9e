-- That every record of a replica can be told in a trace: what it sent are resources of their types, and what it deleted has a name that a
-- resource may have.
use Rattle.std.proofs.Common.{◌≡◌, ◌≢◌, ◌⊎◌, inl, inr, ℕ, List, [], ◌∷◌, ◌++◌, map, reverse, Bool, true, false, ◌||◌, Option, Some, None, Ok, Err, refl, sym, ap, subst, ◌∙◌}
use Rattle.std.specs.Prelude.{if◌then◌else◌, not, bytes_eq, IfSome, IfOk, All, ⊤}
use Rattle.std.specs.List.{flat_map, list_any}
use Rattle.std.specs.Option.{option_map_or, option_and_then}
use Rattle.std.specs.FinMap as finmap
use Rattle.std.proofs.lemmas.List.Elements.{All-nil, All-cons, All-head, All-tail, All-append}
use Rattle.xds_resource.specs.declared.types.TypeName.{TypeName}
use Rattle.xds_resource.specs.declared.types.TypeName.TheVariants.{Cluster, Endpoint, Listener, Route, Secret}
use Rattle.xds_resource.specs.declared.any.AnyWrite.{AnyWrite}
use Rattle.xds_resource.specs.declared.refusal.Refusal.{Refusal}
use Rattle.xds_resource.specs.declared.refusal.Refusal.TheVariants.{NotFound}
use Rattle.xds_resource.specs.Any.{write_type, stamped_write}
use Rattle.xds_resource.specs.PerType.{at, with_at}
use Rattle.xds_resource.specs.Refusals.{unless_refused}
use Rattle.xds_resource.specs.Resources.{NamedBody, IsCanonical, IsWritable, is_valid_name, written, deleted}
use Rattle.xds_resource.specs.Types.{types, is_same_type}
use Rattle.xds_resource.specs.Writes.{StampedWrite}
use Rattle.xds_resource.proofs.NameMaps.{bytes_eq_tells}
use Rattle.xds_resource.proofs.Naming.{canonical-valid}
use Rattle.xds_resource.proofs.TypesApart.{same_type}
use Rattle.xds_interest.proofs.Choices.{and_first}
use Rattle.xds_catalogue.specs.Content.{is_live, if_live}
use Rattle.xds_catalogue.specs.Joins.{joined}
use Rattle.xds_catalogue.specs.Local.{has_live, deleting, next_counter, spent_conditions}
use Rattle.xds_message.specs.declared.draft.Draft.{Draft}
use Rattle.xds_message.specs.declared.draft.Draft.TheVariants as drafts
use Rattle.xds_core.specs.Stores.{Batch, Store, deleting_at}
use Rattle.xds_core.specs.Events.{Event, Open, Request, Poll, Owes, Close, Put, Delete, Merge, Snapshot, Rest, Since, Reply, Opened, Answered, Polled, Owed, Closed, Written, Merged, Entries, Rested, Changed}
use Rattle.xds_core.specs.Steps.{Core, Step, step, fresh}
use Rattle.xds_core.specs.Legal.{Record, IsLegal, after, answer_of, left_by}
use Rattle.xds_core.proofs.StepLaws.{done_with}
use Rattle.xds_check.specs.declared.line.Line.{Line}
use Rattle.xds_check.specs.declared.line.Line.TheVariants as lines
use Rattle.xds_check.specs.declared.rule.Rule.TheVariants.{BestResources}
use Rattle.xds_check.specs.Answers.{Statement}
use Rattle.xds_check.specs.Lines.{write_at, writes_in, standing}
use Rattle.xds_check.specs.Rules.{is_label_of, is_put_by, is_best, KeepsRules, AllKeep}
use Rattle.xds_trace.specs.Making.{IsSound, own_names, statement_of, labelled_of, answer_of as told_answer, write_line, open_lines, put_lines, delete_lines, sent_lines, response_lines, idle_lines, answered_lines, lines_by}
use Rattle.xds_trace.specs.Telling.{IsResource, HoldsResources, IsToldDeletion, IsToldResponse, IsToldAnswer, IsToldBy, IsTold, IsSoundRecord, EveryRecordIsTold}
use Rattle.xds_trace.proofs.Writes.{held_is, held_catalogue, best_one}
use Rattle.xds_trace.proofs.Following.{Keeps, keeps_fresh}
use Rattle.xds_trace.proofs.Keeping.{event_made}
use Rattle.xds_trace.proofs.Named.{well_named}
use Rattle.xds_trace.proofs.Tracing.{behind}
use Rattle.xds_trace.proofs.AnyBase.{canonical_resource, body_tellable}

-- ---- writes that could be read

-- the name may be a resource's, and the body, if there is one, is the text of a resource of the type
abbrev IsWell : TypeName → StampedWrite → Type 0
IsWell t w = (is_valid_name w.name ≡ true) × IfSome w.body (IsResource t)

abbrev IsWellLine : Line → Type 0
IsWellLine (lines.Write w) = IsWell (write_type w) (stamped_write w)
IsWellLine (lines.Open s) = ⊤
IsWellLine (lines.Close s) = ⊤
IsWellLine (lines.Request s m) = ⊤
IsWellLine (lines.Response s a) = ⊤
IsWellLine (lines.Idle s t) = ⊤

abbrev AllWell : List Line → Type 0
AllWell [] = ⊤
AllWell (l ∷ ls) = IsWellLine l × AllWell ls

canonical_well : (t : TypeName) (r : NamedBody) → IsCanonical t r → (is_valid_name r.name ≡ true) × IsResource t r.body
canonical_well t r canonical = (canonical-valid t r canonical, canonical_resource t r canonical)

writable_well : (t : TypeName) (w : StampedWrite) → IsWritable t w → IsWell t w
writable_well t w writable = (writable.named, body_tellable t w.name w.body writable.body)

line_well : (t : TypeName) (w : StampedWrite) → IsWell t w → IsWellLine (write_line t w)
line_well Cluster w well = well
line_well Endpoint w well = well
line_well Listener w well = well
line_well Route w well = well
line_well Secret w well = well

writes_well : (t : TypeName) (ws : List StampedWrite) → All (IsWritable t) ws → AllWell (map (write_line t) ws)
writes_well t [] all = tt
writes_well t (w ∷ ws) all = (line_well t w (writable_well t w (All-head (IsWritable t) w ws all)), writes_well t ws (All-tail (IsWritable t) w ws all))

well_both : (xs ys : List Line) → AllWell xs → AllWell ys → AllWell (xs ++ ys)
well_both [] ys a b = b
well_both (x ∷ xs) ys a b = (a.0, well_both xs ys a.1 b)

types_well : (b : Batch) (ts : List TypeName) → ((t : TypeName) → All (IsWritable t) (at b t)) → AllWell (flat_map (λ t. map (write_line t) (at b t)) ts)
types_well b [] sound = tt
types_well b (t ∷ ts) sound =
    well_both (map (write_line t) (at b t)) (flat_map (λ u. map (write_line u) (at b u)) ts) (writes_well t (at b t) (sound t)) (types_well b ts sound)

well_behind : (xs ls : List Line) → AllWell xs → AllWell ls → AllWell (reverse xs ++ ls)
well_behind [] ls a b = b
well_behind (x ∷ xs) ls a b = subst AllWell (behind (x ∷ []) xs ls) (well_behind xs (x ∷ ls) a.1 (a.0, b))

-- ---- what stands of a name

picked_well : (t : TypeName) (w : AnyWrite) → ((write_type w ≡ t) × (is_same_type (write_type w) t ≡ true)) ⊎ ((write_type w ≢ t) × (is_same_type (write_type w) t ≡ false)) → IsWell (write_type w) (stamped_write w)
    → All (IsWell t) (if is_same_type (write_type w) t then stamped_write w ∷ [] else [])
picked_well t w (inl same) well =
    subst (λ b. All (IsWell t) (if b then stamped_write w ∷ [] else [])) (sym same.1)
    (All-cons (IsWell t) (stamped_write w) [] (subst (λ u. IsWell u (stamped_write w)) same.0 well) (All-nil (IsWell t)))
picked_well t w (inr other) well = subst (λ b. All (IsWell t) (if b then stamped_write w ∷ [] else [])) (sym other.1) (All-nil (IsWell t))

one_well : (t : TypeName) (l : Line) → IsWellLine l → All (IsWell t) (write_at t l)
one_well t (lines.Write w) well = picked_well t w (same_type (write_type w) t) well
one_well t (lines.Open s) well = All-nil (IsWell t)
one_well t (lines.Close s) well = All-nil (IsWell t)
one_well t (lines.Request s m) well = All-nil (IsWell t)
one_well t (lines.Response s a) well = All-nil (IsWell t)
one_well t (lines.Idle s u) well = All-nil (IsWell t)

lines_well : (t : TypeName) (ls : List Line) → AllWell ls → All (IsWell t) (writes_in t ls)
lines_well t [] well = All-nil (IsWell t)
lines_well t (l ∷ ls) well = All-append (IsWell t) (write_at t l) (writes_in t ls) (one_well t l well.0) (lines_well t ls well.1)

standing_well : (t : TypeName) (ls : List Line) (q : List ℕ) → AllWell ls → IfSome (standing t ls q) (IsWell t)
standing_well t ls q well = best_one (IsWell t) (writes_in t ls) q (lines_well t ls well)

-- ---- what was sent

same_resource : (t : TypeName) (x : Statement) (o : Option (List ℕ)) → IfSome o (IsResource t) → option_map_or (bytes_eq x.body) o false ≡ true → IsResource t x.body
same_resource t x None well is = absurd cc
same_resource t x (Some b) well is = subst (IsResource t) (sym (bytes_eq_tells x.body b is)) well

put_resource : (t : TypeName) (x : Statement) (w : StampedWrite) → IsWell t w → is_put_by x w ≡ true → IsResource t x.body
put_resource t x w well is =
    same_resource t x w.body well.1 (and_first (option_map_or (bytes_eq x.body) w.body false) (option_map_or (is_label_of w) x.label true) is)

live_resource : (t : TypeName) (x : Statement) (w : StampedWrite) (live : Bool) → IsWell t w → option_map_or (is_put_by x) (if live then Some w else None) false ≡ true → IsResource t x.body
live_resource t x w true well is = put_resource t x w well is
live_resource t x w false well is = absurd cc

best_resource : (t : TypeName) (x : Statement) (o : Option StampedWrite) → IfSome o (IsWell t) → option_map_or (is_put_by x) (option_and_then if_live o) false ≡ true → IsResource t x.body
best_resource t x None well is = absurd cc
best_resource t x (Some w) well is = live_resource t x w (is_live w) well is

unless_other : (t : TypeName) (ls : List Line) (x : Statement) (best : Bool) → is_best t ls x ≡ best → AllWell ls → ¬ (not best ≡ true) → IsResource t x.body
unless_other t ls x true is well none = best_resource t x (standing t ls x.name) (standing_well t ls x.name well) is
unless_other t ls x false is well none = absurd (none refl)

neither : (a b : Bool) → ¬ ((a || b) ≡ true) → (¬ (a ≡ true)) × (¬ (b ≡ true))
neither true b none = absurd (none refl)
neither false b none = ((λ e. cc), none)

resources_of : {Y : Type 0} (t : TypeName) (ls : List Line) (stated : Y → Statement) (ys : List Y) → AllWell ls → ¬ (list_any (λ x. not (is_best t ls x)) (map stated ys) ≡ true) → All (λ y. IsResource t (stated y).body) ys
resources_of t ls stated [] well none = All-nil (λ y. IsResource t (stated y).body)
resources_of t ls stated (y ∷ ys) well none =
    let both = neither (not (is_best t ls (stated y))) (list_any (λ x. not (is_best t ls x)) (map stated ys)) none in
    All-cons (λ z. IsResource t (stated z).body) y ys (unless_other t ls (stated y) (is_best t ls (stated y)) refl well both.0) (resources_of t ls stated ys well both.1)

draft_holds : (ls : List Line) (n : ℕ) (d : Draft) → AllWell ls → KeepsRules ls (lines.Response n (told_answer own_names d)) → HoldsResources d
draft_holds ls n (drafts.Sotw d) well keeps = resources_of d.kind ls (statement_of own_names d.kind) d.bodies well (keeps BestResources)
draft_holds ls n (drafts.Delta d) well keeps = resources_of d.kind ls (labelled_of own_names d.kind) d.resources well (keeps BestResources)

response_told : (ls : List Line) (n : ℕ) (reply : Reply) → AllWell ls → AllKeep (reverse (response_lines own_names n reply) ++ ls) → IsToldResponse reply
response_told ls n (Opened k) well all = tt
response_told ls n (Answered o) well all = tt
response_told ls n (Polled None) well all = tt
response_told ls n (Polled (Some d)) well all = draft_holds ls n d well all.0
response_told ls n (Owed b) well all = tt
response_told ls n Closed well all = tt
response_told ls n (Written counter writer) well all = tt
response_told ls n (Merged k) well all = tt
response_told ls n (Entries b) well all = tt
response_told ls n (Rested sent) well all = tt
response_told ls n (Changed b marks) well all = tt

-- ---- what was deleted

live_there : {X : Type 0} (live : Bool) (cs : List (Bool × Refusal)) (x y : X) → unless_refused ((not live, NotFound) ∷ cs) x ≡ Ok y → live ≡ true
live_there true cs x y is = refl
live_there false cs x y is = absurd cc

live_valid : (name : List ℕ) (t : TypeName) (o : Option StampedWrite) → option_map_or is_live o false ≡ true → IfSome o (λ w. w.name ≡ name) → IfSome o (IsWell t) → is_valid_name name ≡ true
live_valid name t None is same well = absurd cc
live_valid name t (Some w) is same well = ap is_valid_name (sym same) ∙ well.0

module _ (c : Core) (ls : List Line) (keeps : Keeps own_names c ls) (well : AllWell ls) where
  deletion_told : (t : TypeName) (name : List ℕ) (q : Reply × Core) → step c (Delete t name) ≡ Ok q → IsToldDeletion name q.0
  deletion_told t name q is =
      let made = done_with (λ (p : ℕ × Store). (Written p.0 c.replica, record c { store = p.1 })) (deleting_at c.store t name c.replica) q is in
      let inner = done_with (λ x. (x.0, with_at c.store t x.1)) (deleting (at c.store t) name c.replica) made.0 made.1 in
      let live = live_there (has_live (at c.store t).entries name) (spent_conditions (at c.store t))
      (next_counter (at c.store t), joined (at c.store t) (deleted (next_counter (at c.store t)) c.replica name ∷ [])) inner.0 inner.1 in
      let found = subst (λ o. IfSome o (IsWell t)) (sym (held_is keeps.holds t name)) (standing_well t ls name well) in
      let valid : is_valid_name name ≡ true = live_valid name t (finmap.get (at c.store t).entries name) live (held_catalogue keeps.holds t name) found in
      subst (λ (p : Reply × Core). IsToldDeletion name p.0) (sym made.2) valid

-- ---- events

opened_well : (reply : Reply) → AllWell (open_lines reply)
opened_well (Opened k) = (tt, tt)
opened_well (Answered o) = tt
opened_well (Polled sent) = tt
opened_well (Owed b) = tt
opened_well Closed = tt
opened_well (Written counter writer) = tt
opened_well (Merged k) = tt
opened_well (Entries b) = tt
opened_well (Rested sent) = tt
opened_well (Changed b marks) = tt

put_well : (t : TypeName) (r : NamedBody) (groups : List (List ℕ)) (reply : Reply) → IsCanonical t r → AllWell (put_lines t r groups reply)
put_well t r groups (Opened k) canonical = tt
put_well t r groups (Answered o) canonical = tt
put_well t r groups (Polled sent) canonical = tt
put_well t r groups (Owed b) canonical = tt
put_well t r groups Closed canonical = tt
put_well t r groups (Written counter writer) canonical = (line_well t (written counter writer r groups) (canonical_well t r canonical), tt)
put_well t r groups (Merged k) canonical = tt
put_well t r groups (Entries b) canonical = tt
put_well t r groups (Rested sent) canonical = tt
put_well t r groups (Changed b marks) canonical = tt

deleted_well : (t : TypeName) (name : List ℕ) (reply : Reply) → IsToldDeletion name reply → AllWell (delete_lines t name reply)
deleted_well t name (Opened k) told = tt
deleted_well t name (Answered o) told = tt
deleted_well t name (Polled sent) told = tt
deleted_well t name (Owed b) told = tt
deleted_well t name Closed told = tt
deleted_well t name (Written counter writer) told = (line_well t (deleted counter writer name) (told, tt), tt)
deleted_well t name (Merged k) told = tt
deleted_well t name (Entries b) told = tt
deleted_well t name (Rested sent) told = tt
deleted_well t name (Changed b marks) told = tt

sent_well : (n : ℕ) (sent : Option Draft) → AllWell (sent_lines own_names n sent)
sent_well n None = tt
sent_well n (Some d) = (tt, tt)

response_well : (n : ℕ) (reply : Reply) → AllWell (response_lines own_names n reply)
response_well n (Opened k) = tt
response_well n (Answered o) = tt
response_well n (Polled sent) = sent_well n sent
response_well n (Owed b) = tt
response_well n Closed = tt
response_well n (Written counter writer) = tt
response_well n (Merged k) = tt
response_well n (Entries b) = tt
response_well n (Rested sent) = tt
response_well n (Changed b marks) = tt

idle_well : (n : ℕ) (which : Option TypeName) (reply : Reply) → AllWell (idle_lines n which reply)
idle_well n None reply = tt
idle_well n (Some t) (Opened k) = tt
idle_well n (Some t) (Answered o) = tt
idle_well n (Some t) (Polled sent) = tt
idle_well n (Some t) (Owed true) = tt
idle_well n (Some t) (Owed false) = (tt, tt)
idle_well n (Some t) Closed = tt
idle_well n (Some t) (Written counter writer) = tt
idle_well n (Some t) (Merged k) = tt
idle_well n (Some t) (Entries b) = tt
idle_well n (Some t) (Rested sent) = tt
idle_well n (Some t) (Changed b marks) = tt

event_well : (e : Event) (reply : Reply) → IsSound e → IsToldAnswer e reply → AllWell (answered_lines own_names e reply)
event_well Open reply sound told = opened_well reply
event_well (Request n m) reply sound told = (tt, tt)
event_well (Poll n which) reply sound told = response_well n reply
event_well (Owes n which) reply sound told = idle_well n which reply
event_well (Close n) reply sound told = (tt, tt)
event_well (Put t r groups) reply sound told = put_well t r groups reply sound
event_well (Delete t name) reply sound told = deleted_well t name reply told
event_well (Merge b) reply sound told = types_well b types sound
event_well Snapshot reply sound told = tt
event_well (Rest t names version cluster) reply sound told = tt
event_well (Since marks) reply sound told = tt

event_told : (c : Core) (ls : List Line) (e : Event) (q : Reply × Core) → Keeps own_names c ls → AllWell ls → AllKeep (reverse (answered_lines own_names e q.0) ++ ls) → step c e ≡ Ok q → IsToldAnswer e q.0
event_told c ls Open q keeps well all is = tt
event_told c ls (Request n m) q keeps well all is = tt
event_told c ls (Poll n which) q keeps well all is = response_told ls n q.0 well all
event_told c ls (Owes n which) q keeps well all is = tt
event_told c ls (Close n) q keeps well all is = tt
event_told c ls (Put t r groups) q keeps well all is = tt
event_told c ls (Delete t name) q keeps well all is = deletion_told c ls keeps well t name q is
event_told c ls (Merge b) q keeps well all is = tt
event_told c ls Snapshot q keeps well all is = tt
event_told c ls (Rest t names version cluster) q keeps well all is = tt
event_told c ls (Since marks) q keeps well all is = tt

-- ---- records

-- the lines so far say what the replica holds, break no rule, and write what could be read
pub record IsTellable (c : Core) (ls : List Line) : Type 0 where
  pub keeps : Keeps own_names c ls
  pub all : AllKeep ls
  pub well : AllWell ls

step_told : (c : Core) (ls : List Line) (e : Event) (s : Step) → IsTellable c ls → IfOk (answer_of s) (λ reply. IsSound e) → step c e ≡ s
    → IsToldBy e (answer_of s) × IsTellable (left_by c s) (reverse (lines_by own_names e (answer_of s)) ++ ls)
step_told c ls e (Ok q) before sound is =
    let made = event_made own_names c ls before.keeps e q (well_named e sound) is in
    let all = made.1 before.all in
    let told = event_told c ls e q before.keeps before.well all is in
    (told, record { keeps = made.0; all = all; well = well_behind (answered_lines own_names e q.0) ls (event_well e q.0 sound told) before.well })
step_told c ls e (Err refusal) before sound is = (tt, before)

records_told : (rs : List Record) (c : Core) (ls : List Line) → IsTellable c ls → IsLegal c rs → All IsSoundRecord rs → All IsTold rs
records_told [] c ls before legal sound = All-nil IsTold
records_told (r ∷ rs) c ls before legal sound =
    let taken = subst (λ a. IfOk a (λ reply. IsSound r.event)) (sym legal.0) (All-head IsSoundRecord r rs sound) in
    let made = step_told c ls r.event (step c r.event) before taken refl in
    let told : IsTold r = subst (IsToldBy r.event) legal.0 made.0 in
    All-cons IsTold r rs told
    (records_told rs (after c r.event) (reverse (lines_by own_names r.event (answer_of (step c r.event))) ++ ls) made.1 legal.1 (All-tail IsSoundRecord r rs sound))

pub every_record_is_told : EveryRecordIsTold
every_record_is_told replica rs legal sound =
    records_told rs (fresh replica) [] (record { keeps = keeps_fresh own_names replica; all = tt; well = tt }) legal sound
