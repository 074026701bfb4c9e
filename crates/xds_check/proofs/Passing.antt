-- Line by line: what is kept of each type is what the lines so far say, and the least rule is told that a line breaks.
use Rattle.std.proofs.Common.{◌≡◌, ◌<◌, ◌≤◌, ◌+◌, ℕ, List, [], ◌∷◌, ◌++◌, length, Bool, true, false, Option, Some, None, IfOk, Result, Ok, Err, refl, sym, ap, subst, ◌∙◌, arith, eqb-true}
use Rattle.std.specs.Prelude.{if◌then◌else◌, ⊤}
use Rattle.std.specs.Option.{option_map_or, unwrap_or}
use Rattle.std.specs.Ordering.{nat_cmp}
use Rattle.std.specs.FinMap as finmap
use Rattle.std.proofs.lemmas.List.Concat.{flat_map-cons}
use Rattle.xds_resource.specs.declared.types.TypeName.{TypeName}
use Rattle.xds_resource.specs.declared.refusal.Refusal.{Refusal}
use Rattle.xds_resource.specs.declared.any.AnyWrite.{AnyWrite}
use Rattle.xds_resource.specs.Any.{write_type, stamped_write}
use Rattle.xds_resource.specs.Best.{best, greater, if_named}
use Rattle.xds_resource.specs.PerType.{PerType, at}
use Rattle.xds_resource.specs.Types.{is_same_type}
use Rattle.xds_resource.specs.Writes.{StampedWrite, text_cmp}
use Rattle.xds_resource.proofs.BestWrites.{greater-comm, best_of_both}
use Rattle.xds_resource.proofs.TypesApart.{is_same_type-same}
use Rattle.xds_catalogue.specs.Changes.{is_news}
use Rattle.xds_catalogue.specs.Holdings.{Entries, Holdings, IsCatalogue, catalogue_of, nothing_held}
use Rattle.xds_catalogue.specs.Joins.{joined}
use Rattle.xds_catalogue.proofs.Catalogues.{get-catalogue_of, catalogue_of-IsCatalogue, catalogue_of-entries, same_catalogue, same_entries}
use Rattle.xds_check.specs.declared.line.Line.{Line}
use Rattle.xds_check.specs.declared.line.Line.TheVariants as lines
use Rattle.xds_check.specs.declared.rule.Rule.{Rule}
use Rattle.xds_check.specs.declared.rule.Rule.TheVariants.{FreshNonce, BestResources, CoveredResources, WholeResponse, RightRemovals, OneAtATime, NothingRefusedAgain, NothingPending}
use Rattle.xds_check.specs.Answers.{Answer}
use Rattle.xds_check.specs.Lines.{write_at, writes_in, standing, sent, is_waiting}
use Rattle.xds_check.specs.Judges.{JudgeKept, nothing_judged, IsTakenIn, TellsLine, held_by, talk_by, IsJudgeOf, AreJudgesOf, any_stream}
use Rattle.xds_check.specs.LiveNames.{AreLive, no_names}
use Rattle.xds_check.specs.Rules.{place, Breaks, BreaksAtResponse, BreaksAtIdle, KeepsRules, AllKeep, LeavesPending}
use Rattle.xds_check.specs.Kept.{StreamTalk, Talks, unheard, talk_at, broken_in, least, none_missed, held_after, heard, IsHeard}
use Rattle.xds_check.proofs.Deciding.{TellsLeast, never, judged, one_missed, none_pending}
use Rattle.xds_check.proofs.Lining.{IsSpokenBy, IsQuiet, heard_spoken, kind_told}
use Rattle.xds_check.proofs.LiveNames.{none_live}
use Rattle.xds_check.proofs.Talking.{unheard_spoken}

-- ---- the writes

greater_turned : (a b : Option StampedWrite) → greater a (greater b None) ≡ greater b a
greater_turned a b = ap (greater a) (greater-comm b None) ∙ greater-comm a b

with_write : (ws : List StampedWrite) (w : StampedWrite) → catalogue_of (ws ++ w ∷ []) ≡ catalogue_of (w ∷ ws)
with_write ws w = same_catalogue (ws ++ w ∷ []) (w ∷ ws) (λ q. best_of_both ws (w ∷ []) q ∙ greater_turned (best ws q) (if_named q w))

joined_write : (h : Holdings) (ws : List StampedWrite) (w : StampedWrite) → h.entries ≡ catalogue_of ws → (joined h (w ∷ [])).entries ≡ catalogue_of (w ∷ ws)
joined_write h ws w held = ap (λ (m : Entries). catalogue_of (finmap.values m ++ w ∷ [])) held ∙ catalogue_of-entries ws (w ∷ []) ∙ with_write ws w

one_at_most : (n : ℕ) (b : Bool) → n + ((if b then 1 else 0) + 0) ≤ n + 1
one_at_most n true = omega arith
one_at_most n false = omega arith

-- what is held of a type, by the writes of some lines
pub record IsHeldBy (t : TypeName) (e : List Line) (h : Holdings) : Type 0 where
  pub entries : h.entries ≡ catalogue_of (writes_in t e)
  pub count : h.changes ≤ length e

held_silent : (t : TypeName) (e : List Line) (l : Line) (h : Holdings) → write_at t l ≡ [] → IsHeldBy t e h → IsHeldBy t (l ∷ e) h
held_silent t e l h none held = record {
  entries = held.entries ∙ ap catalogue_of (sym (flat_map-cons (write_at t) l e ∙ ap (λ (ws : List StampedWrite). ws ++ writes_in t e) none));
  count = omega (arith, held.count);
}

held_write : (t : TypeName) (e : List Line) (w : AnyWrite) (h : Holdings) (own : Bool) → is_same_type (write_type w) t ≡ own → IsHeldBy t e h
    → IsHeldBy t (lines.Write w ∷ e) (option_map_or (λ x. joined h (x ∷ [])) (if own then Some (stamped_write w) else None) h)
held_write t e w h true is held =
    let own : write_at t (lines.Write w) ≡ stamped_write w ∷ [] = ap (λ b. if b then stamped_write w ∷ [] else []) is in
    record {
      entries = joined_write h (writes_in t e) (stamped_write w) held.entries ∙ ap catalogue_of (sym (flat_map-cons (write_at t) (lines.Write w) e ∙ ap (λ (ws : List StampedWrite). ws ++ writes_in t e) own));
      count = omega (arith, held.count, one_at_most h.changes (is_news (finmap.values h.entries) (stamped_write w)));
    }
held_write t e w h false is held = held_silent t e (lines.Write w) h (ap (λ b. if b then stamped_write w ∷ [] else []) is) held

held_more : (t : TypeName) (e : List Line) (l : Line) (h : Holdings) → IsHeldBy t e h → IsHeldBy t (l ∷ e) (held_after t l h)
held_more t e (lines.Write w) h held = held_write t e w h (is_same_type (write_type w) t) refl held
held_more t e (lines.Open s) h held = held_silent t e (lines.Open s) h refl held
held_more t e (lines.Close s) h held = held_silent t e (lines.Close s) h refl held
held_more t e (lines.Request s q) h held = held_silent t e (lines.Request s q) h refl held
held_more t e (lines.Response s a) h held = held_silent t e (lines.Response s a) h refl held
held_more t e (lines.Idle s u) h held = held_silent t e (lines.Idle s u) h refl held

standing_is : (t : TypeName) (e : List Line) (h : Holdings) → IsHeldBy t e h → (q : List ℕ) → finmap.get h.entries q ≡ standing t e q
standing_is t e h held q = ap (λ (m : Entries). finmap.get m q) held.entries ∙ get-catalogue_of (writes_in t e) q

catalogue_is : (t : TypeName) (e : List Line) (h : Holdings) → IsHeldBy t e h → IsCatalogue h.entries
catalogue_is t e h held = subst IsCatalogue (sym held.entries) (catalogue_of-IsCatalogue (writes_in t e))

-- ---- what some lines leave

held_is : (t : TypeName) (e : List Line) → IsHeldBy t e (held_by t e)
held_is t [] = record { entries = same_entries finmap.empty (catalogue_of []) (λ q. finmap.get-empty text_cmp q ∙ sym (get-catalogue_of [] q)); count = omega arith }
held_is t (l ∷ e) = held_more t e l (held_by t e) (held_is t e)

-- a line that keeps the rules
not_waiting : (b : Bool) → ¬ (b ≡ true) → b ≡ false
not_waiting true none_so = absurd (none_so refl)
not_waiting false none_so = refl

quiet_line : (t : TypeName) (e : List Line) (l : Line) → KeepsRules e l → (s : ℕ) → IsQuiet s t e l
quiet_line t e (lines.Write w) keeps s = tt
quiet_line t e (lines.Open r) keeps s = tt
quiet_line t e (lines.Close r) keeps s = tt
quiet_line t e (lines.Request r q) keeps s = tt
quiet_line t e (lines.Response r a) keeps s = λ here own.
    ap (λ n. is_waiting (sent n t e)) (sym (eqb-true r s here)) ∙ ap (λ u. is_waiting (sent r u e)) (sym (kind_told a.kind t own)) ∙ not_waiting (is_waiting (sent r a.kind e)) (keeps OneAtATime)
quiet_line t e (lines.Idle r u) keeps s = tt

-- what lines say of a stream that keep the rules
spoken_by : (t : TypeName) (s : ℕ) (e : List Line) → AllKeep e → IsSpokenBy s t e (talk_by t s e)
spoken_by t s [] kept = unheard_spoken t
spoken_by t s (l ∷ e) kept = heard_spoken s t e (held_by t e).entries l (talk_by t s e) (standing_is t e (held_by t e) (held_is t e)) (quiet_line t e l kept.0 s) (spoken_by t s e kept.1)

-- ---- what is kept before a line

-- whether a line can break a rule and is one of the type
abbrev pub speaks : TypeName → Line → Bool
speaks t (lines.Write w) = false
speaks t (lines.Open s) = false
speaks t (lines.Close s) = false
speaks t (lines.Request s q) = false
speaks t (lines.Response s a) = is_same_type a.kind t
speaks t (lines.Idle s u) = is_same_type u t

-- the stream of a line that can break a rule counts
abbrev pub IsCounted : (ℕ → Type 0) → Line → Type 0
IsCounted Counts (lines.Write w) = ⊤
IsCounted Counts (lines.Open s) = ⊤
IsCounted Counts (lines.Close s) = ⊤
IsCounted Counts (lines.Request s q) = ⊤
IsCounted Counts (lines.Response s a) = Counts s
IsCounted Counts (lines.Idle s u) = Counts s

pub any_counted : (l : Line) → IsCounted any_stream l
any_counted (lines.Write w) = tt
any_counted (lines.Open s) = tt
any_counted (lines.Close s) = tt
any_counted (lines.Request s q) = tt
any_counted (lines.Response s a) = tt
any_counted (lines.Idle s u) = tt

-- what is kept is what lines say that keep the rules
record IsPassed (Counts : ℕ → Type 0) (t : TypeName) (e : List Line) (h : Holdings) (talks : Talks) : Type 0 where
  held : IsHeldBy t e h
  talks_are : (s : ℕ) → Counts s → IsSpokenBy s t e (talk_at talks s)

passed : (Counts : ℕ → Type 0) (t : TypeName) (e : List Line) (j : JudgeKept) → AllKeep e → IsJudgeOf Counts t e j → IsPassed Counts t e j.held j.talks
passed Counts t e j kept of = record {
  held = subst (IsHeldBy t e) (sym of.held) (held_is t e);
  talks_are = λ s counts. subst (IsSpokenBy s t e) (sym (of.talks s counts)) (spoken_by t s e kept);
}

-- there are no more changes than lines
pub few_changes : (Counts : ℕ → Type 0) (t : TypeName) (e : List Line) (j : JudgeKept) → IsJudgeOf Counts t e j → j.held.changes ≤ length e
few_changes Counts t e j of = (subst (IsHeldBy t e) (sym of.held) (held_is t e)).count

-- ---- what is told of a line

told_response : (Counts : ℕ → Type 0) (t : TypeName) (e : List Line) (h : Holdings) (talks : Talks) (s : ℕ) (a : Answer) (own : Bool) → is_same_type a.kind t ≡ own → IsPassed Counts t e h talks → Counts s
    → is_same_type a.kind t ≡ true → TellsLeast (λ r. BreaksAtResponse r e s a) (if own then least t h.entries (talk_at talks s) a else None)
told_response Counts t e h talks s a true is passed counts own =
    let kind : a.kind ≡ t = kind_told a.kind t is in
    subst (λ (u : TypeName). TellsLeast (λ r. BreaksAtResponse r e s a) (least u h.entries (talk_at talks s) a)) kind
    (judged s e h.entries (talk_at talks s) a (subst (λ (u : TypeName). IsSpokenBy s u e (talk_at talks s)) (sym kind) (passed.talks_are s counts))
    (λ q. standing_is t e h passed.held q ∙ ap (λ u. standing u e q) (sym kind)) (catalogue_is t e h passed.held))
told_response Counts t e h talks s a false is passed counts own = never (sym own ∙ is)

idle_keeps : (e : List Line) (s : ℕ) (t : TypeName) → ¬ (LeavesPending e s t) → (r : Rule) → ¬ (BreaksAtIdle r e s t)
idle_keeps e s t none_so FreshNonce = λ b. b
idle_keeps e s t none_so BestResources = λ b. b
idle_keeps e s t none_so CoveredResources = λ b. b
idle_keeps e s t none_so WholeResponse = λ b. b
idle_keeps e s t none_so RightRemovals = λ b. b
idle_keeps e s t none_so OneAtATime = λ b. b
idle_keeps e s t none_so NothingRefusedAgain = λ b. b
idle_keeps e s t none_so NothingPending = none_so

idle_least : (e : List Line) (s : ℕ) (t : TypeName) (o : Rule) → place o < 8 → ¬ (BreaksAtIdle o e s t)
idle_least e s t FreshNonce lt = λ b. b
idle_least e s t BestResources lt = λ b. b
idle_least e s t CoveredResources lt = λ b. b
idle_least e s t WholeResponse lt = λ b. b
idle_least e s t RightRemovals lt = λ b. b
idle_least e s t OneAtATime lt = λ b. b
idle_least e s t NothingRefusedAgain lt = λ b. b
idle_least e s t NothingPending lt = absurd (omega (arith, lt))

idle_case : (t : TypeName) (e : List Line) (h : Holdings) (k : StreamTalk) (s : ℕ) (none : Bool) → none_missed h.entries k ≡ none → IsHeldBy t e h → IsSpokenBy s t e k
    → TellsLeast (λ r. BreaksAtIdle r e s t) (if none then None else Some NothingPending)
idle_case t e h k s true is held spoken = idle_keeps e s t (none_pending s t e h.entries k spoken (standing_is t e h held) is)
idle_case t e h k s false is held spoken = (one_missed s t e h.entries k spoken (standing_is t e h held) is, idle_least e s t)

told_idle : (Counts : ℕ → Type 0) (t : TypeName) (e : List Line) (h : Holdings) (talks : Talks) (s : ℕ) (u : TypeName) (own : Bool) → is_same_type u t ≡ own → IsPassed Counts t e h talks → Counts s
    → is_same_type u t ≡ true → TellsLeast (λ r. BreaksAtIdle r e s u) (if own then (if none_missed h.entries (talk_at talks s) then None else Some NothingPending) else None)
told_idle Counts t e h talks s u true is passed counts own =
    subst (λ (v : TypeName). TellsLeast (λ r. BreaksAtIdle r e s v) (if none_missed h.entries (talk_at talks s) then None else Some NothingPending)) (sym (kind_told u t is))
    (idle_case t e h (talk_at talks s) s (none_missed h.entries (talk_at talks s)) refl passed.held (passed.talks_are s counts))
told_idle Counts t e h talks s u false is passed counts own = never (sym own ∙ is)

told_at : (Counts : ℕ → Type 0) (t : TypeName) (e : List Line) (h : Holdings) (talks : Talks) (l : Line) → IsPassed Counts t e h talks → IsCounted Counts l → speaks t l ≡ true
    → TellsLeast (λ r. Breaks r e l) (broken_in t h.entries talks l)
told_at Counts t e h talks (lines.Write w) passed counts own = never (sym own)
told_at Counts t e h talks (lines.Open s) passed counts own = never (sym own)
told_at Counts t e h talks (lines.Close s) passed counts own = never (sym own)
told_at Counts t e h talks (lines.Request s q) passed counts own = never (sym own)
told_at Counts t e h talks (lines.Response s a) passed counts own = told_response Counts t e h talks s a (is_same_type a.kind t) refl passed counts own
told_at Counts t e h talks (lines.Idle s u) passed counts own = told_idle Counts t e h talks s u (is_same_type u t) refl passed counts own

-- what is told is told of a line of the type
own_case : (own : Bool) (r : Rule) (o : Option Rule) → (if own then o else None) ≡ Some r → own ≡ true
own_case true r o is = refl
own_case false r o is = absurd cc

speaks_so : (t : TypeName) (m : Entries) (talks : Talks) (l : Line) (r : Rule) → broken_in t m talks l ≡ Some r → speaks t l ≡ true
speaks_so t m talks (lines.Write w) r is = absurd cc
speaks_so t m talks (lines.Open s) r is = absurd cc
speaks_so t m talks (lines.Close s) r is = absurd cc
speaks_so t m talks (lines.Request s q) r is = absurd cc
speaks_so t m talks (lines.Response s a) r is = own_case (is_same_type a.kind t) r _ is
speaks_so t m talks (lines.Idle s u) r is = own_case (is_same_type u t) r _ is

-- a line keeps the rules that does so where it is of a type
whatever_type : (e : List Line) (l : Line) → ((t : TypeName) → speaks t l ≡ true → KeepsRules e l) → KeepsRules e l
whatever_type e (lines.Write w) keeps = λ r b. b
whatever_type e (lines.Open s) keeps = λ r b. b
whatever_type e (lines.Close s) keeps = λ r b. b
whatever_type e (lines.Request s q) keeps = λ r b. b
whatever_type e (lines.Response s a) keeps = keeps a.kind (is_same_type-same a.kind)
whatever_type e (lines.Idle s u) keeps = keeps u (is_same_type-same u)

-- ---- a line more

module _ (Counts : ℕ → Type 0) (e : List Line) (old : PerType JudgeKept) (l : Line) (kept : AllKeep e) (are : AreJudgesOf Counts e old) (counts : IsCounted Counts l) where
  told_of : (t : TypeName) → speaks t l ≡ true → TellsLeast (λ r. Breaks r e l) (broken_in t (at old t).held.entries (at old t).talks l)
  told_of t own = told_at Counts t e (at old t).held (at old t).talks l (passed Counts t e (at old t) kept (are t)) counts own

  -- the least rule that it breaks
  pub broken_here : (r : Rule) → (t : TypeName) × (broken_in t (at old t).held.entries (at old t).talks l ≡ Some r) → TellsLeast (λ x. Breaks x e l) (Some r)
  broken_here r (t, is) = subst (TellsLeast (λ x. Breaks x e l)) is (told_of t (speaks_so t (at old t).held.entries (at old t).talks l r is))

  -- it keeps the rules, where none is told
  pub kept_here : ((t : TypeName) → broken_in t (at old t).held.entries (at old t).talks l ≡ None) → AllKeep (l ∷ e)
  kept_here none = (whatever_type e l (λ t own. subst (TellsLeast (λ x. Breaks x e l)) (none t) (told_of t own)), kept)

-- what it says is kept
pub judge_more : (Counts : ℕ → Type 0) (t : TypeName) (e : List Line) (l : Line) (old new : JudgeKept) → IsJudgeOf Counts t e old → IsTakenIn t l old new → IsJudgeOf Counts t (l ∷ e) new
judge_more Counts t e l old new of taken = record {
  held = taken.held ∙ ap (held_after t l) of.held;
  talks = λ s counts. taken.heard s ∙ (λ i. heard t (of.held i).entries s l (of.talks s counts i));
  live = taken.live;
}

-- what is told of a line, by what is told of each part
pub tells : (t : TypeName) (l : Line) (old new : JudgeKept) (r : Result (Option Rule) Refusal) → IfOk r (λ o. o ≡ broken_in t old.held.entries old.talks l) → IfOk r (λ o. o ≡ None → IsHeard t old.held.entries l old.talks new.talks)
    → IfOk r (λ o. o ≡ None → new.held ≡ held_after t l old.held) → IfOk r (λ o. o ≡ None → AreLive new.held.entries new.live_names) → IfOk r (TellsLine t l old new)
tells t l old new (Ok None) broken hears holds live = record { unbroken = sym broken; heard = hears refl; held = holds refl; live = live refl }
tells t l old new (Ok (Some rule)) broken hears holds live = sym broken
tells t l old new (Err e) broken hears holds live = tt

pub judge_first : (Counts : ℕ → Type 0) (t : TypeName) → IsJudgeOf Counts t [] nothing_judged
judge_first Counts t = record {
  held = refl;
  talks = λ s counts. ap (λ (o : Option StreamTalk). unwrap_or o unheard) (finmap.get-empty nat_cmp s);
  live = none_live nothing_held no_names refl refl;
}
