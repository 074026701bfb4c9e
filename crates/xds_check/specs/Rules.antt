-- The rules that every trace of a replica keeps, each of one line and the lines that stand before it, the last of which stands
-- first; and the first line of a trace at which one is broken. This project's own.
--     place                 the place of a rule among the eight
--     word_of               the word that programs print
--     HasReusedNonce        P1: a response's nonce is empty, or was used before on its stream
--     is_label_of           whether a label is that of a write: its name, and its version
--     is_put_by             whether a resource is the one that a write puts; in delta also by its label
--     is_best_as, is_best   whether a resource is that of the best live write of its name
--     BreaksBestResources   P2: a response's resource isn't that of the best live write of its name
--     StatesUncovered       P3: a response's resource isn't covered by the interest
--     LacksAName            P4: a response of the state of the world, of a complete type
--     RemovesShown          P5: a response removes a name that is live and covered
--     IsSecondAtATime       P6: a response is sent while another of its type on its stream is unanswered
--     OffersRefused         P7: a response offers what the latest refused one of its type on its stream did
--     LeavesPending         P8: it is said that nothing is owed while a name is pending
--     BreaksAtResponse      what breaks a rule at a response
--     BreaksAtIdle          what breaks a rule where it is said that nothing is owed
--     Breaks                the rule is broken at a line, by what stands before it
--     KeepsRules            a line that breaks no rule
--     AllKeep               no rule is broken at any of some lines, the last of which stands first
--     NoneBroken            no rule is broken at any line of a trace
--     FirstBroken           the first line of a trace at which a rule is broken, by its number from 1
use Rattle.std.specs.Prelude.{◌≡◌, ◌<◌, ℕ, ◌+◌, List, [], ◌∷◌, ◌++◌, length, reverse, Bool, true, false, not, ◌&&◌, ◌||◌, Option, Some, is_some, bytes_eq, codes, ⊤}
use Rattle.std.specs.List.{list_any}
use Rattle.std.specs.Option.{option_map_or, option_and_then}
use Rattle.xds_resource.specs.declared.types.TypeName.{TypeName}
use Rattle.xds_resource.specs.Writes.{StampedWrite, version_of}
use Rattle.xds_interest.specs.Interests.{has_name}
use Rattle.xds_catalogue.specs.Content.{if_live}
use Rattle.xds_ledger.specs.Variants.{is_whole}
use Rattle.xds_check.specs.declared.line.Line.{Line}
use Rattle.xds_check.specs.declared.line.Line.TheVariants as lines
use Rattle.xds_check.specs.declared.rule.Rule.{Rule}
use Rattle.xds_check.specs.declared.rule.Rule.TheVariants.{FreshNonce, BestResources, CoveredResources, WholeResponse, RightRemovals, OneAtATime, NothingRefusedAgain, NothingPending}
use Rattle.xds_check.specs.Answers.{Label, Statement, Answer, stated_names}
use Rattle.xds_check.specs.Lines.{standing, live, is_used, is_covered, is_shown, sent, is_waiting, refused_offer, offer_at, is_pending, speaks_delta}

-- the place of a rule among the eight
abbrev pub place : Rule → ℕ
place FreshNonce = 1
place BestResources = 2
place CoveredResources = 3
place WholeResponse = 4
place RightRemovals = 5
place OneAtATime = 6
place NothingRefusedAgain = 7
place NothingPending = 8

-- the word that programs print
abbrev pub word_of : Rule → List ℕ
word_of FreshNonce = codes "P1"
word_of BestResources = codes "P2"
word_of CoveredResources = codes "P3"
word_of WholeResponse = codes "P4"
word_of RightRemovals = codes "P5"
word_of OneAtATime = codes "P6"
word_of NothingRefusedAgain = codes "P7"
word_of NothingPending = codes "P8"

-- ---- what breaks each

-- rule: new-nonce
-- P1: a response's nonce is empty, or was used before on its stream
abbrev pub HasReusedNonce : List Line → ℕ → Answer → Type 0
HasReusedNonce earlier s a = (bytes_eq a.nonce [] || is_used s earlier a.nonce) ≡ true

-- rule: best-writes
-- whether a label is that of a write: its name, and its version
abbrev pub is_label_of : StampedWrite → Label → Bool
is_label_of w label = bytes_eq label.name w.name && bytes_eq label.version (version_of w)

-- rule: best-writes
-- whether a resource is the one that a write puts; in delta also by its label
abbrev pub is_put_by : Statement → StampedWrite → Bool
is_put_by x w = option_map_or (bytes_eq x.body) w.body false && option_map_or (is_label_of w) x.label true

-- rule: best-writes
-- whether a resource is that of the write that stands under its name, if there is one, and is live
abbrev pub is_best_as : Statement → Option StampedWrite → Bool
is_best_as x standing = option_map_or (is_put_by x) (option_and_then if_live standing) false

-- rule: best-writes
-- whether a resource is that of the best live write of its name
abbrev pub is_best : TypeName → List Line → Statement → Bool
is_best t earlier x = is_best_as x (standing t earlier x.name)

-- rule: best-writes
-- P2: a response's resource isn't that of the best live write of its name
abbrev pub BreaksBestResources : List Line → Answer → Type 0
BreaksBestResources earlier a = list_any (λ x. not (is_best a.kind earlier x)) a.statements ≡ true

-- rule: covered-only
-- P3: a response's resource isn't covered by the interest
abbrev pub StatesUncovered : List Line → ℕ → Answer → Type 0
StatesUncovered earlier s a = list_any (λ name. not (is_covered s a.kind earlier name)) (stated_names a) ≡ true

-- rule: whole-response
-- P4: a response of the state of the world, of a complete type, lacks a name that is live and covered
abbrev pub LacksAName : List Line → ℕ → Answer → Type 0
LacksAName earlier s a = (is_whole a.variant a.kind ≡ true) × (name : List ℕ) × (is_shown s a.kind earlier name ≡ true) × (has_name (stated_names a) name ≡ false)

-- rule: no-live-removal
-- P5: a response removes a name that is live and covered
abbrev pub RemovesShown : List Line → ℕ → Answer → Type 0
RemovesShown earlier s a = list_any (is_shown s a.kind earlier) a.removed ≡ true

-- rule: one-unanswered
-- P6: a response is sent while another of its type on its stream is unanswered
abbrev pub IsSecondAtATime : List Line → ℕ → Answer → Type 0
IsSecondAtATime earlier s a = is_waiting (sent s a.kind earlier) ≡ true

-- rule: refused-offer
-- P7: a response offers what the latest refused one of its type on its stream did, none having been accepted since
abbrev pub OffersRefused : List Line → ℕ → Answer → Type 0
OffersRefused earlier s a = refused_offer (sent s a.kind earlier) ≡ Some (offer_at earlier a)

-- rule: awaited-names
-- P8: it is said that nothing is owed while a name is pending; on a stream of the state of the world, one that is live
pub record LeavesPending (earlier : List Line) (s : ℕ) (t : TypeName) : Type 0 where
  pub name : List ℕ
  pub pending : is_pending s t earlier name ≡ true
  pub counts : (speaks_delta s t earlier || is_some (live t earlier name)) ≡ true

-- ---- the rules of a line

-- what breaks a rule at a response
abbrev pub BreaksAtResponse : Rule → List Line → ℕ → Answer → Type 0
BreaksAtResponse FreshNonce earlier s a = HasReusedNonce earlier s a
BreaksAtResponse BestResources earlier s a = BreaksBestResources earlier a
BreaksAtResponse CoveredResources earlier s a = StatesUncovered earlier s a
BreaksAtResponse WholeResponse earlier s a = LacksAName earlier s a
BreaksAtResponse RightRemovals earlier s a = RemovesShown earlier s a
BreaksAtResponse OneAtATime earlier s a = IsSecondAtATime earlier s a
BreaksAtResponse NothingRefusedAgain earlier s a = OffersRefused earlier s a
BreaksAtResponse NothingPending earlier s a = ⊥

-- what breaks a rule where it is said that nothing is owed
abbrev pub BreaksAtIdle : Rule → List Line → ℕ → TypeName → Type 0
BreaksAtIdle FreshNonce earlier s t = ⊥
BreaksAtIdle BestResources earlier s t = ⊥
BreaksAtIdle CoveredResources earlier s t = ⊥
BreaksAtIdle WholeResponse earlier s t = ⊥
BreaksAtIdle RightRemovals earlier s t = ⊥
BreaksAtIdle OneAtATime earlier s t = ⊥
BreaksAtIdle NothingRefusedAgain earlier s t = ⊥
BreaksAtIdle NothingPending earlier s t = LeavesPending earlier s t

-- The rule is broken at a line, by what stands before it. Only responses and idle lines can break one.
abbrev pub Breaks : Rule → List Line → Line → Type 0
Breaks rule earlier (lines.Write w) = ⊥
Breaks rule earlier (lines.Open s) = ⊥
Breaks rule earlier (lines.Close s) = ⊥
Breaks rule earlier (lines.Request s m) = ⊥
Breaks rule earlier (lines.Response s a) = BreaksAtResponse rule earlier s a
Breaks rule earlier (lines.Idle s t) = BreaksAtIdle rule earlier s t

-- ---- traces

-- a line that breaks no rule
abbrev pub KeepsRules : List Line → Line → Type 0
KeepsRules earlier l = (rule : Rule) → ¬ (Breaks rule earlier l)

-- no rule is broken at any of some lines, the last of which stands first
abbrev pub AllKeep : List Line → Type 0
AllKeep [] = ⊤
AllKeep (l ∷ earlier) = KeepsRules earlier l × AllKeep earlier

-- no rule is broken at any line of a trace
abbrev pub NoneBroken : List Line → Type 0
NoneBroken trace = AllKeep (reverse trace)

-- the first line of a trace at which a rule is broken, by its number from 1, and the least rule that is broken there
pub record FirstBroken (trace : List Line) (number : ℕ) (rule : Rule) : Type 0 where
  pub before : List Line
  pub line : Line
  pub after : List Line
  pub trace_is : trace ≡ before ++ line ∷ after
  pub number_is : number ≡ length before + 1
  pub kept : NoneBroken before
  pub broken : Breaks rule (reverse before) line
  pub least : (other : Rule) → place other < place rule → ¬ (Breaks other (reverse before) line)
