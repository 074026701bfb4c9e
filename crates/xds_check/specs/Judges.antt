-- What is kept of the lines of a trace, type by type, so that each line is judged when it comes. Lines are gone over here one
-- after another; where they are a list, the line that came last stands first. This project's own.
--     JudgeKept, judge_code   what is kept for the rules of a type
--     nothing_judged          before the first line
--     without_stream          without what was said of a stream
--     let_go_after            without what was said of a stream that a line closes
--     IsTakenIn               a line that breaks no rule of a type was taken
--     TellsLine               the least rule that a line breaks, or what it says is kept
--     TellsOfAll              the same for all five types: a rule is told for one of them
--     held_by                 the writes of a type that are held after some lines
--     talk_by                 what some lines say of a stream, of a type
--     IsJudgeOf               what is kept is what some lines say, of those streams that count
--     AreJudgesOf             the same for all five types
--     any_stream              every stream counts
--     has_ended               whether a stream was closed
--     is_left                 a stream counts that wasn't closed
use Rattle.std.specs.Prelude.{◌≡◌, ℕ, List, [], ◌∷◌, Bool, false, not, Option, Some, None, refl, ⊤}
use Rattle.std.specs.Coded.{Coded, code_by, coded×, coded_ℕ}
use Rattle.std.specs.Option.{option_map_or}
use Rattle.std.specs.FinMap as finmap
use Rattle.xds_resource.specs.declared.types.TypeName.{TypeName}
use Rattle.xds_resource.specs.PerType.{PerType, at, per_type}
use Rattle.xds_catalogue.specs.Holdings.{Holdings, holdings_code, nothing_held}
use Rattle.xds_check.specs.declared.line.Line.{Line}
use Rattle.xds_check.specs.declared.line.Line.TheVariants as lines
use Rattle.xds_check.specs.declared.rule.Rule.{Rule}
use Rattle.xds_check.specs.Kept.{StreamTalk, Talks, talk_code, unheard, talk_at, broken_in, held_after, heard, IsHeard}
use Rattle.xds_check.specs.LiveNames.{LiveNames, live_names_code, no_names, AreLive}
use Rattle.xds_check.specs.Streams.{open_on}

-- ---- what is kept

-- What is kept for the rules of a type: the writes that are held, the names of the live ones, and what was said of each stream.
pub record JudgeKept : Type 0 where
  pub held : Holdings
  pub live_names : LiveNames
  pub talks : Talks

abbrev pub judge_code : Coded JudgeKept
judge_code =
    code_by (Holdings × (LiveNames × Talks)) (coded× holdings_code (coded× live_names_code (finmap.code coded_ℕ talk_code))) (λ j. (j.held, (j.live_names, j.talks)))
    (λ p. record { held = p.0; live_names = p.1.0; talks = p.1.1 }) (λ _. refl)

-- before the first line
abbrev pub nothing_judged : JudgeKept
nothing_judged = record { held = nothing_held; live_names = no_names; talks = finmap.empty }

-- without what was said of a stream
abbrev pub without_stream : ℕ → JudgeKept → JudgeKept
without_stream s j = record { held = j.held; live_names = j.live_names; talks = finmap.remove j.talks s }

-- without what was said of a stream that a line closes
abbrev pub let_go_after : Line → PerType JudgeKept → PerType JudgeKept
let_go_after (lines.Write w) judges = judges
let_go_after (lines.Open s) judges = judges
let_go_after (lines.Close s) judges = per_type (λ t. without_stream s (at judges t))
let_go_after (lines.Request s q) judges = judges
let_go_after (lines.Response s a) judges = judges
let_go_after (lines.Idle s u) judges = judges

-- ---- a line

-- a line that breaks no rule of a type was taken: what it says is kept
pub record IsTakenIn (t : TypeName) (l : Line) (old new : JudgeKept) : Type 0 where
  pub unbroken : broken_in t old.held.entries old.talks l ≡ None
  pub heard : IsHeard t old.held.entries l old.talks new.talks
  pub held : new.held ≡ held_after t l old.held
  pub live : AreLive new.held.entries new.live_names

-- the least rule that a line breaks, if it is one of the type; and else what it says is kept
abbrev pub TellsLine : TypeName → Line → JudgeKept → JudgeKept → Option Rule → Type 0
TellsLine t l old new None = IsTakenIn t l old new
TellsLine t l old new (Some r) = broken_in t old.held.entries old.talks l ≡ Some r

-- the same for all five types: a rule is told for one of them
abbrev pub TellsOfAll : Line → PerType JudgeKept → PerType JudgeKept → Option Rule → Type 0
TellsOfAll l old new None = (t : TypeName) → IsTakenIn t l (at old t) (at new t)
TellsOfAll l old new (Some r) = (t : TypeName) × (broken_in t (at old t).held.entries (at old t).talks l ≡ Some r)

-- ---- all lines so far

-- the writes of a type that are held after some lines
abbrev pub held_by : TypeName → List Line → Holdings
held_by t [] = nothing_held
held_by t (l ∷ earlier) = held_after t l (held_by t earlier)

-- what some lines say of a stream, of a type
abbrev pub talk_by : TypeName → ℕ → List Line → StreamTalk
talk_by t s [] = unheard
talk_by t s (l ∷ earlier) = heard t (held_by t earlier).entries s l (talk_by t s earlier)

-- what is kept for a type is what some lines say, of those streams that count
pub record IsJudgeOf (Counts : ℕ → Type 0) (t : TypeName) (earlier : List Line) (j : JudgeKept) : Type 0 where
  pub held : j.held ≡ held_by t earlier
  pub talks : (s : ℕ) → Counts s → talk_at j.talks s ≡ talk_by t s earlier
  pub live : AreLive j.held.entries j.live_names

-- the same for all five types
abbrev pub AreJudgesOf : (ℕ → Type 0) → List Line → PerType JudgeKept → Type 0
AreJudgesOf Counts earlier judges = (t : TypeName) → IsJudgeOf Counts t earlier (at judges t)

-- ---- which streams count

-- every stream counts
abbrev pub any_stream : ℕ → Type 0
any_stream s = ⊤

-- whether a stream was closed
abbrev pub has_ended : ℕ → List Line → Bool
has_ended s earlier = option_map_or not (open_on s earlier) false

-- a stream counts that wasn't closed: no line may come on one that was
abbrev pub is_left : List Line → ℕ → Type 0
is_left earlier s = has_ended s earlier ≡ false
