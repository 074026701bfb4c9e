-- Which lists of lines make a trace: a stream is opened once, used only while it is open, and speaks one variant. In these
-- definitions the line that came last stands first. This project's own.
--     open_at             whether a line leaves the stream open; none where it neither opens nor closes it
--     open_on             whether a stream is open; none where it never was
--     is_open             whether a stream is open
--     delta_at            whether a line is delta, if it is a message on the stream
--     delta_on            whether a stream is one of delta; none before its first message
--     is_same             whether two truth values are the same
--     may_speak           whether a message may come on the stream: it is open, and of the message's variant
--     may_follow          whether a line may stand behind these
--     AllFollow           each of some lines may stand where it stands
--     IsInOrder           the lines of a trace stand in an order that a replica can make
use Rattle.std.specs.Prelude.{◌≡◌, ℕ, ◌==◌, List, [], ◌∷◌, reverse, Bool, true, false, not, ◌&&◌, if◌then◌else◌, Option, Some, None, is_none, ⊤}
use Rattle.std.specs.Option.{option_map_or, option_or, unwrap_or}
use Rattle.xds_ledger.specs.Variants.{is_delta}
use Rattle.xds_check.specs.declared.line.Line.{Line}
use Rattle.xds_check.specs.declared.line.Line.TheVariants as lines
use Rattle.xds_check.specs.Answers.{variant_of}

-- whether a line leaves the stream open; none where it neither opens nor closes it
abbrev pub open_at : ℕ → Line → Option Bool
open_at s (lines.Write w) = None
open_at s (lines.Open r) = if r == s then Some true else None
open_at s (lines.Close r) = if r == s then Some false else None
open_at s (lines.Request r m) = None
open_at s (lines.Response r a) = None
open_at s (lines.Idle r t) = None

-- whether the stream is open; none where it never was
abbrev pub open_on : ℕ → List Line → Option Bool
open_on s [] = None
open_on s (l ∷ earlier) = option_or (open_at s l) (open_on s earlier)

abbrev pub is_open : ℕ → List Line → Bool
is_open s earlier = unwrap_or (open_on s earlier) false

-- rule: first-variant
-- whether a line is delta, if it is a message on the stream
abbrev pub delta_at : ℕ → Line → Option Bool
delta_at s (lines.Write w) = None
delta_at s (lines.Open r) = None
delta_at s (lines.Close r) = None
delta_at s (lines.Request r m) = if r == s then Some (is_delta (variant_of m)) else None
delta_at s (lines.Response r a) = if r == s then Some (is_delta a.variant) else None
delta_at s (lines.Idle r t) = None

-- rule: first-variant
-- whether the stream is one of delta; none before its first message
abbrev pub delta_on : ℕ → List Line → Option Bool
delta_on s [] = None
delta_on s (l ∷ earlier) = option_or (delta_at s l) (delta_on s earlier)

-- rule: first-variant
abbrev pub is_same : Bool → Bool → Bool
is_same a b = if a then b else not b

-- rule: first-variant
-- whether a message may come on the stream: it is open, and of the message's variant
abbrev pub may_speak : ℕ → Bool → List Line → Bool
may_speak s delta earlier = is_open s earlier && option_map_or (is_same delta) (delta_on s earlier) true

-- whether a line may stand behind these
abbrev pub may_follow : List Line → Line → Bool
may_follow earlier (lines.Write w) = true
may_follow earlier (lines.Open s) = is_none (open_on s earlier)
may_follow earlier (lines.Close s) = is_open s earlier
may_follow earlier (lines.Request s m) = may_speak s (is_delta (variant_of m)) earlier
may_follow earlier (lines.Response s a) = may_speak s (is_delta a.variant) earlier
may_follow earlier (lines.Idle s t) = is_open s earlier

-- each of some lines may stand where it stands
abbrev pub AllFollow : List Line → Type 0
AllFollow [] = ⊤
AllFollow (l ∷ earlier) = (may_follow earlier l ≡ true) × AllFollow earlier

-- the lines of a trace stand in an order that a replica can make
abbrev pub IsInOrder : List Line → Type 0
IsInOrder trace = AllFollow (reverse trace)
