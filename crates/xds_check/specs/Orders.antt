-- What the reader of a trace keeps of the lines so far: by stream, whether it is open and whether it is one of delta. This
-- project's own.
--     OrderKept, order_kept_code   which streams are open, and which of them speak delta
--     nothing_kept                 before the first line
--     IsOrderOf                    what is kept is what the lines say, the last of which stands first
--     is_open_in                   whether a stream is open, by what is kept
--     may_speak_in                 whether a message may come on a stream
--     may_follow_in                whether a line may come next
--     kept_after                   what is kept after a line
--     IsTaken                      what taking the line that a text says leaves
--     IsBadIn                      a text that says no line, or one that may not come next
use Rattle.std.specs.Prelude.{◌≡◌, ◌⊎◌, ℕ, List, [], ◌∷◌, ◌++◌, Bool, true, false, ◌&&◌, is_none, refl}
use Rattle.std.specs.Coded.{Coded, code_by, coded×, coded_ℕ, coded_bool}
use Rattle.std.specs.Ordering.{nat_cmp}
use Rattle.std.specs.Option.{option_map_or, unwrap_or}
use Rattle.std.specs.FinMap as finmap
use Rattle.xds_ledger.specs.Variants.{is_delta}
use Rattle.xds_check.specs.declared.line.Line.{Line}
use Rattle.xds_check.specs.declared.line.Line.TheVariants as lines
use Rattle.xds_check.specs.Answers.{variant_of}
use Rattle.xds_check.specs.Streams.{open_on, delta_on, is_same}
use Rattle.xds_check.specs.Texts.{Says}

pub record OrderKept : Type 0 where
  pub opened : finmap.FinMap nat_cmp Bool
  pub delta : finmap.FinMap nat_cmp Bool

abbrev pub order_kept_code : Coded OrderKept
order_kept_code =
    code_by (finmap.FinMap nat_cmp Bool × finmap.FinMap nat_cmp Bool) (coded× (finmap.code coded_ℕ coded_bool) (finmap.code coded_ℕ coded_bool))
    (λ k. (k.opened, k.delta)) (λ p. record { opened = p.0; delta = p.1 }) (λ _. refl)

-- before the first line
abbrev pub nothing_kept : OrderKept
nothing_kept = record { opened = finmap.empty; delta = finmap.empty }

-- what is kept is what the lines say, the last of which stands first
pub record IsOrderOf (earlier : List Line) (k : OrderKept) : Type 0 where
  pub opened : (s : ℕ) → finmap.get k.opened s ≡ open_on s earlier
  pub delta : (s : ℕ) → finmap.get k.delta s ≡ delta_on s earlier

-- whether a stream is open, by what is kept
abbrev pub is_open_in : OrderKept → ℕ → Bool
is_open_in k s = unwrap_or (finmap.get k.opened s) false

-- rule: first-variant
-- whether a message may come on a stream
abbrev pub may_speak_in : OrderKept → ℕ → Bool → Bool
may_speak_in k s delta = is_open_in k s && option_map_or (is_same delta) (finmap.get k.delta s) true

-- whether a line may come next
abbrev pub may_follow_in : OrderKept → Line → Bool
may_follow_in k (lines.Write w) = true
may_follow_in k (lines.Open s) = is_none (finmap.get k.opened s)
may_follow_in k (lines.Close s) = is_open_in k s
may_follow_in k (lines.Request s m) = may_speak_in k s (is_delta (variant_of m))
may_follow_in k (lines.Response s a) = may_speak_in k s (is_delta a.variant)
may_follow_in k (lines.Idle s t) = is_open_in k s

-- what is kept after a line
abbrev pub kept_after : OrderKept → Line → OrderKept
kept_after k (lines.Write w) = k
kept_after k (lines.Open s) = record { opened = finmap.insert k.opened s true; delta = k.delta }
kept_after k (lines.Close s) = record { opened = finmap.insert k.opened s false; delta = k.delta }
kept_after k (lines.Request s m) = record { opened = k.opened; delta = finmap.insert k.delta s (is_delta (variant_of m)) }
kept_after k (lines.Response s a) = record { opened = k.opened; delta = finmap.insert k.delta s (is_delta a.variant) }
kept_after k (lines.Idle s t) = k

-- what taking the line that a text says leaves
pub record IsTaken (k : OrderKept) (taken : List Line) (text : List ℕ) (after : OrderKept) (now_taken : List Line) : Type 0 where
  pub line : Line
  pub says : Says text line
  pub follows : may_follow_in k line ≡ true
  pub kept : after ≡ kept_after k line
  pub pushed : now_taken ≡ taken ++ line ∷ []

-- a text that says no line, or one that may not come next
abbrev pub IsBadIn : OrderKept → List ℕ → Type 0
IsBadIn k text = ((l : Line) → ¬ (Says text l)) ⊎ ((l : Line) × Says text l × (may_follow_in k l ≡ false))
