-- What playing a script does and prints, command by command. This project's own.
--     Played                   how far a script is played: what happened, and what was printed
--     nothing_played           before the first command
--     happening                something more happened
--     printing                 something more is printed
--     Plays                    what a command does. An event happens, though it may change nothing
--     PlaysAll                 what commands do, one after the other
--     Prints                   what commands print, from the start
--     takes                    the clients of a script take what isn't marked
--     IsPlayed                 a script that has no bad line prints this
--     IsUnplayed               why a script isn't played: its first bad line, or there was no memory
use Rattle.std.specs.Prelude.{◌≡◌, ℕ, List, [], ◌∷◌, ◌++◌, Some, ⊤}
use Rattle.xds_cache.specs.Faults.{Test}
use Rattle.xds_cache.specs.Marks.{is_unmarked}
use Rattle.xds_script.specs.Happenings.{Happening}
use Rattle.xds_world.specs.Settling.{IsAddedToSettle}
use Rattle.xds_world.specs.Worlds.{world}
use Rattle.xds_script.specs.Lines.{lines}
use Rattle.xds_script.specs.Commands.{Said, Happens, Settles, Shows, Lists}
use Rattle.xds_script.specs.Scripts.{IsScript, first_bad}
use Rattle.xds_play.specs.Shown.{view_shown, content_shown}
use Rattle.xds_play.specs.declared.play.Unplayed.{Unplayed}
use Rattle.xds_play.specs.declared.play.Unplayed.TheVariants.{BadScript, OutOfMemory}

-- how far a script is played: what happened, and what was printed
pub record Played : Type 0 where
  pub happened : List Happening
  pub printed : List ℕ

abbrev pub nothing_played : Played
nothing_played = record { happened = []; printed = [] }

-- something more happened
abbrev pub happening : List Happening → Played → Played
happening more p = record p { happened = p.happened ++ more }

-- something more is printed
abbrev pub printing : List ℕ → Played → Played
printing more p = record p { printed = p.printed ++ more }

-- What a command does. An event happens, though it may change nothing; a client is settled as far as possible; what a client
-- shows, or what a replica holds live, is printed of the world as it is then.
abbrev pub Plays : Test → Said → Played → Played → Type 0
Plays test (Happens h) before after = after ≡ happening (h ∷ []) before
Plays test (Settles c t) before after = (more : List Happening) × IsAddedToSettle test c t before.happened more × (after ≡ happening more before)
Plays test (Shows c t) before after = after ≡ printing (view_shown (world test before.happened) c t) before
Plays test (Lists r t) before after = after ≡ printing (content_shown (world test before.happened) r t) before

-- what commands do, one after the other
abbrev pub PlaysAll : Test → List Said → Played → Played → Type 0
PlaysAll test [] before after = after ≡ before
PlaysAll test (said ∷ rest) before after = (then : Played) × Plays test said before then × PlaysAll test rest then after

-- what commands print, from the start
abbrev pub Prints : Test → List Said → List ℕ → Type 0
Prints test said text = (happened : List Happening) × PlaysAll test said nothing_played (record { happened = happened; printed = text })

-- the clients of a script take what isn't marked
abbrev pub takes : Test
takes url name body = is_unmarked body

-- a script that has no bad line prints this
abbrev pub IsPlayed : List ℕ → List ℕ → Type 0
IsPlayed script text = (said : List Said) × IsScript script said × Prints takes said text

-- why a script isn't played: its first bad line, or there was no memory
abbrev pub IsUnplayed : List ℕ → Unplayed → Type 0
IsUnplayed script (BadScript line) = first_bad (lines script) ≡ Some line
IsUnplayed script OutOfMemory = ⊤
