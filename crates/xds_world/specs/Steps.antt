-- What is done in a step of settling a client of a type. This project's own.
--     count       one for yes
--     event_for   what is done in a step of settling a client of a type
use Rattle.std.specs.Prelude.{ℕ, Bool, if◌then◌else◌, Some}
use Rattle.xds_resource.specs.declared.types.TypeName.{TypeName}
use Rattle.xds_script.specs.Happenings as happenings
use Rattle.xds_script.specs.Happenings.{Happening}
use Rattle.xds_world.specs.declared.link.Step.{Step}
use Rattle.xds_world.specs.declared.link.Step.TheVariants.{Up, Poll, Down}

-- one for yes
abbrev pub count : Bool → ℕ
count b = if b then 1 else 0

-- what is done in a step of settling a client of a type
abbrev pub event_for : ℕ → TypeName → Step → Happening
event_for c t Up = happenings.Up c
event_for c t Poll = happenings.Poll c (Some t)
event_for c t Down = happenings.Down c
