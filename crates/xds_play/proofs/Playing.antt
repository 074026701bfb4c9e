-- Commands that are played one after the other.
use Rattle.std.proofs.Common.{List, [], ◌∷◌, refl}
use Rattle.xds_cache.specs.Faults.{Test}
use Rattle.xds_script.specs.Commands.{Said}
use Rattle.xds_play.specs.Played.{Played, Plays, PlaysAll, nothing_played}

-- whatever the rest comes to from here, all come to it from the start
abbrev pub ArePlayedTo : Test → List Said → List Said → Played → Type 0
ArePlayedTo test all rest p = (q : Played) → PlaysAll test rest p q → PlaysAll test all nothing_played q

-- one command more
pub played_more : (test : Test) (all : List Said) (said : Said) (rest : List Said) (p then : Played) → ArePlayedTo test all (said ∷ rest) p → Plays test said p then → ArePlayedTo test all rest then
played_more test all said rest p then so_far plays q behind = so_far q (then, plays, behind)

-- once none is left
pub played_to : (test : Test) (all : List Said) (p : Played) → ArePlayedTo test all [] p → PlaysAll test all nothing_played p
played_to test all p so_far = so_far p refl
