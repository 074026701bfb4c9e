use Rattle.std.proofs.Common.{◌≡◌, ◌++◌, map, string_bytes}
use Rattle.xds_resource.specs.Names.{pairs}
use Rattle.xds_cache.specs.Shelves.{texts}
use Rattle.xds_cache.proofs.wants.texts_of.Given as goal

-- the texts so far, and then those of what is left
abbrev pub invariant-loop-name : goal.invariant-loop-name
invariant-loop-name l = map string_bytes l.texts.items ++ map (λ e. e.0) (pairs l.name-iterator) ≡ texts l.wants
