use Rattle.std.proofs.Common.{◌≡◌, ◌++◌, string_bytes, map, Some}
use Rattle.std.specs.Option.{option_map}
use Rattle.xds_cases.specs.Cases.{repeats_of}
use Rattle.xds_cases.proofs.cases.repeated.Given as goal

abbrev pub invariant-loop-part : goal.invariant-loop-part
invariant-loop-part l = option_map (λ r. string_bytes l.initial.all ++ r) (repeats_of (map (λ x. x.now) l.yielded)) ≡ Some (string_bytes l.all)
