use Rattle.std.proofs.Common.{ℕ, List, ◌++◌, arith, ap, sym, codes}
use Rattle.std.proofs.lemmas.Fmt.{decimal_digit}
use Rattle.xds_telling.proofs.serve_telling.no_memory_line.Goals as goal

pub returns : goal.returns
returns c = ap (λ (number : List ℕ). number ++ codes " " ++ codes "OutOfMemory" ++ codes "\n") (sym (decimal_digit 8 (omega arith)))
