use Rattle.std.proofs.Common.{◌++◌, ◌∙◌, ℕ, List, ap, codes, decimal}
use Rattle.xds_telling.proofs.serve_telling.replica_line.Goals as goal

pub returns : goal.returns
returns c =
    let named = c.as_str-named.ensures.value ∙ c.in_ok-named.ensures in
    c.in_ok-format.ensures.ok ∙ ap (λ (n : List ℕ). codes "replica " ++ (decimal c.args.place ++ (n ++ (codes ": streams on 127.0.0.1:" ++ (decimal c.args.port ++ (codes ", REST on 127.0.0.1:" ++ (decimal c.args.rest_port ++ codes "\n"))))))) named
