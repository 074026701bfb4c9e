use Rattle.std.proofs.Common.{◌≡◌, drop, map, string_bytes}
use Rattle.xds_port.specs.Requests.{with_names}
use Rattle.xds_port.proofs.target.add_names.Given as goal

-- the form as far as it is written, and the names that are left, come to all
abbrev pub invariant-loop-name : goal.invariant-loop-name
invariant-loop-name l =
    (l.form.prefix ≡ l.initial.form.prefix)
    × (with_names l.form.form (map string_bytes (drop l.name-index l.names)) ≡ with_names l.initial.form.form (map string_bytes l.names))
