-- What an operator's port is asked for. This project's own.
--     found_at       what is found at a path, and by which method
--     also_at        what else is found at a path, and by which method
--     routed_among   what is asked for by this method of what is found, or 405
--     routed_by      what a request of this method asks for, by what is found at its path, and what else is
--     routed         what a request asks for, or the status that refuses it
use Rattle.std.specs.Prelude.{ℕ, List, if◌then◌else◌, bytes_eq, Option, Some, None, Result, Ok, Err, codes}
use Rattle.xds_admin.specs.declared.routes.OperatorRoute.{OperatorRoute}
use Rattle.xds_admin.specs.declared.routes.OperatorRoute.TheVariants.{Health, Ready, Open, Metrics, Status, Changes, Writes, Merge, Stop, Resources, Page, Lines}

-- what is found at a path, and by which method
abbrev pub found_at : List ℕ → Option (OperatorRoute × List ℕ)
found_at path =
    if bytes_eq path (codes "/healthz") then Some (Health, codes "GET")
    else if bytes_eq path (codes "/ready") then Some (Ready, codes "GET")
    else if bytes_eq path (codes "/metrics") then Some (Metrics, codes "GET")
    else if bytes_eq path (codes "/status") then Some (Status, codes "GET")
    else if bytes_eq path (codes "/changes") then Some (Changes, codes "POST")
    else if bytes_eq path (codes "/writes") then Some (Writes, codes "GET")
    else if bytes_eq path (codes "/stop") then Some (Stop, codes "POST")
    else if bytes_eq path (codes "/resources") then Some (Resources, codes "GET")
    else if bytes_eq path (codes "/") then Some (Page, codes "GET")
    else if bytes_eq path (codes "/status.txt") then Some (Lines, codes "GET")
    else None

-- what else is found at a path, and by which method
abbrev pub also_at : List ℕ → Option (OperatorRoute × List ℕ)
also_at path =
    if bytes_eq path (codes "/ready") then Some (Open, codes "POST")
    else if bytes_eq path (codes "/writes") then Some (Merge, codes "POST")
    else None

-- what is asked for by this method of what is found, or 405
abbrev pub routed_among : List ℕ → Option (OperatorRoute × List ℕ) → Result OperatorRoute ℕ
routed_among method None = Err 405
routed_among method (Some found) = if bytes_eq method found.1 then Ok found.0 else Err 405

-- what a request of this method asks for, by what is found at its path, and what else is
abbrev pub routed_by : List ℕ → Option (OperatorRoute × List ℕ) → Option (OperatorRoute × List ℕ) → Result OperatorRoute ℕ
routed_by method None also = Err 404
routed_by method (Some found) also = if bytes_eq method found.1 then Ok found.0 else routed_among method also

-- what a request asks for, or the status that refuses it
abbrev pub routed : List ℕ → List ℕ → Result OperatorRoute ℕ
routed method path = routed_by method (found_at path) (also_at path)
