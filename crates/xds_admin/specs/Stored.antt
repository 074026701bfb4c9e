-- What is told of a store while a server runs. This project's own.
--     failing_number  whether the last try failed, as a number
--     stored_text     the numbers of a store, in the text format of Prometheus
use Rattle.std.specs.Prelude.{ℕ, List, ◌++◌, Bool, true, false, codes, decimal}

-- whether the last try failed, as a number
abbrev pub failing_number : Bool → ℕ
failing_number true = 1
failing_number false = 0

-- the numbers of a store, in the text format of Prometheus: how often something was stored, how often that failed, and whether the last try did
abbrev pub stored_text : ℕ → ℕ → Bool → List ℕ
stored_text commits failures failing =
    codes "# HELP xds_store_commits_total Commits of the store.\n# TYPE xds_store_commits_total counter\nxds_store_commits_total " ++ (decimal commits ++ (codes "\n# HELP xds_store_failures_total Tries to store something that failed.\n# TYPE xds_store_failures_total counter\nxds_store_failures_total "
    ++ (decimal failures ++ (codes "\n# HELP xds_store_failing Whether the last try to store something failed.\n# TYPE xds_store_failing gauge\nxds_store_failing " ++ (decimal (failing_number failing) ++ codes "\n")))))
