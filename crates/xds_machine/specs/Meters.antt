-- What the server takes of its machine, and which program it is, in numbers. This project's own.
--     usage_text     the numbers of what a process takes
--     used_text      the same, or nothing where it isn't known
--     process_text   when a process began, and the numbers of what it takes behind it
--     build_text     which program it is
use Rattle.std.specs.Prelude.{ℕ, List, [], ◌++◌, Option, Some, None, codes, decimal}
use Rattle.xds_stats.specs.declared.metrics.MetricKind.TheVariants.{Gauge}
use Rattle.xds_stats.specs.Metrics.{help_line, sample_line, seconds_text}
use Rattle.xds_machine.specs.declared.meter.Usage.{Usage}

-- the numbers of what a process takes
abbrev pub usage_text : Usage → List ℕ
usage_text usage =
    codes "# HELP process_cpu_seconds_total Time that the process took of the processors.\n# TYPE process_cpu_seconds_total counter\nprocess_cpu_seconds_total "
    ++ (seconds_text usage.cpu_micros
    ++ (codes "\n# HELP process_resident_memory_bytes Memory that the process has in use.\n# TYPE process_resident_memory_bytes gauge\nprocess_resident_memory_bytes "
    ++ (decimal usage.resident
    ++ (codes "\n# HELP process_virtual_memory_bytes Memory that the process has spoken for.\n# TYPE process_virtual_memory_bytes gauge\nprocess_virtual_memory_bytes "
    ++ (decimal usage.virtual_bytes
    ++ (codes "\n# HELP process_threads Threads of the process.\n# TYPE process_threads gauge\nprocess_threads " ++ (decimal usage.threads ++ codes "\n")))))))

-- the same, or nothing where it isn't known
abbrev pub used_text : Option Usage → List ℕ
used_text None = []
used_text (Some usage) = usage_text usage

-- when it began, and the same behind that
abbrev pub process_text : ℕ → Option Usage → List ℕ
process_text started usage =
    codes "# HELP process_start_time_seconds When the process began, in seconds since 1970 in UTC.\n# TYPE process_start_time_seconds gauge\nprocess_start_time_seconds "
    ++ (decimal started ++ (codes "\n" ++ used_text usage))

-- which program it is
abbrev pub build_text : List ℕ → List ℕ
build_text version =
    help_line (codes "xds_build_info") (codes "The program's version.") Gauge
    ++ sample_line (codes "xds_build_info") (codes "version=\"" ++ (version ++ codes "\"")) 1
