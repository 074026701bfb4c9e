-- Numbers in the text format of Prometheus.
--     kind_word     what numbers do, in a word
--     help_line     what the numbers of a name are, and what they do: only rise, rise and fall, or count how long something took
--     value_line    the number of a name, with labels, as a text
--     sample_line   the number of a name, with labels, as a whole number
--     seconds_text  so many microseconds, in seconds
use Rattle.std.specs.Prelude.{ℕ, List, ◌++◌, codes, decimal}
use Rattle.xds_stats.specs.declared.metrics.MetricKind.{MetricKind}
use Rattle.xds_stats.specs.declared.metrics.MetricKind.TheVariants.{Counter, Gauge, Histogram}

abbrev pub kind_word : MetricKind → List ℕ
kind_word Counter = codes "counter"
kind_word Gauge = codes "gauge"
kind_word Histogram = codes "histogram"

-- what the numbers of a name are, and what they do: only rise, rise and fall, or count how long something took
abbrev pub help_line : List ℕ → List ℕ → MetricKind → List ℕ
help_line name help kind =
    codes "# HELP " ++ (name ++ (codes " " ++ (help ++ (codes "\n# TYPE " ++ (name ++ (codes " " ++ (kind_word kind ++ codes "\n")))))))

-- the number of a name, with labels, as a text
abbrev pub value_line : List ℕ → List ℕ → List ℕ → List ℕ
value_line name labels value = name ++ (codes "{" ++ (labels ++ (codes "} " ++ (value ++ codes "\n"))))

-- the same of a whole number
abbrev pub sample_line : List ℕ → List ℕ → ℕ → List ℕ
sample_line name labels value = name ++ (codes "{" ++ (labels ++ (codes "} " ++ (decimal value ++ codes "\n"))))

-- so many microseconds, in seconds
abbrev pub seconds_text : ℕ → List ℕ
seconds_text micros = decimal micros ++ codes "e-6"
