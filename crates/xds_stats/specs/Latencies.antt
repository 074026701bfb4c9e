-- How long puts take until streams accept them. This project's own.
--     within          a count of those that took at most so long, once one more took so many microseconds
--     observed        what is counted once one more took so many microseconds
--     no_latencies    what is counted of none
--     mark_at         what was made of a type
--     marked_at       once one more was made of a type
--     put_behind      when a put was made that a response may be the first to tell, if there is one
--     bucket_line     the line of how many took at most so long
--     with_short      a text with the lines of short times behind it, of a replica
--     with_long       a text with the lines of long times behind it, of a replica
--     with_all        a text with the line of how many there were, and of how long they took together, behind it
--     with_latencies  a text with all these lines of a replica behind it
use Rattle.std.specs.Prelude.{ℕ, ◌+◌, ◌-◌, ◌^◌, List, ◌++◌, if◌then◌else◌, nat_le, nat_lt, min, Option, None, codes, decimal}
use Rattle.xds_resource.specs.declared.types.TypeName.{TypeName}
use Rattle.xds_resource.specs.declared.types.TypeName.TheVariants.{Cluster, Endpoint, Listener, Route, Secret}
use Rattle.std.specs.declared.time.Instant.{Instant}
use Rattle.xds_stats.specs.declared.latencies.Latencies.{Latencies}
use Rattle.xds_stats.specs.declared.puts.PutMark.{PutMark}
use Rattle.xds_stats.specs.declared.puts.PutCounts.{PutCounts}
use Rattle.xds_stats.specs.Boards.{more}
use Rattle.xds_stats.specs.Metrics.{sample_line, seconds_text, value_line}

-- how many took at most so long, once one more took so many microseconds
abbrev pub within : ℕ → ℕ → ℕ → ℕ
within most micros count = if nat_le micros most then more count else count

-- what is counted once one more took so many microseconds
abbrev pub observed : Latencies → ℕ → Latencies
observed l micros = record {
  ms_1 = within 1_000 micros l.ms_1;
  ms_5 = within 5_000 micros l.ms_5;
  ms_25 = within 25_000 micros l.ms_25;
  ms_100 = within 100_000 micros l.ms_100;
  ms_500 = within 500_000 micros l.ms_500;
  s_2 = within 2_000_000 micros l.s_2;
  s_10 = within 10_000_000 micros l.s_10;
  s_60 = within 60_000_000 micros l.s_60;
  count = more l.count;
  micros = min (l.micros + micros) (2 ^ 64 - 1);
}

-- what is counted of none
abbrev pub no_latencies : Latencies
no_latencies = record { ms_1 = 0; ms_5 = 0; ms_25 = 0; ms_100 = 0; ms_500 = 0; s_2 = 0; s_10 = 0; s_60 = 0; count = 0; micros = 0 }

-- what was made of a type
abbrev pub mark_at : PutCounts → TypeName → PutMark
mark_at puts Cluster = puts.cluster
mark_at puts Endpoint = puts.endpoint
mark_at puts Listener = puts.listener
mark_at puts Route = puts.route
mark_at puts Secret = puts.secret

abbrev marked : PutMark → Option Instant → PutMark
marked mark at = record { made = more mark.made; at = at }

-- once one more was made of a type
abbrev pub marked_at : PutCounts → TypeName → Option Instant → PutCounts
marked_at puts Cluster at = record puts { cluster = marked puts.cluster at }
marked_at puts Endpoint at = record puts { endpoint = marked puts.endpoint at }
marked_at puts Listener at = record puts { listener = marked puts.listener at }
marked_at puts Route at = record puts { route = marked puts.route at }
marked_at puts Secret at = record puts { secret = marked puts.secret at }

-- When the last put was made, where it is one of more than a stream knows of.
abbrev pub put_behind : {X : Type 0} → ℕ → ℕ → Option X → Option X
put_behind known made at = if nat_lt known made then at else None

abbrev replica_label : ℕ → List ℕ
replica_label replica = codes "replica=\"" ++ (decimal replica ++ codes "\"")

-- the line of how many took at most so long
abbrev pub bucket_line : ℕ → List ℕ → ℕ → List ℕ
bucket_line replica most count =
    sample_line (codes "xds_put_to_accept_seconds_bucket") (codes "replica=\"" ++ (decimal replica ++ (codes "\",le=\"" ++ (most ++ codes "\"")))) count

-- a text with the lines of short times behind it, of a replica
abbrev pub with_short : List ℕ → ℕ → Latencies → List ℕ
with_short text replica l =
    ((((text ++ bucket_line replica (codes "0.001") l.ms_1) ++ bucket_line replica (codes "0.005") l.ms_5)
    ++ bucket_line replica (codes "0.025") l.ms_25) ++ bucket_line replica (codes "0.1") l.ms_100)

-- of long ones
abbrev pub with_long : List ℕ → ℕ → Latencies → List ℕ
with_long text replica l =
    ((((text ++ bucket_line replica (codes "0.5") l.ms_500) ++ bucket_line replica (codes "2") l.s_2)
    ++ bucket_line replica (codes "10") l.s_10) ++ bucket_line replica (codes "60") l.s_60)

-- of all there were, and of how long these took together
abbrev pub with_all : List ℕ → ℕ → Latencies → List ℕ
with_all text replica l =
    ((text ++ bucket_line replica (codes "+Inf") l.count)
    ++ value_line (codes "xds_put_to_accept_seconds_sum") (replica_label replica) (seconds_text l.micros))
    ++ sample_line (codes "xds_put_to_accept_seconds_count") (replica_label replica) l.count

-- a text with all lines of a replica behind it
abbrev pub with_latencies : List ℕ → ℕ → Latencies → List ℕ
with_latencies text replica l = with_all (with_long (with_short text replica l) replica l) replica l
