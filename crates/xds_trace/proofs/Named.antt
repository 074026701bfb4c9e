-- That what the calls of a replica take goes by its own name.
use Rattle.std.proofs.Common.{◌≡◌, ℕ, List, Option, Some, None, refl, ap}
use Rattle.std.specs.Prelude.{IfSome}
use Rattle.std.specs.Option.{ForSome}
use Rattle.xds_resource.specs.declared.types.TypeName.{TypeName}
use Rattle.xds_resource.specs.Resources.{NamedBody, IsCanonical}
use Rattle.xds_message.proofs.StampedWriteLemmas.{from_value-canonical}
use Rattle.xds_core.specs.Events.{Event, Open, Request, Poll, Owes, Close, Put, Delete, Merge, Snapshot, Rest, Since}
use Rattle.xds_trace.specs.Making.{IsWellNamed, IsSound, name_read, own_names}
use Rattle.xds_trace.specs.Claims.{EveryTraceKeepsTheRules, SoDoesOneWithIdleEnds}
use Rattle.xds_trace.proofs.Tracing.{every_legal_trace_keeps_the_rules, so_do_idle_ends}

-- a resource is called by its name
called_so : (t : TypeName) (r : NamedBody) → IsCanonical t r → own_names t r.body ≡ r.name
called_so t r canonical = ap name_read (from_value-canonical t r canonical)

called_by : (t : TypeName) (name : List ℕ) (o : Option (List ℕ)) → ForSome o (λ b. IsCanonical t (record { name = name; body = b })) → IfSome o (λ b. own_names t b ≡ name)
called_by t name None canonical = tt
called_by t name (Some b) canonical = called_so t (record { name = name; body = b }) (canonical b refl)

pub well_named : (e : Event) → IsSound e → IsWellNamed own_names e
well_named Open sound = tt
well_named (Request n m) sound = tt
well_named (Poll n which) sound = tt
well_named (Owes n which) sound = tt
well_named (Close n) sound = tt
well_named (Put t r groups) sound = called_so t r sound
well_named (Delete t name) sound = tt
well_named (Merge b) sound = λ t k d lt. called_by t _ _ (sound t k d lt).body
well_named Snapshot sound = tt
well_named (Rest t names version cluster) sound = tt
well_named (Since marks) sound = tt

pub every_trace_keeps_the_rules : EveryTraceKeepsTheRules
every_trace_keeps_the_rules replica rs legal sound = every_legal_trace_keeps_the_rules own_names replica rs legal (λ k d lt. well_named _ (sound k d lt))

pub so_does_one_with_idle_ends : SoDoesOneWithIdleEnds
so_does_one_with_idle_ends replica rs quiet legal sound all = so_do_idle_ends own_names replica rs quiet legal (λ k d lt. well_named _ (sound k d lt)) all
