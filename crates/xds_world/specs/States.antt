-- How the states of a client are seen. This project's own.
--     client_in   a client of any kind, with its link
use Rattle.std.specs.Prelude.{true, false}
use Rattle.xds_script.specs.declared.event.ClientKind.TheVariants as kinds
use Rattle.xds_world.specs.declared.client.ClientState.{ClientState}
use Rattle.xds_world.specs.declared.client.ClientState.TheVariants as states
use Rattle.xds_world.specs.AnyClients.{AnyClient}

abbrev pub client_in : {A : Type 0} → ClientState A → AnyClient
client_in (states.SotwDown c) = record { kind = kinds.Sotw; up = false; client = c }
client_in (states.SotwUp c) = record { kind = kinds.Sotw; up = true; client = c }
client_in (states.DeltaDown c) = record { kind = kinds.Delta; up = false; client = c }
client_in (states.DeltaUp c) = record { kind = kinds.Delta; up = true; client = c }
client_in (states.Rest c) = record { kind = kinds.Rest; up = false; client = c }
