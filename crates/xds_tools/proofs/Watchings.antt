-- A client over what it was connected to is one over some connection.
use Rattle.std.proofs.Common.{ℕ, List, Option, Some, None, Result, inl, inr}
use Rattle.xds_frames.specs.Devices.{Device, seen}
use Rattle.xds_frames.specs.declared.counted.Counted.{Counted}
use Rattle.xds_resource.specs.declared.refusal.Refusal.{Refusal}
use Rattle.xds_client.specs.declared.connecting.ConnectingEnd.{ConnectingEnd}
use Rattle.xds_client.specs.declared.subscription.Subscription.{Subscription}
use Rattle.xds_client.specs.Running.{RunsBy, RunsBetween, unused}
use Rattle.xds_tools.specs.Ends.{RanSomewhere}

module _ {R W : Type 0} (remaining : R → Option (List ℕ)) (contents : W → Option (List ℕ)) (s : Subscription) (output : Device) where
  between : {T : Type 0} (reader : R) (writer : W) (answer : Result T Refusal) (ends : Option (Counted R × Counted W)) → RunsBetween reader writer remaining contents s answer ends output
      → RanSomewhere s answer output
  between reader writer answer None runs = absurd runs
  between reader writer answer (Some (r, w)) runs = inl (seen remaining (unused reader) r, seen contents (unused writer) w, 0, r.calls, runs)

pub somewhere : {R W : Type 0} (dialled : Result (R × W) Refusal → Type 0) (remaining : R → Option (List ℕ)) (contents : W → Option (List ℕ)) (s : Subscription) (ended : ConnectingEnd R W) (output : Device)
    → RunsBy dialled remaining contents s ended output → RanSomewhere s ended.answer output
somewhere dialled remaining contents s ended output (inl (reader, writer, made, runs)) = between remaining contents s output reader writer ended.answer ended.ends runs
somewhere dialled remaining contents s ended output (inr (e, made, none, unlinked)) = inr (e, unlinked)
