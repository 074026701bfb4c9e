use Rattle.std.proofs.Common.{◌≡◌, ◌++◌, drop, map}
use Rattle.std.specs.Prelude.{All}
use Rattle.xds_client.specs.declared.subscription.StreamVariant.TheVariants.{Delta}
use Rattle.xds_client.specs.Subscribing.{Fits, asked, delta_text}
use Rattle.xds_client.proofs.opening.delta_frames.Given as goal

-- what is left fits and is said behind what was
abbrev pub invariant-loop-request : goal.invariant-loop-request
invariant-loop-request l =
    (All (Fits Delta) (map delta_text (drop l.request-index l.requests.items)) → All (Fits Delta) (map delta_text l.requests.items))
    × (l.bytes.items ++ asked Delta (map delta_text (drop l.request-index l.requests.items)) ≡ asked Delta (map delta_text l.requests.items))
