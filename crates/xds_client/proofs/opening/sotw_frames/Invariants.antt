use Rattle.std.proofs.Common.{◌≡◌, ◌++◌, drop, map}
use Rattle.std.specs.Prelude.{All}
use Rattle.xds_client.specs.declared.subscription.StreamVariant.TheVariants.{Sotw}
use Rattle.xds_client.specs.Subscribing.{Fits, asked, sotw_text}
use Rattle.xds_client.proofs.opening.sotw_frames.Given as goal

-- what is left fits and is said behind what was
abbrev pub invariant-loop-request : goal.invariant-loop-request
invariant-loop-request l =
    (All (Fits Sotw) (map sotw_text (drop l.request-index l.requests.items)) → All (Fits Sotw) (map sotw_text l.requests.items))
    × (l.bytes.items ++ asked Sotw (map sotw_text (drop l.request-index l.requests.items)) ≡ asked Sotw (map sotw_text l.requests.items))
