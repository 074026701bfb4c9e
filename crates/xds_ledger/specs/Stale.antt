-- When a request is ignored, by Envoy's "xDS REST and gRPC protocol": its nonce is out of date.
--     is_stale   whether a request with this nonce is stale
use Rattle.std.specs.Prelude.{ℕ, List, [], Bool, false, ◌&&◌, not, Option, bytes_eq}
use Rattle.std.specs.Option.{option_map_or}

-- rule: stale-nonce
-- Whether a request with this nonce is stale, so that it is ignored: there was a request of the type on its stream before it
-- (`begun`), no response of the type is unanswered (`settled`), and it has a nonce, which isn't that of the last response.
abbrev pub is_stale : Bool → Bool → Option (List ℕ) → List ℕ → Bool
is_stale begun settled last nonce = begun && (settled && not (bytes_eq nonce []) && not (option_map_or (bytes_eq nonce) last false))
