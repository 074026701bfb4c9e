-- The response to a post, by a seat of which all calls are known.
use Rattle.std.proofs.Common.{◌≡◌, inl, inr, ℕ, List, subst, codes}
use Rattle.http.specs.declared.response.Response.{Response}
use Rattle.http_body_util.specs.declared.full.Full.{Full}
use Rattle.xds_node.specs.Told.{Calls, no_calls}
use Rattle.xds_rest.specs.Posted.{IsReplyOrUnavailable}
use Rattle.xds_http.specs.Carried.{IsAnswer}
use Rattle.xds_monitor.specs.Responses.{IsResponseAt}

pub responds : {Seat : Type 0} (calls : Seat → Calls) (replica : ℕ) (path body : List ℕ) (response : Response (Full (List ℕ))) →
    IsAnswer (λ s. calls s ≡ no_calls) (λ old new path body r. IsReplyOrUnavailable replica (codes "POST") path body (calls old) (calls new) r) path body response →
    IsResponseAt replica path body response
responds calls replica path body response (inl is) =
    inl (calls is.1, is.2, subst (λ old. IsReplyOrUnavailable replica (codes "POST") path body old (calls is.1) is.2) is.3 is.4, is.5)
responds calls replica path body response (inr none) = inr none
