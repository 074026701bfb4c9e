-- Which responses over HTTP a served replica gives to posts. This project's own.
--     IsResponseAt   the response to a post at a path with a body
use Rattle.std.specs.Prelude.{◌⊎◌, ℕ, List, codes}
use Rattle.http.specs.declared.response.Response.{Response}
use Rattle.http_body_util.specs.declared.full.Full.{Full}
use Rattle.xds_node.specs.Told.{Calls, no_calls}
use Rattle.xds_polls.specs.Polls.{HttpReply, unavailable}
use Rattle.xds_rest.specs.Posted.{IsReplyOrUnavailable}
use Rattle.xds_http.specs.Carried.{Carries, CarriesOrNone}

-- The response to a post at a path with a body: it carries the reply of the replica of this number, by a seat that made no call before;
-- or that there was none, where that reply has no room or no seat could be made.
abbrev pub IsResponseAt : ℕ → List ℕ → List ℕ → Response (Full (List ℕ)) → Type 0
IsResponseAt replica path body response =
    ((calls : Calls) × (r : HttpReply) × IsReplyOrUnavailable replica (codes "POST") path body no_calls calls r × CarriesOrNone response r)
    ⊎ Carries response unavailable
