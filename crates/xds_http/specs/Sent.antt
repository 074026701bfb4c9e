-- The post of a poll over HTTP, and why nothing is told. This project's own.
--     piece_of       a body in one piece, unless it is empty
--     IsPostTo       the request posts a body to a path
--     IsPostOf       the request posts a poll: to the path of its type, with its body
--     TellsNothing   why nothing is told
--     IsPolled       one poll by what posts it
use Rattle.std.specs.Prelude.{◌≡◌, ◌⊎◌, ◌==◌, ℕ, List, Option, Some, None, codes, length, if◌then◌else◌, Result, Err}
use Rattle.http.specs.declared.request.Request.{Request}
use Rattle.http.specs.Request as http
use Rattle.http_body_util.specs.declared.full.Full.{Full}
use Rattle.http_uri.specs.Uri.{Spells}
use Rattle.xds_resource.specs.Types.{row}
use Rattle.xds_resource.specs.declared.refusal.Refusal.{Refusal}
use Rattle.xds_resource.specs.declared.refusal.Refusal.TheVariants.{OutOfMemory, Device}
use Rattle.xds_http.specs.declared.told.Told.{Told}
use Rattle.xds_http.specs.Questions.{Question, body_of}

-- a body in one piece, unless it is empty
abbrev pub piece_of : List ℕ → Option (List ℕ)
piece_of text = if length text == 0 then None else Some text

-- the request posts a body to a path
pub record IsPostTo (path body : List ℕ) (request : Request (Full (List ℕ))) : Type 0 where
  pub method : (http.head_of request).method ≡ codes "POST"
  pub uri : Spells path (http.head_of request).uri
  pub carried : (http.body_of request).buf ≡ piece_of body

-- the request posts a poll: to the path of its type, with its body
abbrev pub IsPostOf : Question → Request (Full (List ℕ)) → Type 0
IsPostOf q request = IsPostTo (row q.kind).rest_path (body_of q) request

-- why nothing is told
abbrev pub TellsNothing : Refusal → Type 0
TellsNothing e = (e ≡ OutOfMemory) ⊎ (e ≡ Device)

-- One poll by what posts it: the post of the question went out by it, and this is what it told of that; or there was no memory for the
-- post, and nothing went out.
abbrev pub IsPolled : (Request (Full (List ℕ)) → Result Told Refusal → Type 0) → Question → Result Told Refusal → Type 0
IsPolled tells q r = ((request : Request (Full (List ℕ))) × IsPostOf q request × tells request r) ⊎ (r ≡ Err OutOfMemory)
