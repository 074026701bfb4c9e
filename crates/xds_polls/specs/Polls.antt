-- What a post over HTTP comes to before its body is read, and what a reply to it is: the paths of Envoy's "xDS REST and gRPC
-- protocol". The bound on a body, the order of the checks and the reply where none can be made are this project's own.
--     HttpReply                        a reply: its status, and its body, if it has one
--     without_body                     a reply with a status alone
--     with_body                        a reply with a status and a body
--     unavailable                      where no reply can be made
--     without_query                    the path up to its query, if it has one
--     type_of_path                     the type that is polled at a path
--     max_body                         as many bytes as a body may have
--     admitted                         of a request to the path of a type: the type, or the status that finishes it
--     addressed                        of any request: the type that it polls, or the status that finishes it
use Rattle.std.specs.Prelude.{ℕ, List, Option, Some, None, Result, Ok, Err, ◌==◌, length, bytes_eq, codes, find, nat_lt, not, if◌then◌else◌}
use Rattle.std.specs.List.{before_first}
use Rattle.std.specs.Option.{option_map_or}
use Rattle.xds_resource.specs.declared.types.TypeName.{TypeName}
use Rattle.xds_resource.specs.Types.{row, types}

-- a reply: its status, and its body, if it has one
pub record HttpReply : Type 0 where
  pub status : ℕ
  pub body : Option (List ℕ)

abbrev pub without_body : ℕ → HttpReply
without_body status = record { status = status; body = None }

abbrev pub with_body : ℕ → List ℕ → HttpReply
with_body status text = record { status = status; body = Some text }

-- where no reply can be made
abbrev pub unavailable : HttpReply
unavailable = without_body 503

-- ---- before the body is read

-- the path up to its query, if it has one
abbrev pub without_query : List ℕ → List ℕ
without_query path = before_first (λ b. b == 63) path

-- the type that is polled at a path
abbrev pub type_of_path : List ℕ → Option TypeName
type_of_path path = find (λ t. bytes_eq (without_query path) (row t).rest_path) types

-- as many bytes as a body may have
abbrev pub max_body : ℕ
max_body = 4194304

-- of a request to the path of a type: the type, or the status that finishes it
abbrev pub admitted : List ℕ → List ℕ → TypeName → Result TypeName ℕ
admitted method body t =
    if not (bytes_eq method (codes "POST")) then Err 405 else if nat_lt max_body (length body) then Err 413 else Ok t

-- of any request: the type that it polls, or the status that finishes it
abbrev pub addressed : List ℕ → List ℕ → List ℕ → Result TypeName ℕ
addressed method path body = option_map_or (admitted method body) (type_of_path path) (Err 404)
