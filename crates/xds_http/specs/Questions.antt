-- What a poll asks a server, and how what it is answered is shown. The message is discovery.proto's; the node that asks, and the form
-- that is shown, are this project's own.
--     Question     a poll: its type, the names that are wanted as they are, the version that is kept (or none)
--     request_of   its message; whoever asks calls itself xds
--     body_of      the body of its post
--     line_of      a text and the end of its line, or nothing where it is empty
--     shown        what is shown of a reply: its status in a line, and its body in the next, where it has one
use Rattle.std.specs.Prelude.{ℕ, List, [], ◌∷◌, ◌++◌, ◌==◌, Some, None, codes, decimal, length, if◌then◌else◌}
use Rattle.serde_json.specs.Written.{compact_text}
use Rattle.xds_resource.specs.declared.types.TypeName.{TypeName}
use Rattle.xds_resource.specs.Types.{row}
use Rattle.xds_message.specs.Messages.{Request}
use Rattle.xds_message.specs.Written.{request_object}

-- a poll: its type, the names that are wanted as they are, the version that is kept (or none), and the cluster of who asks (or none)
pub record Question : Type 0 where
  pub kind : TypeName
  pub names : List (List ℕ)
  pub version : List ℕ
  pub cluster : List ℕ

-- its message; whoever asks calls itself xds
abbrev pub request_of : Question → Request
request_of q = record { version_info = q.version; node = Some (record { id = codes "xds"; cluster = q.cluster }); resource_names = q.names; type_url = (row q.kind).url; response_nonce = []; error_detail = None }

-- the body of its post
abbrev pub body_of : Question → List ℕ
body_of q = compact_text (request_object (request_of q))

-- a text and the end of its line, or nothing where it is empty
abbrev pub line_of : List ℕ → List ℕ
line_of text = if length text == 0 then [] else text ++ 10 ∷ []

-- what is shown of a reply: its status in a line, and its body in the next, where it has one
abbrev pub shown : ℕ → List ℕ → List ℕ
shown status body = decimal status ++ 10 ∷ [] ++ line_of body
