-- What the head of a request says before its body has come. This project's own.
--     is_chunked       whether a coding is `chunked`, in whatever case
--     comes_plain      whether a body comes as it is, or in the coding `chunked`
--     early_status     the status that a head is answered by, whatever its body, if one is
--     Begins           what becomes of a request by its head: it is answered, or its body is waited for
use Rattle.std.specs.Prelude.{◌≡◌, ◌⊎◌, ℕ, [], codes, bytes_eq, Bool, true, false, Option, Some, None, Result, Ok, Err}
use Rattle.std.specs.List.{list_all}
use Rattle.std.specs.String.{string_bytes}
use Rattle.http.specs.declared.request.Parts.{Parts}
use Rattle.http_header.specs.FieldValue.{FieldValue}
use Rattle.http_header.specs.HeaderMap.{Entries, get_all}
use Rattle.http_header.specs.Token.{lowercase}
use Rattle.http_uri.specs.Uri.{uri_path}
use Rattle.xds_resource.specs.declared.types.TypeName.{TypeName}
use Rattle.xds_polls.specs.Polls.{addressed}
use Rattle.xds_http.specs.declared.service.Answering.{Answering}
use Rattle.xds_http.specs.declared.service.Answering.TheVariants.{Known, Collecting}

-- whether a coding is `chunked`, in whatever case
abbrev pub is_chunked : FieldValue → Bool
is_chunked coding = bytes_eq (lowercase coding.bytes) (codes "chunked")

-- whether a body comes as it is, or in the coding `chunked`
abbrev pub comes_plain : Entries FieldValue → Bool
comes_plain fields = list_all is_chunked (get_all fields (codes "transfer-encoding"))

abbrev early : Result TypeName ℕ → Bool → Option ℕ
early (Err status) plain = Some status
early (Ok kind) true = None
early (Ok kind) false = Some 501

-- The status that a head is answered by, whatever its body, if one is: 404 and 405 as the path and the method say it, and 501 where they
-- are right and the body comes in another coding.
abbrev pub early_status : Parts → Option ℕ
early_status head = early (addressed head.method (uri_path head.uri) []) (comes_plain head.headers)

-- What becomes of a request by its head: it is answered by its status, or by 503 where there is no memory to wait; or its body is waited
-- for, to be posted at its path.
abbrev pub Begins : {R A F : Type 0} → Parts → Answering R A F → Type 0
Begins head (Known alloc status) = (early_status head ≡ Some status) ⊎ ((early_status head ≡ None) × (status ≡ 503))
Begins head (Collecting rt shared path body) = (early_status head ≡ None) × (string_bytes path ≡ uri_path head.uri)
