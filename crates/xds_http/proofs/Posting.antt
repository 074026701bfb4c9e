-- What a builder of requests makes in four steps: a method and a path, two header fields, and a body.
use Rattle.std.proofs.Common.{◌≡◌, ℕ, List, Result, Ok, Err, IfOk, MatchResult, sym, ap, subst, ◌∙◌, codes}
use Rattle.std.specs.Prelude.{IsOkAnd}
use Rattle.http.specs.declared.error.Error.{Error}
use Rattle.http.specs.declared.request.Parts.{Parts}
use Rattle.http.specs.declared.request.Request.{Request}
use Rattle.http.specs.Request as http
use Rattle.http.specs.Steps.{StepsTo}
use Rattle.http_body_util.specs.declared.full.Full.{Full}
use Rattle.http_uri.specs.Uri.{Spells}
use Rattle.xds_http.specs.Sent.{IsPostTo, piece_of}

-- a step that changes header fields alone
abbrev AddsFields : Parts → Parts → Type 0
AddsFields old new = new ≡ record old { headers = new.headers }

pub posted : (path body : List ℕ) (full : Full (List ℕ)) (start named typed : Result Parts Error) (made : Result (Request (Full (List ℕ))) Error) →
    IfOk start (http.IsHeadFor (codes "POST") (Spells path)) → StepsTo start named AddsFields → StepsTo named typed AddsFields → full.buf ≡ piece_of body →
    MatchResult typed (λ head. IsOkAnd made (λ r. (http.head_of r ≡ head) × (http.body_of r ≡ full))) (λ e. made ≡ Err e) → IfOk made (IsPostTo path body)
posted path body full (Ok first) (Ok second) (Ok third) (Ok r) begins name typ whole is = record {
  method = ap (λ h. h.method) is.0 ∙ ap (λ h. h.method) typ ∙ ap (λ h. h.method) name ∙ begins.method;
  uri = subst (Spells path) (sym (ap (λ h. h.uri) is.0 ∙ ap (λ h. h.uri) typ ∙ ap (λ h. h.uri) name)) begins.uri;
  carried = ap (λ f. f.buf) is.1 ∙ whole;
}
posted path body full (Err e) (Ok second) (Ok third) (Ok r) begins name typ whole is = absurd name
posted path body full start (Err e) (Ok third) (Ok r) begins name typ whole is = absurd typ
posted path body full start named (Err e) (Ok r) begins name typ whole is = absurd cc
posted path body full start named typed (Err e) begins name typ whole is = tt
