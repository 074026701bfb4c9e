-- Requests to an operator's port and to a checker of resources. This project's own.
--     authorization     the field by which a request says what a bearer of a token says, if it says something
--     first_lines       the lines that a request begins with
--     head_text         the head of a request: its method, its target, what it says of a token, and how many bytes of a body follow
--     with_replica      the form of a query, and one replica that is chosen
--     with_type         the same with a type
--     with_names        the same with names, each one that is chosen
--     resources_form    the form of a query that chooses of what replicas hold
--     behind_mark       the target of what a form chooses
--     resources_target  the target of a request for what replicas hold, as far as it is chosen
--     changes_target    the target of changes that are looked at alone, or made together
use Rattle.std.specs.Prelude.{ℕ, List, [], ◌∷◌, ◌++◌, ◌==◌, length, Bool, true, false, if◌then◌else◌, Option, Some, None, codes, decimal}
use Rattle.form_urlencoded.specs.Form.{append_pair}
use Rattle.xds_resource.specs.Types.{row}
use Rattle.xds_resource.specs.declared.types.TypeName.{TypeName}

-- the field by which a request says what a bearer of a token says, if it says something
abbrev pub authorization : Option (List ℕ) → List ℕ
authorization None = []
authorization (Some bearer) = codes "authorization: " ++ (bearer ++ codes "\r\n")

-- the lines that a request begins with: of HTTP/1.0, so that what is answered ends with the connection, and comes in no chunks
abbrev pub first_lines : List ℕ → List ℕ → List ℕ
first_lines method target = method ++ (codes " " ++ (target ++ codes " HTTP/1.0\r\nhost: localhost\r\n"))

-- the head of a request: its method, its target, what it says of a token, and how many bytes of a body follow
abbrev pub head_text : List ℕ → List ℕ → Option (List ℕ) → ℕ → List ℕ
head_text method target bearer count =
    first_lines method target ++ (authorization bearer ++ (codes "content-length: " ++ (decimal count ++ codes "\r\n\r\n")))

-- the form of a query, and one replica that is chosen
abbrev pub with_replica : List ℕ → Option ℕ → List ℕ
with_replica form None = form
with_replica form (Some replica) = append_pair form (codes "replica") (decimal replica)

-- the same with a type
abbrev pub with_type : List ℕ → Option TypeName → List ℕ
with_type form None = form
with_type form (Some kind) = append_pair form (codes "type") ((row kind).word)

-- the same with names, each one that is chosen
abbrev pub with_names : List ℕ → List (List ℕ) → List ℕ
with_names form [] = form
with_names form (name ∷ names) = with_names (append_pair form (codes "name") name) names

-- the form of a query that chooses of what replicas hold
abbrev pub resources_form : Option ℕ → Option TypeName → List (List ℕ) → List ℕ
resources_form replica kind names = with_names (with_type (with_replica [] replica) kind) names

-- the target of what a form chooses
abbrev pub behind_mark : List ℕ → List ℕ
behind_mark form = if length form == 0 then codes "/resources" else codes "/resources?" ++ form

-- the target of a request for what replicas hold, as far as it is chosen
abbrev pub resources_target : Option ℕ → Option TypeName → List (List ℕ) → List ℕ
resources_target replica kind names = behind_mark (resources_form replica kind names)

-- the target of changes that are looked at alone, or made together
abbrev pub changes_target : Bool → Bool → List ℕ
changes_target true true = codes "/changes?dry-run&all-or-nothing"
changes_target true false = codes "/changes?dry-run"
changes_target false true = codes "/changes?all-or-nothing"
changes_target false false = codes "/changes"
