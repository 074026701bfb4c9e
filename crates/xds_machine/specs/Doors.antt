-- Whose requests an operator's port answers. This project's own.
--     is_loopback   a name or an address by which this machine knows itself
--     bearer        what a request has to say where there is a token
--     door_status   the status that a request is refused by, if it is
use Rattle.std.specs.Prelude.{ℕ, List, ◌++◌, Bool, ◌||◌, not, if◌then◌else◌, bytes_eq, Option, Some, None, codes}

-- a name or an address by which this machine knows itself
abbrev pub is_loopback : List ℕ → Bool
is_loopback name = bytes_eq name (codes "127.0.0.1") || bytes_eq name (codes "localhost") || bytes_eq name (codes "[::1]")

-- what a request has to say where there is a token
abbrev pub bearer : List ℕ → List ℕ
bearer token = codes "Bearer " ++ token

abbrev said_status : Option (List ℕ) → List ℕ → Option ℕ
said_status None authorization = None
said_status (Some wanted) authorization = if bytes_eq authorization wanted then None else Some 401

-- The status that a request is refused by, if it is: 403 where it is for a host that isn't this machine, or comes from a page of a site,
-- and 401 where something has to be said, and it says something else.
abbrev pub door_status : List ℕ → Bool → List ℕ → Option (List ℕ) → Option ℕ
door_status name has_origin authorization wanted =
    if not (is_loopback name) || has_origin then Some 403 else said_status wanted authorization
