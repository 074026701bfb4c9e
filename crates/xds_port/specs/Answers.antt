-- What a request is answered. This project's own.
--     digit_of       what a digit stands for
--     shown_status   the status of three digits
--     status_in      the status that the head of an answer begins with
use Rattle.std.specs.Prelude.{ℕ, ◌+◌, ◌*◌, ◌-◌, List, ◌∷◌, ◌&&◌, nat_le, bytes_eq, take, drop, Option, Some, None, if◌then◌else◌, codes}
use Rattle.std.specs.Option.{option_and_then}

-- what a digit stands for
abbrev pub digit_of : ℕ → Option ℕ
digit_of b = if nat_le 48 b && nat_le b 57 then Some (b - 48) else None

-- the status of three digits
abbrev pub shown_status : ℕ → ℕ → ℕ → Option ℕ
shown_status a b c =
    option_and_then (λ x. option_and_then (λ y. option_and_then (λ z. Some (x * 100 + y * 10 + z)) (digit_of c)) (digit_of b)) (digit_of a)

-- the status of what stands behind the version
abbrev behind_version : List ℕ → Option ℕ
behind_version (v ∷ s ∷ a ∷ b ∷ c ∷ rest) = if nat_le 32 s && nat_le s 32 then shown_status a b c else None
behind_version _ = None

-- the status that the head of an answer begins with: three digits behind the version and a space
abbrev pub status_in : List ℕ → Option ℕ
status_in head = if bytes_eq (take 7 head) (codes "HTTP/1.") then behind_version (drop 7 head) else None
