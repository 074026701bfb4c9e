-- The texts that a response has beside its resources: its nonce is a decimal number, and a version is made of the replica's
-- number, its count of changes, and what the client asked for. This project's own.
--     replica_version    the version of all that a replica holds: the replica and its count of changes
--     at_cluster         an `@` and a client's cluster text, if it has one
--     interest_version   the version of what a client of this interest sees of a replica
use Rattle.std.specs.Prelude.{ℕ, List, [], ◌∷◌, ◌++◌, codes, decimal, if◌then◌else◌}
use Rattle.xds_interest.specs.Interests.{Selection}

-- rule: not-modified, rule: new-numbers
-- the version of all that a replica holds: the replica and its count of changes
abbrev pub replica_version : ℕ → ℕ → List ℕ
replica_version replica changes = decimal replica ++ 46 ∷ decimal changes

-- rule: not-modified
-- an `@` and a client's cluster text, if it has one
abbrev pub at_cluster : List ℕ → List ℕ
at_cluster [] = []
at_cluster (c ∷ cs) = 64 ∷ c ∷ cs

-- rule: not-modified
-- The version of what a client of this interest sees of a replica. With the star that depends on the client's cluster text;
-- without it, on the names.
abbrev pub interest_version : ℕ → ℕ → Selection → List ℕ
interest_version replica changes s = replica_version replica changes ++ (if s.star then at_cluster s.cluster else codes ".named")
