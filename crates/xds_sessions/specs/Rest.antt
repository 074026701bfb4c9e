-- What a client is answered that polls without a stream, as one of REST does by Envoy's "xDS REST and gRPC protocol". The
-- version, and that nothing is answered where it is the present one, are this project's own.
--     asked_once       the interest of a client of this cluster that sends one list of names
--     whole            all that a client of this interest sees, in ascending order of names
--     is_present       whether a client of this interest that kept this version has all that it sees
--     unless_present   all that it sees, unless it has that
use Rattle.std.specs.Prelude.{ℕ, List, [], ◌∷◌, Bool, ◌&&◌, bytes_eq, if◌then◌else◌, Option, Some, None}
use Rattle.std.specs.List.{filter_map}
use Rattle.xds_resource.specs.declared.types.TypeName.{TypeName}
use Rattle.xds_interest.specs.Interests.{Selection, in_cluster}
use Rattle.xds_interest.specs.SotW.{sotw_interest}
use Rattle.xds_catalogue.specs.Holdings.{Holdings}
use Rattle.xds_catalogue.specs.Content.{content}
use Rattle.xds_message.specs.Drafts.{Drafted}
use Rattle.xds_ledger.specs.Texts.{interest_version}

-- rule: listed-names
-- the interest of a client of this cluster that sends one list of names
abbrev pub asked_once : TypeName → List (List ℕ) → List ℕ → Selection
asked_once t names cluster = in_cluster cluster (sotw_interest t (names ∷ []))

-- all that a client of this interest sees, in ascending order of names, with the present version and no nonce
abbrev pub whole : ℕ → TypeName → Holdings → Selection → Drafted
whole replica t h s = record {
  kind = t;
  version_info = interest_version replica h.changes s;
  nonce = [];
  bodies = filter_map (λ w. w.body) (content h.entries s);
}

-- rule: not-modified
-- Whether a client of this interest that kept this version has all that it sees: the version is the present one. Without the
-- star a version says nothing of the names that were asked for.
abbrev pub is_present : ℕ → Holdings → Selection → List ℕ → Bool
is_present replica h s version = s.star && bytes_eq version (interest_version replica h.changes s)

-- rule: not-modified
-- all that it sees, unless it has that
abbrev pub unless_present : ℕ → TypeName → Holdings → Selection → List ℕ → Option Drafted
unless_present replica t h s version = if is_present replica h s version then None else Some (whole replica t h s)
