-- Versions by name, as a delta request tells which a client holds: a `map<string, string>` of the proto3 JSON mapping, which
-- is an object whose values are texts.
--     VersionMap, version_map_code   a version for each of some names
--     pairs_of                       the bytes of names and versions
--     text_members                   the members of an object that has a text for each name
--     IsVersions                     an object whose values are texts
--     pairs_data                     the object of some pairs, and nothing where there are none
--     versions_data                  the object of a map of versions, and nothing where it is empty
use Rattle.std.specs.Prelude.{◌≡◌, ℕ, List, [], ◌∷◌, map, String, string_bytes, Option, Some, None}
use Rattle.std.specs.Coded.{Coded, coded_ℕ, coded_list}
use Rattle.std.specs.FinMap as finmap
use Rattle.std.specs.declared.alloc.Global.{Global}
use Rattle.serde_json.specs.Data.{Data, string, object, Members, no_members, member}
use Rattle.xds_resource.specs.Writes.{text_cmp}
use Rattle.xds_json.specs.Spelling.{IsOrDefault, set_value}

-- a version for each of some names
abbrev pub VersionMap : Type 0
VersionMap = finmap.FinMap text_cmp (List ℕ)

abbrev pub version_map_code : Coded VersionMap
version_map_code = finmap.code (coded_list coded_ℕ) (coded_list coded_ℕ)

-- the bytes of names and versions
abbrev pub pairs_of : List (String Global × String Global) → List (List ℕ × List ℕ)
pairs_of es = map (λ e. (string_bytes e.0, string_bytes e.1)) es

-- the members of an object that has a text for each name
abbrev pub text_members : List (List ℕ × List ℕ) → Members
text_members [] = no_members
text_members (p ∷ ps) = member p.0 (string p.1) (text_members ps)

-- an object whose values are texts
abbrev pub IsVersions : Option Data → VersionMap → Type 0
IsVersions o versions = IsOrDefault finmap.empty (λ d vs. d ≡ object (text_members (finmap.entries vs))) (set_value o) versions

-- what pairs are written as, and nothing where there are none
abbrev pub pairs_data : List (List ℕ × List ℕ) → Option Data
pairs_data [] = None
pairs_data (p ∷ ps) = Some (object (text_members (p ∷ ps)))

abbrev pub versions_data : VersionMap → Option Data
versions_data versions = pairs_data (finmap.entries versions)
