-- The lines that are printed of a response. This project's own.
--     answer_line    whether the response was taken
--     holding_line   a resource that is held, with its version where the client was told one
--     view_lines     what is held, in the order of names
--     lines          what is printed of a response that was answered, and of what is held then
use Rattle.std.specs.Prelude.{ℕ, List, ◌++◌, Bool, if◌then◌else◌, codes}
use Rattle.std.specs.List.{flat_map}
use Rattle.std.specs.FinMap as finmap
use Rattle.xds_resource.specs.declared.types.TypeName.{TypeName}
use Rattle.xds_cache.specs.Shelves.{Cache, Holding}
use Rattle.xds_cache.specs.Clients.{view}
use Rattle.xds_client.specs.declared.subscription.StreamVariant.{StreamVariant}
use Rattle.xds_client.specs.declared.subscription.StreamVariant.TheVariants.{Sotw, Delta}
use Rattle.xds_client.specs.Answering.{Answer}

-- whether the response was taken
abbrev pub answer_line : Bool → List ℕ → List ℕ
answer_line refused nonce = (if refused then codes "refused " else codes "taken ") ++ nonce ++ codes "\n"

-- a resource that is held, with its version where the client was told one
abbrev pub holding_line : StreamVariant → Holding → List ℕ
holding_line Sotw h = h.body ++ codes "\n"
holding_line Delta h = h.version ++ codes " " ++ h.body ++ codes "\n"

-- what is held, in the order of names
abbrev pub view_lines : StreamVariant → Cache → List ℕ
view_lines v held = flat_map (holding_line v) (finmap.values held)

-- what is printed of a response that was answered, and of what is held then
abbrev pub lines : StreamVariant → TypeName → Answer → List ℕ
lines v t a = answer_line a.refused a.nonce ++ view_lines v (view a.left t)
