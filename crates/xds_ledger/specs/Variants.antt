-- The two variants of the protocol, and what each tells a client, as Envoy's "xDS REST and gRPC protocol" says.
--     is_delta         whether a variant is the incremental one
--     is_whole         whether each response is the whole, so that what it lacks is gone
--     tells_removals   whether there is a way to tell a client that a name is gone
--     is_told          whether what is due can be told
use Rattle.std.specs.Prelude.{Bool, true, false, ◌&&◌, ◌||◌, not}
use Rattle.xds_resource.specs.declared.types.TypeName.{TypeName}
use Rattle.xds_resource.specs.Types.{row}
use Rattle.xds_ledger.specs.declared.variant.VariantName.{VariantName}
use Rattle.xds_ledger.specs.declared.variant.VariantName.TheVariants.{StateOfTheWorld, Delta}
use Rattle.xds_ledger.specs.declared.entry.Due.{Due}
use Rattle.xds_ledger.specs.declared.entry.Due.TheVariants.{Stated, Removed}

abbrev pub is_delta : VariantName → Bool
is_delta StateOfTheWorld = false
is_delta Delta = true

-- rule: whole-response
-- Whether each response is the whole, so that what it lacks is gone: state of the world, of a complete type.
abbrev pub is_whole : VariantName → TypeName → Bool
is_whole v t = not (is_delta v) && (row t).is_complete

-- rule: owed
-- Whether there is a way to tell a client that a name is gone: by its removal, or by a whole response without it.
abbrev pub tells_removals : VariantName → TypeName → Bool
tells_removals v t = is_delta v || (row t).is_complete

-- rule: owed
-- whether what is due can be told
abbrev pub is_told : VariantName → TypeName → Due → Bool
is_told v t (Stated version) = true
is_told v t Removed = tells_removals v t
