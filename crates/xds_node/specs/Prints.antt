-- Fingerprints of names, and sets of them. This project's own.
--     mixed      a fingerprint with the bytes of a text more
--     print      the fingerprint of a name of a type
--     shares     a number is in both
use Rattle.std.specs.Prelude.{ℕ, ◌*◌, ◌%◌, ◌^◌, List, [], ◌∷◌, Bool, bit_xor}
use Rattle.std.specs.List.{list_any}
use Rattle.std.specs.Ordering.{nat_cmp}
use Rattle.std.specs.FinSet as set
use Rattle.xds_resource.specs.declared.types.TypeName.{TypeName}
use Rattle.xds_resource.specs.Types.{row}

-- a fingerprint with the bytes of a text more, by FNV-1a of 64 bits
unfoldable pub mixed : ℕ → List ℕ → ℕ
mixed print [] = print
mixed print (b ∷ bs) = mixed (bit_xor print b * 1099511628211 % 2 ^ 64) bs

-- rule: wake-ups
-- the fingerprint of a name of a type: that of the type's word and of the name
abbrev pub print : TypeName → List ℕ → ℕ
print t name = mixed (mixed 14695981039346656037 (row t).word) name

-- a number is in both
abbrev pub shares : set.FinSet nat_cmp → set.FinSet nat_cmp → Bool
shares a b = list_any (set.contains a) (set.items b)
