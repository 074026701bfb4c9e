-- JSON in order: whole numbers in decimal, and objects whose keys ascend. Written with no space, it is the compact text of what it reads as.
--     IsWhole      the shortest decimal of a number of 64 bits
--     ComesFirst   the text comes before every key
use Rattle.std.specs.Prelude.{◌≡◌, ◌<◌, ◌^◌, ℕ, List, unwrap_or, decimal, ⊤}
use Rattle.std.specs.Ordering.{nat_cmp}
use Rattle.std.specs.declared.cmp.Ordering.TheVariants.{Less}
use Rattle.std.specs.Cmp.Lexicographic.{slice_cmp}
use Rattle.json.specs.Json.{Json, Items, Members}
use Rattle.json.specs.Json as json
use Rattle.serde_json.specs.Data as value
use Rattle.serde_json.specs.Data.{Data}
use Rattle.serde_json.specs.Read.{number_of}

-- the shortest decimal of a number of 64 bits
abbrev pub IsWhole : List ℕ → Type 0
IsWhole s = (n : ℕ) × (n < 2 ^ 64) × (s ≡ decimal n)

-- the text comes before every key
abbrev pub ComesFirst : List ℕ → Members → Type 0
ComesFirst k json.no_members = ⊤
ComesFirst k (json.member l j ms) = (slice_cmp nat_cmp k l ≡ Less) × ComesFirst k ms

abbrev mutual
  pub IsOrdered : Json → Type 0
  IsOrdered json.null = ⊤
  IsOrdered (json.boolean b) = ⊤
  IsOrdered (json.number s) = IsWhole s
  IsOrdered (json.string s) = ⊤
  IsOrdered (json.array js) = AreOrdered js
  IsOrdered (json.object ms) = AreInOrder ms

  pub AreOrdered : Items → Type 0
  AreOrdered json.no_items = ⊤
  AreOrdered (json.item j js) = IsOrdered j × AreOrdered js

  pub AreInOrder : Members → Type 0
  AreInOrder json.no_members = ⊤
  AreInOrder (json.member k j ms) = IsOrdered j × ComesFirst k ms × AreInOrder ms

-- what JSON in order reads as
abbrev mutual
  pub meaning : Json → Data
  meaning json.null = value.null
  meaning (json.boolean b) = value.boolean b
  meaning (json.number s) = value.number (unwrap_or (number_of s) (value.unsigned 0))
  meaning (json.string s) = value.string s
  meaning (json.array js) = value.array (items_meaning js)
  meaning (json.object ms) = value.object (members_meaning ms)

  pub items_meaning : Items → value.Items
  items_meaning json.no_items = value.no_items
  items_meaning (json.item j js) = value.item (meaning j) (items_meaning js)

  pub members_meaning : Members → value.Members
  members_meaning json.no_members = value.no_members
  members_meaning (json.member k j ms) = value.member k (meaning j) (members_meaning ms)
