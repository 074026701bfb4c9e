-- What the fields of a message's JSON object hold, as the proto3 JSON mapping spells them. The code of an error may also
-- be a text, as that mapping allows for a whole number.
--     IsJson             bytes that are a JSON text of this value
--     IsObject           a value that is an object
--     without_minus      the text without a minus before it
--     value_of_digits    the number that decimal digits write, below zero after a minus
--     IsNumeralOf        decimal digits, one or more, with or without a minus before them
--     IsWhole            a whole number, as a number or as a text of its digits
--     set_value          what a field is set to: `null` sets nothing
--     IsOrDefault        the default where nothing is set, and else what the value is
--     IsText             a text
--     IsTexts            a list of texts
--     IsObjects          a list of objects
--     IsCode             a whole number of 32 bits
--     IsInner            a message within the message, which is there or not
--     Reads              the call answers what fits, as `view` sees it
use Rattle.std.specs.Prelude.{◌≡◌, ◌≢◌, ℕ, ℤ, pos, neg_ℤ, List, [], drop, map, if◌then◌else◌, Option, Some, None, Result, Ok, Err, IsSome, IsSomeAnd, All, IsUtf8, FitsSigned}
use Rattle.std.specs.Int.{w32}
use Rattle.std.specs.Str.Parse.{IsNumeral, digits_value, starts_with_minus}
use Rattle.serde_json.specs.Data.{Data, null, boolean, number, string, array, object}
use Rattle.serde_json.specs.Read.{read}
use Rattle.serde_json.specs.Find.{as_object, as_integer}
use Rattle.serde_json.specs.View.{items_of}
use Rattle.xds_resource.specs.declared.refusal.Refusal.{Refusal}
use Rattle.xds_resource.specs.declared.refusal.Refusal.TheVariants.{OutOfMemory, BadMessage}

-- ---- texts and values

-- bytes that are a JSON text of this value
abbrev pub IsJson : List ℕ → Data → Type 0
IsJson bytes d = IsUtf8 bytes × (read bytes ≡ Some d)

abbrev pub IsObject : Data → Type 0
IsObject d = IsSome (as_object d)

-- the text without a minus before it
abbrev pub without_minus : List ℕ → List ℕ
without_minus text = if starts_with_minus text then drop 1 text else text

-- the number that decimal digits write, below zero after a minus
abbrev pub value_of_digits : List ℕ → ℤ
value_of_digits text = if starts_with_minus text then neg_ℤ (pos (digits_value 10 (drop 1 text))) else pos (digits_value 10 text)

-- decimal digits, one or more, with or without a minus before them, and the number that they write
abbrev pub IsNumeralOf : List ℕ → ℤ → Type 0
IsNumeralOf text z = IsNumeral 10 (without_minus text) × (z ≡ value_of_digits text)

-- a whole number, as a number or as a text of its digits
abbrev pub IsWhole : Data → ℤ → Type 0
IsWhole null z = ⊥
IsWhole (boolean b) z = ⊥
IsWhole (number n) z = as_integer n ≡ Some z
IsWhole (string text) z = IsNumeralOf text z
IsWhole (array ds) z = ⊥
IsWhole (object ms) z = ⊥

-- ---- fields, each of what stands at it

-- what a field is set to: `null` sets nothing
abbrev pub set_value : Option Data → Option Data
set_value None = None
set_value (Some null) = None
set_value (Some (boolean b)) = Some (boolean b)
set_value (Some (number n)) = Some (number n)
set_value (Some (string s)) = Some (string s)
set_value (Some (array ds)) = Some (array ds)
set_value (Some (object ms)) = Some (object ms)

-- the default where nothing is set, and else what the value is
abbrev pub IsOrDefault : {A : Type 0} → A → (Data → A → Type 0) → Option Data → A → Type 0
IsOrDefault default Is None a = a ≡ default
IsOrDefault default Is (Some d) a = Is d a

-- a text
abbrev pub IsText : Option Data → List ℕ → Type 0
IsText o text = IsOrDefault [] (λ d t. d ≡ string t) (set_value o) text

-- a list of texts
abbrev pub IsTexts : Option Data → List (List ℕ) → Type 0
IsTexts o texts = IsOrDefault [] (λ d ts. d ≡ array (items_of (map string ts))) (set_value o) texts

-- a list of objects
abbrev pub IsObjects : Option Data → List Data → Type 0
IsObjects o objects = IsOrDefault [] (λ d os. (d ≡ array (items_of os)) × All IsObject os) (set_value o) objects

-- a whole number of 32 bits
abbrev pub IsCode : Option Data → ℤ → Type 0
IsCode o code = IsOrDefault (pos 0) (λ d z. IsWhole d z × FitsSigned w32 z) (set_value o) code

-- a message within the message, which is there or not
abbrev pub IsInner : {A : Type 0} → (Data → A → Type 0) → Option Data → Option A → Type 0
IsInner Spells o inner = IsOrDefault None (λ d m. IsSomeAnd m (Spells d)) (set_value o) inner

-- ---- calls that read

-- The call answers what fits, as `view` sees it. It refuses by BadMessage where nothing fits, and else found no memory.
abbrev pub Reads : {X Y : Type 0} → (Y → Type 0) → (X → Y) → Result X Refusal → Type 0
Reads Fits view (Ok x) = Fits (view x)
Reads {Y = Y} Fits view (Err e) = e ≢ OutOfMemory → (e ≡ BadMessage) × ((y : Y) → Fits y → ⊥)
