-- Cases as lines of a text, or as some lines each: how a case is written out, and when a case holds. This project's own.
--     unfolded      a text with each line that begins with four spaces joined to the line before it
--     with_urls     a text with the types' URLs in place of their short names
--     is_number     whether these are digits that write a 64-bit number
--     number_in     the number that a text writes in decimal; a plus may stand first
--     repetition    what `[*3` stands for: the text before the star, as often as the number behind it says
--     repeat_of     what the text behind a `<` stands for: a repetition up to `>`, and the rest as it is
--     repeats_of    what texts behind a `<` each stand for, in a row
--     IsWritten     there is such a text, and it was added to what was written before
--     IsRefusal     there is no such text, and the refusal says so; or no memory was found
--     repeated      a text with each repeat written out, as `[[[` for `<[*3>`; none where a `<` begins no repeat
--     written_out   a text with what its abbreviations stand for: the types' URLs first, and then the repeats
--     case_of       the case that a text writes: what is given, and what is wanted of it
--     Holds         a text writes a case, and what is wanted is something that may be made of what is given
--     told_by       the text that a call answered, or the number and the name of its refusal
use Rattle.std.specs.Prelude.{◌≡◌, ◌≢◌, ℕ, ◌^◌, List, [], ◌∷◌, ◌++◌, length, Bool, ◌&&◌, Option, Some, None, if◌then◌else◌, nat_lt, option_and_then, replicate, IsSomeAnd, Result, Ok, Err, codes, decimal}
use Rattle.std.specs.Option.{option_map, option_map_or}
use Rattle.std.specs.List.{concat}
use Rattle.std.specs.Str.{all_ascii_digits}
use Rattle.std.specs.Str.Parse.{digits_value, without_leading_plus}
use Rattle.xds_resource.specs.Types.{row}
use Rattle.xds_resource.specs.Refusals.{number_of, name_of}
use Rattle.xds_resource.specs.declared.refusal.Refusal.{Refusal}
use Rattle.xds_resource.specs.declared.refusal.Refusal.TheVariants.{OutOfMemory, BadScript}
use Rattle.xds_resource.specs.declared.types.TypeName.TheVariants.{Cluster, Endpoint, Listener, Route, Secret}
use Rattle.xds_cases.specs.Texts.{Text, around, pieces, replaced}

-- a text with each line that begins with four spaces joined to the line before it
unfoldable pub unfolded : Text → Text
unfolded text = replaced (codes "\n    ") [] text

-- a text with the types' URLs in place of their short names
unfoldable pub with_urls : Text → Text
with_urls text =
    replaced (codes "SDS") (row Secret).url
    (replaced (codes "RDS") (row Route).url (replaced (codes "LDS") (row Listener).url (replaced (codes "EDS") (row Endpoint).url (replaced (codes "CDS") (row Cluster).url text))))

-- whether these are digits that write a 64-bit number
abbrev pub is_number : Text → Bool
is_number digits = nat_lt 0 (length digits) && (all_ascii_digits digits && nat_lt (digits_value 10 digits) (2 ^ 64))

-- the number that a text writes in decimal; a plus may stand first
unfoldable pub number_in : Text → Option ℕ
number_in text = if is_number (without_leading_plus text) then Some (digits_value 10 (without_leading_plus text)) else None

-- what `[*3` stands for: the text before the star, as often as the number behind it says
abbrev pub repetition : Text → Option Text
repetition text = option_and_then (λ p. option_map (λ times. concat (replicate times p.0)) (number_in p.1)) (around (codes "*") text)

-- what the text behind a `<` stands for: a repetition up to `>`, and the rest as it is
abbrev pub repeat_of : Text → Option Text
repeat_of text = option_and_then (λ p. option_map (λ repeats. repeats ++ p.1) (repetition p.0)) (around (codes ">") text)

-- what texts behind a `<` each stand for, in a row
abbrev pub repeats_of : List Text → Option Text
repeats_of [] = Some []
repeats_of (text ∷ texts) = option_and_then (λ first. option_map (λ more. first ++ more) (repeats_of texts)) (repeat_of text)

-- There is such a text, and it was added to what was written before.
abbrev pub IsWritten : Option Text → Text → Text → Type 0
IsWritten text old new = option_map (λ more. old ++ more) text ≡ Some new

-- There is no such text, and the refusal says so; or no memory was found.
abbrev pub IsRefusal : Option Text → Refusal → Type 0
IsRefusal text refusal = refusal ≢ OutOfMemory → (refusal ≡ BadScript) × (text ≡ None)

-- a text with each repeat written out, as `[[[` for `<[*3>`; none where a `<` begins no repeat
unfoldable pub repeated : Text → Option Text
repeated text = option_map_or (λ p. option_map (λ repeats. p.0 ++ repeats) (repeats_of (pieces (codes "<") p.1))) (around (codes "<") text) (Some text)

-- a text with what its abbreviations stand for: the types' URLs first, and then the repeats
unfoldable pub written_out : Text → Option Text
written_out text = repeated (with_urls text)

-- the case that a text writes: what is given, and what is wanted of it
unfoldable pub case_of : Text → Option (Text × Text)
case_of line = option_and_then (around (codes " => ")) (written_out line)

-- A text writes a case, and what is wanted is something that may be made of what is given.
abbrev pub Holds : (Text → Text → Type 0) → Text → Type 0
Holds may_make line = IsSomeAnd (case_of line) (λ c. may_make c.0 c.1)

-- the text that a call answered, or the number and the name of its refusal
abbrev pub told_by : {X : Type 0} → (X → Text) → Result X Refusal → Text
told_by view (Ok x) = view x
told_by view (Err e) = decimal (number_of e) ++ (codes " " ++ name_of e)
