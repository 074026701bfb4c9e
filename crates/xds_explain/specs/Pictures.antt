-- Pictures, as SVG 1.1. The look is this project's own.
--     svg_begin, svg_end    how a picture begins and ends
--     svg_text              a picture with this inside
--     IsSvg                 a text begins and ends as a picture
--     class_word            the word of a class in a picture's style
use Rattle.std.specs.Prelude.{◌≡◌, ℕ, List, ◌++◌, codes}
use Rattle.xds_explain.specs.declared.sheet.Class.{Class}
use Rattle.xds_explain.specs.declared.sheet.Class.TheVariants.{Put, Gone, Ask, Yes, No, Tell, Mark, Broken}

-- how a picture begins and ends
abbrev pub svg_begin : List ℕ
svg_begin = codes "<svg xmlns=\"http://www.w3.org/2000/svg\" "

abbrev pub svg_end : List ℕ
svg_end = codes "</svg>\n"

-- a picture with this inside
abbrev pub svg_text : List ℕ → List ℕ
svg_text inside = svg_begin ++ (inside ++ svg_end)

-- A text begins and ends as a picture.
abbrev pub IsSvg : List ℕ → Type 0
IsSvg text = (inside : List ℕ) × (text ≡ svg_text inside)

-- the word of a class in a picture's style
abbrev pub class_word : Class → List ℕ
class_word Put = codes "put"
class_word Gone = codes "gone"
class_word Ask = codes "ask"
class_word Yes = codes "yes"
class_word No = codes "no"
class_word Tell = codes "tell"
class_word Mark = codes "mark"
class_word Broken = codes "broken"
