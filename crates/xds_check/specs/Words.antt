-- The words of a trace's line, with one space behind each. This project's own.
--     space            a space
--     cut              the text before the first space and the text behind it, where there is one
--     word_of          the first word of a line of each form
--     verbs            all forms of lines
--     verb_of          the verb that is this word
--     max_stream       the greatest number of a stream, 2 ^ 63 - 1
--     IsStream         a stream's number
--     IsStreamText     a text is a stream's number in decimal without leading zeros
--     Finds            the call answers what fits, as `view` sees it
use Rattle.std.specs.Prelude.{◌≡◌, ◌≢◌, ◌≤◌, ◌==◌, ℕ, List, [], ◌∷◌, if◌then◌else◌, bytes_eq, Option, Some, None, option_map, Result, Ok, Err, codes, decimal, find}
use Rattle.xds_resource.specs.declared.refusal.Refusal.{Refusal}
use Rattle.xds_resource.specs.declared.refusal.Refusal.TheVariants.{OutOfMemory, BadTrace}
use Rattle.xds_check.specs.declared.words.Verb.{Verb}
use Rattle.xds_check.specs.declared.words.Verb.TheVariants.{Write, Open, Close, Request, Response, Idle}

-- a space
abbrev pub space : ℕ
space = 32

-- the text before the first space and the text behind it, where there is one
abbrev pub cut : List ℕ → Option (List ℕ × List ℕ)
cut [] = None
cut (b ∷ bs) = if b == space then Some ([], bs) else option_map (λ p. (b ∷ p.0, p.1)) (cut bs)

-- the first word of a line of each form
abbrev pub word_of : Verb → List ℕ
word_of Write = codes "write"
word_of Open = codes "open"
word_of Close = codes "close"
word_of Request = codes "request"
word_of Response = codes "response"
word_of Idle = codes "idle"

abbrev pub verbs : List Verb
verbs = Write ∷ Open ∷ Close ∷ Request ∷ Response ∷ Idle ∷ []

-- the verb that is this word
abbrev pub verb_of : List ℕ → Option Verb
verb_of word = find (λ v. bytes_eq word (word_of v)) verbs

-- the greatest number of a stream, 2 ^ 63 - 1
abbrev pub max_stream : ℕ
max_stream = 9223372036854775807

-- a stream's number
abbrev pub IsStream : ℕ → Type 0
IsStream s = (1 ≤ s) × (s ≤ max_stream)

-- a text is a stream's number in decimal without leading zeros
abbrev pub IsStreamText : ℕ → List ℕ → Type 0
IsStreamText s text = IsStream s × (text ≡ decimal s)

-- The call answers what fits, as `view` sees it. It refuses by BadTrace where nothing fits, and else found no memory.
abbrev pub Finds : {X Y : Type 0} → (X → Y) → (Y → Type 0) → Result X Refusal → Type 0
Finds view Fits (Ok x) = Fits (view x)
Finds {Y = Y} view Fits (Err e) = e ≢ OutOfMemory → (e ≡ BadTrace) × ((y : Y) → Fits y → ⊥)
