-- What a long word of a command line is: two hyphens, its name, and its value after an `=`.
use Rattle.std.proofs.Common.{◌≡◌, ◌⊎◌, ◌==◌, ◌∙◌, ℕ, zero, suc, [], ◌∷◌, ◌++◌, Bool, true, false, cond}
use Rattle.std.proofs.Common.{refl, sym, ap, inl, inr, arith, Option, Some, None}
use Rattle.std.specs.Prelude.{option_and_then}
use Rattle.std.proofs.lemmas.Bool.Decides.{nat_tests}
use Rattle.xds_world.proofs.Replicas.{bound_some}
use Rattle.clap.specs.Words.{Text}
use Rattle.clap.specs.Lexer.{long_of, long_of_rest, name_and_value, strip_byte}
use Rattle.clap.proofs.CutLemmas.{Lacks}
use Rattle.clap.proofs.LexerLemmas.{name_and_value-at, name_and_value-without}

-- what stands before the first `=` of a text, and what stands after it
record IsCut (text name value : Text) : Type 0 where
  plain : Lacks 61 name
  parts : text ≡ name ++ 61 ∷ value

-- a first byte that is no `=` before a text that has none
Lacks-more : (x : ℕ) (xs : Text) → (x ≡ 61 → ⊥) → Lacks 61 xs → Lacks 61 (x ∷ xs)
Lacks-more x xs other none zero lt = other
Lacks-more x xs other none (suc i) lt = none i (omega arith)

-- a text has no `=`, or is cut at the first
cut : (text : Text) → Lacks 61 text ⊎ ((name : Text) × (value : Text) × IsCut text name value)
cut [] = inl (λ i lt. absurd (omega arith))
cut (x ∷ xs) = go (x == 61) refl (cut xs)
  where
    go : (t : Bool) → (x == 61) ≡ t → Lacks 61 xs ⊎ ((name : Text) × (value : Text) × IsCut xs name value) → Lacks 61 (x ∷ xs) ⊎ ((name : Text) × (value : Text) × IsCut (x ∷ xs) name value)
    go true e rest =
        let is : x ≡ 61 = grind (arith, nat_tests) in
        inr ([], xs, record { plain = λ i lt. absurd (omega arith); parts = ap (λ b. b ∷ xs) is })
    go false e (inl none) =
        let other : x ≡ 61 → ⊥ = λ is. grind (arith, nat_tests) in
        inl (Lacks-more x xs other none)
    go false e (inr c) =
        let other : x ≡ 61 → ⊥ = λ is. grind (arith, nat_tests) in
        inr (x ∷ c.0, c.1, record { plain = Lacks-more x c.0 other c.2.plain; parts = ap (λ t. x ∷ t) c.2.parts })

-- the text of a name and its value
abbrev pub joined : Text → Option Text → Text
joined name None = name
joined name (Some value) = name ++ 61 ∷ value

-- a name and its value stand in the text, with an `=` between
name_and_value-joined : (text name : Text) (v : Option Text) → name_and_value text ≡ (name, v) → text ≡ joined name v
name_and_value-joined text name v e = go (cut text)
  where
    go : Lacks 61 text ⊎ ((first : Text) × (rest : Text) × IsCut text first rest) → text ≡ joined name v
    go (inl none) = ap (λ (p : Text × Option Text). joined p.0 p.1) (sym (name_and_value-without text none) ∙ e)
    go (inr c) = c.2.parts ∙ ap (λ (p : Text × Option Text). joined p.0 p.1) (sym (name_and_value-at c.0 c.1 c.2.plain) ∙ ap name_and_value (sym c.2.parts) ∙ e)

-- a stripped byte stood first
strip_byte-first : (c : ℕ) (text rest : Text) → strip_byte c text ≡ Some rest → text ≡ c ∷ rest
strip_byte-first c [] rest e = absurd (cc)
strip_byte-first c (x ∷ xs) rest e = go (x == c) refl e
  where
    go : (t : Bool) → (x == c) ≡ t → cond t (Some xs) None ≡ Some rest → x ∷ xs ≡ c ∷ rest
    go true is f =
        let same : x ≡ c = grind (arith, nat_tests) in
        cc
    go false is f = absurd (cc)

-- past the two hyphens stands a name with its value
long_of_rest-parts : (text name : Text) (v : Option Text) → long_of_rest text ≡ Some (name, v) → name_and_value text ≡ (name, v)
long_of_rest-parts [] name v e = absurd (cc)
long_of_rest-parts (x ∷ xs) name v e = cc

-- a long word is two hyphens, its name, and its value after an `=`
pub long_of-joined : (word name : Text) (v : Option Text) → long_of word ≡ Some (name, v) → word ≡ 45 ∷ 45 ∷ joined name v
long_of-joined word name v e =
    let outer = bound_some long_of_rest (option_and_then (strip_byte 45) (strip_byte 45 word)) (name, v) e in
    let inner = bound_some (strip_byte 45) (strip_byte 45 word) outer.0 outer.1 in
    strip_byte-first 45 word inner.0 inner.1
    ∙ ap (λ t. 45 ∷ t) (strip_byte-first 45 inner.0 outer.0 inner.2 ∙ ap (λ t. 45 ∷ t) (name_and_value-joined outer.0 name v (long_of_rest-parts outer.0 name v outer.2)))
