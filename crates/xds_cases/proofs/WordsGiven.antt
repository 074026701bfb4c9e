-- The words that `split_whitespace` gives.
use Rattle.std.proofs.Common.{◌≡◌, List, [], ◌∷◌, map, subst, sym}
use Rattle.std.specs.Prelude.{None}
use Rattle.std.specs.Borrow.{Bor}
use Rattle.std.specs.Iterator.{Yields}
use Rattle.std.specs.Str.Iter.{split_whitespace_steps, split_whitespace_rest}
use Rattle.xds_cases.specs.Texts.{Text, AreWords}

-- all that came until the end
given_words : (s t u : _) (xs : List (Bor Text)) → Yields split_whitespace_steps s xs t → split_whitespace_steps t None u → AreWords (split_whitespace_rest s) (map (λ x. x.now) xs)
given_words s t u [] came end = subst (λ v. AreWords (split_whitespace_rest v) []) (sym came) end.1
given_words s t u (x ∷ xs) came end =
    let k = came.1 in (k.0, split_whitespace_rest came.0, k.1, k.3, k.2, k.4, k.5, given_words came.0 t u xs came.2 end)

pub words_given : (s t u : _) (xs : List (Bor Text)) (text : Text) (words : List Text) → split_whitespace_rest s ≡ text
    → Yields split_whitespace_steps s xs t → split_whitespace_steps t None u → words ≡ map (λ x. x.now) xs → AreWords text words
words_given s t u xs text words from came end same = subst (AreWords text) (sym same) (subst (λ v. AreWords v (map (λ x. x.now) xs)) from (given_words s t u xs came end))
