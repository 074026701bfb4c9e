-- How near a text comes to the URL of a type.
use Rattle.std.proofs.Common.{◌≡◌, ◌≤◌, ◌<◌, ◌+◌, ◌∙◌, ℕ, List, length, Bool, true, false, ap, arith, refl, Fits, w64}
use Rattle.std.specs.Prelude.{◌||◌, max, nat_le}
use Rattle.std.proofs.lemmas.Bool.{le-leb, lt-leb}
use Rattle.xds_resource.specs.declared.types.TypeName.{TypeName}
use Rattle.xds_resource.specs.declared.types.TypeName.TheVariants.{Cluster, Endpoint, Listener, Route, Secret}
use Rattle.xds_resource.specs.Types.{row}
use Rattle.xds_causes.specs.Likeness.{common_back, common_front, is_near, last_name}

-- no URL of a type is long
url_length : (t : TypeName) → length (row t).url ≤ 100
url_length Cluster = omega arith
url_length Endpoint = omega arith
url_length Listener = omega arith
url_length Route = omega arith
url_length Secret = omega arith

-- so what a text has in common with one is little
pub common_fits : (t : TypeName) (known : List ℕ) (front back : ℕ) → known ≡ (row t).url → front ≤ length known → back ≤ length known → Fits w64 (front + back + 3)
common_fits t known front back is less also =
    let short : length known ≤ 100 = rw is (url_length t) in
    omega (arith, short, less, also)

-- what is_near comes to, by the parts of which it is made
near_by : (t : TypeName) (given known last : List ℕ) (front back all : ℕ) → known ≡ (row t).url → last ≡ last_name t → front ≡ common_front given known → back ≡ common_back given known
    → all ≡ max (length given) (length known) → (nat_le (length last) back || nat_le all (front + back + 3)) ≡ is_near given t
near_by t given known last front back all is_known is_last is_front is_back is_all = rw (is_all, is_front, is_back, is_last, is_known) refl

or_first : (a b n : Bool) → (a || b) ≡ n → a ≡ true → a ≡ n
or_first true b n is first = is
or_first false b n is first = absurd cc

or_second : (a b n : Bool) → (a || b) ≡ n → a ≡ false → b ≡ n
or_second false b n is first = is
or_second true b n is first = absurd cc

module _ (t : TypeName) (url given known last : List ℕ) (front back all : ℕ) (is_url : given ≡ url) (is_known : known ≡ (row t).url) (is_last : last ≡ last_name t) (is_front : front ≡ common_front given known) (is_back : back ≡ common_back given known) (is_all : all ≡ max (length given) (length known)) where
  pub near_then : length last ≤ back → nat_le (length last) back ≡ is_near url t
  near_then first =
      or_first _ _ _ (near_by t given known last front back all is_known is_last is_front is_back is_all) (le-leb _ _ first) ∙ ap (λ u. is_near u t) is_url

  pub near_else : back < length last → nat_le all (front + back + 3) ≡ is_near url t
  near_else first =
      or_second _ _ _ (near_by t given known last front back all is_known is_last is_front is_back is_all) (lt-leb _ _ first) ∙ ap (λ u. is_near u t) is_url
