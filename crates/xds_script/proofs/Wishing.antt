-- Names and edits, read word by word.
use Rattle.std.proofs.Common.{◌≡◌, ◌≢◌, ℕ, List, [], ◌∷◌, ◌++◌, Bool, true, false, cond, None, refl, ap, sym}
use Rattle.std.specs.Prelude.{◌==◌}
use Rattle.std.specs.List.{filter_map, list_all}
use Rattle.std.proofs.lemmas.Bool.{eqb-true}
use Rattle.xds_script.specs.Words.{Text}
use Rattle.xds_script.specs.Commands.{name_in, is_name, name_behind, subscribed_in, unsubscribed_in, is_edit}

-- ---- names

-- names that were read, and words that are left, of all
pub record IsNamedTo (done left all : List Text) : Type 0 where
  pub kept : done ++ left ≡ all
  pub good : list_all is_name all ≡ list_all is_name left

-- ---- edits

behind_if : (b mark : ℕ) (bs : Text) (test : Bool) → test ≡ (b == mark) → ((rest : Text) → b ∷ bs ≢ mark ∷ rest) → cond test (name_in bs) None ≡ None
behind_if b mark bs false e other = refl
behind_if b mark bs true e other = absurd (other bs (ap (λ (x : ℕ). x ∷ bs) (eqb-true b mark (sym e))))

-- a word that doesn't begin with the mark has no name behind it
pub name_behind-other : (mark : ℕ) (w : Text) → ((rest : Text) → w ≢ mark ∷ rest) → None ≡ name_behind mark w
name_behind-other mark [] other = refl
name_behind-other mark (b ∷ bs) other = sym (behind_if b mark bs (b == mark) refl other)

-- names to subscribe and to unsubscribe that were read, and words that are left, of all
pub record IsEditedTo (subscribe unsubscribe left all : List Text) : Type 0 where
  pub subscribed : subscribe ++ filter_map subscribed_in left ≡ filter_map subscribed_in all
  pub unsubscribed : unsubscribe ++ filter_map unsubscribed_in left ≡ filter_map unsubscribed_in all
  pub good : list_all is_edit all ≡ list_all is_edit left
