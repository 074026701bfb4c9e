-- The object that is written of some fields has these, and no others; and what is written for a part spells that part.
use Rattle.std.proofs.Common.{◌≡◌, ℕ, zero, suc, ℤ, pos, negsuc, List, [], ◌∷◌, map, Bool, true, false, bytes_eq, if◌then◌else◌, Option, Some, None, option_map, MatchOption, All, codes, FitsSigned, refl, sym, ap, ◌∙◌, subst}
use Rattle.std.specs.Prelude.{⊤}
use Rattle.std.specs.Int.{w32}
use Rattle.std.proofs.lemmas.Slice.Eq.{bytes_eq-Decides}
use Rattle.serde_json.specs.Data.{Data, string, Members}
use Rattle.serde_json.specs.Find.{get_member}
use Rattle.serde_json.proofs.Views.{get_member-put, get_member-put_other}
use Rattle.xds_resource.specs.Fields.{first_of, field}
use Rattle.xds_json.specs.Spelling.{IsObject, IsText, IsTexts, IsObjects, IsCode, IsInner}
use Rattle.xds_json.specs.Parts.{Identity, Failure, SpellsIdentity, SpellsFailure}
use Rattle.xds_json.specs.WrittenFields.{text_data, list_data, code_data, put_set, members_set, object_set, identity_object, identity_fields, failure_object, failure_fields}

-- ---- what a list of fields holds at a key

abbrev pub value_at : List ℕ → List (List ℕ × Option Data) → Option Data
value_at k [] = None
value_at k (f ∷ fs) = if bytes_eq k f.0 then first_of f.1 (value_at k fs) else value_at k fs

get_member-put_set_at : (same : Bool) (k l : List ℕ) (o : Option Data) (ms : Members) → bytes_eq k l ≡ same → get_member k (put_set l o ms) ≡ (if same then first_of o (get_member k ms) else get_member k ms)
get_member-put_set_at true k l None ms is = refl
get_member-put_set_at true k l (Some d) ms is = let e = (bytes_eq-Decides k l).0 is in rw e (get_member-put l d ms)
get_member-put_set_at false k l None ms is = refl
get_member-put_set_at false k l (Some d) ms is = get_member-put_other k l d ms (λ e. let yes = (bytes_eq-Decides k l).1 e in cc)

pub get_member-members_set : (k : List ℕ) (fs : List (List ℕ × Option Data)) → get_member k (members_set fs) ≡ value_at k fs
get_member-members_set k [] = refl
get_member-members_set k (f ∷ fs) = get_member-put_set_at _ k f.0 f.1 (members_set fs) refl ∙ ap (λ o. if bytes_eq k f.0 then first_of f.1 o else o) (get_member-members_set k fs)

pub field-object_set : (camel proto : List ℕ) (fs : List (List ℕ × Option Data)) → field camel proto (object_set fs) ≡ first_of (value_at camel fs) (value_at proto fs)
field-object_set camel proto fs = ap (λ o. first_of o (get_member proto (members_set fs))) (get_member-members_set camel fs) ∙ ap (first_of (value_at camel fs)) (get_member-members_set proto fs)

-- under one name of two, and where both names are one
abbrev pub once : Option Data → Option Data
once o = first_of (first_of o None) None

abbrev pub twice : Option Data → Option Data
twice o = first_of (first_of o None) (first_of o None)

pub once_is : (o : Option Data) → once o ≡ o
once_is None = refl
once_is (Some d) = refl

pub twice_is : (o : Option Data) → twice o ≡ o
twice_is None = refl
twice_is (Some d) = refl

-- ---- what is written for a field is read as it

IsText-text_data : (s : List ℕ) → IsText (text_data s) s
IsText-text_data [] = refl
IsText-text_data (c ∷ cs) = refl

pub IsTexts-list_data : (ss : List (List ℕ)) → IsTexts (list_data (map string ss)) ss
IsTexts-list_data [] = refl
IsTexts-list_data (s ∷ ss) = refl

pub IsObjects-list_data : (ds : List Data) → All IsObject ds → IsObjects (list_data ds) ds
IsObjects-list_data [] h = refl
IsObjects-list_data (d ∷ ds) h = (refl, h)

IsCode-code_data : (z : ℤ) → FitsSigned w32 z → IsCode (code_data z) z
IsCode-code_data (pos zero) h = refl
IsCode-code_data (pos (suc n)) h = (refl, h)
IsCode-code_data (negsuc n) h = (refl, h)

-- ---- the parts of requests

pub text_once : (o : Option Data) (s : List ℕ) → o ≡ once (text_data s) → IsText o s
text_once o s e = subst (λ x. IsText x s) (sym (e ∙ once_is (text_data s))) (IsText-text_data s)

pub text_twice : (o : Option Data) (s : List ℕ) → o ≡ twice (text_data s) → IsText o s
text_twice o s e = subst (λ x. IsText x s) (sym (e ∙ twice_is (text_data s))) (IsText-text_data s)

pub SpellsIdentity-identity_object : (m : Identity) → SpellsIdentity (identity_object m) m
SpellsIdentity-identity_object m = record {
  is_object = refl;
  id = text_twice _ m.id (field-object_set (codes "id") (codes "id") (identity_fields m));
  cluster = text_twice _ m.cluster (field-object_set (codes "cluster") (codes "cluster") (identity_fields m));
}

pub SpellsFailure-failure_object : (m : Failure) → FitsSigned w32 m.code → SpellsFailure (failure_object m) m
SpellsFailure-failure_object m h = record {
  is_object = refl;
  code = subst (λ x. IsCode x m.code) (sym (field-object_set (codes "code") (codes "code") (failure_fields m) ∙ twice_is (code_data m.code))) (IsCode-code_data m.code h);
  message = text_twice _ m.message (field-object_set (codes "message") (codes "message") (failure_fields m));
}

pub IsInner-identity : (m : Option Identity) → IsInner SpellsIdentity (option_map identity_object m) m
IsInner-identity None = refl
IsInner-identity (Some a) = SpellsIdentity-identity_object a

pub IsInner-failure : (m : Option Failure) → MatchOption m ⊤ (λ f. FitsSigned w32 f.code) → IsInner SpellsFailure (option_map failure_object m) m
IsInner-failure None h = refl
IsInner-failure (Some a) h = SpellsFailure-failure_object a h
