-- Why a client rejects a response: the first of its resources that is at fault, and the first reason against that. This
-- project's own.
--     Test                what a client's test answers, by the type URL, the name and the body
--     Stated              a resource of a response: in delta with the name and the version that the message gives it
--     refusal_text        the number of a refusal and its name, as `4 BadResource`
--     first_reason        the first of the reasons that holds
--     is_misnamed         whether the message gives a resource another name than its body does
--     reasons             the tests that a resource may fail, each with its text
--     fault_by            the text of the first fault of a stated resource, if it has one
--     fault_of            why a resource is at fault, if it is
--     holding_of          what is held of a resource
--     and_stated          what is stated once a resource is, too
--     stated_by           what resources state, after what was stated before them
--     first_fault         why the first resource at fault is rejected, after what was stated before
use Rattle.std.specs.Prelude.{ℕ, List, [], ◌∷◌, ◌++◌, Bool, false, ◌||◌, not, if◌then◌else◌, Option, Some, None, Result, Ok, Err, bytes_eq, codes, decimal}
use Rattle.std.specs.Option.{option_or, option_map_or}
use Rattle.std.specs.FinMap as finmap
use Rattle.serde_json.specs.Data.{Data}
use Rattle.xds_resource.specs.declared.types.TypeName.{TypeName}
use Rattle.xds_resource.specs.declared.refusal.Refusal.{Refusal}
use Rattle.xds_resource.specs.Types.{row}
use Rattle.xds_resource.specs.Refusals.{number_of, name_of}
use Rattle.xds_resource.specs.Resources.{NamedBody, from_value, resource_of}
use Rattle.xds_cache.specs.Shelves.{Wants, Holding, Cache}

-- What a client's test answers, by the type URL, the name and the body: whether it takes the resource.
abbrev pub Test : Type 0
Test = List ℕ → List ℕ → Data → Bool

-- a resource of a response: in delta with the name and the version that the message gives it
pub record Stated : Type 0 where
  pub named : Option (List ℕ)
  pub version : List ℕ
  pub resource : Data

-- the number of a refusal and its name, as `4 BadResource`
abbrev pub refusal_text : Refusal → List ℕ
refusal_text e = decimal (number_of e) ++ codes " " ++ name_of e

-- rule: whole-or-nothing
-- the first of the reasons that holds
abbrev pub first_reason : List (Bool × List ℕ) → Option (List ℕ)
first_reason [] = None
first_reason (r ∷ rs) = if r.0 then Some r.1 else first_reason rs

-- whether the message gives a resource another name than its body does
abbrev pub is_misnamed : Option (List ℕ) → List ℕ → Bool
is_misnamed named name = option_map_or (λ n. not (bytes_eq n name)) named false

-- rule: whole-or-nothing
-- what may be wrong with a resource that is one, beside those that the response states before it and removes
abbrev pub reasons : TypeName → Test → Wants → Cache → Option (List ℕ) → Data → List ℕ → List (Bool × List ℕ)
reasons t test removed before named body name =
    (is_misnamed named name, codes "name: " ++ name)
    ∷ (finmap.contains_key before name || finmap.contains_key removed name, codes "doubled: " ++ name)
    ∷ (not (test (row t).url name body), codes "test: " ++ name) ∷ []

abbrev pub fault_by : TypeName → Test → Wants → Cache → Stated → Result NamedBody Refusal → Option (List ℕ)
fault_by t test removed before r (Err e) = Some (refusal_text e)
fault_by t test removed before r (Ok body) = first_reason (reasons t test removed before r.named r.resource body.name)

-- rule: whole-or-nothing
-- why a resource is at fault, if it is
abbrev pub fault_of : TypeName → Test → Wants → Cache → Stated → Option (List ℕ)
fault_of t test removed before r = fault_by t test removed before r (from_value t r.resource)

-- what is held of a resource
abbrev pub holding_of : TypeName → Stated → Holding
holding_of t r = record { version = r.version; body = (resource_of t r.resource).body }

-- what is stated once a resource is, too
abbrev pub and_stated : TypeName → Cache → Stated → Cache
and_stated t before r = finmap.insert before (resource_of t r.resource).name (holding_of t r)

-- what resources state, after what was stated before them
abbrev pub stated_by : TypeName → Cache → List Stated → Cache
stated_by t before [] = before
stated_by t before (r ∷ rs) = stated_by t (and_stated t before r) rs

-- rule: whole-or-nothing
-- Why the first resource at fault is rejected, after what was stated before.
abbrev pub first_fault : TypeName → Test → Wants → Cache → List Stated → Option (List ℕ)
first_fault t test removed before [] = None
first_fault t test removed before (r ∷ rs) = option_or (fault_of t test removed before r) (first_fault t test removed (and_stated t before r) rs)
