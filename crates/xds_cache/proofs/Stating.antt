-- A resource that is stated beside others.
use Rattle.std.proofs.Common.{◌≡◌, ℕ, List, Option, Ok, sym, ap, ◌∙◌}
use Rattle.std.specs.FinMap as finmap
use Rattle.serde_json.specs.Data.{Data}
use Rattle.xds_resource.specs.declared.types.TypeName.{TypeName}
use Rattle.xds_resource.specs.Resources.{NamedBody, from_value, resource_of, value_conditions}
use Rattle.xds_resource.proofs.Refusing.{unless_refused-value}
use Rattle.xds_cache.specs.Shelves.{Cache, Holding}
use Rattle.xds_cache.specs.Faults.{and_stated}

value_is : (t : TypeName) (d : Data) (b : NamedBody) → from_value t d ≡ Ok b → resource_of t d ≡ b
value_is t d b is = unless_refused-value (value_conditions t d) (resource_of t d) b is

pub stated_now : (t : TypeName) (d copy : Data) (named : Option (List ℕ)) (version name : List ℕ) (b : NamedBody) (h : Holding) (before next : Cache)
    → from_value t copy ≡ Ok b → copy ≡ d → name ≡ b.name → h ≡ record { version = version; body = b.body } → next ≡ finmap.insert before name h
    → next ≡ and_stated t before (record { named = named; version = version; resource = d })
stated_now t d copy named version name b h before next is same called held put =
    let body : resource_of t d ≡ b = ap (resource_of t) (sym same) ∙ value_is t copy b is in
    put ∙ (λ i. finmap.insert before (called i) (held i)) ∙ (λ i. finmap.insert before (sym body i).name (record { version = version; body = (sym body i).body }))
