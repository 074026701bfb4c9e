-- What a checker says of a resource. This project's own.
--     absence_text      how it is told that a checker says nothing
--     SpellsFault       a value spells it
--     SpellsComplaint   a JSON text spells it
--     SpellsNothing     it is no JSON text, or one that doesn't spell it
--     HasComplaint      what an answer says of a resource that isn't good
--     HasVerdict        what an answer of this status and body says of a resource
use Rattle.std.specs.Prelude.{◌≡◌, ◌⊎◌, ℕ, List, ◌++◌, ◌==◌, true, false, Bool, Result, Ok, Err, codes, decimal}
use Rattle.serde_json.specs.Data.{Data}
use Rattle.xds_resource.specs.Fields.{field}
use Rattle.xds_resource.specs.declared.refusal.Refusal.{Refusal}
use Rattle.xds_resource.specs.declared.refusal.Refusal.TheVariants.{OutOfMemory}
use Rattle.xds_json.specs.Spelling.{IsJson, IsObject, IsText}
use Rattle.xds_port.specs.Complaints.{Fault}
use Rattle.xds_port.specs.declared.verdict.Verdict.{Verdict}
use Rattle.xds_port.specs.declared.verdict.Verdict.TheVariants.{Good, Bad, Away}
use Rattle.xds_port.specs.declared.verdict.Absence.{Absence}
use Rattle.xds_port.specs.declared.verdict.Absence.TheVariants.{Unreachable, Silent, Broken, Status, Unclear}

-- how it is told that a checker says nothing
abbrev pub absence_text : Absence → List ℕ
absence_text Unreachable = codes "nobody answers there"
absence_text Silent = codes "no answer in time"
absence_text Broken = codes "its answer breaks off, or is none"
absence_text (Status status) = codes "it answers " ++ decimal status
absence_text Unclear = codes "it answers 422, and not what is wrong"

-- a value spells it: an object whose three fields, where they are set, are texts
pub record SpellsFault (d : Data) (m : Fault) : Type 0 where
  pub is_object : IsObject d
  pub resource : IsText (field (codes "resource") (codes "resource") d) m.resource
  pub field_is : IsText (field (codes "field") (codes "field") d) m.field
  pub cause : IsText (field (codes "cause") (codes "cause") d) m.cause

-- a JSON text spells it
abbrev pub SpellsComplaint : List ℕ → Fault → Type 0
SpellsComplaint body m = (d : Data) × IsJson body d × SpellsFault d m

-- it is no JSON text, or one that doesn't spell it
abbrev pub SpellsNothing : List ℕ → Type 0
SpellsNothing body = ((d : Data) → IsJson body d → ⊥) ⊎ ((d : Data) × IsJson body d × ((m : Fault) → SpellsFault d m → ⊥))

-- what an answer says of a resource that isn't good: what is wrong of it, or nothing where its body doesn't spell that
abbrev pub HasComplaint : List ℕ → Result Verdict Refusal → Type 0
HasComplaint body (Ok (Bad m)) = SpellsComplaint body m
HasComplaint body (Ok (Away Unclear)) = SpellsNothing body
HasComplaint body (Ok (Away Unreachable)) = ⊥
HasComplaint body (Ok (Away Silent)) = ⊥
HasComplaint body (Ok (Away Broken)) = ⊥
HasComplaint body (Ok (Away (Status s))) = ⊥
HasComplaint body (Ok Good) = ⊥
HasComplaint body (Err e) = e ≡ OutOfMemory

abbrev by_status : Bool → Bool → ℕ → List ℕ → Result Verdict Refusal → Type 0
by_status true bad status body r = r ≡ Ok Good
by_status false true status body r = HasComplaint body r
by_status false false status body r = r ≡ Ok (Away (Status status))

-- what an answer of this status and body says of a resource
abbrev pub HasVerdict : ℕ → List ℕ → Result Verdict Refusal → Type 0
HasVerdict status body r = by_status (status == 200) (status == 422) status body r
