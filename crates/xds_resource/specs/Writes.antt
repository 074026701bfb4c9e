-- Stamped writes of one type, and their order. This project's own.
--     StampedWrite, write_code   a write: its name, its stamp, the body that it puts there, or none where it deletes
--     text_cmp                   the order of names, and of bodies: byte by byte
--     groups_cmp                 the order of lists of groups: group by group
--     write_cmp                  by counter, then writer, then a deletion below a body, then the body's bytes
--     version_of                 the version text of a write
use Rattle.std.specs.Prelude.{ℕ, List, Option, refl}
use Rattle.std.specs.Coded.{Coded, code_by, coded×, coded_ℕ, coded_list, coded_option}
use Rattle.std.specs.declared.cmp.Ordering.{Ordering}
use Rattle.std.specs.Ordering.{nat_cmp, on, then_cmp}
use Rattle.std.specs.Cmp.Lexicographic.{slice_cmp}
use Rattle.std.specs.Option.{option_cmp}
use Rattle.xds_resource.specs.Stamps.{version_text}

-- a write: its name, its stamp, the body that it puts there, or none where it deletes, and the groups of clients that the
-- body is for, of which there are none where it is for all
pub record StampedWrite : Type 0 where
  pub name : List ℕ
  pub counter : ℕ
  pub writer : ℕ
  pub body : Option (List ℕ)
  pub groups : List (List ℕ)

abbrev pub write_code : Coded StampedWrite
write_code =
    code_by (List ℕ × (ℕ × (ℕ × (Option (List ℕ) × List (List ℕ)))))
    (coded× (coded_list coded_ℕ) (coded× coded_ℕ (coded× coded_ℕ (coded× (coded_option (coded_list coded_ℕ)) (coded_list (coded_list coded_ℕ))))))
    (λ w. (w.name, (w.counter, (w.writer, (w.body, w.groups)))))
    (λ p. record { name = p.0; counter = p.1.0; writer = p.1.1.0; body = p.1.1.1.0; groups = p.1.1.1.1 }) (λ _. refl)

-- the order of names, and of bodies: byte by byte
abbrev pub text_cmp : List ℕ → List ℕ → Ordering
text_cmp = slice_cmp nat_cmp

-- rule: groups
-- the order of lists of groups: group by group
abbrev pub groups_cmp : List (List ℕ) → List (List ℕ) → Ordering
groups_cmp = slice_cmp text_cmp

-- rule: greatest-write, rule: tombstones
-- By counter, then writer, then a deletion below a body, then the body's bytes, then the groups. The name breaks the ties
-- that are left, which no two writes of one name have.
abbrev pub write_cmp : StampedWrite → StampedWrite → Ordering
write_cmp =
    then_cmp (on (λ w. w.counter) nat_cmp)
    (then_cmp (on (λ w. w.writer) nat_cmp) (then_cmp (on (λ w. w.body) (option_cmp text_cmp)) (then_cmp (on (λ w. w.groups) groups_cmp) (on (λ w. w.name) text_cmp))))

-- the version text of a write
abbrev pub version_of : StampedWrite → List ℕ
version_of w = version_text w.counter w.writer
