-- What is wrong of a resource. This project's own.
--     Fault   what is wrong of a resource: its name, the path of the field, and the cause
use Rattle.std.specs.Prelude.{ℕ, List}

-- what is wrong of a resource: its name, the path of the field, and the cause
pub record Fault : Type 0 where
  pub resource : List ℕ
  pub field : List ℕ
  pub cause : List ℕ
