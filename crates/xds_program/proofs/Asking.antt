-- What `task_of` makes of a parse.
use Rattle.std.proofs.Common.{◌≡◌, ◌⊎◌, List, [], ◌∷◌, ap, subst, ◌∙◌, inl, inr, true, Option}
use Rattle.clap.specs.Words.{App, HasKind, HasMatchesOf, Kinds, Row, Text, fault_of, is_simple, is_simple_and_free, kind_of, subcommand_of, subcommand_rows_of}
use Rattle.clap.specs.declared.error.Error.{Error}
use Rattle.clap.specs.declared.error.kind.ErrorKind.{ErrorKind}
use Rattle.clap.specs.declared.error.kind.ErrorKind.TheVariants.{OutOfMemory, ValueValidation}
use Rattle.clap.specs.declared.parser.matches.ArgMatches.{ArgMatches}
use Rattle.xds_program.specs.declared.tasks.Task.{Task}
use Rattle.xds_program.specs.CommandLine.{command_line, faults, named_in}
use Rattle.xds_program.specs.Words.{Asks, AsksIn, IsToldOf}
use Rattle.xds_program.proofs.CommandLine.{command_line-is_free, command_line-is_simple}

-- for want of memory
pub memory_tells : (words : List Text) (kind : ErrorKind) → kind ≡ OutOfMemory → IsToldOf words kind
memory_tells words kind is = ((λ task asked. is), inl is)

-- nothing found leaves memory alone
only_memory : (e : Error) (kinds : Kinds) → kinds ≡ [] → HasKind kinds e → kind_of e ≡ OutOfMemory
only_memory e [] none (inl memory) = memory
only_memory e [] none (inr among) = absurd among
only_memory e (k ∷ ks) none has = cc

-- what `clap` found
found_tells : (words : List Text) (e : Error) → HasKind (faults words) e → IsToldOf words (kind_of e)
found_tells words e has = (
  (λ task asked. only_memory e (faults words) asked.0 has),
  (elim has [
    | inl memory ↦ inl memory
    | inr among ↦ inr (inl among)
  ]),
)

-- a value that is none of those that it may be
pub value_tells : (words : List Text) (kind : ErrorKind) → faults words ≡ [] → ((task : Task) → AsksIn (named_in words) task → ⊥) → kind ≡ ValueValidation → IsToldOf words kind
value_tells words kind none no_task is = ((λ task asked. absurd (no_task task asked.1)), inr (inr (none, is)))

-- a parse by a command that is the command line
module _ (a : App) (words : List Text) (is : a ≡ command_line) where
  -- what `clap` says of its own error
  pub parse_tells : (e : Error) → (is_simple_and_free a ≡ true → HasKind (fault_of a words) e) → IsToldOf words (kind_of e)
  parse_tells e h = found_tells words e (subst (λ b. HasKind (fault_of b words) e) is (h (ap is_simple_and_free is ∙ command_line-is_free)))

  -- it finds nothing wrong with words that it takes
  pub faultless : (is_simple_and_free a ≡ true → fault_of a words ≡ []) → faults words ≡ []
  faultless h = subst (λ b. fault_of b words ≡ []) is (h (ap is_simple_and_free is ∙ command_line-is_free))

  -- the command that it names is the one that the words name
  pub named_is : (m : ArgMatches) → HasMatchesOf a words m → subcommand_rows_of m ≡ named_in words
  named_is m h = (h (ap is_simple is ∙ command_line-is_simple)).1 ∙ ap (λ b. subcommand_of b words) is

  -- so what is found in the matches is what the words ask for
  pub task_is : (m : ArgMatches) (task : Task) → HasMatchesOf a words m → (is_simple_and_free a ≡ true → fault_of a words ≡ []) → AsksIn (subcommand_rows_of m) task → Asks words task
  task_is m task matches kinds asks = (faultless kinds, subst (λ (x : Option (Text × List Row)). AsksIn x task) (named_is m matches) asks)

  -- and where nothing is found in them, an error tells so
  pub no_task_tells : (m : ArgMatches) (kind : ErrorKind) → HasMatchesOf a words m → (is_simple_and_free a ≡ true → fault_of a words ≡ [])
      → ((task : Task) → AsksIn (subcommand_rows_of m) task → ⊥) → (kind ≡ OutOfMemory) ⊎ (kind ≡ ValueValidation) → IsToldOf words kind
  no_task_tells m kind matches kinds none (inl memory) = memory_tells words kind memory
  no_task_tells m kind matches kinds none (inr value) =
      value_tells words kind (faultless kinds) (subst (λ (x : Option (Text × List Row)). (task : Task) → AsksIn x task → ⊥) (named_is m matches) none) value
