-- What the words of a command line are, and what an answer is, in other words. This project's own.
--     AskOneTask          words ask for one task at most
--     Names               the words name this command
--     NamesPlainly        the words name a command that uses no device but the program's own
--     FaultlessWordsAsk   `clap` finds nothing wrong exactly with those of these words that ask for a task
--     AnswerWordsAsk      which words ask for an answer, in plain words
--     PlayWordsAsk        these words ask for a script to be played, and for no picture
--     CheckWordsAsk       these words ask for a trace to be checked, as it comes
--     AnswersAreFirstPolls  the answer to a request is what a session's first poll gives, once it took the request
use Rattle.std.specs.Prelude.{◌≡◌, ◌⊎◌, ◌↔◌, ℕ, List, [], codes, false, Option, Some, None, option_map}
use Rattle.clap.specs.Words.{Text}
use Rattle.xds_resource.specs.declared.types.TypeName.{TypeName}
use Rattle.xds_catalogue.specs.Holdings.{Holdings, IsCatalogue}
use Rattle.xds_message.specs.Messages.{Request}
use Rattle.xds_message.specs.Drafts.{Drafted, message_of}
use Rattle.xds_ledger.specs.Sessions.{Session, unopened}
use Rattle.xds_core.specs.Streams.{cluster_in}
use Rattle.xds_sessions.specs.SotwPolls.{HasPolled, take}
use Rattle.xds_program.specs.declared.tasks.Task.{Task}
use Rattle.xds_program.specs.declared.tasks.Task.TheVariants.{Answer, Play, Check}
use Rattle.xds_program.specs.Answers.{response_to}
use Rattle.xds_program.specs.CommandLine.{faults, named_in}
use Rattle.xds_program.specs.Words.{Asks}
use Rattle.xds_program.specs.PlainWords.{AsksAnswer, AsksCheck, AsksPlay}

-- words ask for one task at most
abbrev pub AskOneTask : Type 0
AskOneTask = (words : List Text) (one other : Task) → Asks words one → Asks words other → one ≡ other

-- the words name this command
abbrev pub Names : List Text → Text → Type 0
Names words command = option_map (λ p. p.0) (named_in words) ≡ Some command

-- the words name a command that uses no device but the program's own
abbrev pub NamesPlainly : List Text → Type 0
NamesPlainly words = Names words (codes "answer") ⊎ (Names words (codes "play") ⊎ Names words (codes "check"))

-- `clap` finds nothing wrong exactly with those of these words that ask for a task
abbrev pub FaultlessWordsAsk : Type 0
FaultlessWordsAsk = (words : List Text) → NamesPlainly words → faults words ≡ [] ↔ (task : Task) × Asks words task

-- which words ask for an answer, in plain words
abbrev pub AnswerWordsAsk : Type 0
AnswerWordsAsk = (words : List Text) (replica : ℕ) → Asks words (Answer replica) ↔ AsksAnswer words replica

-- these words ask for a script to be played
abbrev pub PlayWordsAsk : Type 0
PlayWordsAsk = (words : List Text) (trace : Option ℕ) → AsksPlay words trace → Asks words (Play (record { trace = trace; picture = None }))

-- these words ask for a trace to be checked
abbrev pub CheckWordsAsk : Type 0
CheckWordsAsk = (words : List Text) → AsksCheck words → Asks words (Check (record { so_far = false; explain = false; picture = None }))

-- The answer to a request, by what is held of its type, is what a session's first poll gives, once it took the request: it draws
-- the first nonce.
abbrev pub AnswersAreFirstPolls : Type 0
AnswersAreFirstPolls = (replica : ℕ) (t : TypeName) (h : Holdings) (m : Request) (answer : Option Drafted) (after : Session) (count : ℕ) → IsCatalogue h.entries
    → HasPolled replica t h (take t (unopened (cluster_in m.node)) m) 0 answer after count → option_map message_of answer ≡ response_to replica t h m
