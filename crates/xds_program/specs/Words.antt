-- Which words ask for which task, by what `clap`'s own model finds in them. This project's own.
--     IsNumberText   the text writes this number of at most 65,535 in decimal digits; a plus may stand before them
--     IsNumber       the value of the option is this number
--     IsAddressAt    the value of the option is this IPv4 address and port
--     IsAddress      that of `--addr` is
--     IsAddressGiven  the value of the option is this IPv4 address and port, if it is given
--     is_given       the option, which has no value, stands among the words
--     text_in        the value of an option, empty where it isn't given
--     names_in       the names, in their order
--     Finds          what fits, or none where nothing fits
--     are_apart      no port of the one is a port of the other, where so many begin at each of them
--     is_outside     a port is none of so many that begin at another
--     is_alone       an operator's port, if there is one, is none of those of streams and of REST
--     AsksPlayed     `xds play`
--     AsksChecked    `xds check`
--     AsksServe      `xds serve`: no replica's port is above 65,535, and none for streams is one for REST
--     has_numbers    each of so many replicas has a number, where the first has this one
--     AsksServed     the same, and the files and the rest that it is given
--     AsksClient     `xds client`
--     AsksPoll       `xds poll`
--     AsksWrites     `xds writes`
--     AsksStatus     `xds status`
--     AsksGet        `xds get`
--     AsksPut        `xds put`
--     AsksDelete     `xds delete`
--     AsksBy         the command of this name, with these values, asks for the task
--     AsksIn         the command that was named, if one was, asks for the task
--     Asks           the words ask for the task
--     IsFaultOf      why words ask for no task, as the kind of an error
--     IsWrongBy      so it is, or there was no memory
--     IsToldOf       an error of this kind is told of words that ask for no task, or there was no memory
use Rattle.std.specs.Prelude.{◌≡◌, ◌⊎◌, ◌≤◌, ◌+◌, ℕ, List, [], codes, Bool, true, false, ◌||◌, ◌&&◌, nat_lt, nat_le, bytes_eq, Option, Some, None, option_map, unwrap_or}
use Rattle.std.specs.Option.{option_and_then, option_map_or}
use Rattle.std.specs.Str.Parse.{IsNumeral, digits_value, without_leading_plus}
use Rattle.std.specs.Net.Grammar.{IsSocketV4Text}
use Rattle.std.specs.declared.net.socket_addr.SocketAddrV4.{SocketAddrV4}
use Rattle.clap.specs.declared.error.kind.ErrorKind.{ErrorKind}
use Rattle.clap.specs.declared.error.kind.ErrorKind.TheVariants.{OutOfMemory, ValueValidation}
use Rattle.clap.specs.Words.{IsAmong, Row, Text, all_of, first_of, one_of}
use Rattle.xds_resource.specs.Types.{type_of_word}
use Rattle.xds_program.specs.declared.tasks.Task.{Task}
use Rattle.xds_program.specs.declared.tasks.Task.TheVariants.{Answer, Play, Check, Serve, Client, Poll, Writes, Status, Get, Put, Delete}
use Rattle.xds_program.specs.declared.tasks.ServeTask.{ServeTask}
use Rattle.xds_program.specs.Tasks.{Checks, Deletes, Gets, Look, Plays, Puts, Reads, Sees, Serves, Watch, variant_of_word}
use Rattle.xds_program.specs.CommandLine.{faults, named_in}

-- ---- the values of a command's options

-- the text writes this number of at most 65,535 in decimal digits; a plus may stand before them
pub record IsNumberText (text : Text) (n : ℕ) : Type 0 where
  pub digits : IsNumeral 10 (without_leading_plus text)
  pub value : digits_value 10 (without_leading_plus text) ≡ n
  pub most : n ≤ 65535

-- the value of the option is this number
abbrev pub IsNumber : List Row → Text → ℕ → Type 0
IsNumber rows option n = (text : Text) × (one_of option rows ≡ Some text) × IsNumberText text n

-- the value of the option is this IPv4 address and port
abbrev pub IsAddressAt : Text → List Row → SocketAddrV4 → Type 0
IsAddressAt option rows addr = (text : Text) × (one_of option rows ≡ Some text) × IsSocketV4Text text addr

-- that of `--addr` is
abbrev pub IsAddress : List Row → SocketAddrV4 → Type 0
IsAddress rows addr = IsAddressAt (codes "addr") rows addr

-- the value of the option is this IPv4 address and port, if it is given
abbrev pub IsAddressGiven : Text → List Row → Option SocketAddrV4 → Type 0
IsAddressGiven option rows None = first_of option rows ≡ None
IsAddressGiven option rows (Some addr) = IsAddressAt option rows addr

-- the option, which has no value, stands among the words
abbrev pub is_given : Text → List Row → Bool
is_given option rows = option_map_or (λ text. bytes_eq text (codes "true")) (first_of option rows) false

-- the value of an option, empty where it isn't given
abbrev pub text_in : Text → List Row → Text
text_in option rows = unwrap_or (first_of option rows) []

-- the names, in their order
abbrev pub names_in : List Row → List Text
names_in rows = unwrap_or (all_of (codes "name") rows) []

-- what fits, or none where nothing fits
abbrev pub Finds : {X : Type 0} → (X → Type 0) → Option X → Type 0
Finds Fits (Some x) = Fits x
Finds {X} Fits None = (x : X) → Fits x → ⊥

-- ---- the tasks

-- no port of the one is a port of the other, where so many begin at each of them
abbrev pub are_apart : ℕ → ℕ → ℕ → Bool
are_apart port rest_port replicas = nat_le (port + replicas) rest_port || nat_le (rest_port + replicas) port

-- a port is none of so many that begin at another
abbrev pub is_outside : ℕ → ℕ → ℕ → Bool
is_outside port first replicas = nat_lt port first || nat_le (first + replicas) port

-- an operator's port, if there is one, is none of those of streams and of REST
abbrev pub is_alone : Option ℕ → ℕ → ℕ → ℕ → Bool
is_alone None port rest_port replicas = true
is_alone (Some admin) port rest_port replicas = is_outside admin port replicas && is_outside admin rest_port replicas

-- `xds play`
pub record AsksPlayed (rows : List Row) (task : Plays) : Type 0 where
  pub trace : Finds (IsNumber rows (codes "trace")) task.trace
  pub picture : first_of (codes "picture") rows ≡ task.picture

-- `xds check`
pub record AsksChecked (rows : List Row) (task : Checks) : Type 0 where
  pub so_far : is_given (codes "so-far") rows ≡ task.so_far
  pub explain : is_given (codes "explain") rows ≡ task.explain
  pub picture : first_of (codes "picture") rows ≡ task.picture

-- `xds serve`: no replica's port is above 65,535, and none for streams is one for REST
pub record AsksServe (rows : List Row) (task : ServeTask) : Type 0 where
  pub replicas : IsNumber rows (codes "replicas") task.replicas
  pub port : IsNumber rows (codes "port") task.port
  pub rest_port : IsNumber rows (codes "rest-port") task.rest_port
  pub streams : Finds (IsNumber rows (codes "streams")) task.streams
  pub workers : Finds (IsNumber rows (codes "workers")) task.workers
  pub keep_going : is_given (codes "keep-going") rows ≡ task.keep_going
  pub log : is_given (codes "log") rows ≡ task.log
  pub max_streams : Finds (IsNumber rows (codes "max-streams")) task.max_streams
  pub idle_seconds : Finds (IsNumber rows (codes "idle-seconds")) task.idle_seconds
  pub admin_port : Finds (IsNumber rows (codes "admin-port")) task.admin_port
  pub ports : task.port + task.replicas ≤ 65536
  pub rest_ports : task.rest_port + task.replicas ≤ 65536
  pub alone : is_alone task.admin_port task.port task.rest_port task.replicas ≡ true
  pub apart : are_apart task.port task.rest_port task.replicas ≡ true

-- rule: new-numbers
-- each of so many replicas has a number, where the first has this one
abbrev pub has_numbers : Option ℕ → ℕ → Bool
has_numbers None replicas = true
has_numbers (Some first) replicas = nat_le (first + replicas) 65536

-- the same, with the number of the first replica, the folder of the traces, the file that is loaded, that of the store and that of writes, whether it waits, the file of the token, whether it logs as JSON, the folder that is followed, whether it lints, the checker that it asks, whether it takes what isn't checked, and whether it refuses puts that make a response too long: no replica's number is above 65,535
pub record AsksServed (rows : List Row) (serves : Serves) : Type 0 where
  pub task : AsksServe rows serves.task
  pub first_number : Finds (IsNumber rows (codes "first-number")) serves.first_number
  pub numbers : has_numbers serves.first_number serves.task.replicas ≡ true
  pub folder : first_of (codes "record") rows ≡ serves.folder
  pub load : first_of (codes "load") rows ≡ serves.load
  pub store : first_of (codes "store") rows ≡ serves.store
  pub writes : first_of (codes "writes") rows ≡ serves.writes
  pub hold : is_given (codes "hold") rows ≡ serves.hold
  pub admin_token : first_of (codes "admin-token") rows ≡ serves.admin_token
  pub log_json : is_given (codes "log-json") rows ≡ serves.log_json
  pub from_folder : first_of (codes "from") rows ≡ serves.from_folder
  pub lint : is_given (codes "lint") rows ≡ serves.lint
  pub validate : IsAddressGiven (codes "validate") rows serves.validate
  pub pass_unvalidated : is_given (codes "pass-unvalidated") rows ≡ serves.pass_unvalidated
  pub refuse_beyond_frame : is_given (codes "refuse-beyond-frame") rows ≡ serves.refuse_beyond_frame

-- `xds client`
pub record AsksClient (rows : List Row) (task : Watch) : Type 0 where
  pub addr : IsAddress rows task.addr
  pub variant : option_and_then variant_of_word (first_of (codes "variant") rows) ≡ Some task.variant
  pub kind : option_and_then type_of_word (first_of (codes "type") rows) ≡ Some task.kind
  pub responses : IsNumber rows (codes "responses") task.responses
  pub seconds : Finds (IsNumber rows (codes "seconds")) task.seconds
  pub cluster : text_in (codes "cluster") rows ≡ task.cluster
  pub names : names_in rows ≡ task.names

-- `xds poll`
pub record AsksPoll (rows : List Row) (task : Look) : Type 0 where
  pub addr : IsAddress rows task.addr
  pub kind : option_and_then type_of_word (first_of (codes "type") rows) ≡ Some task.kind
  pub seconds : Finds (IsNumber rows (codes "seconds")) task.seconds
  pub version : text_in (codes "version") rows ≡ task.version
  pub cluster : text_in (codes "cluster") rows ≡ task.cluster
  pub names : names_in rows ≡ task.names

-- `xds writes`
pub record AsksWrites (rows : List Row) (task : Reads) : Type 0 where
  pub store : first_of (codes "store") rows ≡ Some task.store

-- `xds status`
pub record AsksStatus (rows : List Row) (task : Sees) : Type 0 where
  pub addr : IsAddress rows task.addr
  pub token : first_of (codes "admin-token") rows ≡ task.token

-- `xds get`
pub record AsksGet (rows : List Row) (task : Gets) : Type 0 where
  pub addr : IsAddress rows task.addr
  pub token : first_of (codes "admin-token") rows ≡ task.token
  pub replica : Finds (IsNumber rows (codes "replica")) task.replica
  pub kind : option_map type_of_word (first_of (codes "type") rows) ≡ option_map Some task.kind
  pub names : names_in rows ≡ task.names

-- `xds put`
pub record AsksPut (rows : List Row) (task : Puts) : Type 0 where
  pub addr : IsAddress rows task.addr
  pub token : first_of (codes "admin-token") rows ≡ task.token
  pub dry_run : is_given (codes "dry-run") rows ≡ task.dry_run
  pub all_or_nothing : is_given (codes "all-or-nothing") rows ≡ task.all_or_nothing

-- `xds delete`
pub record AsksDelete (rows : List Row) (task : Deletes) : Type 0 where
  pub addr : IsAddress rows task.addr
  pub token : first_of (codes "admin-token") rows ≡ task.token
  pub replica : IsNumber rows (codes "replica") task.replica
  pub kind : option_and_then type_of_word (first_of (codes "type") rows) ≡ Some task.kind
  pub dry_run : is_given (codes "dry-run") rows ≡ task.dry_run
  pub names : names_in rows ≡ task.names

-- the command of this name, with these values, asks for the task
abbrev pub AsksBy : Text → List Row → Task → Type 0
AsksBy command rows (Answer replica) = (command ≡ codes "answer") × IsNumber rows (codes "replica") replica
AsksBy command rows (Play task) = (command ≡ codes "play") × AsksPlayed rows task
AsksBy command rows (Check task) = (command ≡ codes "check") × AsksChecked rows task
AsksBy command rows (Serve task) = (command ≡ codes "serve") × AsksServed rows task
AsksBy command rows (Client task) = (command ≡ codes "client") × AsksClient rows task
AsksBy command rows (Poll task) = (command ≡ codes "poll") × AsksPoll rows task
AsksBy command rows (Writes task) = (command ≡ codes "writes") × AsksWrites rows task
AsksBy command rows (Status task) = (command ≡ codes "status") × AsksStatus rows task
AsksBy command rows (Get task) = (command ≡ codes "get") × AsksGet rows task
AsksBy command rows (Put task) = (command ≡ codes "put") × AsksPut rows task
AsksBy command rows (Delete task) = (command ≡ codes "delete") × AsksDelete rows task

-- the command that was named, if one was, asks for the task
abbrev pub AsksIn : Option (Text × List Row) → Task → Type 0
AsksIn None task = ⊥
AsksIn (Some named) task = AsksBy named.0 named.1 task

-- the words ask for the task: `clap` finds nothing wrong with them, and the command that they name asks for it
abbrev pub Asks : List Text → Task → Type 0
Asks words task = (faults words ≡ []) × AsksIn (named_in words) task

-- why words ask for no task, as the kind of an error: what `clap` finds wrong with them, or, where it finds nothing, a value
-- that is none of those that it may be
abbrev pub IsFaultOf : List Text → ErrorKind → Type 0
IsFaultOf words kind = IsAmong kind (faults words) ⊎ ((faults words ≡ []) × (kind ≡ ValueValidation))

-- so it is, or there was no memory
abbrev pub IsWrongBy : List Text → ErrorKind → Type 0
IsWrongBy words kind = (kind ≡ OutOfMemory) ⊎ IsFaultOf words kind

-- an error of this kind is told of words that ask for no task, or there was no memory
abbrev pub IsToldOf : List Text → ErrorKind → Type 0
IsToldOf words kind = ((task : Task) → Asks words task → kind ≡ OutOfMemory) × IsWrongBy words kind
