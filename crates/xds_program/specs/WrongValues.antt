-- Which value of a command's options is none of those that it may be, where `clap` takes it, and what is told of it. This project's own.
--     Blames          this value is wrong, among the values of a command's options
--     BlamesIn        so it is among those of the command that was named, if one was
--     FindsOrBlames   the task that is asked for, or a value that is wrong
--     told_of         what is told of it: the option, and its values
use Rattle.std.specs.Prelude.{◌≡◌, ◌⊎◌, ◌<◌, ◌+◌, ℕ, List, false, codes, Option, Some, None, Result, Ok, Err, ⊤}
use Rattle.std.specs.Option.{option_and_then}
use Rattle.std.specs.declared.net.socket_addr.SocketAddrV4.{SocketAddrV4}
use Rattle.clap.specs.Words.{Row, Text, first_of}
use Rattle.xds_resource.specs.Types.{type_of_word}
use Rattle.xds_program.specs.declared.tasks.Task.{Task}
use Rattle.xds_program.specs.declared.wrong_values.WrongValue.{WrongValue}
use Rattle.xds_program.specs.declared.wrong_values.WrongValue.TheVariants.{Addr, Variant, Kind, Port, Meeting, Admin, Number, Validate, Other}
use Rattle.xds_program.specs.Tasks.{variant_of_word}
use Rattle.xds_program.specs.Words.{AsksIn, Finds, IsAddress, IsAddressGiven, IsNumber, are_apart, has_numbers, is_alone}

-- this value is wrong, among the values of a command's options
abbrev pub Blames : List Row → WrongValue → Type 0
Blames rows Addr = (a : SocketAddrV4) → IsAddress rows a → ⊥
Blames rows Variant = option_and_then variant_of_word (first_of (codes "variant") rows) ≡ None
Blames rows Kind = option_and_then type_of_word (first_of (codes "type") rows) ≡ None
Blames rows Port =
    (replicas port : ℕ) × IsNumber rows (codes "replicas") replicas
    × (IsNumber rows (codes "port") port ⊎ IsNumber rows (codes "rest-port") port) × (65536 < port + replicas)
Blames rows Meeting =
    (replicas port rest_port : ℕ) × IsNumber rows (codes "replicas") replicas × IsNumber rows (codes "port") port
    × IsNumber rows (codes "rest-port") rest_port × (are_apart port rest_port replicas ≡ false)
Blames rows Admin =
    (replicas port rest_port : ℕ) × (admin : Option ℕ) × IsNumber rows (codes "replicas") replicas × IsNumber rows (codes "port") port
    × IsNumber rows (codes "rest-port") rest_port × Finds (IsNumber rows (codes "admin-port")) admin × (is_alone admin port rest_port replicas ≡ false)
Blames rows Number =
    (replicas : ℕ) × (first : Option ℕ) × IsNumber rows (codes "replicas") replicas × Finds (IsNumber rows (codes "first-number")) first × (has_numbers first replicas ≡ false)
Blames rows Validate = (a : Option SocketAddrV4) → IsAddressGiven (codes "validate") rows a → ⊥
Blames rows Other = ⊤

-- so it is among those of the command that was named, if one was
abbrev pub BlamesIn : Option (Text × List Row) → WrongValue → Type 0
BlamesIn None wrong = ⊤
BlamesIn (Some named) wrong = Blames named.1 wrong

-- the task that is asked for, or a value that is wrong, and then none is asked for
abbrev pub FindsOrBlames : Option (Text × List Row) → Result Task WrongValue → Type 0
FindsOrBlames named (Ok task) = AsksIn named task
FindsOrBlames named (Err wrong) = ((task : Task) → AsksIn named task → ⊥) × BlamesIn named wrong

-- what is told of it: the option, and its values
abbrev pub told_of : WrongValue → List ℕ
told_of Addr = codes "--addr: an address of IPv4 and a port, as 127.0.0.1:18000; for localhost write 127.0.0.1"
told_of Variant = codes "--variant: sotw or delta"
told_of Kind = codes "--type: cluster, endpoint, listener, route or secret"
told_of Port = codes "--port, --rest-port: the port of the last replica is above 65535"
told_of Meeting = codes "--port, --rest-port: the ports of streams and those of REST meet"
told_of Admin = codes "--admin-port: it is a port of streams or of REST"
told_of Number = codes "--first-number: the number of the last replica is above 65535"
told_of Validate = codes "--validate: an address of IPv4 and a port, as 127.0.0.1:18300; for localhost write 127.0.0.1"
told_of Other = codes "a value is none of those that the help names"
