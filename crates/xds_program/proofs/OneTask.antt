-- Words ask for one task at most.
use Rattle.std.proofs.Common.{◌≡◌, ◌∙◌, List, codes, refl, sym, ap, subst, Option, Some, None, option_map}
use Rattle.std.specs.declared.net.socket_addr.SocketAddrV4.{SocketAddrV4}
use Rattle.std.specs.Net.Grammar.{IsSocketV4Text}
use Rattle.std.proofs.NetLemmas.Theorems.{IsSocketV4Text_unique}
use Rattle.clap.specs.Words.{Row, Text, one_of}
use Rattle.xds_program.specs.declared.tasks.Task.{Task}
use Rattle.xds_program.specs.declared.tasks.Task.TheVariants.{Answer, Play, Check, Serve, Client, Poll, Writes, Status, Get, Put, Delete}
use Rattle.xds_program.specs.declared.tasks.ServeTask.{ServeTask}
use Rattle.xds_resource.specs.declared.types.TypeName.{TypeName}
use Rattle.xds_resource.specs.Types.{type_of_word}
use Rattle.xds_program.specs.Tasks.{Checks, Deletes, Gets, Look, Plays, Puts, Reads, Sees, Serves, Watch}
use Rattle.xds_program.specs.CommandLine.{named_in}
use Rattle.xds_program.specs.Words.{Asks, AsksBy, AsksChecked, AsksClient, AsksDelete, AsksGet, AsksIn, AsksPlayed, AsksPoll, AsksPut, AsksServe, AsksServed, AsksStatus, AsksWrites, Finds, IsAddress, IsAddressAt, IsAddressGiven, IsNumber}
use Rattle.xds_program.proofs.Values.{one_not_none, one_number, only_answer, only_check, only_client, only_delete, only_get, only_play, only_poll, only_put, only_serve, only_status, only_writes, same_some}

-- what fits one thing at most is found once
pub one_found : {X : Type 0} (Fits : X → Type 0) → ((x y : X) → Fits x → Fits y → x ≡ y) → (o p : Option X) → Finds Fits o → Finds Fits p → o ≡ p
one_found Fits one (Some x) (Some y) h k = ap Some (one x y h k)
one_found Fits one (Some x) None h k = absurd (k x h)
one_found Fits one None (Some y) h k = absurd (h y k)
one_found Fits one None None h k = refl

one_address_at : (option : Text) (rows : List Row) (a b : SocketAddrV4) → IsAddressAt option rows a → IsAddressAt option rows b → a ≡ b
one_address_at option rows a b h k =
    IsSocketV4Text_unique k.0 a b (subst (λ (x : Text). IsSocketV4Text x a) (same_some (one_of option rows) h.0 k.0 h.1 k.1) h.2) k.2

one_address : (rows : List Row) (a b : SocketAddrV4) → IsAddress rows a → IsAddress rows b → a ≡ b
one_address rows a b h k = one_address_at (codes "addr") rows a b h k

-- an address that is given or isn't
one_address_given : (option : Text) (rows : List Row) (a b : Option SocketAddrV4) → IsAddressGiven option rows a → IsAddressGiven option rows b → a ≡ b
one_address_given option rows None None h k = refl
one_address_given option rows None (Some b) h k = absurd (one_not_none option rows k.0 k.1 h)
one_address_given option rows (Some a) None h k = absurd (one_not_none option rows h.0 h.1 k)
one_address_given option rows (Some a) (Some b) h k = ap Some (one_address_at option rows a b h k)

-- two values of one thing are the same
same_value : {X : Type 0} (o : Option X) (x y : X) → o ≡ Some x → o ≡ Some y → x ≡ y
same_value o x y one other = cc

one_serve : (rows : List Row) (s t : ServeTask) → AsksServe rows s → AsksServe rows t → s ≡ t
one_serve rows s t h k =
    let replicas = one_number rows (codes "replicas") s.replicas t.replicas h.replicas k.replicas in
    let port = one_number rows (codes "port") s.port t.port h.port k.port in
    let rest_port = one_number rows (codes "rest-port") s.rest_port t.rest_port h.rest_port k.rest_port in
    let streams = one_found (IsNumber rows (codes "streams")) (one_number rows (codes "streams")) s.streams t.streams h.streams k.streams in
    let workers = one_found (IsNumber rows (codes "workers")) (one_number rows (codes "workers")) s.workers t.workers h.workers k.workers in
    let keep_going = sym h.keep_going ∙ k.keep_going in
    let log = sym h.log ∙ k.log in
    let max_streams = one_found (IsNumber rows (codes "max-streams")) (one_number rows (codes "max-streams")) s.max_streams t.max_streams h.max_streams k.max_streams in
    let idle_seconds = one_found (IsNumber rows (codes "idle-seconds")) (one_number rows (codes "idle-seconds")) s.idle_seconds t.idle_seconds h.idle_seconds k.idle_seconds in
    let admin_port = one_found (IsNumber rows (codes "admin-port")) (one_number rows (codes "admin-port")) s.admin_port t.admin_port h.admin_port k.admin_port in
    λ i. record { replicas = replicas i; port = port i; rest_port = rest_port i; streams = streams i; workers = workers i; keep_going = keep_going i; log = log i; max_streams = max_streams i; idle_seconds = idle_seconds i; admin_port = admin_port i }

one_served : (rows : List Row) (s t : Serves) → AsksServed rows s → AsksServed rows t → s ≡ t
one_served rows s t h k =
    let task = one_serve rows s.task t.task h.task k.task in
    let first_number = one_found (IsNumber rows (codes "first-number")) (one_number rows (codes "first-number")) s.first_number t.first_number h.first_number k.first_number in
    let folder = sym h.folder ∙ k.folder in
    let load = sym h.load ∙ k.load in
    let store = sym h.store ∙ k.store in
    let writes = sym h.writes ∙ k.writes in
    let hold = sym h.hold ∙ k.hold in
    let admin_token = sym h.admin_token ∙ k.admin_token in
    let log_json = sym h.log_json ∙ k.log_json in
    let from_folder = sym h.from_folder ∙ k.from_folder in
    let lint = sym h.lint ∙ k.lint in
    let validate = one_address_given (codes "validate") rows s.validate t.validate h.validate k.validate in
    let pass_unvalidated = sym h.pass_unvalidated ∙ k.pass_unvalidated in
    let refuse_beyond_frame = sym h.refuse_beyond_frame ∙ k.refuse_beyond_frame in
    λ i. record { task = task i; first_number = first_number i; folder = folder i; load = load i; store = store i; writes = writes i; hold = hold i; admin_token = admin_token i; log_json = log_json i; from_folder = from_folder i; lint = lint i; validate = validate i; pass_unvalidated = pass_unvalidated i; refuse_beyond_frame = refuse_beyond_frame i }

one_client : (rows : List Row) (c d : Watch) → AsksClient rows c → AsksClient rows d → c ≡ d
one_client rows c d h k =
    let addr = one_address rows c.addr d.addr h.addr k.addr in
    let variant = same_value _ c.variant d.variant h.variant k.variant in
    let kind = same_value _ c.kind d.kind h.kind k.kind in
    let responses = one_number rows (codes "responses") c.responses d.responses h.responses k.responses in
    let seconds = one_found (IsNumber rows (codes "seconds")) (one_number rows (codes "seconds")) c.seconds d.seconds h.seconds k.seconds in
    let cluster = sym h.cluster ∙ k.cluster in
    let names = sym h.names ∙ k.names in
    λ i. record { addr = addr i; variant = variant i; kind = kind i; responses = responses i; seconds = seconds i; cluster = cluster i; names = names i }

one_poll : (rows : List Row) (p q : Look) → AsksPoll rows p → AsksPoll rows q → p ≡ q
one_poll rows p q h k =
    let addr = one_address rows p.addr q.addr h.addr k.addr in
    let kind = same_value _ p.kind q.kind h.kind k.kind in
    let seconds = one_found (IsNumber rows (codes "seconds")) (one_number rows (codes "seconds")) p.seconds q.seconds h.seconds k.seconds in
    let version = sym h.version ∙ k.version in
    let cluster = sym h.cluster ∙ k.cluster in
    let names = sym h.names ∙ k.names in
    λ i. record { addr = addr i; kind = kind i; seconds = seconds i; version = version i; cluster = cluster i; names = names i }

one_writes : (rows : List Row) (v w : Reads) → AsksWrites rows v → AsksWrites rows w → v ≡ w
one_writes rows v w h k =
    let store = same_value _ v.store w.store h.store k.store in
    λ i. record { store = store i }

one_status : (rows : List Row) (s t : Sees) → AsksStatus rows s → AsksStatus rows t → s ≡ t
one_status rows s t h k =
    let addr = one_address rows s.addr t.addr h.addr k.addr in
    let token = sym h.token ∙ k.token in
    λ i. record { addr = addr i; token = token i }

-- what is mapped to a type that is given is one type
same_given : (o : Option Text) (f : Text → Option TypeName) (k l : Option TypeName) → option_map f o ≡ option_map Some k → option_map f o ≡ option_map Some l → k ≡ l
same_given o f None None h m = refl
same_given o f None (Some l) h m = absurd (cc)
same_given o f (Some k) None h m = absurd (cc)
same_given o f (Some k) (Some l) h m = cc

one_played : (rows : List Row) (s t : Plays) → AsksPlayed rows s → AsksPlayed rows t → s ≡ t
one_played rows s t h k =
    let trace = one_found (IsNumber rows (codes "trace")) (one_number rows (codes "trace")) s.trace t.trace h.trace k.trace in
    let picture = sym h.picture ∙ k.picture in
    λ i. record { trace = trace i; picture = picture i }

one_checked : (rows : List Row) (s t : Checks) → AsksChecked rows s → AsksChecked rows t → s ≡ t
one_checked rows s t h k =
    let so_far = sym h.so_far ∙ k.so_far in
    let explain = sym h.explain ∙ k.explain in
    let picture = sym h.picture ∙ k.picture in
    λ i. record { so_far = so_far i; explain = explain i; picture = picture i }

one_get : (rows : List Row) (s t : Gets) → AsksGet rows s → AsksGet rows t → s ≡ t
one_get rows s t h k =
    let addr = one_address rows s.addr t.addr h.addr k.addr in
    let token = sym h.token ∙ k.token in
    let replica = one_found (IsNumber rows (codes "replica")) (one_number rows (codes "replica")) s.replica t.replica h.replica k.replica in
    let kind = same_given _ type_of_word s.kind t.kind h.kind k.kind in
    let names = sym h.names ∙ k.names in
    λ i. record { addr = addr i; token = token i; replica = replica i; kind = kind i; names = names i }

one_put : (rows : List Row) (s t : Puts) → AsksPut rows s → AsksPut rows t → s ≡ t
one_put rows s t h k =
    let addr = one_address rows s.addr t.addr h.addr k.addr in
    let token = sym h.token ∙ k.token in
    let dry_run = sym h.dry_run ∙ k.dry_run in
    let all_or_nothing = sym h.all_or_nothing ∙ k.all_or_nothing in
    λ i. record { addr = addr i; token = token i; dry_run = dry_run i; all_or_nothing = all_or_nothing i }

one_delete : (rows : List Row) (s t : Deletes) → AsksDelete rows s → AsksDelete rows t → s ≡ t
one_delete rows s t h k =
    let addr = one_address rows s.addr t.addr h.addr k.addr in
    let token = sym h.token ∙ k.token in
    let replica = one_number rows (codes "replica") s.replica t.replica h.replica k.replica in
    let kind = same_value _ s.kind t.kind h.kind k.kind in
    let dry_run = sym h.dry_run ∙ k.dry_run in
    let names = sym h.names ∙ k.names in
    λ i. record { addr = addr i; token = token i; replica = replica i; kind = kind i; dry_run = dry_run i; names = names i }

-- the command is that of the task
named : (command name : Text) (rows : List Row) (task : Task) → command ≡ name → AsksBy command rows task → AsksBy name rows task
named command name rows task is h = subst (λ (c : Text). AsksBy c rows task) is h

one_by : (command : Text) (rows : List Row) (one other : Task) → AsksBy command rows one → AsksBy command rows other → one ≡ other
one_by command rows (Answer n) other h k =
    let only = only_answer rows other (named command _ rows other h.0 k) in
    ap Answer (one_number rows (codes "replica") n only.0 h.1 only.2) ∙ sym only.1
one_by command rows (Play x) other h k =
    let only = only_play rows other (named command _ rows other h.0 k) in
    ap Play (one_played rows x only.0 h.1 only.2) ∙ sym only.1
one_by command rows (Check x) other h k =
    let only = only_check rows other (named command _ rows other h.0 k) in
    ap Check (one_checked rows x only.0 h.1 only.2) ∙ sym only.1
one_by command rows (Serve x) other h k =
    let only = only_serve rows other (named command _ rows other h.0 k) in
    ap Serve (one_served rows x only.0 h.1 only.2) ∙ sym only.1
one_by command rows (Client x) other h k =
    let only = only_client rows other (named command _ rows other h.0 k) in
    ap Client (one_client rows x only.0 h.1 only.2) ∙ sym only.1
one_by command rows (Poll x) other h k =
    let only = only_poll rows other (named command _ rows other h.0 k) in
    ap Poll (one_poll rows x only.0 h.1 only.2) ∙ sym only.1
one_by command rows (Writes x) other h k =
    let only = only_writes rows other (named command _ rows other h.0 k) in
    ap Writes (one_writes rows x only.0 h.1 only.2) ∙ sym only.1
one_by command rows (Status x) other h k =
    let only = only_status rows other (named command _ rows other h.0 k) in
    ap Status (one_status rows x only.0 h.1 only.2) ∙ sym only.1
one_by command rows (Get x) other h k =
    let only = only_get rows other (named command _ rows other h.0 k) in
    ap Get (one_get rows x only.0 h.1 only.2) ∙ sym only.1
one_by command rows (Put x) other h k =
    let only = only_put rows other (named command _ rows other h.0 k) in
    ap Put (one_put rows x only.0 h.1 only.2) ∙ sym only.1
one_by command rows (Delete x) other h k =
    let only = only_delete rows other (named command _ rows other h.0 k) in
    ap Delete (one_delete rows x only.0 h.1 only.2) ∙ sym only.1

one_in : (found : Option (Text × List Row)) (one other : Task) → AsksIn found one → AsksIn found other → one ≡ other
one_in None one other h k = absurd h
one_in (Some p) one other h k = one_by p.0 p.1 one other h k

-- words that ask for two tasks ask for one
pub ask_one : (words : List Text) (one other : Task) → Asks words one → Asks words other → one ≡ other
ask_one words one other h k = one_in (named_in words) one other h.1 k.1
