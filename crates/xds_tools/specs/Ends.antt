-- How the commands that ask a server end, by what they write and their status: `xds poll`, with the post that goes out and the reply that
-- is shown, and `xds client`, with the subscription that its task asks for. This project's own.
--     TellsRefusal   a refusal is told, and nothing is shown
--     late_line      the line of a command that gave up after so many seconds
--     http_line      the line of a client whose other end speaks HTTP
--     begins_http    whether bytes begin as an answer of HTTP does
--     TellsLate      it is told that so many seconds have passed, where they were given, and nothing is shown
--     ShowsReply     a reply is shown: its status in a line, and its body in the next, where it has one
--     ShowsInTime    the same, or it is told that so many seconds have passed, where they were given
--     question_of    what a poll's task asks a server
--     EndsPoll       `xds poll`, by what posts its request to its server
--     variant_of     the variant of a client's stream
--     IsOf           the subscription is the one that a client's task asks for
--     TellsEnd       what is told of a refusal that a client ends by
--     HasEnded       the status of a client that ended so, and what is told of that
--     EndsClientBy   `xds client`: the client of its task ran over what one call connected it to, and its end is told
--     RanSomewhere   a client over a connection, of which nothing is known but how its calls ended; or without one
--     EndsClient     `xds client` over such a connection
--     GoesOn         what is left to do of a run: nothing, or the task that it was handed
use Rattle.std.specs.Prelude.{◌≡◌, ◌⊎◌, ◌≤◌, ◌++◌, ℕ, List, Bool, Option, Some, Result, Ok, Err, codes, decimal, nat_eq, ⊤}
use Rattle.std.specs.List.{starts_with}
use Rattle.std.specs.declared.net.socket_addr.SocketAddrV4.{SocketAddrV4}
use Rattle.std.specs.declared.net.socket_addr.SocketAddr.{SocketAddr}
use Rattle.std.specs.declared.net.socket_addr.SocketAddr.TheVariants.{V4}
use Rattle.http.specs.declared.request.Request.{Request}
use Rattle.http_body_util.specs.declared.full.Full.{Full}
use Rattle.xds_frames.specs.Devices.{Device, Stays, Tells}
use Rattle.xds_resource.specs.declared.refusal.Refusal.{Refusal}
use Rattle.xds_resource.specs.declared.refusal.Refusal.TheVariants.{OutOfMemory, FrameTooLong, Device as DeviceRefusal}
use Rattle.xds_resource.specs.Refusals.{number_of, name_of}
use Rattle.xds_http.specs.declared.told.Told.{Told}
use Rattle.xds_http.specs.Questions.{Question, shown}
use Rattle.xds_http.specs.Sent.{IsPolled}
use Rattle.xds_client.specs.declared.subscription.StreamVariant as streams
use Rattle.xds_client.specs.declared.subscription.StreamVariant.TheVariants as variants
use Rattle.xds_client.specs.declared.subscription.Subscription.{Subscription}
use Rattle.xds_client.specs.Running.{IsUndialled, Runs, RunsBy}
use Rattle.xds_client.specs.declared.connecting.ConnectingEnd.{ConnectingEnd}
use Rattle.xds_client.specs.Subscribing.{names_of}
use Rattle.xds_program.specs.declared.run.Ran.{Ran}
use Rattle.xds_program.specs.declared.run.Ran.TheVariants.{Done, Serve, Client, Poll, Writes, Status, Get, Put, Delete, Drawn}
use Rattle.xds_program.specs.declared.tasks.AskedVariant.{AskedVariant}
use Rattle.xds_program.specs.declared.tasks.AskedVariant.TheVariants.{Sotw, Delta}
use Rattle.xds_program.specs.Outcomes.{Prints, refusal_line}
use Rattle.xds_program.specs.Tasks.{Look, Watch}

-- a refusal is told, and nothing is shown
abbrev pub TellsRefusal : Refusal → ℕ → Device → Device → Type 0
TellsRefusal refusal status output errors = Stays output × Tells errors (refusal_line refusal) × (status ≡ 1)

-- A reply is shown: its status in a line, and its body in the next, where it has one; or there is no memory for that text, which is
-- told. Where no reply came, it is told why.
abbrev pub ShowsReply : Result Told Refusal → ℕ → Device → Device → Type 0
ShowsReply (Ok told) status output errors =
    Prints (shown told.status told.body) 0 status output errors ⊎ TellsRefusal OutOfMemory status output errors
ShowsReply (Err e) status output errors = TellsRefusal e status output errors

-- the line of a command that gave up after so many seconds
abbrev pub late_line : ℕ → List ℕ
late_line seconds = codes "19 Device: gave up after " ++ (decimal seconds ++ codes " s\n")

-- the line of a client whose other end speaks HTTP
abbrev pub http_line : Refusal → List ℕ
http_line refusal =
    decimal (number_of refusal) ++ (codes " " ++ (name_of refusal ++ codes ": HTTP is spoken there; --addr of a client is a port of streams\n"))

-- whether bytes begin as an answer of HTTP does
abbrev pub begins_http : List ℕ → Bool
begins_http bytes = starts_with nat_eq bytes (codes "HTTP/")

-- It is told that so many seconds have passed, where they were given, and nothing is shown.
abbrev pub TellsLate : Option ℕ → ℕ → Device → Device → Type 0
TellsLate seconds status output errors = (s : ℕ) × (seconds ≡ Some s) × Stays output × Tells errors (late_line s) × (status ≡ 1)

-- A reply is shown, or why there is none; or it is told that so many seconds have passed, where they were given.
abbrev pub ShowsInTime : Option ℕ → Result Told Refusal → ℕ → Device → Device → Type 0
ShowsInTime seconds r status output errors =
    ShowsReply r status output errors ⊎ ((r ≡ Err DeviceRefusal) × TellsLate seconds status output errors)

-- what a poll's task asks a server
abbrev pub question_of : Look → Question
question_of look = record { kind = look.kind; names = look.names; version = look.version; cluster = look.cluster }

-- `xds poll`, by what posts its request: the post of its question goes out to its server, within its seconds, and what that tells is shown
abbrev pub EndsPoll : (SocketAddr → Option ℕ → Request (Full (List ℕ)) → Result Told Refusal → Type 0) → Look → ℕ → Device → Device → Type 0
EndsPoll tells look status output errors =
    (r : Result Told Refusal) × IsPolled (tells (V4 look.addr) look.seconds) (question_of look) r × ShowsInTime look.seconds r status output errors

-- the variant of a client's stream
abbrev pub variant_of : AskedVariant → streams.StreamVariant
variant_of Sotw = variants.Sotw
variant_of Delta = variants.Delta

-- the subscription is the one that a client's task asks for
pub record IsOf (task : Watch) (s : Subscription) : Type 0 where
  pub variant : s.variant ≡ variant_of task.variant
  pub kind : s.kind ≡ task.kind
  pub cluster : s.cluster.now ≡ task.cluster
  pub names : names_of s ≡ task.names
  pub responses : s.responses ≡ task.responses

-- What is told of a refusal that a client ends by: it; where a frame's length is too long, as the first four bytes of an answer of HTTP
-- are, it with the word that the other end speaks HTTP; that it gave up after the seconds that it was given; or that there was no memory
-- to say it.
abbrev pub TellsEnd : Option ℕ → Refusal → Device → Type 0
TellsEnd seconds e errors =
    Tells errors (refusal_line e) ⊎ (Tells errors (refusal_line OutOfMemory) ⊎ (((e ≡ FrameTooLong) × Tells errors (http_line e))
    ⊎ ((s : ℕ) × (e ≡ DeviceRefusal) × (seconds ≡ Some s) × Tells errors (late_line s))))

-- the status of a client that ended so, and what is told of that
abbrev pub HasEnded : {T : Type 0} → Watch → Result T Refusal → ℕ → Device → Type 0
HasEnded task (Ok x) status errors = (status ≡ 0) × Stays errors
HasEnded task (Err e) status errors = (status ≡ 1) × TellsEnd task.seconds e errors

-- `xds client`: the client of its task ran over what one call connected it to at the task's address, and its end is told
abbrev pub EndsClientBy : {R W : Type 0} → (SocketAddrV4 → Result (R × W) Refusal → Type 0) → (R → Option (List ℕ)) → (W → Option (List ℕ)) → Watch → ℕ → Device → Device → Type 0
EndsClientBy {R} {W} dialled remaining contents task status output errors =
    (s : Subscription) × (ended : ConnectingEnd R W) × IsOf task s × RunsBy (dialled task.addr) remaining contents s ended output × HasEnded task ended.answer status errors

-- a client over a connection, of which nothing is known but how its calls ended; or without one
abbrev pub RanSomewhere : {T : Type 0} → Subscription → Result T Refusal → Device → Type 0
RanSomewhere s r output =
    ((input server : Device) × (before after : ℕ)
    × Runs s r (record { input = input; server = server; output = output; calls_before = before; calls_after = after }))
    ⊎ ((e : Refusal) × IsUndialled e r output)

-- `xds client` over such a connection
abbrev pub EndsClient : Watch → ℕ → Device → Device → Type 0
EndsClient task status output errors =
    (s : Subscription) × (r : Result (Unit {0}) Refusal) × IsOf task s × RanSomewhere s r output × HasEnded task r status errors

-- What is left to do of a run: nothing, where it is done; or the task that it was handed. A server prints nothing on the output.
abbrev pub GoesOn : Ran → ℕ → Device → Device → Type 0
GoesOn (Done done) status output errors = (status ≡ done) × Stays output × Stays errors
GoesOn (Serve task) status output errors = (status ≤ 1) × Stays output
GoesOn (Client task) status output errors = EndsClient task status output errors
GoesOn (Poll task) status output errors = EndsPoll (λ _ _ _ _. ⊤) task status output errors
GoesOn (Writes task) status output errors = status ≤ 1
GoesOn (Status task) status output errors = status ≤ 1
GoesOn (Get task) status output errors = status ≤ 1
GoesOn (Put task) status output errors = status ≤ 1
GoesOn (Delete task) status output errors = status ≤ 1
GoesOn (Drawn task) status output errors = ((status ≡ task.status) × Stays errors) ⊎ (status ≡ 1)
