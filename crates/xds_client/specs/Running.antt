-- A client's stream from its first request to its last answer: which bytes were read, which were written, what was printed, and what is
-- answered. This project's own; the messages are those of Envoy's "xDS REST and gRPC protocol".
--     Ends         how it ends after these responses, of so many
--     Serves       responses are answered one after another, up to so many
--     IsCut        what is said first isn't written whole, and nothing was read or printed
--     Starts       this is said first, and then responses are answered
--     IsUnopened   nothing was read, written or printed
--     Runs         a client says its first requests, each as a frame, and then answers as many responses as it is to
--     IsUnlinked   there is no connection, and nothing happened
--     RunsAt       a client over a connection, of which nothing is known but how its calls ended; or without one
--     IsNoConnection   why there is no connection
--     IsUndialled  there is no connection, for this refusal, which is the answer, and nothing was printed
--     unused       a device of which no call was made
--     RunsBetween  a client over this reader and this writer, which come back
--     RunsOver     the same by how it ended
--     RunsBy       a client over what one call connected it to; or without a connection, for the refusal of this call
use Rattle.std.specs.Prelude.{◌≡◌, ◌<◌, ◌≤◌, ◌+◌, ◌⊎◌, ℕ, List, [], ◌++◌, length, Option, Some, None, Result, Ok, Err}
use Rattle.std.specs.Io.KnownBytes.{Consumes}
use Rattle.xds_resource.specs.declared.refusal.Refusal.{Refusal}
use Rattle.xds_resource.specs.declared.refusal.Refusal.TheVariants.{OutOfMemory, FrameTooLong, Device as DeviceRefusal}
use Rattle.xds_resource.specs.declared.types.TypeName.{TypeName}
use Rattle.xds_frames.specs.Devices.{Device, Stays, Wrote, HasFailed, seen}
use Rattle.xds_frames.specs.declared.counted.Counted.{Counted}
use Rattle.xds_cache.specs.Clients.{Client}
use Rattle.xds_client.specs.declared.subscription.StreamVariant.{StreamVariant}
use Rattle.xds_client.specs.declared.subscription.Subscription.{Subscription}
use Rattle.xds_client.specs.declared.connecting.ConnectingEnd.{ConnectingEnd}
use Rattle.xds_client.specs.Subscribing.{OpeningFits, first_client, opening}
use Rattle.xds_client.specs.Exchanges.{Exchange, AreAnswered, client_after, responses, answers, printed}
use Rattle.xds_client.specs.Ending.{Devices, EndsEarly, IsPart, NoneFailed}

-- How it ends after these responses, of so many: well once all were answered, with nothing of a further one told. Then there were no
-- more calls of the reader than the responses have bytes, so it doesn't ask a reader that gives a byte a call for more than they have.
abbrev pub Ends : {T : Type 0} → StreamVariant → TypeName → Client → ℕ → List Exchange → List ℕ → List ℕ → List ℕ → Result T Refusal → Devices → Type 0
Ends v t c count exchanges rest part shown (Ok x) d =
    (length exchanges ≡ count) × (part ≡ []) × (shown ≡ []) × NoneFailed d.input × NoneFailed d.server × NoneFailed d.output
    × (d.calls_after ≤ d.calls_before + length (responses exchanges))
Ends v t c count exchanges rest part shown (Err e) d = (length exchanges < count) × EndsEarly v t (client_after c exchanges) rest part shown e d

-- Responses are answered one after another, up to so many. The bytes that came are the frames of those that were answered, and the rest.
-- To the server went what was said before, the answers, and a part of one more; the lines of the answers were printed, and a part of
-- one more.
pub record Serves {T : Type 0} (v : StreamVariant) (t : TypeName) (c : Client) (count : ℕ) (said : List ℕ) (r : Result T Refusal) (d : Devices) : Type 0 where
  pub exchanges : List Exchange
  pub rest : List ℕ
  pub part : List ℕ
  pub shown : List ℕ
  pub read : Consumes d.input.before d.input.after (responses exchanges ++ rest)
  pub answered : AreAnswered v c exchanges
  pub wrote : Wrote d.server (said ++ answers v exchanges ++ part)
  pub told : Wrote d.output (printed v t exchanges ++ shown)
  pub ends : Ends v t c count exchanges rest part shown r d

-- What is said first isn't written whole, and nothing was read or printed.
abbrev pub IsCut : {T : Type 0} → List ℕ → Result T Refusal → Devices → Type 0
IsCut said (Ok x) d = ⊥
IsCut said (Err e) d =
    (e ≡ DeviceRefusal) × Stays d.input × NoneFailed d.input × Stays d.output × NoneFailed d.output
    × HasFailed d.server × ((part : List ℕ) × IsPart part said × Wrote d.server part)

-- This is said first, and then responses are answered.
abbrev pub Starts : {T : Type 0} → StreamVariant → TypeName → Client → ℕ → List ℕ → Result T Refusal → Devices → Type 0
Starts v t c count said r d = Serves v t c count said r d ⊎ IsCut said r d

-- Nothing was read, written or printed: the first requests are too long for frames, or there was no memory for them.
abbrev pub IsUnopened : {T : Type 0} → Subscription → Result T Refusal → Devices → Type 0
IsUnopened s (Ok x) d = ⊥
IsUnopened s (Err e) d =
    Stays d.input × NoneFailed d.input × Stays d.output × NoneFailed d.output × Stays d.server × NoneFailed d.server
    × ((e ≡ OutOfMemory) ⊎ ((e ≡ FrameTooLong) × ¬ OpeningFits s))

-- A client says its first requests, each as a frame, and then answers as many responses as it is to.
abbrev pub Runs : {T : Type 0} → Subscription → Result T Refusal → Devices → Type 0
Runs s r d = (OpeningFits s × Starts s.variant s.kind (first_client s) s.responses (opening s) r d) ⊎ IsUnopened s r d

-- There is no connection, and nothing happened.
abbrev pub IsUnlinked : {T : Type 0} → Result T Refusal → Device → Type 0
IsUnlinked (Ok x) output = ⊥
IsUnlinked (Err e) output = (e ≡ DeviceRefusal) × Stays output × NoneFailed output

-- A client over a connection, of which nothing is known but how its calls ended; or without one.
abbrev pub RunsAt : {T : Type 0} → Subscription → Result T Refusal → Device → Type 0
RunsAt s r output =
    ((input server : Device) × (before after : ℕ)
    × Runs s r (record { input = input; server = server; output = output; calls_before = before; calls_after = after }))
    ⊎ IsUnlinked r output

-- why there is no connection
abbrev pub IsNoConnection : Refusal → Type 0
IsNoConnection e = (e ≡ OutOfMemory) ⊎ (e ≡ DeviceRefusal)

-- There is no connection, for this refusal, which is the answer, and nothing was printed.
abbrev pub IsUndialled : {T : Type 0} → Refusal → Result T Refusal → Device → Type 0
IsUndialled e (Ok x) output = ⊥
IsUndialled e (Err f) output = (f ≡ e) × IsNoConnection e × Stays output × NoneFailed output

-- a device of which no call was made
abbrev pub unused : {D : Type 0} → D → Counted D
unused d = record { inner = d; calls = 0; failed = 0 }

-- A client over this reader and this writer: both come back, as its calls left them, and each call that failed is counted there.
abbrev pub RunsBetween : {R W T : Type 0} → R → W → (R → Option (List ℕ)) → (W → Option (List ℕ)) → Subscription → Result T Refusal → Option (Counted R × Counted W) → Device → Type 0
RunsBetween reader writer remaining contents s answer None output = ⊥
RunsBetween reader writer remaining contents s answer (Some (r, w)) output =
    Runs s answer (record { input = seen remaining (unused reader) r; server = seen contents (unused writer) w; output = output; calls_before = 0; calls_after = r.calls })

-- the same of how it ended
abbrev pub RunsOver : {R W : Type 0} → R → W → (R → Option (List ℕ)) → (W → Option (List ℕ)) → Subscription → ConnectingEnd R W → Device → Type 0
RunsOver reader writer remaining contents s ended output = RunsBetween reader writer remaining contents s ended.answer ended.ends output

-- A client over what one call connected it to, and over nothing else; or there was no connection, for the refusal of this call.
abbrev pub RunsBy : {R W : Type 0} → (Result (R × W) Refusal → Type 0) → (R → Option (List ℕ)) → (W → Option (List ℕ)) → Subscription → ConnectingEnd R W → Device → Type 0
RunsBy {R} {W} dialled remaining contents s ended output =
    ((reader : R) × (writer : W) × dialled (Ok (reader, writer)) × RunsOver reader writer remaining contents s ended output)
    ⊎ ((e : Refusal) × dialled (Err e) × (ended.ends ≡ None) × IsUndialled e ended.answer output)
