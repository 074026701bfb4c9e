-- What the getters of `clap` give is what is read of the rows.
use Rattle.std.proofs.Common.{◌≡◌, ◌∙◌, ℕ, List, [], codes, refl, sym, ap, subst, arith, Bool, true, false, true≢false, Option, Some, None, option_map, Result, Ok, Err, IfOk}
use Rattle.std.specs.Prelude.{find, slice_get, unwrap_or}
use Rattle.std.specs.Option.{option_and_then}
use Rattle.std.specs.Str.{bytes_eq}
use Rattle.std.proofs.lemmas.Slice.Eq.{bytes_eq-Decides}
use Rattle.std.specs.Str.Parse.{ExplainsUnsignedError, HasUnsignedDigitsIfOk, ParsesUnsigned, digits_value, without_leading_plus}
use Rattle.std.specs.declared.num.ParseIntError.{ParseIntError}
use Rattle.std.specs.declared.net.socket_addr.SocketAddrV4.{SocketAddrV4}
use Rattle.std.specs.declared.net.parser.AddrParseError.{AddrParseError}
use Rattle.std.specs.Net.Grammar.{IsSocketV4Text, Parses}
use Rattle.clap.specs.ValueTests.{accepts}
use Rattle.clap.specs.Values.{IsUnsignedIn}
use Rattle.clap.specs.Walk.{row_text}
use Rattle.clap.specs.declared.builder.value_parser.ValueParser.TheVariants as vp
use Rattle.clap.proofs.ValueTestLemmas.{Accepts-accepts, accepts-Accepts}
use Rattle.clap.specs.Words.{ReadsOne, Row, Text, first_of, matched_of, one_of, one_text, raw_values, rows_of}
use Rattle.clap.specs.declared.parser.matches.Found.{Found}
use Rattle.clap.proofs.WalkLemmas.{one_text-rows, raw_values-rows}
use Rattle.xds_program.specs.declared.tasks.Task.{Task}
use Rattle.xds_program.specs.declared.tasks.Task.TheVariants.{Answer, Play, Check, Serve, Client, Poll, Writes, Status, Get, Put, Delete}
use Rattle.xds_program.specs.Tasks.{Checks, Deletes, Gets, Look, Plays, Puts, Reads, Sees, Serves, Watch}
use Rattle.xds_program.specs.Words.{AsksBy, AsksChecked, AsksClient, AsksDelete, AsksGet, AsksIn, AsksPlayed, AsksPoll, AsksPut, AsksServed, AsksStatus, AsksWrites, Finds, IsAddressAt, IsAddressGiven, IsNumber, IsNumberText, names_in}

-- ---- one value

-- nothing is no value
pub no_some : (o : Option Text) (t : Text) → o ≡ None → o ≡ Some t → ⊥
no_some o t none some = cc

-- two texts that are one value are the same
pub same_some : (o : Option Text) (s t : Text) → o ≡ Some s → o ≡ Some t → s ≡ t
same_some o s t one other = cc

-- an option that has one value has a first one
some_of : (f : Text → Text) (v : Option Text) (t : Text) → option_map f v ≡ Some t → v ≡ None → ⊥
some_of f None t one none = absurd (cc)
some_of f (Some v) t one none = absurd (cc)

row_some : (o : Option Row) (t : Text) → option_and_then row_text o ≡ Some t → option_and_then (λ (r : Row). slice_get r.values 0) o ≡ None → ⊥
row_some None t one none = absurd (cc)
row_some (Some r) t one none = some_of _ (slice_get r.values 0) t one none

pub one_not_none : (option : Text) (rows : List Row) (t : Text) → one_of option rows ≡ Some t → first_of option rows ≡ None → ⊥
one_not_none option rows t one none = row_some (find (λ (r : Row). bytes_eq r.id option) rows) t one none

-- what `parse` gives at `u16`
abbrev ParsesNumber : Text → Result ℕ ParseIntError → Type 0
ParsesNumber t r = ParsesUnsigned 16 10 t r × ExplainsUnsignedError 10 t r × HasUnsignedDigitsIfOk t r

-- a number that is read of the value, or none
number_read : (rows : List Row) (id t : Text) (r : Option ℕ) → one_of id rows ≡ Some t → ReadsOne ParsesNumber t r → Finds (IsNumber rows id) r
number_read rows id t (Some v) there read =
    let below = read.0.0.1 in
    let value = read.0.1 in
    (t, there, record { digits = read.0.0.0; value = sym value; most = omega arith })
number_read rows id t None there read = λ n h.
    let is = subst (λ (x : Text). IsNumberText x n) (same_some (one_of id rows) h.0 t h.1 there) h.2 in
    let value = is.value in
    let most = is.most in
    absurd (read.1.0 (is.digits, omega arith))

pub number_found : (f : Found) (id : Text) (r : Option ℕ) → (one_text f id ≡ None → r ≡ None) → ((t : Text) → one_text f id ≡ Some t → ReadsOne ParsesNumber t r)
    → Finds (IsNumber (rows_of f) id) r
number_found f id r none value = go (one_text f id) refl
  where
    go : (o : Option Text) → one_text f id ≡ o → Finds (IsNumber (rows_of f) id) r
    go None e =
        subst (Finds (IsNumber (rows_of f) id)) (sym (none e)) (λ n h. no_some (one_of id (rows_of f)) h.0 (sym (one_text-rows f id) ∙ e) h.1)
    go (Some t) e = number_read (rows_of f) id t r (sym (one_text-rows f id) ∙ e) (value t e)

-- a text is a number, or none
pub number_or_none : (rows : List Row) (id t : Text) → one_of id rows ≡ Some t → (o : Option ℕ) × Finds (IsNumber rows id) o
number_or_none rows id t there = go (accepts false (vp.Unsigned 0 65535) t) refl
  where
    go : (b : Bool) → accepts false (vp.Unsigned 0 65535) t ≡ b → (o : Option ℕ) × Finds (IsNumber rows id) o
    go true e =
        let is : IsUnsignedIn 0 65535 t = accepts-Accepts false (vp.Unsigned 0 65535) t e in
        (Some (digits_value 10 (without_leading_plus t)), (t, there, record { digits = is.0; value = refl; most = is.3 }))
    go false e = (
      None,
      λ n h.
          let is = subst (λ (x : Text). IsNumberText x n) (same_some (one_of id rows) h.0 t h.1 there) h.2 in
          let value = is.value in
          let most = is.most in
          let passed : IsUnsignedIn 0 65535 t = (is.digits, omega arith, omega arith, omega arith) in
          true≢false (sym (Accepts-accepts false (vp.Unsigned 0 65535) t passed) ∙ e),
    )

-- an option that is given, and not by an address, gives none
pub no_address_given : (option : Text) (rows : List Row) (t : Text) → first_of option rows ≡ Some t → ((a : SocketAddrV4) → IsAddressAt option rows a → ⊥)
    → (x : Option SocketAddrV4) → IsAddressGiven option rows x → ⊥
no_address_given option rows t there none None h = no_some (first_of option rows) t h there
no_address_given option rows t there none (Some a) h = none a h

-- what `parse` gives at `SocketAddrV4`
abbrev ParsesAddress : Text → Result SocketAddrV4 AddrParseError → Type 0
ParsesAddress t r = Parses IsSocketV4Text t r

address_read : (rows : List Row) (id t : Text) (r : Option SocketAddrV4) → one_of id rows ≡ Some t → ReadsOne ParsesAddress t r → Finds (IsAddressAt id rows) r
address_read rows id t (Some a) there read = (t, there, read)
address_read rows id t None there read = λ a h. read.1 a (subst (λ (x : Text). IsSocketV4Text x a) (same_some (one_of id rows) h.0 t h.1 there) h.2)

pub address_found : (f : Found) (id : Text) (r : Option SocketAddrV4) → (one_text f id ≡ None → r ≡ None)
    → ((t : Text) → one_text f id ≡ Some t → ReadsOne ParsesAddress t r) → Finds (IsAddressAt id (rows_of f)) r
address_found f id r none value = go (one_text f id) refl
  where
    go : (o : Option Text) → one_text f id ≡ o → Finds (IsAddressAt id (rows_of f)) r
    go None e =
        subst (Finds (IsAddressAt id (rows_of f))) (sym (none e)) (λ a h. no_some (one_of id (rows_of f)) h.0 (sym (one_text-rows f id) ∙ e) h.1)
    go (Some t) e = address_read (rows_of f) id t r (sym (one_text-rows f id) ∙ e) (value t e)

-- one option has one number
pub one_number : (rows : List Row) (id : Text) (n m : ℕ) → IsNumber rows id n → IsNumber rows id m → n ≡ m
one_number rows id n m h k =
    let same = subst (λ (x : Text). IsNumberText x n) (same_some (one_of id rows) h.0 k.0 h.1 k.1) h.2 in
    sym same.value ∙ k.2.value

-- the names that are in the rows
pub names_found : (f : Found) (o : Option (List Text)) → o ≡ option_map raw_values (matched_of f (codes "name")) → unwrap_or o [] ≡ names_in (rows_of f)
names_found f o h = ap (λ (x : Option (List Text)). unwrap_or x []) (h ∙ raw_values-rows f (codes "name"))

-- what was made is what was wanted, where that is the same
pub made_as : {X E Y : Type 0} (r : Result X E) (f : X → Y) (a b : Y) → a ≡ b → IfOk r (λ x. f x ≡ a) → IfOk r (λ x. f x ≡ b)
made_as (Ok x) f a b same h = h ∙ same
made_as (Err e) f a b same h = tt

-- ---- the task of a command

-- texts that a test tells apart
pub apart : (a b : Text) → bytes_eq a b ≡ false → a ≡ b → ⊥
apart a b differ same = true≢false (sym ((bytes_eq-Decides a b).1 same) ∙ differ)

-- `answer` asks for nothing else
pub only_answer : (rows : List Row) (task : Task) → AsksBy (codes "answer") rows task → (x : ℕ) × (task ≡ Answer x) × IsNumber rows (codes "replica") x
only_answer rows (Answer n) h = (n, refl, h.1)
only_answer rows (Play p) h = absurd (apart _ _ refl h.0)
only_answer rows (Check c) h = absurd (apart _ _ refl h.0)
only_answer rows (Serve s) h = absurd (apart _ _ refl h.0)
only_answer rows (Client c) h = absurd (apart _ _ refl h.0)
only_answer rows (Poll p) h = absurd (apart _ _ refl h.0)
only_answer rows (Writes w) h = absurd (apart _ _ refl h.0)
only_answer rows (Status s) h = absurd (apart _ _ refl h.0)
only_answer rows (Get g) h = absurd (apart _ _ refl h.0)
only_answer rows (Put p) h = absurd (apart _ _ refl h.0)
only_answer rows (Delete d) h = absurd (apart _ _ refl h.0)

-- `play` asks for nothing else
pub only_play : (rows : List Row) (task : Task) → AsksBy (codes "play") rows task → (x : Plays) × (task ≡ Play x) × AsksPlayed rows x
only_play rows (Answer n) h = absurd (apart _ _ refl h.0)
only_play rows (Play p) h = (p, refl, h.1)
only_play rows (Check c) h = absurd (apart _ _ refl h.0)
only_play rows (Serve s) h = absurd (apart _ _ refl h.0)
only_play rows (Client c) h = absurd (apart _ _ refl h.0)
only_play rows (Poll p) h = absurd (apart _ _ refl h.0)
only_play rows (Writes w) h = absurd (apart _ _ refl h.0)
only_play rows (Status s) h = absurd (apart _ _ refl h.0)
only_play rows (Get g) h = absurd (apart _ _ refl h.0)
only_play rows (Put p) h = absurd (apart _ _ refl h.0)
only_play rows (Delete d) h = absurd (apart _ _ refl h.0)

-- `check` asks for nothing else
pub only_check : (rows : List Row) (task : Task) → AsksBy (codes "check") rows task → (x : Checks) × (task ≡ Check x) × AsksChecked rows x
only_check rows (Answer n) h = absurd (apart _ _ refl h.0)
only_check rows (Play p) h = absurd (apart _ _ refl h.0)
only_check rows (Check c) h = (c, refl, h.1)
only_check rows (Serve s) h = absurd (apart _ _ refl h.0)
only_check rows (Client c) h = absurd (apart _ _ refl h.0)
only_check rows (Poll p) h = absurd (apart _ _ refl h.0)
only_check rows (Writes w) h = absurd (apart _ _ refl h.0)
only_check rows (Status s) h = absurd (apart _ _ refl h.0)
only_check rows (Get g) h = absurd (apart _ _ refl h.0)
only_check rows (Put p) h = absurd (apart _ _ refl h.0)
only_check rows (Delete d) h = absurd (apart _ _ refl h.0)

-- `serve` asks for nothing else
pub only_serve : (rows : List Row) (task : Task) → AsksBy (codes "serve") rows task → (x : Serves) × (task ≡ Serve x) × AsksServed rows x
only_serve rows (Answer n) h = absurd (apart _ _ refl h.0)
only_serve rows (Play p) h = absurd (apart _ _ refl h.0)
only_serve rows (Check c) h = absurd (apart _ _ refl h.0)
only_serve rows (Serve s) h = (s, refl, h.1)
only_serve rows (Client c) h = absurd (apart _ _ refl h.0)
only_serve rows (Poll p) h = absurd (apart _ _ refl h.0)
only_serve rows (Writes w) h = absurd (apart _ _ refl h.0)
only_serve rows (Status s) h = absurd (apart _ _ refl h.0)
only_serve rows (Get g) h = absurd (apart _ _ refl h.0)
only_serve rows (Put p) h = absurd (apart _ _ refl h.0)
only_serve rows (Delete d) h = absurd (apart _ _ refl h.0)

-- `client` asks for nothing else
pub only_client : (rows : List Row) (task : Task) → AsksBy (codes "client") rows task → (x : Watch) × (task ≡ Client x) × AsksClient rows x
only_client rows (Answer n) h = absurd (apart _ _ refl h.0)
only_client rows (Play p) h = absurd (apart _ _ refl h.0)
only_client rows (Check c) h = absurd (apart _ _ refl h.0)
only_client rows (Serve s) h = absurd (apart _ _ refl h.0)
only_client rows (Client c) h = (c, refl, h.1)
only_client rows (Poll p) h = absurd (apart _ _ refl h.0)
only_client rows (Writes w) h = absurd (apart _ _ refl h.0)
only_client rows (Status s) h = absurd (apart _ _ refl h.0)
only_client rows (Get g) h = absurd (apart _ _ refl h.0)
only_client rows (Put p) h = absurd (apart _ _ refl h.0)
only_client rows (Delete d) h = absurd (apart _ _ refl h.0)

-- `poll` asks for nothing else
pub only_poll : (rows : List Row) (task : Task) → AsksBy (codes "poll") rows task → (x : Look) × (task ≡ Poll x) × AsksPoll rows x
only_poll rows (Answer n) h = absurd (apart _ _ refl h.0)
only_poll rows (Play p) h = absurd (apart _ _ refl h.0)
only_poll rows (Check c) h = absurd (apart _ _ refl h.0)
only_poll rows (Serve s) h = absurd (apart _ _ refl h.0)
only_poll rows (Client c) h = absurd (apart _ _ refl h.0)
only_poll rows (Poll p) h = (p, refl, h.1)
only_poll rows (Writes w) h = absurd (apart _ _ refl h.0)
only_poll rows (Status s) h = absurd (apart _ _ refl h.0)
only_poll rows (Get g) h = absurd (apart _ _ refl h.0)
only_poll rows (Put p) h = absurd (apart _ _ refl h.0)
only_poll rows (Delete d) h = absurd (apart _ _ refl h.0)

-- `writes` asks for nothing else
pub only_writes : (rows : List Row) (task : Task) → AsksBy (codes "writes") rows task → (x : Reads) × (task ≡ Writes x) × AsksWrites rows x
only_writes rows (Answer n) h = absurd (apart _ _ refl h.0)
only_writes rows (Play p) h = absurd (apart _ _ refl h.0)
only_writes rows (Check c) h = absurd (apart _ _ refl h.0)
only_writes rows (Serve s) h = absurd (apart _ _ refl h.0)
only_writes rows (Client c) h = absurd (apart _ _ refl h.0)
only_writes rows (Poll p) h = absurd (apart _ _ refl h.0)
only_writes rows (Writes w) h = (w, refl, h.1)
only_writes rows (Status s) h = absurd (apart _ _ refl h.0)
only_writes rows (Get g) h = absurd (apart _ _ refl h.0)
only_writes rows (Put p) h = absurd (apart _ _ refl h.0)
only_writes rows (Delete d) h = absurd (apart _ _ refl h.0)

-- `status` asks for nothing else
pub only_status : (rows : List Row) (task : Task) → AsksBy (codes "status") rows task → (x : Sees) × (task ≡ Status x) × AsksStatus rows x
only_status rows (Answer n) h = absurd (apart _ _ refl h.0)
only_status rows (Play p) h = absurd (apart _ _ refl h.0)
only_status rows (Check c) h = absurd (apart _ _ refl h.0)
only_status rows (Serve s) h = absurd (apart _ _ refl h.0)
only_status rows (Client c) h = absurd (apart _ _ refl h.0)
only_status rows (Poll p) h = absurd (apart _ _ refl h.0)
only_status rows (Writes w) h = absurd (apart _ _ refl h.0)
only_status rows (Status s) h = (s, refl, h.1)
only_status rows (Get g) h = absurd (apart _ _ refl h.0)
only_status rows (Put p) h = absurd (apart _ _ refl h.0)
only_status rows (Delete d) h = absurd (apart _ _ refl h.0)

-- `get` asks for nothing else
pub only_get : (rows : List Row) (task : Task) → AsksBy (codes "get") rows task → (x : Gets) × (task ≡ Get x) × AsksGet rows x
only_get rows (Answer n) h = absurd (apart _ _ refl h.0)
only_get rows (Play p) h = absurd (apart _ _ refl h.0)
only_get rows (Check c) h = absurd (apart _ _ refl h.0)
only_get rows (Serve s) h = absurd (apart _ _ refl h.0)
only_get rows (Client c) h = absurd (apart _ _ refl h.0)
only_get rows (Poll p) h = absurd (apart _ _ refl h.0)
only_get rows (Writes w) h = absurd (apart _ _ refl h.0)
only_get rows (Status s) h = absurd (apart _ _ refl h.0)
only_get rows (Get g) h = (g, refl, h.1)
only_get rows (Put p) h = absurd (apart _ _ refl h.0)
only_get rows (Delete d) h = absurd (apart _ _ refl h.0)

-- `put` asks for nothing else
pub only_put : (rows : List Row) (task : Task) → AsksBy (codes "put") rows task → (x : Puts) × (task ≡ Put x) × AsksPut rows x
only_put rows (Answer n) h = absurd (apart _ _ refl h.0)
only_put rows (Play p) h = absurd (apart _ _ refl h.0)
only_put rows (Check c) h = absurd (apart _ _ refl h.0)
only_put rows (Serve s) h = absurd (apart _ _ refl h.0)
only_put rows (Client c) h = absurd (apart _ _ refl h.0)
only_put rows (Poll p) h = absurd (apart _ _ refl h.0)
only_put rows (Writes w) h = absurd (apart _ _ refl h.0)
only_put rows (Status s) h = absurd (apart _ _ refl h.0)
only_put rows (Get g) h = absurd (apart _ _ refl h.0)
only_put rows (Put p) h = (p, refl, h.1)
only_put rows (Delete d) h = absurd (apart _ _ refl h.0)

-- `delete` asks for nothing else
pub only_delete : (rows : List Row) (task : Task) → AsksBy (codes "delete") rows task → (x : Deletes) × (task ≡ Delete x) × AsksDelete rows x
only_delete rows (Answer n) h = absurd (apart _ _ refl h.0)
only_delete rows (Play p) h = absurd (apart _ _ refl h.0)
only_delete rows (Check c) h = absurd (apart _ _ refl h.0)
only_delete rows (Serve s) h = absurd (apart _ _ refl h.0)
only_delete rows (Client c) h = absurd (apart _ _ refl h.0)
only_delete rows (Poll p) h = absurd (apart _ _ refl h.0)
only_delete rows (Writes w) h = absurd (apart _ _ refl h.0)
only_delete rows (Status s) h = absurd (apart _ _ refl h.0)
only_delete rows (Get g) h = absurd (apart _ _ refl h.0)
only_delete rows (Put p) h = absurd (apart _ _ refl h.0)
only_delete rows (Delete d) h = (d, refl, h.1)

-- where nothing fits, no task does
pub no_answer : (rows : List Row) → ((x : ℕ) → IsNumber rows (codes "replica") x → ⊥) → (task : Task) → AsksBy (codes "answer") rows task → ⊥
no_answer rows none task h =
    let only = only_answer rows task h in
    none only.0 only.2

pub no_serve : (rows : List Row) → ((x : Serves) → AsksServed rows x → ⊥) → (task : Task) → AsksBy (codes "serve") rows task → ⊥
no_serve rows none task h =
    let only = only_serve rows task h in
    none only.0 only.2

pub no_client : (rows : List Row) → ((x : Watch) → AsksClient rows x → ⊥) → (task : Task) → AsksBy (codes "client") rows task → ⊥
no_client rows none task h =
    let only = only_client rows task h in
    none only.0 only.2

pub no_poll : (rows : List Row) → ((x : Look) → AsksPoll rows x → ⊥) → (task : Task) → AsksBy (codes "poll") rows task → ⊥
no_poll rows none task h =
    let only = only_poll rows task h in
    none only.0 only.2

pub no_writes : (rows : List Row) → ((x : Reads) → AsksWrites rows x → ⊥) → (task : Task) → AsksBy (codes "writes") rows task → ⊥
no_writes rows none task h =
    let only = only_writes rows task h in
    none only.0 only.2

pub no_status : (rows : List Row) → ((x : Sees) → AsksStatus rows x → ⊥) → (task : Task) → AsksBy (codes "status") rows task → ⊥
no_status rows none task h =
    let only = only_status rows task h in
    none only.0 only.2

pub no_get : (rows : List Row) → ((x : Gets) → AsksGet rows x → ⊥) → (task : Task) → AsksBy (codes "get") rows task → ⊥
no_get rows none task h =
    let only = only_get rows task h in
    none only.0 only.2

pub no_put : (rows : List Row) → ((x : Puts) → AsksPut rows x → ⊥) → (task : Task) → AsksBy (codes "put") rows task → ⊥
no_put rows none task h =
    let only = only_put rows task h in
    none only.0 only.2

pub no_delete : (rows : List Row) → ((x : Deletes) → AsksDelete rows x → ⊥) → (task : Task) → AsksBy (codes "delete") rows task → ⊥
no_delete rows none task h =
    let only = only_delete rows task h in
    none only.0 only.2

-- ---- the command that was named

-- the name of a task's command
abbrev pub command_of : Task → Text
command_of (Answer n) = codes "answer"
command_of (Play p) = codes "play"
command_of (Check c) = codes "check"
command_of (Serve s) = codes "serve"
command_of (Client c) = codes "client"
command_of (Poll p) = codes "poll"
command_of (Writes w) = codes "writes"
command_of (Status s) = codes "status"
command_of (Get g) = codes "get"
command_of (Put p) = codes "put"
command_of (Delete d) = codes "delete"

asked_by : (command : Text) (rows : List Row) (task : Task) → AsksBy command rows task → command ≡ command_of task
asked_by command rows (Answer n) h = h.0
asked_by command rows (Play p) h = h.0
asked_by command rows (Check c) h = h.0
asked_by command rows (Serve s) h = h.0
asked_by command rows (Client c) h = h.0
asked_by command rows (Poll p) h = h.0
asked_by command rows (Writes w) h = h.0
asked_by command rows (Status s) h = h.0
asked_by command rows (Get g) h = h.0
asked_by command rows (Put p) h = h.0
asked_by command rows (Delete d) h = h.0

-- a task is asked for by its command
pub command_is : (found : Option (Text × List Row)) (task : Task) → AsksIn found task → option_map (λ p. p.0) found ≡ Some (command_of task)
command_is None task h = absurd h
command_is (Some p) task h = ap Some (asked_by p.0 p.1 task h)
