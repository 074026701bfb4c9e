-- What a node keeps under its lock: the books of all that it was asked and answered, from its start, and what they come to. This
-- project's own.
--     most_records     how many records a journal may have
--     Books            the number of the replica, all records that were cut
--     opened_books     those of a node at which nothing happened
--     base_of          the replica as the latest cut left it: until the first cut, one at which nothing happened
--     present          the replica as it is
--     next_number      the number of the next record
--     entries_of       the records of the journal, with their numbers
--     all_entries_of   all records, with their numbers
--     record_of        what an event is answered now
--     with_record      a record more, at the end of the journal
--     with_seat        a seat more
--     after_cut        after a cut
--     IsFull           no record more has room: the journal has as many as it may, or all numbers are spent
--     IsKept           what holds whenever the lock is free
use Rattle.std.specs.Prelude.{◌≡◌, ◌⊎◌, ℕ, ◌+◌, ◌≤◌, List, [], ◌∷◌, ◌++◌, length}
use Rattle.xds_resource.specs.Stamps.{max_counter}
use Rattle.xds_core.specs.Events.{Event}
use Rattle.xds_core.specs.Steps.{Core, fresh, step}
use Rattle.xds_core.specs.Legal.{Record, answer_of, replayed, IsLegal}
use Rattle.xds_node.specs.declared.node.holding.TokenHolding.{TokenHolding}
use Rattle.xds_node.specs.Entries.{numbered, records_of}
use Rattle.xds_node.specs.Holdings.{IsKeeperOf}

-- rule: cuts
-- how many records a journal may have
abbrev pub most_records : ℕ
most_records = 65536

-- the number of the replica, all records that were cut, with their numbers from the node's start, those since, and how many seats
-- were made
pub record Books : Type 0 where
  pub replica : ℕ
  pub before : List (ℕ × Record)
  pub journal : List Record
  pub seats : ℕ

-- those of a node at which nothing happened
abbrev pub opened_books : ℕ → Books
opened_books replica = record { replica = replica; before = []; journal = []; seats = 0 }

-- rule: cuts
-- the replica as the latest cut left it: until the first cut, one at which nothing happened
abbrev pub base_of : Books → Core
base_of b = replayed (fresh b.replica) (records_of b.before)

-- the replica as it is
abbrev pub present : Books → Core
present b = replayed (base_of b) b.journal

-- the number of the next record
abbrev pub next_number : Books → ℕ
next_number b = length b.before + length b.journal + 1

-- the records of the journal, with their numbers
abbrev pub entries_of : Books → List (ℕ × Record)
entries_of b = numbered (length b.before + 1) b.journal

-- all records, with their numbers
abbrev pub all_entries_of : Books → List (ℕ × Record)
all_entries_of b = b.before ++ entries_of b

-- what an event is answered now
abbrev pub record_of : Books → Event → Record
record_of b e = record { event = e; answer = answer_of (step (present b) e) }

-- a record more, at the end of the journal
abbrev pub with_record : Books → Record → Books
with_record b r = record { replica = b.replica; before = b.before; journal = b.journal ++ r ∷ []; seats = b.seats }

-- a seat more
abbrev pub with_seat : Books → Books
with_seat b = record { replica = b.replica; before = b.before; journal = b.journal; seats = b.seats + 1 }

-- rule: cuts
-- after a cut
abbrev pub after_cut : Books → Books
after_cut b = record { replica = b.replica; before = b.before ++ entries_of b; journal = []; seats = b.seats }

-- rule: cuts
-- no record more has room: the journal has as many as it may, or all numbers are spent
abbrev pub IsFull : Books → Type 0
IsFull b = (length b.journal ≡ most_records) ⊎ (length b.before + length b.journal ≡ max_counter)

-- What holds whenever the lock is free. The core is what the journal's records make of the base, each answered as the core answers
-- there, and the base is what the records that were cut make of a replica at which nothing happened; so one list of steps is all
-- that ever happened at the replica of this number. The keeper's token has these records, under numbers from 1 on, and has made so many
-- seats.
pub record IsKept (replica : ℕ) (base core : Core) (journal : List Record) (cut seats : ℕ) (token : TokenHolding Record) : Type 0 where
  pub own : base.replica ≡ replica
  pub state : core ≡ replayed base journal
  pub legal : IsLegal base journal
  pub few : length journal ≤ most_records
  pub numbers : cut + length journal ≤ max_counter
  pub few_seats : seats ≤ max_counter
  pub keeper : IsKeeperOf journal seats token
  pub cut_is : cut ≡ length token.cut
  pub origin : base ≡ replayed (fresh base.replica) (records_of token.cut)
  pub lawful : IsLegal (fresh base.replica) (records_of token.cut)
