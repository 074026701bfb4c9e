-- What a node hands out: segments of its records, and at its end its history. This project's own.
--     Piece                           records that were cut
--     piece_of                        what is cut of a node
--     piece_entries                   the records of a piece, with their numbers
--     pieces_entries                  the records of some pieces, with their numbers
--     piece_before                    what was cut before it
--     GoesOn                          it goes on where what was cut before it ends
--     IsPiece                         each answer in it is the core's, it goes on where what was cut before it ends
--     Story                           what a node leaves
--     last_entries                    the records since the last cut, with their numbers
--     StandsInStory                   each entry that any of the seats was told was cut, or stands in the journal
--     BeginAsCut                      what was cut before each of these segments is what the node cut first
--     IsWhole                         one list of steps is all that happened
--     IsStory                         the same of what the history of the replica of this number keeps
use Rattle.std.specs.Prelude.{◌≡◌, ℕ, ◌+◌, List, ◌++◌, length, Bool, All, Contains}
use Rattle.std.specs.List.{flat_map}
use Rattle.xds_core.specs.Steps.{Core, fresh}
use Rattle.xds_core.specs.Legal.{Record, replayed, IsLegal}
use Rattle.xds_node.specs.declared.node.holding.TokenHolding.{TokenHolding}
use Rattle.xds_node.specs.Entries.{numbered, records_of, Counted, IsBeginning}
use Rattle.xds_node.specs.Holdings.{share_holding, IsClosed}
use Rattle.xds_node.specs.Books.{Books, base_of}

-- records that were cut: the replica before the first, that one's number, the records, and all that was cut before them
pub record Piece : Type 0 where
  pub base : Core
  pub first : ℕ
  pub records : List Record
  pub before : List (ℕ × Record)

-- rule: cuts
-- what is cut of a node
abbrev pub piece_of : Books → Piece
piece_of b = record { base = base_of b; first = length b.before + 1; records = b.journal; before = b.before }

-- its records, with their numbers
abbrev pub piece_entries : Piece → List (ℕ × Record)
piece_entries p = numbered p.first p.records

abbrev pub pieces_entries : List Piece → List (ℕ × Record)
pieces_entries ps = flat_map piece_entries ps

-- what was cut before it
abbrev pub piece_before : Piece → List (ℕ × Record)
piece_before p = p.before

-- rule: cuts
-- It goes on where what was cut before it ends: those records, numbered from 1 on, make of the replica of this number, at which
-- nothing happened, its base, and its first record has the next number.
pub record GoesOn (replica : ℕ) (base : Core) (first : ℕ) (before : List (ℕ × Record)) : Type 0 where
  pub own : base.replica ≡ replica
  pub counted : Counted 1 before
  pub next : length before + 1 ≡ first
  pub lawful : IsLegal (fresh replica) (records_of before)
  pub origin : base ≡ replayed (fresh replica) (records_of before)

-- rule: cuts
-- Each answer in it is the core's, it goes on where what was cut before it ends, and the token is the share of its records, behind
-- what was cut before.
pub record IsPiece (replica : ℕ) (base : Core) (first : ℕ) (records : List Record) (before : List (ℕ × Record)) (token : TokenHolding Record) : Type 0 where
  pub legal : IsLegal base records
  pub goes_on : GoesOn replica base first before
  pub share : token ≡ share_holding before (numbered first records)

-- What a node leaves: the replica after the last cut, the records since, all that were cut with their numbers, how many seats were
-- made, whether every one of them was handed in, and what those that were had been told.
pub record Story : Type 0 where
  pub base : Core
  pub records : List Record
  pub before : List (ℕ × Record)
  pub made : ℕ
  pub complete : Bool
  pub told : List (ℕ × Record)

-- the records since the last cut, with their numbers
abbrev pub last_entries : Story → List (ℕ × Record)
last_entries s = numbered (length s.before + 1) s.records

-- rule: one-seat
-- each entry that any of the seats was told was cut, or stands in the journal
abbrev pub StandsInStory : Story → Type 0
StandsInStory s = All (Contains (s.before ++ last_entries s)) s.told

-- rule: cuts
-- what was cut before each of these segments is what the node cut first
abbrev pub BeginAsCut : Story → List Piece → Type 0
BeginAsCut s ps = All (λ p. IsBeginning p.before s.before) ps

-- rule: one-seat, rule: cuts
-- One list of steps is all that happened: the records that were cut, numbered from 1 on, make of a replica at which nothing happened
-- the base; the records since are answered as the replica answers there.
pub record IsWhole (s : Story) : Type 0 where
  pub counted : Counted 1 s.before
  pub lawful : IsLegal (fresh s.base.replica) (records_of s.before)
  pub origin : s.base ≡ replayed (fresh s.base.replica) (records_of s.before)
  pub legal : IsLegal s.base s.records

-- the same of what the history of the replica of this number keeps, and its token is the keeper's, once the seats were put into it
pub record IsStory (replica : ℕ) (base : Core) (records : List Record) (cut : ℕ) (complete : Bool) (token : TokenHolding Record) : Type 0 where
  pub own : base.replica ≡ replica
  pub cut_is : cut ≡ length token.cut
  pub closed : IsClosed records complete token
  pub lawful : IsLegal (fresh base.replica) (records_of token.cut)
  pub origin : base ≡ replayed (fresh base.replica) (records_of token.cut)
  pub legal : IsLegal base records
