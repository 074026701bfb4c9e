-- Laws of catalogues: which writes they are made of, how they join, and what changes them. This project's own.
--     HasTheBest                       a catalogue has the best write of each name
--     StandUnderTheirNames             each of its writes stands under its own name
--     IsMadeOfItsWrites                a catalogue is made again of what it holds
--     OrderDoesNotMatter               neither the order of writes nor how often each comes changes a catalogue
--     JoinsTheWrites                   to join two catalogues is to make one of all their writes
--     JoinCommutes                     the join of two catalogues is the same either way
--     JoinAssociates                   three catalogues join to the same in either order of joining
--     JoinIsIdempotent                 a catalogue joined with itself is itself
--     JoinIsAbove                      a join is above both of its parts
--     JoinIsLeast                      and below everything that is above both
--     JoinsOneAfterAnother             writes that come in two lists are joined as those of one
--     RepeatsChangeNothing             writes that came before change nothing when they come again
--     NoChangeKeepsAll                 where nothing changes, the entries stay
--     NoneAbove                        no entry has a greater counter than the greatest
--     IsReached                        which is 0, or some entry's
--     EntriesAreNumbered               each entry of what is held keeps a number of its own, whatever writes come
--     NoChangeKeepsNumbers             where nothing changes, the numbers stay
--     NumberIsOfTheLast                an entry's number, after writes that came
use Rattle.std.specs.Prelude.{◌≡◌, ◌⊎◌, ℕ, ◌+◌, ◌≤◌, List, ◌++◌, Some, Contains}
use Rattle.std.specs.FinMap as finmap
use Rattle.xds_resource.specs.Writes.{StampedWrite}
use Rattle.xds_resource.specs.Best.{best, SameWrites}
use Rattle.xds_catalogue.specs.Holdings.{Entries, Holdings, catalogue_of, IsCatalogue, IsNumbered}
use Rattle.xds_catalogue.specs.Changes.{changes_after, NoneChanges, IsLastChange}
use Rattle.xds_catalogue.specs.Joins.{join, IsAbove, changes_by, joined}
use Rattle.xds_catalogue.specs.Local.{greatest_counter}

-- rule: greatest-write
-- a catalogue has the best write of each name
abbrev pub HasTheBest : Type 0
HasTheBest = (ws : List StampedWrite) (name : List ℕ) → finmap.get (catalogue_of ws) name ≡ best ws name

-- each of its writes stands under its own name
abbrev pub StandUnderTheirNames : Type 0
StandUnderTheirNames = (ws : List StampedWrite) → IsCatalogue (catalogue_of ws)

-- a catalogue is made again of what it holds
abbrev pub IsMadeOfItsWrites : Type 0
IsMadeOfItsWrites = (m : Entries) → IsCatalogue m → catalogue_of (finmap.values m) ≡ m

-- rule: greatest-write
-- neither the order of writes nor how often each comes changes a catalogue
abbrev pub OrderDoesNotMatter : Type 0
OrderDoesNotMatter = (v w : List StampedWrite) → SameWrites v w → catalogue_of v ≡ catalogue_of w

-- rule: greatest-write
-- to join two catalogues is to make one of the writes of both
abbrev pub JoinsTheWrites : Type 0
JoinsTheWrites = (v w : List StampedWrite) → join (catalogue_of v) (catalogue_of w) ≡ catalogue_of (v ++ w)

-- rule: greatest-write
abbrev pub JoinCommutes : Type 0
JoinCommutes = (m n : Entries) → join m n ≡ join n m

-- rule: greatest-write
abbrev pub JoinAssociates : Type 0
JoinAssociates = (l m n : Entries) → join l (join m n) ≡ join (join l m) n

-- rule: greatest-write
abbrev pub JoinIsIdempotent : Type 0
JoinIsIdempotent = (m : Entries) → IsCatalogue m → join m m ≡ m

-- rule: greatest-write
-- a join is above both of its parts
abbrev pub JoinIsAbove : Type 0
JoinIsAbove = (m n : Entries) → IsCatalogue m → IsCatalogue n → IsAbove (join m n) m × IsAbove (join m n) n

-- rule: greatest-write
-- and below everything that is above both
abbrev pub JoinIsLeast : Type 0
JoinIsLeast = (l m n : Entries) → IsCatalogue m → IsCatalogue n → IsAbove l m → IsAbove l n → IsAbove l (join m n)

-- rule: greatest-write
-- writes that come in two lists are joined as those of one
abbrev pub JoinsOneAfterAnother : Type 0
JoinsOneAfterAnother = (h : Holdings) (v w : List StampedWrite) → joined (joined h v) w ≡ joined h (v ++ w)

-- rule: greatest-write
-- writes that came before change nothing when they come again
abbrev pub RepeatsChangeNothing : Type 0
RepeatsChangeNothing = (before ws : List StampedWrite) → ((w : StampedWrite) → Contains ws w → Contains before w) → changes_after before ws ≡ 0

-- where nothing changes, the entries stay
abbrev pub NoChangeKeepsAll : Type 0
NoChangeKeepsAll = (before ws : List StampedWrite) → changes_after before ws ≡ 0 → catalogue_of (before ++ ws) ≡ catalogue_of before

-- no entry has a greater counter than the greatest
abbrev pub NoneAbove : Type 0
NoneAbove = (m : Entries) (w : StampedWrite) → Contains (finmap.values m) w → w.counter ≤ greatest_counter m

-- which is 0, or some entry's
abbrev pub IsReached : Type 0
IsReached = (m : Entries) → (greatest_counter m ≡ 0) ⊎ ((w : StampedWrite) × Contains (finmap.values m) w × (w.counter ≡ greatest_counter m))

-- rule: marks
-- each entry of what is held keeps a number of its own, whatever writes come
abbrev pub EntriesAreNumbered : Type 0
EntriesAreNumbered = (h : Holdings) (ws : List StampedWrite) → IsCatalogue h.entries → IsNumbered h → IsNumbered (joined h ws)

-- rule: marks
-- where nothing changes, the numbers stay
abbrev pub NoChangeKeepsNumbers : Type 0
NoChangeKeepsNumbers = (h : Holdings) (ws : List StampedWrite) → changes_by h ws ≡ 0 → (joined h ws).latest ≡ h.latest

-- rule: marks
-- An entry's number, after writes that came, is that of the last of them that changed it, or the one from before where none did.
abbrev pub NumberIsOfTheLast : Type 0
NumberIsOfTheLast = (h : Holdings) (ws : List StampedWrite) (name : List ℕ)
    → (NoneChanges (finmap.values h.entries) ws name × (finmap.get (joined h ws).latest name ≡ finmap.get h.latest name))
    ⊎ ((k : ℕ) × IsLastChange (finmap.values h.entries) ws name k × (finmap.get (joined h ws).latest name ≡ Some (h.changes + k)))
