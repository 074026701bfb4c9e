-- The two ordered maps that stand for a catalogue: from each name to the write that stands under it and the number of its latest change, and from that number to the name. This project's own.
--     NumberedWrite, numbered_code     a write that stands, and the number of the change that put it there
--     by_text                          the entries of a map from texts, each seen by f
--     by_number                        the entries of a map from numbers, each seen by f
--     Named, named_code                the map from names, as its writes and its numbers
--     named_by                         the map from names that some entries of an ordered map are
--     no_names                         the map without an entry
--     with_name                        this write under this name
--     without_name                     nothing under this name
--     with_former                      under this name what stood there before, if that was anything
--     TwoMaps, two_maps_code           both maps, the count of changes
--     no_tables                        both maps without an entry, and no change
--     held_by                          the catalogue that the tables stand for
--     with_write                       the write under its name with the next number, beside which the old number stays
--     without_number                   this number taken out
--     PutAside, put_aside_code         what a change put aside: its name and number, and what stood there before
--     IsPutAside                       what putting this write puts aside
--     taken_back                       a change taken back
--     all_taken_back                   changes taken back, the last one first
--     with_counts                      with this count of changes, and this greatest counter
--     former_number                    the number of what stood there before
--     former_numbers                   the numbers of all that was put aside
--     IsAmong                          a number is in a list
--     IsSoundBut                       the two maps agree, but for numbers that are still to be taken out
--     IsSound                          the two maps agree, and what they stand for is a catalogue
use Rattle.std.specs.Prelude.{◌≡◌, ◌≢◌, ◌⊎◌, ℕ, ◌+◌, ◌≤◌, max, List, [], ◌∷◌, ◌++◌, map, String, Option, Some, None, if◌then◌else◌, is_some, IfSome, refl}
use Rattle.std.specs.Coded.{Coded, code_by, coded×, coded_ℕ, coded_list, coded_option}
use Rattle.std.specs.Ordering.{nat_cmp}
use Rattle.std.specs.Option.{option_map}
use Rattle.std.specs.String.{string_bytes}
use Rattle.std.specs.FinMap as finmap
use Rattle.xds_resource.specs.Stamps.{max_counter}
use Rattle.xds_resource.specs.Writes.{StampedWrite, write_code, text_cmp}
use Rattle.xds_catalogue.specs.Holdings.{Holdings, IsCatalogue}
use Rattle.xds_catalogue.specs.Local.{greatest_counter}

-- a write that stands, and the number of the change that put it there
pub record NumberedWrite : Type 0 where
  pub write : StampedWrite
  pub change : ℕ

abbrev pub numbered_code : Coded NumberedWrite
numbered_code = code_by (StampedWrite × ℕ) (coded× write_code coded_ℕ) (λ e. (e.write, e.change)) (λ p. record { write = p.0; change = p.1 }) (λ _. refl)

-- the entries of a map from texts, each seen by f
abbrev pub by_text : {X Y Z : Type 0} → (X → Z) → List (String Y × X) → finmap.FinMap text_cmp Z
by_text f es = finmap.from_entries (map (λ e. (string_bytes e.0, f e.1)) es)

-- the entries of a map from numbers, each seen by f
abbrev pub by_number : {X Z : Type 0} → (X → Z) → List (ℕ × X) → finmap.FinMap nat_cmp Z
by_number f es = finmap.from_entries (map (λ e. (e.0, f e.1)) es)

-- the map from names, as its writes and its numbers
pub record Named : Type 0 where
  pub entries : finmap.FinMap text_cmp StampedWrite
  pub latest : finmap.FinMap text_cmp ℕ

abbrev pub named_code : Coded Named
named_code =
    code_by (finmap.FinMap text_cmp StampedWrite × finmap.FinMap text_cmp ℕ) (coded× (finmap.code (coded_list coded_ℕ) write_code) (finmap.code (coded_list coded_ℕ) coded_ℕ))
    (λ n. (n.entries, n.latest)) (λ p. record { entries = p.0; latest = p.1 }) (λ _. refl)

-- what the entries of an ordered map say
abbrev pub named_by : {Y : Type 0} → List (String Y × NumberedWrite) → Named
named_by es = record { entries = by_text (λ e. e.write) es; latest = by_text (λ e. e.change) es }

abbrev pub no_names : Named
no_names = record { entries = finmap.empty; latest = finmap.empty }

-- this write under this name
abbrev pub with_name : Named → List ℕ → NumberedWrite → Named
with_name n name e = record { entries = finmap.insert n.entries name e.write; latest = finmap.insert n.latest name e.change }

-- nothing under this name
abbrev pub without_name : Named → List ℕ → Named
without_name n name = record { entries = finmap.remove n.entries name; latest = finmap.remove n.latest name }

-- under this name what stood there before, if that was anything
abbrev pub with_former : Named → List ℕ → Option NumberedWrite → Named
with_former n name None = without_name n name
with_former n name (Some e) = if is_some (finmap.get n.entries name) then with_name n name e else n

-- both maps, the count of changes, and the greatest counter of a write that stands
pub record TwoMaps : Type 0 where
  pub named : Named
  pub numbers : finmap.FinMap nat_cmp (List ℕ)
  pub changes : ℕ
  pub greatest : ℕ

abbrev pub two_maps_code : Coded TwoMaps
two_maps_code =
    code_by (Named × (finmap.FinMap nat_cmp (List ℕ) × (ℕ × ℕ))) (coded× named_code (coded× (finmap.code coded_ℕ (coded_list coded_ℕ)) (coded× coded_ℕ coded_ℕ)))
    (λ t. (t.named, (t.numbers, (t.changes, t.greatest)))) (λ p. record { named = p.0; numbers = p.1.0; changes = p.1.1.0; greatest = p.1.1.1 }) (λ _. refl)

abbrev pub no_tables : TwoMaps
no_tables = record { named = no_names; numbers = finmap.empty; changes = 0; greatest = 0 }

-- the catalogue that the tables stand for
abbrev pub held_by : TwoMaps → Holdings
held_by t = record { entries = t.named.entries; changes = t.changes; latest = t.named.latest }

-- the write under its name with the next number, beside which the old number stays
abbrev pub with_write : TwoMaps → StampedWrite → TwoMaps
with_write t w = record {
  named = with_name t.named w.name (record { write = w; change = t.changes + 1 });
  numbers = finmap.insert t.numbers (t.changes + 1) w.name;
  changes = t.changes + 1;
  greatest = max t.greatest w.counter;
}

-- this number taken out
abbrev pub without_number : TwoMaps → ℕ → TwoMaps
without_number t k = record { named = t.named; numbers = finmap.remove t.numbers k; changes = t.changes; greatest = t.greatest }

-- what a change put aside: its name and number, and what stood there before
pub record PutAside : Type 0 where
  pub name : List ℕ
  pub number : ℕ
  pub former : Option NumberedWrite

abbrev pub put_aside_code : Coded PutAside
put_aside_code =
    code_by (List ℕ × (ℕ × Option NumberedWrite)) (coded× (coded_list coded_ℕ) (coded× coded_ℕ (coded_option numbered_code))) (λ d. (d.name, (d.number, d.former)))
    (λ p. record { name = p.0; number = p.1.0; former = p.1.1 }) (λ _. refl)

-- what putting this write puts aside
pub record IsPutAside (t : TwoMaps) (w : StampedWrite) (d : PutAside) : Type 0 where
  pub name : d.name ≡ w.name
  pub number : d.number ≡ t.changes + 1
  pub write : option_map (λ e. e.write) d.former ≡ finmap.get t.named.entries w.name
  pub change : option_map (λ e. e.change) d.former ≡ finmap.get t.named.latest w.name

-- a change taken back
abbrev pub taken_back : TwoMaps → PutAside → TwoMaps
taken_back t d = record { named = with_former t.named d.name d.former; numbers = finmap.remove t.numbers d.number; changes = t.changes; greatest = t.greatest }

-- changes taken back, the last one first
abbrev pub all_taken_back : TwoMaps → List PutAside → TwoMaps
all_taken_back t [] = t
all_taken_back t (d ∷ ds) = taken_back (all_taken_back t ds) d

-- with this count of changes, and this greatest counter
abbrev pub with_counts : TwoMaps → ℕ → ℕ → TwoMaps
with_counts t changes greatest = record { named = t.named; numbers = t.numbers; changes = changes; greatest = greatest }

-- the number of what stood there before
abbrev pub former_number : Option NumberedWrite → List ℕ
former_number None = []
former_number (Some e) = e.change ∷ []

-- the numbers of all that was put aside
abbrev pub former_numbers : List PutAside → List ℕ
former_numbers [] = []
former_numbers (d ∷ ds) = former_number d.former ++ former_numbers ds

abbrev pub IsAmong : ℕ → List ℕ → Type 0
IsAmong k [] = ⊥
IsAmong k (n ∷ ns) = (k ≡ n) ⊎ IsAmong k ns

-- The two maps agree, but for numbers that are still to be taken out, and what they stand for is a catalogue.
pub record IsSoundBut (leftover : List ℕ) (t : TwoMaps) : Type 0 where
  pub named : IsCatalogue t.named.entries
  pub each : (name : List ℕ) → is_some (finmap.get t.named.latest name) ≡ is_some (finmap.get t.named.entries name)
  pub counted : (name : List ℕ) → IfSome (finmap.get t.named.latest name) (λ k. (1 ≤ k) × (k ≤ t.changes) × (finmap.get t.numbers k ≡ Some name))
  pub listed : (k : ℕ) → IfSome (finmap.get t.numbers k) (λ name. (k ≤ t.changes) × ((finmap.get t.named.latest name ≡ Some k) ⊎ IsAmong k leftover))
  pub passed : (k : ℕ) → IsAmong k leftover → (k ≤ t.changes) × ((name : List ℕ) → finmap.get t.named.latest name ≢ Some k)
  pub short : t.changes ≤ max_counter
  pub greatest : t.greatest ≡ greatest_counter t.named.entries
  pub bounded : t.greatest ≤ max_counter

-- the two maps agree, and what they stand for is a catalogue
abbrev pub IsSound : TwoMaps → Type 0
IsSound t = IsSoundBut [] t
