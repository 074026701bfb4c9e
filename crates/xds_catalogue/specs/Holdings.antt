-- What a catalogue of one type holds: the greatest write of each name, deletions among them, a count of changes, and the number of the latest change of each entry. This project's own.
--     Entries                   names and the writes that stand under them
--     Latest                    names and the numbers of the latest changes of their entries
--     Holdings, holdings_code   the entries of a catalogue, how many writes added or replaced one
--     nothing_held              a catalogue that nothing was put into
--     catalogue_of              the best write of each name that the list has
--     IsCatalogue               each write stands under its own name
--     IsNumbered                each entry has a number, from 1 to the count of changes, and no two have the same
use Rattle.std.specs.Prelude.{◌≡◌, ℕ, ◌≤◌, List, map, Some, is_some, unwrap_or, IfSome, refl}
use Rattle.std.specs.Coded.{Coded, code_by, coded×, coded_ℕ, coded_list}
use Rattle.std.specs.FinMap as finmap
use Rattle.xds_resource.specs.Writes.{StampedWrite, write_code, text_cmp}
use Rattle.xds_resource.specs.Best.{best}

-- names and the writes that stand under them
abbrev pub Entries : Type 0
Entries = finmap.FinMap text_cmp StampedWrite

-- names and the numbers of the latest changes of their entries
abbrev pub Latest : Type 0
Latest = finmap.FinMap text_cmp ℕ

-- The entries of a catalogue, how many writes added or replaced one, and for each entry the number of the latest that did.
pub record Holdings : Type 0 where
  pub entries : finmap.FinMap text_cmp StampedWrite
  pub changes : ℕ
  pub latest : finmap.FinMap text_cmp ℕ

abbrev pub holdings_code : Coded Holdings
holdings_code =
    code_by (finmap.FinMap text_cmp StampedWrite × (ℕ × finmap.FinMap text_cmp ℕ)) (coded× (finmap.code (coded_list coded_ℕ) write_code) (coded× coded_ℕ (finmap.code (coded_list coded_ℕ) coded_ℕ)))
    (λ h. (h.entries, (h.changes, h.latest))) (λ p. record { entries = p.0; changes = p.1.0; latest = p.1.1 }) (λ _. refl)

-- a catalogue that nothing was put into
abbrev pub nothing_held : Holdings
nothing_held = record { entries = finmap.empty; changes = 0; latest = finmap.empty }

-- rule: greatest-write
-- the best write of each name that the list has
abbrev pub catalogue_of : List StampedWrite → Entries
catalogue_of ws = finmap.from_entries (map (λ w. (w.name, unwrap_or (best ws w.name) w)) ws)

-- each write stands under its own name
abbrev pub IsCatalogue : Entries → Type 0
IsCatalogue m = (name : List ℕ) → IfSome (finmap.get m name) (λ w. w.name ≡ name)

-- rule: marks
-- Each entry has a number, from 1 to the count of changes, and no two have the same.
pub record IsNumbered (h : Holdings) : Type 0 where
  pub each : (name : List ℕ) → is_some (finmap.get h.latest name) ≡ is_some (finmap.get h.entries name)
  pub counted : (name : List ℕ) → IfSome (finmap.get h.latest name) (λ k. (1 ≤ k) × (k ≤ h.changes))
  pub apart : (p q : List ℕ) (k : ℕ) → finmap.get h.latest p ≡ Some k → finmap.get h.latest q ≡ Some k → p ≡ q
