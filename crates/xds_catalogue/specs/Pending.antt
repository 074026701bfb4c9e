-- A catalogue to which writes were joined, for as long as they can be taken back. This project's own.
--     Pending, pending_code   what is held before the writes and after them
--     tables_before           the tables before the changes that put these aside, when the counts were these
--     IsPending               once the changes are taken back
use Rattle.std.specs.Prelude.{ℕ, ◌≤◌, List, refl}
use Rattle.std.specs.Coded.{Coded, code_by, coded×}
use Rattle.xds_catalogue.specs.Holdings.{Holdings, holdings_code}
use Rattle.xds_catalogue.specs.Tables.{TwoMaps, PutAside, IsSound, IsSoundBut, former_numbers, all_taken_back, with_counts}

-- what is held before the writes and after them
pub record Pending : Type 0 where
  pub before : Holdings
  pub after : Holdings

abbrev pub pending_code : Coded Pending
pending_code = code_by (Holdings × Holdings) (coded× holdings_code holdings_code) (λ p. (p.before, p.after)) (λ p. record { before = p.0; after = p.1 }) (λ _. refl)

-- the tables before the changes that put these aside, when the counts were these
abbrev pub tables_before : TwoMaps → List PutAside → ℕ → ℕ → TwoMaps
tables_before t aside changes greatest = with_counts (all_taken_back t aside) changes greatest

-- rule: refused-event
-- Once the changes are taken back, or the numbers that entries had before are taken out, both maps agree.
pub record IsPending (t : TwoMaps) (aside : List PutAside) (changes greatest : ℕ) : Type 0 where
  pub after : IsSoundBut (former_numbers aside) t
  pub before : IsSound (tables_before t aside changes greatest)
  pub more : changes ≤ t.changes
