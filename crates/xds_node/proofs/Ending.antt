-- What a node leaves: its history, and segments beside it.
use Rattle.std.proofs.Common.{◌≡◌, ℕ, ◌+◌, List, ◌++◌, length, Bool, true, sym, ap, subst, ◌∙◌, nat_eq}
use Rattle.std.specs.Prelude.{All, Contains, IsPermutation}
use Rattle.xds_core.specs.Steps.{Core, fresh}
use Rattle.xds_core.specs.Legal.{Record, replayed, IsLegal}
use Rattle.xds_node.specs.declared.node.holding.TokenHolding.{TokenHolding}
use Rattle.xds_node.specs.Entries.{numbered, records_of, Counted}
use Rattle.xds_node.specs.Holdings.{with_seats, with_shares}
use Rattle.xds_node.specs.Tally.{Known}
use Rattle.xds_node.proofs.Steps.{keeper_closes, all_shares, all_pasts, cut_in_order, audited}
use Rattle.xds_node.specs.Books.{IsKept}
use Rattle.xds_node.specs.Told.{Calls}
use Rattle.xds_node.specs.Pieces.{Piece, piece_entries, piece_before, pieces_entries, Story, last_entries, StandsInStory, BeginAsCut, IsStory}

-- a node is closed
pub story : (replica : ℕ) (base core : Core) (journal : List Record) (cut seats many : ℕ) (v u w : TokenHolding Record) (calls : List Calls) → IsKept replica base core journal cut seats v → u ≡ with_seats (λ s. s.told) (λ s. s.refused) v calls → w ≡ u → Known u → many ≡ length calls → IsStory replica base journal cut (nat_eq many seats) w
story replica base core journal cut seats many v u w calls k gathered same known counted =
    let is : w ≡ with_seats (λ s. s.told) (λ s. s.refused) v calls = same ∙ gathered in
    let known' : Known w = subst Known (sym same) known in
    let same_cut : w.cut ≡ v.cut = ap (λ (h : TokenHolding Record). h.cut) is in
    record {
      own = k.own;
      cut_is = k.cut_is ∙ ap length (sym same_cut);
      closed = keeper_closes (λ s. s.told) (λ s. s.refused) journal seats (nat_eq many seats) v w calls k.keeper is known' (ap (λ n. nat_eq n seats) counted);
      lawful = subst (λ (l : List (ℕ × Record)). IsLegal (fresh base.replica) (records_of l)) (sym same_cut) k.lawful;
      origin = k.origin ∙ ap (λ l. replayed (fresh base.replica) (records_of l)) (sym same_cut);
      legal = k.legal;
    }

-- rule: one-seat
-- what the seats were told was cut, or stands in the journal
pub story_stands : (replica : ℕ) (base : Core) (records : List Record) (cut : ℕ) (complete : Bool) (v : TokenHolding Record) → IsStory replica base records cut complete v → All (Contains (v.cut ++ numbered (length v.cut + 1) records)) v.told
story_stands replica base records cut complete v k = subst (λ (j : List (ℕ × Record)). All (Contains (v.cut ++ j)) v.told) k.closed.journal_is k.closed.stands

-- rule: one-seat
-- where it is complete, what the seats were told is what was recorded, in some order
pub story_each : (replica : ℕ) (base : Core) (records : List Record) (cut : ℕ) (complete : Bool) (v : TokenHolding Record) → IsStory replica base records cut complete v → complete ≡ true → IsPermutation v.told (v.cut ++ numbered (length v.cut + 1) records)
story_each replica base records cut complete v k whole = subst (λ (j : List (ℕ × Record)). IsPermutation v.told (v.cut ++ j)) k.closed.journal_is (k.closed.whole whole)

-- segments are put to a history
pub record Audits (s : Story) (pieces : List Piece) : Type 0 where
  pub shares : All (Contains s.before) (pieces_entries pieces)
  pub bases : BeginAsCut s pieces
  pub stands : StandsInStory s
  pub each : s.complete ≡ true → length (pieces_entries pieces) ≡ length s.before → IsPermutation s.told (pieces_entries pieces ++ last_entries s)
  pub so : Counted 1 (pieces_entries pieces) → length (pieces_entries pieces) ≡ length s.before → pieces_entries pieces ≡ s.before
  pub only : pieces_entries pieces ≡ s.before → Counted 1 (pieces_entries pieces)

-- rule: cuts
pub audits : (replica : ℕ) (base : Core) (records : List Record) (cut : ℕ) (complete : Bool) (v u : TokenHolding Record) (s : Story) (pieces : List Piece) → IsStory replica base records cut complete v → u ≡ with_shares piece_before piece_entries v pieces → Known u → record { base = base; records = records; before = v.cut; made = v.made; complete = complete; told = v.told } ≡ s → Audits s pieces
audits replica base records cut complete v u s pieces k gathered known is =
    subst (λ t. Audits t pieces) is (record {
      shares = (all_shares piece_before piece_entries v u pieces k.closed.no_share gathered known).stands;
      bases = all_pasts piece_before piece_entries v u pieces k.closed.no_pasts gathered known;
      stands = story_stands replica base records cut complete v k;
      each = λ whole many. audited piece_before piece_entries records complete v u pieces k.closed gathered known whole many;
      so = λ order many. cut_in_order piece_before piece_entries v u pieces k.closed.counted k.closed.no_share gathered known order many;
      only = λ same. subst (Counted 1) (sym same) k.closed.counted;
    })

-- rule: cuts
-- the same, once they were looked at: they are all that was cut
pub all_cut : (replica : ℕ) (base : Core) (records : List Record) (cut : ℕ) (complete : Bool) (v u : TokenHolding Record) (s : Story) (pieces looked : List Piece) → IsStory replica base records cut complete v → u ≡ with_shares piece_before piece_entries v pieces → Known u → record { base = base; records = records; before = v.cut; made = v.made; complete = complete; told = v.told } ≡ s → looked ≡ pieces → Counted 1 (pieces_entries looked) × (length (pieces_entries looked) ≡ cut) → pieces_entries pieces ≡ s.before
all_cut replica base records cut complete v u s pieces looked k gathered known is same order =
    let audit = audits replica base records cut complete v u s pieces k gathered known is in
    audit.so (subst (λ ps. Counted 1 (pieces_entries ps)) same order.0) (ap (λ ps. length (pieces_entries ps)) (sym same) ∙ order.1 ∙ k.cut_is ∙ ap (λ (t : Story). length t.before) is)
