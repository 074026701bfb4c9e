-- What tokens stand for: the keeper of a journal, seats with what they were told and what they were refused, and shares of what was
-- cut. This project's own.
--     keeper                   the one token that knows all records
--     seat_holding             one seat, what it was told, and what it was refused
--     share_holding            a share of what was cut, and what was cut before it
--     nothing                  a token that holds nothing
--     recorded                 all that was recorded, as far as a token knows: what was cut, and the journal
--     past_of                  what was cut before the share that a token has
--     kept_part                what a keeper knows, and what a seat was refused
--     lent_part                what is lent without it: seats with what they were told, and shares
--     both                     the first, with what the second was lent
--     with_entry               an entry more, in the journal and of what the seats were told
--     with_refused             a call more that was refused
--     with_seat                a seat more
--     after_cut                the journal is cut, and shared, with what was cut before
--     with_seats               with these seats put into it, each of which was told these entries, and refused these
--     with_shares              with these shares put into it, before each of which this was cut
--     IsAlone                  it is the keeper, and has no seat and no share
--     IsKeeperOf               it is the keeper of a journal with these records and of so many seats
--     IsClosed                 it is the keeper of a journal with these records once seats were put into it
use Rattle.std.specs.Prelude.{◌≡◌, ℕ, ◌+◌, List, [], ◌∷◌, ◌++◌, length, map, get_or, All, Contains, ◌==◌, Bool, true, IsPermutation}
use Rattle.std.specs.List.{flat_map}
use Rattle.xds_node.specs.declared.node.holding.TokenHolding.{TokenHolding}
use Rattle.xds_node.specs.Entries.{numbered, Counted}

module _ {E : Type 0} where
  -- the one token that knows all records
  abbrev pub keeper : ℕ → List (ℕ × E) → List (ℕ × E) → TokenHolding E
  keeper made cut journal = record {
    keepers = 1;
    made = made;
    cut = cut;
    journal = journal;
    seats = 0;
    told = [];
    refused = [];
    share = [];
    pasts = [];
  }

  -- one seat, what it was told, and what it was refused
  abbrev pub seat_holding : List (ℕ × E) → List E → TokenHolding E
  seat_holding told refused = record {
    keepers = 0;
    made = 0;
    cut = [];
    journal = [];
    seats = 1;
    told = told;
    refused = refused;
    share = [];
    pasts = [];
  }

  -- a share of what was cut, and what was cut before it
  abbrev pub share_holding : List (ℕ × E) → List (ℕ × E) → TokenHolding E
  share_holding past share = record {
    keepers = 0;
    made = 0;
    cut = [];
    journal = [];
    seats = 0;
    told = [];
    refused = [];
    share = share;
    pasts = past ∷ [];
  }

  abbrev pub nothing : TokenHolding E
  nothing = record { keepers = 0; made = 0; cut = []; journal = []; seats = 0; told = []; refused = []; share = []; pasts = [] }

  -- all that was recorded, as far as a token knows: what was cut, and the journal
  abbrev pub recorded : TokenHolding E → List (ℕ × E)
  recorded v = v.cut ++ v.journal

  -- what was cut before the share that a token has
  abbrev pub past_of : TokenHolding E → List (ℕ × E)
  past_of v = get_or v.pasts 0 []

  -- what a keeper knows and a seat was refused, and what is lent without it
  abbrev pub kept_part : TokenHolding E → TokenHolding E
  kept_part v = record {
    keepers = v.keepers;
    made = v.made;
    cut = v.cut;
    journal = v.journal;
    seats = 0;
    told = [];
    refused = v.refused;
    share = [];
    pasts = [];
  }

  abbrev pub lent_part : TokenHolding E → TokenHolding E
  lent_part v = record {
    keepers = 0;
    made = 0;
    cut = [];
    journal = [];
    seats = v.seats;
    told = v.told;
    refused = [];
    share = v.share;
    pasts = v.pasts;
  }

  -- the first, with what the second was lent
  abbrev pub both : TokenHolding E → TokenHolding E → TokenHolding E
  both v w = record {
    keepers = v.keepers;
    made = v.made;
    cut = v.cut;
    journal = v.journal;
    seats = v.seats + w.seats;
    told = v.told ++ w.told;
    refused = v.refused ++ w.refused;
    share = v.share ++ w.share;
    pasts = v.pasts ++ w.pasts;
  }

  -- an entry more, in the journal and of what the seats were told
  abbrev pub with_entry : ℕ → E → TokenHolding E → TokenHolding E
  with_entry n e v = record {
    keepers = v.keepers;
    made = v.made;
    cut = v.cut;
    journal = v.journal ++ (n, e) ∷ [];
    seats = v.seats;
    told = v.told ++ (n, e) ∷ [];
    refused = v.refused;
    share = v.share;
    pasts = v.pasts;
  }

  -- a call more that was refused
  abbrev pub with_refused : E → TokenHolding E → TokenHolding E
  with_refused e v = record {
    keepers = v.keepers;
    made = v.made;
    cut = v.cut;
    journal = v.journal;
    seats = v.seats;
    told = v.told;
    refused = v.refused ++ e ∷ [];
    share = v.share;
    pasts = v.pasts;
  }

  -- a seat more
  abbrev pub with_seat : TokenHolding E → TokenHolding E
  with_seat v = record {
    keepers = v.keepers;
    made = v.made + 1;
    cut = v.cut;
    journal = v.journal;
    seats = v.seats + 1;
    told = v.told;
    refused = v.refused;
    share = v.share;
    pasts = v.pasts;
  }

  -- rule: cuts
  -- the journal is cut, and shared, with what was cut before
  abbrev pub after_cut : TokenHolding E → TokenHolding E
  after_cut v = record {
    keepers = v.keepers;
    made = v.made;
    cut = v.cut ++ v.journal;
    journal = [];
    seats = v.seats;
    told = v.told;
    refused = v.refused;
    share = v.share ++ v.journal;
    pasts = v.pasts ++ v.cut ∷ [];
  }

  -- with these seats put into it, each of which was told these entries, and refused these
  abbrev pub with_seats : {X : Type 0} → (X → List (ℕ × E)) → (X → List E) → TokenHolding E → List X → TokenHolding E
  with_seats told_of refused_of v xs = record {
    keepers = v.keepers;
    made = v.made;
    cut = v.cut;
    journal = v.journal;
    seats = v.seats + length xs;
    told = v.told ++ flat_map told_of xs;
    refused = v.refused ++ flat_map refused_of xs;
    share = v.share;
    pasts = v.pasts;
  }

  -- with these shares put into it, before each of which this was cut
  abbrev pub with_shares : {X : Type 0} → (X → List (ℕ × E)) → (X → List (ℕ × E)) → TokenHolding E → List X → TokenHolding E
  with_shares before_of share_of v xs = record {
    keepers = v.keepers;
    made = v.made;
    cut = v.cut;
    journal = v.journal;
    seats = v.seats;
    told = v.told;
    refused = v.refused;
    share = v.share ++ flat_map share_of xs;
    pasts = v.pasts ++ map before_of xs;
  }

  -- it is the keeper, and has no seat and no share
  abbrev pub IsAlone : TokenHolding E → Type 0
  IsAlone v = v ≡ keeper v.made v.cut v.journal

  -- it is the keeper of a journal with these records and of so many seats, none of which it has itself:
  -- the entries that were cut are numbered from 1, and the records on from there
  pub record IsKeeperOf (journal : List E) (seats : ℕ) (v : TokenHolding E) : Type 0 where
    pub is : v ≡ keeper seats v.cut (numbered (length v.cut + 1) journal)
    pub counted : Counted 1 v.cut

  -- it is the keeper of a journal with these records once seats were put into it, so many as it has now: it has no share, each entry
  -- that the seats were told is recorded, and where the seats are all that were made, what they were told is what was recorded, in
  -- some order
  pub record IsClosed (journal : List E) (complete : Bool) (v : TokenHolding E) : Type 0 where
    pub one : v.keepers ≡ 1
    pub no_share : v.share ≡ []
    pub no_pasts : v.pasts ≡ []
    pub journal_is : v.journal ≡ numbered (length v.cut + 1) journal
    pub counted : Counted 1 v.cut
    pub every : complete ≡ (v.seats == v.made)
    pub stands : All (Contains (recorded v)) v.told
    pub whole : complete ≡ true → IsPermutation v.told (recorded v)
