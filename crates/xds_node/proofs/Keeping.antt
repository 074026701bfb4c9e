-- What a node keeps under its lock, from call to call.
use Rattle.std.proofs.Common.{◌≡◌, ◌≢◌, ℕ, ◌+◌, List, [], ◌∷◌, ◌++◌, length, Result, refl, sym, ap, subst, ◌∙◌, arith, length-append}
use Rattle.std.specs.Prelude.{All, Contains}
use Rattle.std.proofs.lemmas.List.{length-map}
use Rattle.xds_resource.specs.Stamps.{max_counter}
use Rattle.xds_resource.specs.declared.refusal.Refusal.{Refusal}
use Rattle.xds_core.specs.Events.{Event, Reply}
use Rattle.xds_core.specs.Steps.{Core, fresh, step}
use Rattle.xds_core.specs.Legal.{Record, answer_of, after, replayed, IsLegal}
use Rattle.xds_core.proofs.StepLaws.{number_stays}
use Rattle.xds_node.specs.declared.node.holding.TokenHolding.{TokenHolding}
use Rattle.xds_node.specs.Entries.{numbered, records_of, Counted}
use Rattle.xds_node.specs.Holdings.{keeper, share_holding, recorded, past_of, IsKeeperOf}
use Rattle.xds_node.proofs.Numbers.{records_append, records_numbered, numbered_append, numbered_records}
use Rattle.xds_node.proofs.Steps.{keeper_tell, keeper_share, share_is, recorded_is, cut_many}
use Rattle.xds_node.specs.Books.{Books, most_records, after_cut, all_entries_of, IsKept}
use Rattle.xds_node.specs.Told.{IsStepAt}
use Rattle.xds_node.specs.Pieces.{piece_of, GoesOn, IsPiece}

-- ---- lists of records, joined

pub replayed_append : (c : Core) (rs qs : List Record) → replayed c (rs ++ qs) ≡ replayed (replayed c rs) qs
replayed_append c [] qs = refl
replayed_append c (r ∷ rs) qs = replayed_append (after c r.event) rs qs

pub legal_append : (c : Core) (rs qs : List Record) → IsLegal c rs → IsLegal (replayed c rs) qs → IsLegal c (rs ++ qs)
legal_append c [] qs legal later = later
legal_append c (r ∷ rs) qs legal later = (legal.0, legal_append (after c r.event) rs qs legal.1 later)

-- a replica keeps its number
pub replica_stays : (c : Core) (rs : List Record) → (replayed c rs).replica ≡ c.replica
replica_stays c [] = refl
replica_stays c (r ∷ rs) = replica_stays (after c r.event) rs ∙ number_stays c r.event

-- ---- the books

-- one record more
pub kept_one : (replica : ℕ) (base core core' : Core) (journal journal' : List Record) (cut seats n : ℕ) (e : Event) (r : Record) (v w : TokenHolding Record) → IsKept replica base core journal cut seats v → length journal ≢ most_records → cut + length journal ≢ max_counter → n ≡ cut + length journal + 1 → r ≡ record { event = e; answer = answer_of (step core e) } → core' ≡ after core e → journal' ≡ journal ++ r ∷ [] → w ≡ keeper v.made v.cut (v.journal ++ (n, r) ∷ []) → IsKept replica base core' journal' cut seats w
kept_one replica base core core' journal journal' cut seats n e r v w k room left number is_record next longer is =
    let same_cut : w.cut ≡ v.cut = ap (λ (u : TokenHolding Record). u.cut) is in
    let event : r.event ≡ e = ap (λ (q : Record). q.event) is_record in
    let answer : r.answer ≡ answer_of (step core e) = ap (λ (q : Record). q.answer) is_record in
    let many = k.cut_is in
    let most = k.few in
    let all = k.numbers in
    let length_is = ap length longer ∙ length-append journal (r ∷ []) in
    let legal : answer_of (step (replayed base journal) r.event) ≡ r.answer = (λ i. answer_of (step (sym k.state i) (event i))) ∙ sym answer in
    let state : core' ≡ replayed base (journal ++ r ∷ []) = next ∙ (λ i. after (k.state i) (sym event i)) ∙ sym (replayed_append base journal (r ∷ [])) in
    record {
      own = k.own;
      state = state ∙ ap (replayed base) (sym longer);
      legal = subst (IsLegal base) (sym longer) (legal_append base journal (r ∷ []) k.legal (legal, tt));
      few = omega arith;
      numbers = omega arith;
      few_seats = k.few_seats;
      keeper = subst (λ j. IsKeeperOf j seats w) (sym longer) (keeper_tell journal seats n r v w k.keeper (omega arith) is);
      cut_is = k.cut_is ∙ ap length (sym same_cut);
      origin = k.origin ∙ ap (λ l. replayed (fresh base.replica) (records_of l)) (sym same_cut);
      lawful = subst (λ (l : List (ℕ × Record)). IsLegal (fresh base.replica) (records_of l)) (sym same_cut) k.lawful;
    }

-- the records of all entries that were recorded
all_records : (replica : ℕ) (base core : Core) (journal : List Record) (cut seats : ℕ) (v : TokenHolding Record) → IsKept replica base core journal cut seats v → records_of (recorded v) ≡ records_of v.cut ++ journal
all_records replica base core journal cut seats v k =
    ap records_of (recorded_is journal seats v k.keeper) ∙ records_append v.cut (numbered (length v.cut + 1) journal) ∙ ap (λ l. records_of v.cut ++ l) (records_numbered (length v.cut + 1) journal)

-- all that happened, from a replica of this number at which nothing had: the core is what these records make of it, each answered as it
-- answers there
pub record IsAllThatHappened (replica : ℕ) (core : Core) (past : List Record) : Type 0 where
  pub comes_to : core ≡ replayed (fresh replica) past
  pub lawful : IsLegal (fresh replica) past

pub all_happened : (replica : ℕ) (base core : Core) (journal : List Record) (cut seats : ℕ) (v : TokenHolding Record) → IsKept replica base core journal cut seats v → IsAllThatHappened replica core (records_of v.cut ++ journal)
all_happened replica base core journal cut seats v k =
    let from = fresh base.replica in
    subst (λ n. IsAllThatHappened n core (records_of v.cut ++ journal)) k.own (record {
      comes_to = k.state ∙ ap (λ c. replayed c journal) k.origin ∙ sym (replayed_append from (records_of v.cut) journal);
      lawful = legal_append from (records_of v.cut) journal k.lawful (subst (λ c. IsLegal c journal) k.origin k.legal);
    })

-- its entries are those that were recorded
past_numbered : (replica : ℕ) (base core : Core) (journal : List Record) (cut seats : ℕ) (v : TokenHolding Record) → IsKept replica base core journal cut seats v → numbered 1 (records_of v.cut ++ journal) ≡ recorded v
past_numbered replica base core journal cut seats v k =
    let many : 1 + length (records_of v.cut) ≡ length v.cut + 1 = omega (arith, length-map v.cut (λ e. e.1)) in
    numbered_append 1 (records_of v.cut) journal
    ∙ (λ i. sym (numbered_records 1 v.cut k.keeper.counted) i ++ numbered (many i) journal)
    ∙ sym (recorded_is journal seats v k.keeper)

-- what a seat was told stands among all entries
pub stands_now : (replica : ℕ) (base core : Core) (journal : List Record) (cut seats : ℕ) (v : TokenHolding Record) (b : Books) (told : List (ℕ × Record)) → IsKept replica base core journal cut seats v → record { replica = base.replica; before = v.cut; journal = journal; seats = seats } ≡ b → All (Contains (recorded v)) told → All (Contains (all_entries_of b)) told
stands_now replica base core journal cut seats v b told k is stands =
    subst (λ (l : List (ℕ × Record)). All (Contains l) told) (recorded_is journal seats v k.keeper ∙ ap all_entries_of is) stands

-- and what it is told now is the next step
pub step_told : (replica : ℕ) (base core : Core) (journal : List Record) (cut seats n : ℕ) (e : Event) (a : Result Reply Refusal) (r : Record) (v : TokenHolding Record) (old new : List (ℕ × Record)) → IsKept replica base core journal cut seats v → n ≡ cut + length journal + 1 → a ≡ answer_of (step core e) → r ≡ record { event = e; answer = answer_of (step core e) } → All (Contains (recorded v)) old → new ≡ old ++ (n, r) ∷ [] → IsStepAt replica old new e a
step_told replica base core journal cut seats n e a r v old new k number answer is_record stands told =
    let past = records_of v.cut ++ journal in
    let all = all_happened replica base core journal cut seats v k in
    let many : n ≡ length past + 1 = omega (arith, number, k.cut_is, length-append (records_of v.cut) journal, length-map v.cut (λ e. e.1)) in
    let here : r ≡ record { event = e; answer = a } = is_record ∙ (λ i. record { event = e; answer = sym answer i }) in
    record {
      past = past;
      legal = all.lawful;
      stands = subst (λ (l : List (ℕ × Record)). All (Contains l) old) (sym (past_numbered replica base core journal cut seats v k)) stands;
      told = told ∙ (λ i. old ++ (many i, here i) ∷ []);
      answered = answer ∙ ap (λ c. answer_of (step c e)) all.comes_to;
    }

-- rule: cuts
-- a cut
pub kept_cut : (replica : ℕ) (base core base' : Core) (journal journal' : List Record) (cut seats n : ℕ) (v w : TokenHolding Record) → IsKept replica base core journal cut seats v → base' ≡ core → journal' ≡ [] → n ≡ length journal → w ≡ keeper v.made (recorded v) [] → IsKept replica base' core journal' (cut + n) seats w
kept_cut replica base core base' journal journal' cut seats n v w k copy empty many is =
    let same_cut : w.cut ≡ recorded v = ap (λ (u : TokenHolding Record). u.cut) is in
    let number : base'.replica ≡ base.replica = ap (λ (c : Core). c.replica) (copy ∙ k.state) ∙ replica_stays base journal in
    let all : records_of w.cut ≡ records_of v.cut ++ journal = ap records_of same_cut ∙ all_records replica base core journal cut seats v k in
    let start : fresh replica ≡ fresh base'.replica = ap fresh (sym (number ∙ k.own)) in
    let happened = all_happened replica base core journal cut seats v k in
    let were = k.cut_is in
    let most = k.numbers in
    let none : length journal' ≡ 0 = ap length empty in
    record {
      own = number ∙ k.own;
      state = sym copy ∙ ap (replayed base') (sym empty);
      legal = subst (IsLegal base') (sym empty) tt;
      few = omega arith;
      numbers = omega arith;
      few_seats = k.few_seats;
      keeper = subst (λ j. IsKeeperOf j seats w) (sym empty) (keeper_share journal seats v w k.keeper is);
      cut_is = omega (arith, ap length same_cut, cut_many journal seats v k.keeper);
      origin = copy ∙ happened.comes_to ∙ (λ i. replayed (start i) (sym all i));
      lawful = subst (λ c. IsLegal c (records_of w.cut)) start (subst (λ l. IsLegal (fresh replica) l) (sym all) happened.lawful);
    }

-- rule: cuts
-- what is handed out goes on where what was cut before it ends
pub goes_on : (replica : ℕ) (base core base' : Core) (journal : List Record) (cut seats : ℕ) (v : TokenHolding Record) (before : List (ℕ × Record)) → IsKept replica base core journal cut seats v → base' ≡ base → before ≡ v.cut → GoesOn replica base' (cut + 1) before
goes_on replica base core base' journal cut seats v before k old same = record {
  own = ap (λ (c : Core). c.replica) old ∙ k.own;
  counted = subst (Counted 1) (sym same) k.keeper.counted;
  next = omega (arith, ap length same, k.cut_is);
  lawful = subst (λ (l : List (ℕ × Record)). IsLegal (fresh replica) (records_of l)) (sym same) (subst (λ n. IsLegal (fresh n) (records_of v.cut)) k.own k.lawful);
  origin = old ∙ k.origin ∙ (λ i. replayed (fresh (k.own i)) (records_of (sym same i)));
}

-- rule: cuts
pub piece_kept : (replica : ℕ) (base core base' : Core) (journal journal' : List Record) (cut seats : ℕ) (v l : TokenHolding Record) → IsKept replica base core journal cut seats v → base' ≡ base → journal' ≡ journal → l ≡ share_holding v.cut v.journal → IsPiece replica base' (cut + 1) journal' (past_of l) l
piece_kept replica base core base' journal journal' cut seats v l k old same is =
    let past : past_of l ≡ v.cut = ap past_of is in
    let first : length v.cut + 1 ≡ cut + 1 = ap (λ n. n + 1) (sym k.cut_is) in
    record {
      legal = subst (λ c. IsLegal c journal') (sym old) (subst (IsLegal base) (sym same) k.legal);
      goes_on = goes_on replica base core base' journal cut seats v (past_of l) k old past;
      share = share_is journal seats v l k.keeper is ∙ (λ i. share_holding (sym past i) (numbered (first i) (sym same i)));
    }

-- rule: cuts
pub piece_is : (replica : ℕ) (base core base' : Core) (journal journal' : List Record) (cut seats : ℕ) (v l : TokenHolding Record) (b : Books) → IsKept replica base core journal cut seats v → base' ≡ base → journal' ≡ journal → l ≡ share_holding v.cut v.journal → record { replica = base.replica; before = v.cut; journal = journal; seats = seats } ≡ b → record { base = base'; first = cut + 1; records = journal'; before = past_of l } ≡ piece_of b
piece_is replica base core base' journal journal' cut seats v l b k old same is is_books =
    let first : cut + 1 ≡ length v.cut + 1 = ap (λ n. n + 1) k.cut_is in
    let past : past_of l ≡ v.cut = ap past_of is in
    let here : record { base = base'; first = cut + 1; records = journal'; before = past_of l } ≡ piece_of (record { replica = base.replica; before = v.cut; journal = journal; seats = seats }) = (λ i. record { base = (old ∙ k.origin) i; first = first i; records = same i; before = past i }) in
    here ∙ ap piece_of is_books

-- and what is left
pub left_is : (replica : ℕ) (base core base' : Core) (journal journal' : List Record) (cut seats : ℕ) (v w : TokenHolding Record) (b : Books) → IsKept replica base core journal cut seats v → base' ≡ core → journal' ≡ [] → w ≡ keeper v.made (recorded v) [] → record { replica = base.replica; before = v.cut; journal = journal; seats = seats } ≡ b → record { replica = base'.replica; before = w.cut; journal = journal'; seats = seats } ≡ after_cut b
left_is replica base core base' journal journal' cut seats v w b k copy empty is is_books =
    let number : base'.replica ≡ base.replica = ap (λ (c : Core). c.replica) (copy ∙ k.state) ∙ replica_stays base journal in
    let before : w.cut ≡ v.cut ++ numbered (length v.cut + 1) journal = ap (λ (u : TokenHolding Record). u.cut) is ∙ recorded_is journal seats v k.keeper in
    let here : record { replica = base'.replica; before = w.cut; journal = journal'; seats = seats } ≡ after_cut (record { replica = base.replica; before = v.cut; journal = journal; seats = seats }) = (λ i. record { replica = number i; before = before i; journal = empty i; seats = seats }) in
    here ∙ ap after_cut is_books
