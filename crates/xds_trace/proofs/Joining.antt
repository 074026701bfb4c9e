-- Lines of records are added one after another; and what comes of it where the records are those of a node.
use Rattle.std.proofs.Common.{◌≡◌, ◌≢◌, ◌<◌, ◌⊎◌, inl, ℕ, ◌+◌, List, [], ◌∷◌, ◌++◌, length, take, drop, get_or, Result, Ok, Err, refl, sym, ap, subst, ◌∙◌, append-nil, append_assoc, arith}
use Rattle.std.specs.Prelude.{All, IfOk, IfErr}
use Rattle.std.proofs.lemmas.List.{take_more, take-append-drop}
use Rattle.std.proofs.lemmas.List.Concat.{flat_map-append}
use Rattle.std.proofs.lemmas.List.Elements.{All-nil, All-append, All-more}
use Rattle.xds_resource.specs.declared.refusal.Refusal.{Refusal}
use Rattle.xds_resource.specs.declared.refusal.Refusal.TheVariants.{OutOfMemory, BadTrace, Gap}
use Rattle.xds_core.specs.Steps.{fresh}
use Rattle.xds_core.specs.Legal.{Record, IsLegal, replayed}
use Rattle.xds_node.specs.Entries.{records_of, Counted}
use Rattle.xds_node.proofs.Numbers.{records_append, records_numbered}
use Rattle.xds_node.specs.Pieces.{Piece, piece_entries, pieces_entries, Story, IsWhole}
use Rattle.xds_node.proofs.Keeping.{legal_append}
use Rattle.xds_check.specs.declared.line.Line.{Line}
use Rattle.xds_check.specs.Rules.{NoneBroken}
use Rattle.xds_trace.specs.Claims.{IsQuiet}
use Rattle.xds_trace.specs.Making.{own_names, lines_of, trace_of}
use Rattle.xds_trace.specs.Telling.{IsTold, IsSoundRecord, BeginsUntold, KeepsTheRules}
use Rattle.xds_trace.proofs.Traced.{all_last, keeps_the_rules}
use Rattle.xds_trace.specs.Joined.{pieces_records, all_records, Joins, TellsJoined}

-- ---- lines of some records, and of others

trace_append : (rs qs : List Record) → trace_of (rs ++ qs) ≡ trace_of rs ++ trace_of qs
trace_append rs qs = flat_map-append (lines_of own_names) rs qs

-- lines of some records, and of others behind them
pub added : (rs qs : List Record) (old between new : List Line) → between ≡ old ++ trace_of rs → new ≡ between ++ trace_of qs → new ≡ old ++ trace_of (rs ++ qs)
added rs qs old between new first then_ = then_ ∙ ap (λ l. l ++ trace_of qs) first ∙ append_assoc old (trace_of rs) (trace_of qs) ∙ ap (λ l. old ++ l) (sym (trace_append rs qs))

-- ---- one record more

module _ (rs : List Record) (i : ℕ) (x y : Record) (below : i < length rs) (is : x ≡ get_or rs i x) (same : y ≡ x) where
  take_one : take (i + 1) rs ≡ take i rs ++ y ∷ []
  take_one = take_more rs i x below ∙ ap (λ r. take i rs ++ r ∷ []) (sym (same ∙ is))

  pub records_more : (before old new : List Line) → old ≡ before ++ trace_of (take i rs) → new ≡ old ++ lines_of own_names y → new ≡ before ++ trace_of (take (i + 1) rs)
  records_more before old new kept joined =
      added (take i rs) (y ∷ []) before old new kept (joined ∙ ap (λ l. old ++ l) (sym (append-nil (lines_of own_names y))))
      ∙ ap (λ l. before ++ trace_of l) (sym take_one)

  pub sound_more : All IsSoundRecord (take i rs) → IsSoundRecord y → All IsSoundRecord (take (i + 1) rs)
  sound_more before now = All-more IsSoundRecord rs i x below before (subst IsSoundRecord (same ∙ is) now)

  pub untold_at : (e : Refusal) → All IsSoundRecord (take i rs) → (e ≢ OutOfMemory → (e ≡ BadTrace) × (IsTold y → ⊥)) → (e ≢ OutOfMemory → IsSoundRecord y) → e ≢ OutOfMemory → (e ≡ BadTrace) × BeginsUntold rs
  untold_at e before told sound other = (
    (told other).0,
    record {
      front = take (i + 1) rs;
      rest = drop (i + 1) rs;
      joined = sym (take-append-drop (i + 1) rs);
      sound = sound_more before (sound other);
      untold = λ all. (told other).1 (all_last IsTold (take i rs) y (subst (All IsTold) take_one all));
    },
  )

-- ---- one segment more

module _ (ps : List Piece) (i : ℕ) (p : Piece) (rs : List Record) (below : i < length ps) (is : p ≡ get_or ps i p) (same : rs ≡ p.records) where
  take_piece : pieces_records (take (i + 1) ps) ≡ pieces_records (take i ps) ++ rs
  take_piece =
      ap pieces_records (take_more ps i p below ∙ ap (λ q. take i ps ++ q ∷ []) (sym is))
      ∙ flat_map-append (λ (q : Piece). q.records) (take i ps) (p ∷ [])
      ∙ ap (λ l. pieces_records (take i ps) ++ l) (append-nil p.records ∙ sym same)

  pub pieces_more : (before old new : List Line) → old ≡ before ++ trace_of (pieces_records (take i ps)) → new ≡ old ++ trace_of rs → new ≡ before ++ trace_of (pieces_records (take (i + 1) ps))
  pieces_more before old new kept joined = added (pieces_records (take i ps)) rs before old new kept joined ∙ ap (λ l. before ++ trace_of l) (sym take_piece)

  pub pieces_sound : All IsSoundRecord (pieces_records (take i ps)) → All IsSoundRecord rs → All IsSoundRecord (pieces_records (take (i + 1) ps))
  pieces_sound before now = subst (All IsSoundRecord) (sym take_piece) (All-append IsSoundRecord (pieces_records (take i ps)) rs before now)

-- ---- the whole

entries_records : (ps : List Piece) → records_of (pieces_entries ps) ≡ pieces_records ps
entries_records [] = refl
entries_records (p ∷ ps) = records_append (piece_entries p) (pieces_entries ps) ∙ (λ i. records_numbered p.first p.records i ++ entries_records ps i)

-- what keeps the rules with lines at its end keeps them without
keeps_plainly : (l : List Record) (trace : List Line) (replica : ℕ) → KeepsTheRules l trace → IsLegal (fresh replica) l → NoneBroken trace
keeps_plainly l trace replica keeps legal = subst NoneBroken (append-nil trace) (keeps replica [] legal (All-nil (IsQuiet (replayed (fresh replica) l))))

-- of segments and a history, whose records are these
module _ (ps : List Piece) (s : Story) (rs : List Record) (whole : IsWhole s) (same : rs ≡ s.records) where
  -- rule: cuts
  -- segments that are all that was cut join it
  pub joins_all : pieces_entries ps ≡ s.before → Joins ps s
  joins_all all = (subst (Counted 1) (sym all) whole.counted, ap length all)

  -- and then it is one list of steps from a replica at which nothing happened
  legal_all : pieces_entries ps ≡ s.before → IsLegal (fresh s.base.replica) (pieces_records ps ++ rs)
  legal_all all =
      let before : records_of s.before ≡ pieces_records ps = ap records_of (sym all) ∙ entries_records ps in
      let later = subst (IsLegal (replayed (fresh s.base.replica) (records_of s.before))) (sym same) (subst (λ c. IsLegal c s.records) whole.origin whole.legal) in
      subst (λ l. IsLegal (fresh s.base.replica) (l ++ rs)) before (legal_append (fresh s.base.replica) (records_of s.before) rs whole.lawful later)

  pub told_all : (trace : List Line) → trace ≡ trace_of (pieces_records ps ++ rs) → trace ≡ trace_of (all_records ps s)
  told_all trace is = is ∙ ap (λ l. trace_of (pieces_records ps ++ l)) same

  -- whose trace breaks no rule
  pub keeps_all : (trace : List Line) → trace ≡ trace_of (pieces_records ps ++ rs) → All IsSoundRecord (pieces_records ps ++ rs) → pieces_entries ps ≡ s.before → NoneBroken trace
  keeps_all trace is sound all =
      keeps_plainly (pieces_records ps ++ rs) trace s.base.replica (keeps_the_rules (pieces_records ps ++ rs) trace is sound) (legal_all all)

-- where nothing was cut, segments that join are all that was
pub none_cut : (ps : List Piece) (s : Story) → Joins ps s → s.before ≡ [] → pieces_entries ps ≡ s.before
none_cut ps s joins none = no_length (pieces_entries ps) (joins.1 ∙ ap length none) ∙ sym none
  where
    no_length : {X : Type 0} (xs : List X) → length xs ≡ 0 → xs ≡ []
    no_length [] is = refl
    no_length (x ∷ xs) is = absurd (omega arith)

-- ---- what was told before an audit

pub audited_told : (ps qs : List Piece) (s : Story) (r : Result (List Line) Refusal) → ps ≡ qs → TellsJoined ps s r → IfOk r (λ t. t ≡ trace_of (all_records qs s))
audited_told ps qs s (Ok t) same told = told.1 ∙ ap (λ l. trace_of (all_records l s)) same
audited_told ps qs s (Err e) same told = tt

pub audited_keeps : (ps qs : List Piece) (s : Story) (r : Result (List Line) Refusal) → ps ≡ qs → IfOk r (λ t. pieces_entries ps ≡ s.before → NoneBroken t) → pieces_entries qs ≡ s.before → IfOk r (λ t. (pieces_entries qs ≡ s.before) × NoneBroken t)
audited_keeps ps qs s (Ok t) same keeps all = (all, keeps (ap pieces_entries same ∙ all))
audited_keeps ps qs s (Err e) same keeps all = tt

pub audited_refused : (ps qs : List Piece) (s : Story) (r : Result (List Line) Refusal) → ps ≡ qs → (pieces_entries ps ≡ s.before → IfErr r (λ e. e ≡ OutOfMemory)) → pieces_entries qs ≡ s.before
    → IfErr r (λ e. (e ≡ OutOfMemory) ⊎ ((e ≡ Gap) × (pieces_entries qs ≢ s.before)))
audited_refused ps qs s (Ok t) same short all = tt
audited_refused ps qs s (Err e) same short all = inl (short (ap pieces_entries same ∙ all))
