-- What a poll sends breaks no rule, and the stream then agrees with the lines; and where nothing is owed, no name is pending.
use Rattle.std.proofs.Common.{◌≡◌, ◌≢◌, ◌⊎◌, inl, inr, ℕ, ◌+◌, ◌<◌, List, [], ◌∷◌, Bool, true, false, ◌||◌, ◌&&◌, not, Option, Some, None, refl, sym, ap, subst, ◌∙◌, arith}
use Rattle.std.specs.Prelude.{if◌then◌else◌, is_some, bytes_eq, decimal, unwrap_or}
use Rattle.std.specs.Option.{option_or, option_map_or, option_and_then}
use Rattle.std.specs.FinMap as finmap
use Rattle.std.proofs.lemmas.Bool.{or_parts, not-true}
use Rattle.std.proofs.lemmas.Fmt.{decimal_injective}
use Rattle.xds_resource.specs.declared.types.TypeName.{TypeName}
use Rattle.xds_resource.specs.PerType.{PerType, at, with_at}
use Rattle.xds_resource.specs.Types.{is_same_type}
use Rattle.xds_resource.specs.Stamps.{max_counter}
use Rattle.xds_resource.specs.Writes.{StampedWrite, version_of}
use Rattle.xds_resource.proofs.TypesApart.{same_type, is_same_type-same, at-with_at, at-with_at_other}
use Rattle.xds_interest.specs.Interests.{Selection, in_cluster, covers, is_open_to}
use Rattle.xds_interest.proofs.Choices.{and_first, and_second}
use Rattle.xds_catalogue.specs.Holdings.{Entries}
use Rattle.xds_catalogue.specs.Content.{is_live, if_live}
use Rattle.xds_catalogue.proofs.Joining.{below_top}
use Rattle.xds_ledger.specs.declared.variant.VariantName.{VariantName}
use Rattle.xds_ledger.specs.declared.variant.VariantName.TheVariants as variants
use Rattle.xds_ledger.specs.declared.entry.Entry.{Entry}
use Rattle.xds_ledger.specs.declared.entry.Entry.TheVariants.{Told, Unsure}
use Rattle.xds_ledger.specs.Variants.{is_told, is_whole}
use Rattle.xds_ledger.specs.Owed.{Beliefs, present, owed, is_owed, something_owed}
use Rattle.xds_ledger.specs.Offers.{Offer, offer, same_offer}
use Rattle.xds_ledger.proofs.ByName.{nothing_owed}
use Rattle.xds_ledger.proofs.SameOffers.{offers_are_told_apart}
use Rattle.xds_ledger.specs.Ledgers as ledgers
use Rattle.xds_ledger.specs.Ledgers.{is_due, is_refused}
use Rattle.xds_ledger.specs.Sessions as sessions
use Rattle.xds_ledger.specs.Sessions.{Session}
use Rattle.xds_core.specs.Stores.{Store}
use Rattle.xds_core.specs.Streams as streams
use Rattle.xds_core.specs.Streams.{Stream, response_of, owes_of}
use Rattle.xds_check.specs.declared.line.Line.{Line}
use Rattle.xds_check.specs.declared.line.Line.TheVariants as lines
use Rattle.xds_check.specs.declared.rule.Rule.TheVariants.{FreshNonce, BestResources, CoveredResources, WholeResponse, RightRemovals, OneAtATime, NothingRefusedAgain, NothingPending}
use Rattle.xds_check.specs.Answers.{Answer}
use Rattle.xds_check.specs.Lines.{Answers, Nothing, turn, has_asked, sent, taken, is_pending, interest, interest_of, mentions, is_mentioned, speaks_delta, standing, live, is_used, is_waiting, refused_offer, offer_at, tells, Unanswered}
use Rattle.xds_check.specs.Rules.{KeepsRules}
use Rattle.xds_trace.specs.Making.{Naming, answer_of}
use Rattle.xds_trace.proofs.Accounts.{Tells, told_sent, waits_as}
use Rattle.xds_trace.proofs.Pending.{IsUntold}
use Rattle.xds_trace.proofs.Agreeing.{Agrees}
use Rattle.xds_trace.proofs.Writes.{Holds, held_is, held_catalogue}
use Rattle.xds_trace.proofs.StreamLines.{Hears, IsHeard, IsCounted, Follows, AgreesAfter, agrees_after, itself, interest_kept}
use Rattle.xds_trace.proofs.Offering.{present_by}
use Rattle.xds_trace.proofs.Answering.{IsKept, sotw_right, sotw_tells}
use Rattle.xds_trace.proofs.DeltaAnswers.{delta_right, delta_removed, delta_tells}
use Rattle.xds_trace.proofs.Judging.{IsSent, keeps_rules, unless_true}
use Rattle.xds_trace.proofs.StreamPolls.{IsDue, number_text, apart_by, not_empty}

-- ---- what is sent says what its offer says

module _ (named : Naming) (n : ℕ) (ls : List Line) (replica : ℕ) (store : Store) (ss : PerType Session) (t : TypeName) (number : ℕ) (holds : Holds named store ls) where
  abbrev selected : Selection
  selected = (at ss t).asked.interest

  abbrev entries : Entries
  entries = (at store t).entries

  abbrev beliefs : Beliefs
  beliefs = (at ss t).account.beliefs

  kept : IsKept named t entries
  kept = record { catalogue = held_catalogue holds t; called = holds.called t }

  pub is_sent : (v : VariantName) → interest n t ls ≡ selected → IsSent n ls v selected entries beliefs (answer_of named (response_of replica store ss t (offer v t selected entries beliefs) number v))
  is_sent variants.StateOfTheWorld wanted = record {
    variant = refl;
    held = held_is holds t;
    wanted = wanted;
    right = sotw_right named t entries selected beliefs kept;
    removed = λ q is. unless_true false refl is;
    told = λ q said. ap (λ b. b || false) (sotw_tells named t entries selected beliefs kept q said);
  }
  is_sent variants.Delta wanted = record {
    variant = refl;
    held = held_is holds t;
    wanted = wanted;
    right = delta_right named t entries selected beliefs kept;
    removed = delta_removed named t entries selected beliefs kept;
    told = delta_tells named t entries selected beliefs kept;
  }

-- ---- the line of a response

-- the interest that the lines say is the session's
pub wanted_is : (v : VariantName) (n : ℕ) (ls : List Line) (s : Stream) (hears : Hears v n s ls) (t : TypeName) → interest n t ls ≡ (at s.sessions t).asked.interest
wanted_is v n ls s hears t =
    ap (λ o. in_cluster (unwrap_or o []) (interest_of t (taken n t ls) (mentions (taken n t ls)))) hears.spoken ∙ sym (interest_kept v t hears.cluster (at s.sessions t).asked (taken n t ls) (hears.agrees t).asked)

module _ (n : ℕ) (ls : List Line) (s : Stream) (v : VariantName) (a : Answer) (m : Entries) (o : Offer) (hears : Hears v n s ls) (counted : IsCounted n s.count ls)
    (due : IsDue v a.kind (at s.sessions a.kind) m o) (more : s.count ≢ max_counter) (nonce_is : a.nonce ≡ decimal (s.count + 1)) where
  abbrev x : Session
  x = at s.sessions a.kind

  abbrev line : Line
  line = lines.Response n a

  below : s.count < max_counter
  below = below_top s.count max_counter counted.within more

  -- ---- rules

  -- rule: new-nonce
  fresh_nonce : (bytes_eq a.nonce [] || is_used n ls a.nonce) ≡ false
  fresh_nonce =
      (λ i. bytes_eq (nonce_is i) [] || is_used n ls (nonce_is i))
      ∙ (λ i. not_empty (s.count + 1) (omega (arith, below)) i || counted.unused (s.count + 1) (omega arith) (omega (arith, below)) i)

  -- rule: one-unanswered
  free : is_waiting (sent n a.kind ls) ≡ false
  free = waits_as x.account.sent x.account.nonce (sent n a.kind ls) (hears.agrees a.kind).told.waiting ∙ ap is_some due.free

  -- rule: refused-offer
  not_refused : refused_offer (sent n a.kind ls) ≡ Some o → ⊥
  not_refused is =
      unless_true (is_refused x.account o) due.fresh
      (ap (λ r. option_map_or (same_offer o) r false) (sym (hears.agrees a.kind).told.refused ∙ is) ∙ (offers_are_told_apart o o).1 refl)

  pub answer_keeps : IsSent n ls v x.asked.interest m x.account.beliefs a → KeepsRules ls line
  answer_keeps known = keeps_rules n ls v x.asked.interest m x.account.beliefs a known fresh_nonce free (λ is. not_refused (is ∙ ap Some (sym due.offer_is)))

  -- ---- what follows

  sent_told : offer_at ls a ≡ o → Tells (ledgers.send x.account o (s.count + 1)) (record { nonce = a.nonce; offer = offer_at ls a; fate = Unanswered } ∷ sent n a.kind ls)
  sent_told says =
      subst (Tells (ledgers.send x.account o (s.count + 1))) (λ i. record { nonce = (number_text s.count ∙ sym nonce_is) i; offer = sym says i; fate = Unanswered } ∷ sent n a.kind ls)
      (told_sent x.account (sent n a.kind ls) o (s.count + 1) due.free (hears.agrees a.kind).told)

  own_agrees : offer_at ls a ≡ o → ((q : List ℕ) → is_some (finmap.get o q) ≡ true → tells a q ≡ true) → AgreesAfter n line ls v hears.cluster a.kind (sessions.send x o (s.count + 1)) (Answers a)
  own_agrees says told =
      let before = hears.agrees a.kind in record {
        begun = before.begun;
        fresh = λ none. unless_true x.asked.begun (before.begun ∙ none) due.begun;
        asked = before.asked;
        told = sent_told says;
        explicit = λ name is. before.explicit name (and_first (is_pending n a.kind ls name) (not (tells a name)) is);
        waits = λ name is. record {
          untold = (before.waits name (and_first (is_pending n a.kind ls name) (not (tells a name)) is)).untold;
          noted = λ said. unless_true (tells a name) (not-true (tells a name) (and_second (is_pending n a.kind ls name) (not (tells a name)) is)) (told name said);
        };
      }

  turn_is : (t : TypeName) (b : Bool) → is_same_type a.kind t ≡ b → turn n t line ≡ (if b then Answers a else Nothing)
  turn_is t b is = (λ i. if itself n i && is i then Answers a else Nothing)

  type_agrees : offer_at ls a ≡ o → ((q : List ℕ) → is_some (finmap.get o q) ≡ true → tells a q ≡ true) → (t : TypeName) → ((a.kind ≡ t) × (is_same_type a.kind t ≡ true)) ⊎ ((a.kind ≢ t) × (is_same_type a.kind t ≡ false))
      → Agrees v hears.cluster t (at (with_at s.sessions a.kind (sessions.send x o (s.count + 1))) t) (has_asked n t (line ∷ ls)) (sent n t (line ∷ ls)) (taken n t (line ∷ ls)) (is_pending n t (line ∷ ls))
  type_agrees says told t (inl same) =
      subst (λ u. Agrees v hears.cluster u (at (with_at s.sessions a.kind (sessions.send x o (s.count + 1))) u) (has_asked n u (line ∷ ls)) (sent n u (line ∷ ls)) (taken n u (line ∷ ls)) (is_pending n u (line ∷ ls))) same.0
      (subst (λ y. Agrees v hears.cluster a.kind y (has_asked n a.kind (line ∷ ls)) (sent n a.kind (line ∷ ls)) (taken n a.kind (line ∷ ls)) (is_pending n a.kind (line ∷ ls))) (sym (at-with_at s.sessions a.kind (sessions.send x o (s.count + 1))))
      (agrees_after n line ls v hears.cluster a.kind (sessions.send x o (s.count + 1)) (Answers a) (turn_is a.kind true (is_same_type-same a.kind)) (own_agrees says told)))
  type_agrees says told t (inr other) =
      subst (λ y. Agrees v hears.cluster t y (has_asked n t (line ∷ ls)) (sent n t (line ∷ ls)) (taken n t (line ∷ ls)) (is_pending n t (line ∷ ls)))
      (sym (at-with_at_other s.sessions a.kind (sessions.send x o (s.count + 1)) t (λ e. other.0 (sym e))))
      (agrees_after n line ls v hears.cluster t (at s.sessions t) Nothing (turn_is t false other.1) (hears.agrees t))

  -- rule: new-nonce
  counted_sent : IsCounted n (s.count + 1) (line ∷ ls)
  counted_sent = record {
    within = omega (arith, below);
    unused = λ k above within.
        (λ i. (itself n i && bytes_eq (nonce_is i) (decimal k)) || counted.unused k (omega (arith, above)) within i)
        ∙ ap (λ b. b || false) (apart_by (decimal (s.count + 1)) (decimal k) (bytes_eq (decimal (s.count + 1)) (decimal k)) refl
        (λ same. let equal : s.count + 1 ≡ k = decimal_injective (s.count + 1) k (omega (arith, below)) (omega (arith, within)) same in omega (arith, above, equal)));
  }

  heard_option : (p : Option VariantName) (after : Stream) → p ≡ Some v → Hears v n after (line ∷ ls) → IsHeard p n after (line ∷ ls)
  heard_option p after is heard = subst (λ q. IsHeard q n after (line ∷ ls)) (sym is) heard

  pub follows_sent : s.variant ≡ Some v → offer_at ls a ≡ o → ((q : List ℕ) → is_some (finmap.get o q) ≡ true → tells a q ≡ true) → Follows n (streams.sent s a.kind o) (line ∷ ls)
  follows_sent spoken says told = record {
    counted = counted_sent;
    heard = heard_option s.variant (streams.sent s a.kind o) spoken (record {
      cluster = hears.cluster;
      spoken = ap (λ c. option_or c None) hears.spoken;
      agrees = λ t. type_agrees says told t (same_type a.kind t);
    });
  }

-- ---- where nothing is owed

owes_parts : (begun out due : Bool) → begun ≡ true → (begun && (out || due)) ≡ false → due ≡ false
owes_parts true true due is none = absurd cc
owes_parts true false due is none = none
owes_parts false out due is none = absurd cc

-- of a name that waits something is owed that can be told
delta_owed : (t : TypeName) (e : Option Entry) (p : Option (List ℕ)) → IsUntold true e → option_map_or (is_told variants.Delta t) (owed e p) false ≡ true
delta_owed t e None untold = ap (λ o. option_map_or (is_told variants.Delta t) (owed o None) false) untold
delta_owed t e (Some version) untold = ap (λ o. option_map_or (is_told variants.Delta t) (owed o (Some version)) false) untold

sotw_owed : (t : TypeName) (e : Option Entry) (version : List ℕ) → IsUntold false e → option_map_or (is_told variants.StateOfTheWorld t) (owed e (Some version)) false ≡ true
sotw_owed t None version untold = refl
sotw_owed t (Some Unsure) version untold = refl
sotw_owed t (Some (Told told)) version untold = absurd (untold told refl)

if_live_is : (w : StampedWrite) (b : Bool) → is_some (if b then Some w else None) ≡ true → b ≡ true
if_live_is w true is = refl
if_live_is w false is = absurd cc

live_found : (o : Option StampedWrite) → is_some (option_and_then if_live o) ≡ true → (w : StampedWrite) × (o ≡ Some w) × (is_live w ≡ true)
live_found None is = absurd cc
live_found (Some w) is = (w, refl, if_live_is w (is_live w) is)

module _ (named : Naming) (n : ℕ) (ls : List Line) (store : Store) (s : Stream) (t : TypeName) (holds : Holds named store ls) where
  abbrev y : Session
  y = at s.sessions t

  abbrev held : Entries
  held = (at store t).entries

  -- rule: awaited-names
  owed_pending : (v : VariantName) (name : List ℕ) → Hears v n s ls → is_pending n t ls name ≡ true → (speaks_delta n t ls || is_some (live t ls name)) ≡ true → is_owed v t y.asked.interest held y.account.beliefs name ≡ true
  owed_pending variants.Delta name hears waits counts = delta_owed t (finmap.get y.account.beliefs name) (present y.asked.interest held name) ((hears.agrees t).waits name waits).untold
  owed_pending variants.StateOfTheWorld name hears waits counts =
      let mute : speaks_delta n t ls ≡ false = ap is_mentioned (hears.agrees t).asked.1 in
      let alive : is_some (live t ls name) ≡ true = (λ i. sym mute i || is_some (live t ls name)) ∙ counts in
      let there = live_found (standing t ls name) alive in
      let covered : covers y.asked.interest name there.0.groups ≡ true = ap (λ b. b || (y.asked.interest.star && is_open_to there.0.groups y.asked.interest.cluster)) ((hears.agrees t).explicit name waits) in
      let shown : present y.asked.interest held name ≡ Some (version_of there.0) = present_by y.asked.interest held name there.0 (held_is holds t name ∙ there.1) there.2 covered in
      ap (λ p. option_map_or (is_told variants.StateOfTheWorld t) (owed (finmap.get y.account.beliefs name) p) false) shown
      ∙ sotw_owed t (finmap.get y.account.beliefs name) (version_of there.0) ((hears.agrees t).waits name waits).untold

  begun_by : (v : VariantName) (name : List ℕ) → (hears : Hears v n s ls) → is_pending n t ls name ≡ true → (begun : Bool) → y.asked.begun ≡ begun → begun ≡ true
  begun_by v name hears waits true is = refl
  begun_by v name hears waits false is =
      let before = hears.agrees t in unless_true (is_pending n t ls name) ((before.fresh (sym before.begun ∙ is)).1 name) waits

  -- rule: awaited-names
  none_pending : (p : Option VariantName) (name : List ℕ) → s.variant ≡ p → IsHeard p n s ls → option_map_or (λ v. sessions.owes v t y held) p false ≡ false → is_pending n t ls name ≡ true
      → (speaks_delta n t ls || is_some (live t ls name)) ≡ true → ⊥
  none_pending None name is heard none waits counts = unless_true (is_pending n t ls name) (heard.pending t name) waits
  none_pending (Some v) name is heard none waits counts =
      let begun : y.asked.begun ≡ true = begun_by v name heard waits y.asked.begun refl in
      let due : is_due v t y.asked.interest held y.account ≡ false = owes_parts y.asked.begun (is_some y.account.sent) (is_due v t y.asked.interest held y.account) begun none in
      unless_true (is_owed v t y.asked.interest held y.account.beliefs name)
      (nothing_owed v t y.asked.interest held y.account.beliefs name (or_parts (something_owed v t y.asked.interest held y.account.beliefs) (is_whole v t && not y.account.accepted) due).0)
      (owed_pending v name heard waits counts)

  -- rule: awaited-names
  -- that nothing is owed, where it is so, breaks no rule
  pub idle_keeps : Follows n s ls → owes_of store s t ≡ false → KeepsRules ls (lines.Idle n t)
  idle_keeps follows none FreshNonce broken = broken
  idle_keeps follows none BestResources broken = broken
  idle_keeps follows none CoveredResources broken = broken
  idle_keeps follows none WholeResponse broken = broken
  idle_keeps follows none RightRemovals broken = broken
  idle_keeps follows none OneAtATime broken = broken
  idle_keeps follows none NothingRefusedAgain broken = broken
  idle_keeps follows none NothingPending broken = none_pending s.variant broken.name refl follows.heard none broken.pending broken.counts
