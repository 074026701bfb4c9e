-- A batch of writes that is joined one by one.
use Rattle.std.proofs.Common.{zero, suc, ◌≡◌, Option, Some, None, subst, ℕ, ◌+◌, ◌-◌, ◌<◌, ◌≤◌, List, [], ◌∷◌, ◌++◌, length, take, get_or, Bool, true, false, Ok, refl, sym, ap, ◌∙◌, arith}
use Rattle.std.specs.Prelude.{◌&&◌, nat_lt, if◌then◌else◌}
use Rattle.std.specs.Option.{option_map}
use Rattle.std.specs.FinMap as finmap
use Rattle.std.proofs.lemmas.Bool.{lt-ltb, le-ltb, ltb-true, ltb-false}
use Rattle.std.proofs.lemmas.List.{take_more}
use Rattle.xds_resource.specs.Stamps.{max_counter}
use Rattle.xds_resource.specs.Writes.{StampedWrite}
use Rattle.xds_resource.specs.Best.{best}
use Rattle.xds_resource.proofs.BestWrites.{best_of_both}
use Rattle.xds_catalogue.specs.Holdings.{Entries, Holdings, IsCatalogue}
use Rattle.xds_catalogue.specs.Changes.{surpasses, is_news, changes_after}
use Rattle.xds_catalogue.specs.Joins.{changes_by, joined, joining}
use Rattle.xds_catalogue.specs.Tables.{TwoMaps, NumberedWrite, PutAside, IsSoundBut, held_by, without_number, former_number, former_numbers, all_taken_back, with_counts}
use Rattle.xds_catalogue.proofs.Catalogues.{best-values}
use Rattle.xds_catalogue.proofs.News.{changes_after-append, changes_after-le}
use Rattle.xds_catalogue.proofs.OneWrite.{is_news-held, joined-none}
use Rattle.xds_catalogue.proofs.Joining.{joined_again, joining-fits}
use Rattle.xds_catalogue.proofs.Sound.{without_number-sound}
use Rattle.xds_catalogue.proofs.Surpassing.{surpasses-greater}

-- news after what is held and after other writes
pub is_news-both : (m : Entries) (vs : List StampedWrite) (w : StampedWrite) → IsCatalogue m → is_news (finmap.values m ++ vs) w ≡ (surpasses w (finmap.get m w.name) && surpasses w (best vs w.name))
is_news-both m vs w named =
    ap (surpasses w) (best_of_both (finmap.values m) vs w.name) ∙ surpasses-greater w (best (finmap.values m) w.name) (best vs w.name) ∙ ap (λ o. surpasses w o && surpasses w (best vs w.name)) (best-values m named w.name)

counted_more : (b : Bool) (n : ℕ) → n + ((if b then 1 else 0) + 0) ≡ (if b then n + 1 else n)
counted_more true n = omega arith
counted_more false n = omega arith

-- one write more to count
pub changes_after-more : (before ws : List StampedWrite) (i : ℕ) (w : StampedWrite) (b : Bool) → i < length ws → w ≡ get_or ws i w → is_news (before ++ take i ws) w ≡ b
    → changes_after before (take (i + 1) ws) ≡ (if b then changes_after before (take i ws) + 1 else changes_after before (take i ws))
changes_after-more before ws i w b within is news =
    ap (changes_after before) (take_more ws i w within ∙ ap (λ x. take i ws ++ x ∷ []) (sym is)) ∙ changes_after-append before (take i ws) (w ∷ [])
    ∙ counted_more (is_news (before ++ take i ws) w) (changes_after before (take i ws)) ∙ ap (λ b. if b then changes_after before (take i ws) + 1 else changes_after before (take i ws)) news

-- whether the writes can be counted
pub not_spent : (h : Holdings) (ws : List StampedWrite) (room : ℕ) → room ≡ max_counter - h.changes → length ws ≤ room → h.changes ≤ max_counter → nat_lt max_counter (joined h ws).changes ≡ false
not_spent h ws room is short within =
    let few = changes_after-le (finmap.values h.entries) ws in
    le-ltb max_counter (joined h ws).changes (omega arith)

past_at : (top c n room : ℕ) (b : Bool) → room ≡ top - c → c ≤ top → nat_lt room n ≡ b → nat_lt top (c + n) ≡ b
past_at top c n room true is within past = let past = ltb-true room n past in lt-ltb top (c + n) (omega arith)
past_at top c n room false is within not_past = let fits = ltb-false room n not_past in le-ltb top (c + n) (omega arith)

pub spent_where : (h : Holdings) (ws : List StampedWrite) (room : ℕ) (n : ℕ) → room ≡ max_counter - h.changes → h.changes ≤ max_counter → n ≡ changes_by h ws → nat_lt room n ≡ nat_lt max_counter (joined h ws).changes
spent_where h ws room n is within count = ap (nat_lt room) count ∙ sym (past_at max_counter h.changes (changes_by h ws) room _ is within refl)

-- What a loop that joins a batch has done, and what is left to do.
pub record JoinsSoFar (old now : TwoMaps) (aside : List PutAside) (rest all : List StampedWrite) : Type 0 where
  pub sound : IsSoundBut (former_numbers aside) now
  pub back : (changes greatest : ℕ) → with_counts (all_taken_back now aside) changes greatest ≡ with_counts old changes greatest
  pub same : joined (held_by now) rest ≡ joined (held_by old) all
  pub more : old.changes ≤ now.changes

pub joins_start : (t : TwoMaps) (ws : List StampedWrite) → IsSoundBut [] t → JoinsSoFar t t [] ws ws
joins_start t ws sound = record { sound = sound; back = λ changes greatest. refl; same = refl; more = omega arith }

first_counts : (b : Bool) (c n : ℕ) → b ≡ true → c + ((if b then 1 else 0) + n) ≤ max_counter → c < max_counter
first_counts true c n is fits = omega arith
first_counts false c n is fits = absurd cc

-- the next write can be counted, if it is news
pub room_left : (old now : TwoMaps) (aside : List PutAside) (w : StampedWrite) (rest all : List StampedWrite) → JoinsSoFar old now aside (w ∷ rest) all → (joined (held_by old) all).changes ≤ max_counter
    → surpasses w (finmap.get now.named.entries w.name) ≡ true → now.changes < max_counter
room_left old now aside w rest all so_far fits above =
    let total = ap (λ h. h.changes) so_far.same in
    let within : now.changes + changes_after (finmap.values now.named.entries) (w ∷ rest) ≤ max_counter = omega (arith, total, fits) in
    first_counts (is_news (finmap.values now.named.entries) w) now.changes (changes_after (finmap.values now.named.entries ++ w ∷ []) rest) (is_news-held now.named.entries w so_far.sound.named ∙ above) within

pub joins_more : (old now next : TwoMaps) (aside beside : List PutAside) (w : StampedWrite) (rest all : List StampedWrite) → JoinsSoFar old now aside (w ∷ rest) all
    → IsSoundBut (former_numbers beside) next → held_by next ≡ joined (held_by now) (w ∷ [])
    → ((changes greatest : ℕ) → with_counts (all_taken_back next beside) changes greatest ≡ with_counts (all_taken_back now aside) changes greatest) → JoinsSoFar old next beside rest all
joins_more old now next aside beside w rest all so_far sound joins back =
    let count = ap (λ h. h.changes) joins in
    record {
      sound = sound;
      back = λ changes greatest. back changes greatest ∙ so_far.back changes greatest;
      same = ap (λ h. joined h rest) joins ∙ joined_again (held_by now) (w ∷ []) rest ∙ so_far.same;
      more = omega (arith, count, so_far.more);
    }

-- what is held once nothing is left to do
pub joins_done : (old now : TwoMaps) (aside : List PutAside) (all : List StampedWrite) → JoinsSoFar old now aside [] all → held_by now ≡ joined (held_by old) all
joins_done old now aside all so_far = sym (joined-none (held_by now) so_far.sound.named) ∙ so_far.same

-- what a batch answers that is joined whole
pub joins_all : (old now : Holdings) (all : List StampedWrite) → now ≡ joined old all → old.changes ≤ now.changes → now.changes ≤ max_counter → joining old all ≡ Ok (now.changes - old.changes, now)
joins_all old now all is more short =
    let count = ap (λ k. k.changes) is in
    joining-fits old now all (now.changes - old.changes) (omega (arith, count, more)) (sym is) short

-- the tables as they were, once all is taken back
pub all_back : (old now left : TwoMaps) (aside : List PutAside) → ((changes greatest : ℕ) → with_counts (all_taken_back now aside) changes greatest ≡ with_counts old changes greatest)
    → left ≡ all_taken_back now aside → with_counts left old.changes old.greatest ≡ old
all_back old now left aside back is = ap (λ t. with_counts t old.changes old.greatest) is ∙ back old.changes old.greatest

-- the numbers that entries had before are taken out one by one
dropped_at : (f : Option NumberedWrite) (n : ℕ) (rest : List ℕ) (t : TwoMaps) → option_map (λ e. e.change) f ≡ Some n → IsSoundBut (former_number f ++ rest) t → IsSoundBut rest (without_number t n)
dropped_at None n rest t is sound = absurd cc
dropped_at (Some e) n rest t is sound =
    let same : e.change ≡ n = cc in
    subst (λ k. IsSoundBut rest (without_number t k)) same (without_number-sound e.change rest t sound)

pub dropped : (t next : TwoMaps) (d : PutAside) (rest : List PutAside) (n : ℕ) → option_map (λ e. e.change) d.former ≡ Some n → IsSoundBut (former_numbers (d ∷ rest)) t → next ≡ without_number t n → IsSoundBut (former_numbers rest) next
dropped t next d rest n is sound taken = subst (IsSoundBut (former_numbers rest)) (sym taken) (dropped_at d.former n (former_numbers rest) t is sound)

kept_at : (f : Option NumberedWrite) (rest : List ℕ) (t : TwoMaps) → option_map (λ e. e.change) f ≡ None → IsSoundBut (former_number f ++ rest) t → IsSoundBut rest t
kept_at None rest t is sound = sound
kept_at (Some e) rest t is sound = absurd cc

pub kept : (t next : TwoMaps) (d : PutAside) (rest : List PutAside) → option_map (λ e. e.change) d.former ≡ None → IsSoundBut (former_numbers (d ∷ rest)) t → next ≡ t → IsSoundBut (former_numbers rest) next
kept t next d rest is sound same = subst (IsSoundBut (former_numbers rest)) (sym same) (kept_at d.former (former_numbers rest) t is sound)

pub length_take : (n : ℕ) (ws : List StampedWrite) → length (take n ws) ≤ n
length_take zero ws = omega arith
length_take (suc n) [] = omega arith
length_take (suc n) (w ∷ ws) = let rest = length_take n ws in omega arith
