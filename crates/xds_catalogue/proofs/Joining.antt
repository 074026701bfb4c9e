-- Writes that are joined one by one, against the same writes at once.
use Rattle.std.proofs.Common.{◌≡◌, ◌≢◌, ℕ, ◌+◌, ◌<◌, ◌≤◌, List, [], ◌∷◌, ◌++◌, Bool, true, false, cond, Result, Ok, Err, refl, sym, ap, ◌∙◌, arith, append_assoc}
use Rattle.std.specs.Prelude.{nat_lt}
use Rattle.std.specs.FinMap as finmap
use Rattle.std.proofs.lemmas.Bool.{ltb-true, lt-ltb, le-ltb}
use Rattle.std.proofs.Math.Nat.{add_assoc}
use Rattle.xds_resource.specs.declared.refusal.Refusal.{Refusal}
use Rattle.xds_resource.specs.declared.refusal.Refusal.TheVariants.{CounterSpent}
use Rattle.xds_resource.specs.Stamps.{max_counter}
use Rattle.xds_resource.specs.Writes.{StampedWrite}
use Rattle.xds_catalogue.specs.Holdings.{Holdings, catalogue_of, IsCatalogue}
use Rattle.xds_catalogue.specs.Changes.{surpasses, changes_after, change_list}
use Rattle.xds_catalogue.specs.Joins.{changes_by, latest_by, joined, joining}
use Rattle.xds_catalogue.proofs.Catalogues.{best-entries_of, catalogue_of-entries}
use Rattle.xds_catalogue.proofs.News.{changes_after-same, changes_after-append}
use Rattle.xds_catalogue.proofs.Lookups.{from_entries-entries}
use Rattle.xds_catalogue.proofs.OneWrite.{changed, joined-news, joined-old, change_list-same, change_list-append}

-- writes that come later change what the earlier ones and they change together
pub changes_by-append : (h : Holdings) (v w : List StampedWrite) → changes_by h (v ++ w) ≡ changes_by h v + changes_by (joined h v) w
changes_by-append h v w =
    changes_after-append (finmap.values h.entries) v w
    ∙ ap (λ n. changes_by h v + n) (sym (changes_after-same (finmap.values (catalogue_of (finmap.values h.entries ++ v))) (finmap.values h.entries ++ v) w (best-entries_of (finmap.values h.entries ++ v))))

latest_again : (h : Holdings) (v w : List StampedWrite) → latest_by (joined h v) w ≡ latest_by h (v ++ w)
latest_again h v w =
    let writes = finmap.values h.entries in
    let here = change_list writes h.changes v in
    let now = h.changes + changes_after writes v in
    from_entries-entries (change_list (finmap.values (catalogue_of (writes ++ v))) now w) (here ++ finmap.entries h.latest)
    ∙ ap (λ l. finmap.from_entries (l ++ (here ++ finmap.entries h.latest))) (change_list-same _ (writes ++ v) now w (best-entries_of (writes ++ v)))
    ∙ ap finmap.from_entries (sym (append_assoc (change_list (writes ++ v) now w) here (finmap.entries h.latest)))
    ∙ ap (λ l. finmap.from_entries (l ++ finmap.entries h.latest)) (sym (change_list-append writes h.changes v w))

pub joined_again : (h : Holdings) (v w : List StampedWrite) → joined (joined h v) w ≡ joined h (v ++ w)
joined_again h v w =
    let at_once = catalogue_of-entries (finmap.values h.entries ++ v) w ∙ ap catalogue_of (append_assoc (finmap.values h.entries) v w) in
    let counts = add_assoc h.changes (changes_by h v) (changes_by (joined h v) w) ∙ ap (λ n. h.changes + n) (sym (changes_by-append h v w)) in
    λ i. record { entries = at_once i; changes = counts i; latest = latest_again h v w i }

-- what a join that was not refused says
abbrev Answer : Type 0
Answer = Result (ℕ × Holdings) Refusal

joined_Ok_at : (r s : ℕ × Holdings) (b : Bool) → cond {A = Answer} b (Err CounterSpent) (Ok r) ≡ Ok s → r.1 ≡ s.1
joined_Ok_at r s true e = absurd cc
joined_Ok_at r s false e = let p : r ≡ s = cc in ap (λ q. q.1) p

pub joined_Ok : (h k : Holdings) (vs : List StampedWrite) (n : ℕ) → joining h vs ≡ Ok (n, k) → joined h vs ≡ k
joined_Ok h k vs n e = joined_Ok_at (changes_by h vs, joined h vs) (n, k) (nat_lt max_counter (joined h vs).changes) e

-- what one that was refused says
spent_at : (h : Holdings) (vs : List StampedWrite) (e : Refusal) (b : Bool) → nat_lt max_counter (joined h vs).changes ≡ b → cond {A = Answer} b (Err CounterSpent) (Ok (changes_by h vs, joined h vs)) ≡ Err e → (max_counter < (joined h vs).changes) × (e ≡ CounterSpent)
spent_at h vs e true is was = (ltb-true max_counter (joined h vs).changes is, cc)
spent_at h vs e false is was = absurd cc

pub spent : (h : Holdings) (vs : List StampedWrite) (e : Refusal) → joining h vs ≡ Err e → (max_counter < (joined h vs).changes) × (e ≡ CounterSpent)
spent h vs e was = spent_at h vs e (nat_lt max_counter (joined h vs).changes) refl was

pub joining-fits : (h k : Holdings) (vs : List StampedWrite) (n : ℕ) → changes_by h vs ≡ n → joined h vs ≡ k → k.changes ≤ max_counter → joining h vs ≡ Ok (n, k)
joining-fits h k vs n grown is fits =
    (λ i. cond (nat_lt max_counter (is i).changes) (Err CounterSpent) (Ok (grown i, is i))) ∙ ap (λ b. cond b (Err CounterSpent) (Ok (n, k))) (le-ltb max_counter k.changes fits)

pub joining-spent : (h : Holdings) (vs : List StampedWrite) → max_counter < (joined h vs).changes → joining h vs ≡ Err CounterSpent
joining-spent h vs past = ap (λ b. cond b (Err CounterSpent) (Ok (changes_by h vs, joined h vs))) (lt-ltb max_counter (joined h vs).changes past)

pub below_top : (n top : ℕ) → n ≤ top → n ≢ top → n < top
below_top n top within apart = omega arith

-- one write: it is no news, it is news and can be counted, or it can't
pub joining-old : (h : Holdings) (w : StampedWrite) → IsCatalogue h.entries → h.changes ≤ max_counter → surpasses w (finmap.get h.entries w.name) ≡ false → joining h (w ∷ []) ≡ Ok (0, h)
joining-old h w named short below =
    let is = joined-old h w named below in
    let count = ap (λ k. k.changes) is in
    joining-fits h h (w ∷ []) 0 (omega (arith, count)) is short

pub joining-news : (h : Holdings) (w : StampedWrite) → IsCatalogue h.entries → h.changes < max_counter → surpasses w (finmap.get h.entries w.name) ≡ true → joining h (w ∷ []) ≡ Ok (1, changed h w)
joining-news h w named room above =
    let is = joined-news h w named above in
    let count = ap (λ k. k.changes) is in
    joining-fits h (changed h w) (w ∷ []) 1 (omega (arith, count)) is (omega arith)

pub joining-full : (h : Holdings) (w : StampedWrite) → IsCatalogue h.entries → h.changes ≡ max_counter → surpasses w (finmap.get h.entries w.name) ≡ true → joining h (w ∷ []) ≡ Err CounterSpent
joining-full h w named full above =
    let count = ap (λ k. k.changes) (joined-news h w named above) in
    joining-spent h (w ∷ []) (omega (arith, count))
