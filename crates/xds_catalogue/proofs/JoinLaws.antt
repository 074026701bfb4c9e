-- The laws of joins, name by name.
use Rattle.std.proofs.Common.{◌≡◌, ◌≢◌, ◌⊎◌, inl, inr, ℕ, ◌+◌, ◌<◌, max, zero, suc, List, [], ◌∷◌, ◌++◌, map, length, get_or, Bool, false, Option, Some, None, refl, sym, ap, subst, ◌∙◌, arith}
use Rattle.std.specs.Prelude.{Contains, IfSome, IsSomeAnd, MatchOption, if◌then◌else◌}
use Rattle.std.specs.List.{fold}
use Rattle.std.specs.declared.cmp.Ordering.TheVariants.{Greater}
use Rattle.std.specs.Ordering.{is_gt}
use Rattle.std.specs.FinMap as finmap
use Rattle.std.proofs.lemmas.Bool.{cases_lt}
use Rattle.xds_resource.specs.Writes.{StampedWrite, write_cmp}
use Rattle.xds_resource.specs.WriteOrder.{write_cmp_total}
use Rattle.xds_resource.specs.Best.{greater, best, IsGreatest}
use Rattle.xds_resource.proofs.BestWrites.{greater-assoc, greater-comm, greater-idem, best_of_both, best_of_same_writes, best_is_greatest, left_below_max, max_below, not_Greater, not_gt}
use Rattle.xds_resource.proofs.WriteTies.{write_cmp-same}
use Rattle.xds_catalogue.specs.Holdings.{Entries, IsCatalogue}
use Rattle.xds_catalogue.specs.Changes.{surpasses, is_news, changes_after}
use Rattle.xds_catalogue.specs.Joins.{join}
use Rattle.xds_catalogue.specs.Laws.{IsMadeOfItsWrites, OrderDoesNotMatter, JoinsTheWrites, JoinCommutes, JoinAssociates, JoinIsIdempotent, JoinIsAbove, JoinIsLeast, RepeatsChangeNothing, NoChangeKeepsAll, NoneAbove, IsReached}
use Rattle.xds_catalogue.proofs.Catalogues.{get-catalogue_of, best-values, best-entries_of, same_entries, same_catalogue}
use Rattle.xds_catalogue.proofs.News.{best-push_old}
use Rattle.xds_catalogue.proofs.Counters.{counter-le}
use Rattle.xds_catalogue.proofs.Numbering.{neither}

pub made_of_its_writes : IsMadeOfItsWrites
made_of_its_writes m named = same_entries _ m (λ q. get-catalogue_of (finmap.values m) q ∙ best-values m named q)

-- rule: greatest-write
pub order_does_not_matter : OrderDoesNotMatter
order_does_not_matter v w same = same_catalogue v w (λ q. best_of_same_writes v w q same)

-- what a join has at a name
pub get-join : (m n : Entries) (q : List ℕ) → finmap.get (join m n) q ≡ greater (best (finmap.values m) q) (best (finmap.values n) q)
get-join m n q = get-catalogue_of (finmap.values m ++ finmap.values n) q ∙ best_of_both (finmap.values m) (finmap.values n) q

best-join : (m n : Entries) (q : List ℕ) → best (finmap.values (join m n)) q ≡ greater (best (finmap.values m) q) (best (finmap.values n) q)
best-join m n q = best-entries_of (finmap.values m ++ finmap.values n) q ∙ best_of_both (finmap.values m) (finmap.values n) q

-- rule: greatest-write
pub joins_the_writes : JoinsTheWrites
joins_the_writes v w = same_catalogue _ _ (λ q. best_of_both _ _ q ∙ (λ i. greater (best-entries_of v q i) (best-entries_of w q i)) ∙ sym (best_of_both v w q))

-- rule: greatest-write
pub join_commutes : JoinCommutes
join_commutes m n = same_entries _ _ (λ q. get-join m n q ∙ greater-comm (best (finmap.values m) q) (best (finmap.values n) q) ∙ sym (get-join n m q))

-- rule: greatest-write
pub join_associates : JoinAssociates
join_associates l m n =
    same_entries _ _ (λ q. get-join l (join m n) q ∙ ap (greater (best (finmap.values l) q)) (best-join m n q)
    ∙ greater-assoc (best (finmap.values l) q) (best (finmap.values m) q) (best (finmap.values n) q)
    ∙ ap (λ o. greater o (best (finmap.values n) q)) (sym (best-join l m q)) ∙ sym (get-join (join l m) n q))

-- rule: greatest-write
pub join_is_idempotent : JoinIsIdempotent
join_is_idempotent m named = same_entries _ _ (λ q. get-join m m q ∙ greater-idem (best (finmap.values m) q) ∙ best-values m named q)

-- b is there and no less, where a is
abbrev AtMost : Option StampedWrite → Option StampedWrite → Type 0
AtMost a b = IfSome a (λ v. IsSomeAnd b (λ w. write_cmp v w ≢ Greater))

left_at_most : (a b : Option StampedWrite) → AtMost a (greater a b)
left_at_most None b = tt
left_at_most (Some v) None = not_Greater (write_cmp v v) (ap is_gt (write_cmp-same v))
left_at_most (Some v) (Some w) = not_Greater _ (left_below_max write_cmp_total v w)

right_at_most : (a b : Option StampedWrite) → AtMost b (greater a b)
right_at_most a b = subst (AtMost b) (greater-comm b a) (left_at_most b a)

least_at_most : (a b c : Option StampedWrite) → AtMost a c → AtMost b c → AtMost (greater a b) c
least_at_most None b c h k = k
least_at_most (Some v) None c h k = h
least_at_most (Some v) (Some w) None h k = absurd h
least_at_most (Some v) (Some w) (Some u) h k = not_Greater _ (max_below write_cmp_total v w u (not_gt _ h) (not_gt _ k))

join_of_entries : (m n : Entries) → IsCatalogue m → IsCatalogue n → (q : List ℕ) → greater (finmap.get m q) (finmap.get n q) ≡ finmap.get (join m n) q
join_of_entries m n named_m named_n q = (λ i. greater (sym (best-values m named_m q) i) (sym (best-values n named_n q) i)) ∙ sym (get-join m n q)

-- rule: greatest-write
pub join_is_above : JoinIsAbove
join_is_above m n named_m named_n = (
  λ q. subst (AtMost (finmap.get m q)) (join_of_entries m n named_m named_n q) (left_at_most (finmap.get m q) (finmap.get n q)),
  λ q. subst (AtMost (finmap.get n q)) (join_of_entries m n named_m named_n q) (right_at_most (finmap.get m q) (finmap.get n q)),
)

-- rule: greatest-write
pub join_is_least : JoinIsLeast
join_is_least l m n named_m named_n above_m above_n = λ q.
    subst (λ o. AtMost o (finmap.get l q)) (join_of_entries m n named_m named_n q) (least_at_most (finmap.get m q) (finmap.get n q) (finmap.get l q) (above_m q) (above_n q))

-- a write that stands in a list is no news after it
no_news_at : (before : List StampedWrite) (w : StampedWrite) (o : Option StampedWrite) → Contains before w → MatchOption o ((v : StampedWrite) → Contains before v → v.name ≢ w.name) (IsGreatest before w.name)
    → surpasses w o ≡ false
no_news_at before w None listed none = absurd (none w listed refl)
no_news_at before w (Some h) listed is = not_gt (write_cmp w h) (is.unsurpassed w listed refl)

none_counted : (b : Bool) (n : ℕ) → b ≡ false → n ≡ 0 → (if b then 1 else 0) + n ≡ 0
none_counted b n e z = λ i. (if e i then 1 else 0) + z i

-- rule: greatest-write
pub repeats_change_nothing : RepeatsChangeNothing
repeats_change_nothing before [] came = refl
repeats_change_nothing before (w ∷ ws) came =
    none_counted (is_news before w) (changes_after (before ++ w ∷ []) ws)
    (no_news_at before w (best before w.name) (came w (0, omega arith, refl)) (best_is_greatest before w.name))
    (repeats_change_nothing (before ++ w ∷ []) ws (λ v h. still before w v (came v (suc h.0, omega (arith, h.1), h.2))))
  where
    still_at : (xs ys : List StampedWrite) (v : StampedWrite) (i : ℕ) → i < length xs → get_or xs i v ≡ v → (i < length (xs ++ ys)) × (get_or (xs ++ ys) i v ≡ v)
    still_at [] ys v i within is = absurd (omega arith)
    still_at (x ∷ xs) ys v zero within is = (omega arith, is)
    still_at (x ∷ xs) ys v (suc i) within is = let rest = still_at xs ys v i (omega arith) is in (omega (arith, rest.0), rest.1)

    still : (xs : List StampedWrite) (w v : StampedWrite) → Contains xs v → Contains (xs ++ w ∷ []) v
    still xs w v (i, within, is) = let at = still_at xs (w ∷ []) v i within is in (i, at.0, at.1)

unchanged_best : (before ws : List StampedWrite) → changes_after before ws ≡ 0 → (q : List ℕ) → best (before ++ ws) q ≡ best before q
unchanged_best before [] none q = ap (λ l. best l q) (nothing_more before)
  where
    nothing_more : (xs : List StampedWrite) → xs ++ [] ≡ xs
    nothing_more [] = refl
    nothing_more (x ∷ xs) = ap (λ l. x ∷ l) (nothing_more xs)
unchanged_best before (w ∷ ws) none q =
    let parts = neither (is_news before w) (changes_after (before ++ w ∷ []) ws) none in
    ap (λ l. best l q) (sym (one_first before w ws)) ∙ unchanged_best (before ++ w ∷ []) ws parts.1 q ∙ best-push_old before w q parts.0
  where
    one_first : (xs : List StampedWrite) (w : StampedWrite) (ws : List StampedWrite) → (xs ++ w ∷ []) ++ ws ≡ xs ++ w ∷ ws
    one_first [] w ws = refl
    one_first (x ∷ xs) w ws = ap (λ l. x ∷ l) (one_first xs w ws)

pub no_change_keeps_all : NoChangeKeepsAll
no_change_keeps_all before ws none = same_catalogue (before ++ ws) before (unchanged_best before ws none)

pub none_above : NoneAbove
none_above m w listed = counter-le (finmap.values m) w listed

-- the greatest so far is the start or one of the counters
reached_from : (n : ℕ) (ws : List StampedWrite) → (fold max n (map (λ w. w.counter) ws) ≡ n) ⊎ ((w : StampedWrite) × Contains ws w × (w.counter ≡ fold max n (map (λ w. w.counter) ws)))
reached_from n [] = inl refl
reached_from n (x ∷ ws) = elim (reached_from (max n x.counter) ws) [
  | inl start ↦ elim (cases_lt n x.counter) [
    | inl less ↦ inr (x, (0, omega arith, refl), omega (arith, start))
    | inr more ↦ inl (omega (arith, start))
  ]
  | inr (w, (i, within, is), top) ↦ inr (w, (suc i, omega arith, is), top)
]

pub is_reached : IsReached
is_reached m = reached_from 0 (finmap.values m)
