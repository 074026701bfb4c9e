-- The names of live writes as a name comes and goes, and what a whole response has by them.
use Rattle.std.proofs.Common.{◌≡◌, ℕ, List, [], ◌∷◌, ◌++◌, length, map, Bool, true, false, cond, not, ◌&&◌, ◌||◌, Option, Some, None, refl, sym, ap, subst, ◌∙◌, arith, eqb-true}
use Rattle.std.proofs.lemmas.List.{nil_from_length}
use Rattle.std.proofs.Math.Bool.{or-true}
use Rattle.std.proofs.lemmas.Bool.{and_right, and_from, and_left}
use Rattle.std.specs.Prelude.{is_some, bytes_eq, ◌==◌, if◌then◌else◌, IfSome}
use Rattle.std.specs.List.{list_all}
use Rattle.std.specs.Option.{option_map, option_map_or, option_and_then, unwrap_or}
use Rattle.std.specs.FinMap as finmap
use Rattle.std.specs.FinSet as set
use Rattle.xds_resource.specs.Best.{best, greater}
use Rattle.xds_resource.specs.Groups.{has_group}
use Rattle.xds_resource.specs.Writes.{StampedWrite, text_cmp}
use Rattle.xds_resource.proofs.BestWrites.{greater-comm, best_of_both}
use Rattle.xds_resource.proofs.NameMaps.{bytes_eq_same, bytes_eq_tells, bytes_eq_swap, get-insert, get-remove, has_text-keys, has_text-items, same_names}
use Rattle.xds_resource.proofs.BoolsAndLists.{true_together}
use Rattle.xds_interest.specs.Interests.{Selection, covers, is_open_to, has_name}
use Rattle.xds_interest.proofs.Choices.{and_first, and_second}
use Rattle.xds_interest.proofs.Texts.{contains-from_texts}
use Rattle.xds_catalogue.specs.Content.{is_live, if_live, live_at, content}
use Rattle.xds_catalogue.specs.Holdings.{Entries, Holdings, IsCatalogue, nothing_held}
use Rattle.xds_catalogue.specs.Joins.{joined}
use Rattle.xds_catalogue.proofs.Catalogues.{get-catalogue_of, best-values}
use Rattle.xds_check.specs.Kept.{Marks, is_shown_in, lacks_one}
use Rattle.xds_check.specs.LiveNames.{LiveNames, ByGroup, AreLive, no_names, in_group, stands, lives_for_everyone, lives_for, with_name, with_name_in, with_name_in_each, with_name_of, are_among, has_starred, has_if_live, has_explicit, has_shown}
use Rattle.xds_check.proofs.Deciding.{never, live_some, shown_parts, lacks_tells, lacks_none}

-- ---- lists of names

passes_case : (f : List ℕ → Bool) (x q : List ℕ) (xs : List (List ℕ)) (b : Bool) → bytes_eq q x ≡ b → list_all f (x ∷ xs) ≡ true → (b || has_name xs q) ≡ true → (has_name xs q ≡ true → f q ≡ true) → f q ≡ true
passes_case f x q xs true same all is later = ap f (bytes_eq_tells q x same) ∙ and_first (f x) (list_all f xs) all
passes_case f x q xs false same all is later = later is

-- a name of the list passes a test that all pass
pub each_passes : (f : List ℕ → Bool) (xs : List (List ℕ)) (q : List ℕ) → list_all f xs ≡ true → has_name xs q ≡ true → f q ≡ true
each_passes f [] q all is = never (sym is)
each_passes f (x ∷ xs) q all is = passes_case f x q xs (bytes_eq q x) refl all is (each_passes f xs q (and_second (f x) (list_all f xs) all))

lacks_case : (f : List ℕ → Bool) (x : List ℕ) (xs : List (List ℕ)) (b : Bool) → f x ≡ b → (b && list_all f xs) ≡ false → (list_all f xs ≡ false → (q : List ℕ) × (has_name xs q ≡ true) × (f q ≡ false))
    → (q : List ℕ) × (has_name (x ∷ xs) q ≡ true) × (f q ≡ false)
lacks_case f x xs true here none later = let one = later none in (one.0, ap (λ b. bytes_eq one.0 x || b) one.1 ∙ or-true (bytes_eq one.0 x), one.2)
lacks_case f x xs false here none later = (x, ap (λ b. b || has_name xs x) (bytes_eq_same x), here)

-- and where not all pass, one of the list doesn't
pub one_lacks : (f : List ℕ → Bool) (xs : List (List ℕ)) → list_all f xs ≡ false → (q : List ℕ) × (has_name xs q ≡ true) × (f q ≡ false)
one_lacks f [] none = never none
one_lacks f (x ∷ xs) none = lacks_case f x xs (f x) refl none (one_lacks f xs)

all_case : (f : List ℕ → Bool) (xs ys : List (List ℕ)) (b : Bool) → list_all f ys ≡ b → ((q : List ℕ) → has_name xs q ≡ has_name ys q) → list_all f xs ≡ true → list_all f ys ≡ true
all_case f xs ys true is same all = is
all_case f xs ys false is same all = let one = one_lacks f ys is in never (sym (each_passes f xs one.0 all (same one.0 ∙ one.1)) ∙ one.2)

-- lists of the same names pass the same tests
pub same_all : (f : List ℕ → Bool) (xs ys : List (List ℕ)) → ((q : List ℕ) → has_name xs q ≡ has_name ys q) → list_all f xs ≡ list_all f ys
same_all f xs ys same = true_together _ _ (all_case f xs ys (list_all f ys) refl same) (all_case f ys xs (list_all f xs) refl (λ q. sym (same q)))

-- a set's names, as a list that makes it
pub by_items : (f : List ℕ → Bool) (s : set.FinSet text_cmp) (ns : List (List ℕ)) → set.from_list ns ≡ s → list_all f (set.items s) ≡ list_all f ns
by_items f s ns is = same_all f (set.items s) ns (λ q. has_text-items s q ∙ ap (λ x. set.contains x q) (sym is) ∙ contains-from_texts ns q)

pub empty_among : (others : Marks) → are_among finmap.empty others ≡ true
empty_among others = ap (λ (es : List (List ℕ × Bool)). list_all (stands others) (map (λ e. e.0) es)) (nil_from_length (finmap.entries finmap.empty) (sym (finmap.len-entries finmap.empty) ∙ finmap.len-empty text_cmp Bool))

-- ---- a name that is put in or taken out

known : (e : Bool) (o : Option Bool) → is_some (cond e (Some true) o) ≡ cond e true (is_some o)
known true o = refl
known false o = refl

gone : (e : Bool) (o : Option Bool) → is_some (cond e None o) ≡ cond e false (is_some o)
gone true o = refl
gone false o = refl

stands-with_name : (lives : Bool) (n : List ℕ) (m : Marks) (q : List ℕ) → stands (with_name lives n m) q ≡ cond (bytes_eq n q) lives (stands m q)
stands-with_name true n m q = ap is_some (get-insert m n true q) ∙ known (bytes_eq n q) (finmap.get m q)
stands-with_name false n m q = ap is_some (get-remove m n q) ∙ gone (bytes_eq n q) (finmap.get m q)

-- a group's names changed, and the others left
abbrev put_in : ByGroup → List ℕ → Marks → ByGroup
put_in by g names = finmap.insert (finmap.remove by g) g names

put_case : (by : ByGroup) (g : List ℕ) (names : Marks) (h : List ℕ) (e : Bool) → bytes_eq g h ≡ e → in_group (put_in by g names) h ≡ cond e names (in_group by h)
put_case by g names h true same = ap (λ (o : Option Marks). unwrap_or o finmap.empty) (get-insert (finmap.remove by g) g names h ∙ ap (λ b. cond b (Some names) (finmap.get (finmap.remove by g) h)) same)
put_case by g names h false same =
    ap (λ (o : Option Marks). unwrap_or o finmap.empty)
    (get-insert (finmap.remove by g) g names h ∙ ap (λ b. cond b (Some names) (finmap.get (finmap.remove by g) h)) same ∙ get-remove by g h ∙ ap (λ b. cond b None (finmap.get by h)) same)

in_case : (lives : Bool) (n : List ℕ) (by : ByGroup) (g h q : List ℕ) (e : Bool) → bytes_eq g h ≡ e → stands (in_group (with_name_in lives n by g) h) q ≡ cond (e && bytes_eq n q) lives (stands (in_group by h) q)
in_case lives n by g h q true same =
    ap (λ (m : Marks). stands m q) (put_case by g (with_name lives n (in_group by g)) h true same) ∙ stands-with_name lives n (in_group by g) q
    ∙ ap (λ k. cond (bytes_eq n q) lives (stands (in_group by k) q)) (bytes_eq_tells g h same)
in_case lives n by g h q false same = ap (λ (m : Marks). stands m q) (put_case by g (with_name lives n (in_group by g)) h false same)

twice_cond : (it lives s : Bool) → cond it lives (cond it lives s) ≡ cond it lives s
twice_cond true lives s = refl
twice_cond false lives s = refl

each_step : (later here it lives s : Bool) → cond (later && it) lives (cond (here && it) lives s) ≡ cond ((here || later) && it) lives s
each_step true true it lives s = twice_cond it lives s
each_step true false it lives s = refl
each_step false true it lives s = refl
each_step false false it lives s = refl

stands-in_each : (lives : Bool) (n : List ℕ) (by : ByGroup) (gs : List (List ℕ)) (h q : List ℕ) → stands (in_group (with_name_in_each lives n by gs) h) q ≡ cond (has_group gs h && bytes_eq n q) lives (stands (in_group by h) q)
stands-in_each lives n by [] h q = refl
stands-in_each lives n by (g ∷ gs) h q =
    stands-in_each lives n (with_name_in lives n by g) gs h q
    ∙ ap (λ s. cond (has_group gs h && bytes_eq n q) lives s) (in_case lives n by g h q (bytes_eq g h) refl)
    ∙ each_step (has_group gs h) (bytes_eq g h) (bytes_eq n q) lives (stands (in_group by h) q)
    ∙ ap (λ b. cond ((b || has_group gs h) && bytes_eq n q) lives (stands (in_group by h) q)) (bytes_eq_swap g h)

-- ---- one name changes

no_group : (gs : List (List ℕ)) (h : List ℕ) → (length gs == 0) ≡ true → has_group gs h ≡ false
no_group [] h is = refl
no_group (g ∷ gs) h is = absurd (omega (arith, eqb-true (length (g ∷ gs)) 0 is))

-- Between two catalogues what stands under one name changes: by these groups it lives or doesn't, and by others it is as it was.
record Moves (m0 m1 : Entries) (n : List ℕ) (gs : List (List ℕ)) (lives : Bool) : Type 0 where
  named : IsCatalogue m1
  elsewhere : (q : List ℕ) → bytes_eq n q ≡ false → finmap.get m1 q ≡ finmap.get m0 q
  everyone_in : (length gs == 0) ≡ true → lives_for_everyone m1 n ≡ lives
  everyone_out : (length gs == 0) ≡ false → lives_for_everyone m1 n ≡ lives_for_everyone m0 n
  group_in : (h : List ℕ) → has_group gs h ≡ true → lives_for m1 h n ≡ lives
  group_out : (h : List ℕ) → has_group gs h ≡ false → lives_for m1 h n ≡ lives_for m0 h n

module _ (m0 m1 : Entries) (n : List ℕ) (gs : List (List ℕ)) (lives : Bool) (x : LiveNames) (moves : Moves m0 m1 n gs lives) (live : AreLive m0 x) where
  everyone_elsewhere : (q : List ℕ) → bytes_eq n q ≡ false → lives_for_everyone m1 q ≡ lives_for_everyone m0 q
  everyone_elsewhere q apart = ap (λ (o : Option StampedWrite). option_map_or (λ w. is_live w && (length w.groups == 0)) o false) (moves.elsewhere q apart)

  group_elsewhere : (h q : List ℕ) → bytes_eq n q ≡ false → lives_for m1 h q ≡ lives_for m0 h q
  group_elsewhere h q apart = ap (λ (o : Option StampedWrite). option_map_or (λ w. is_live w && has_group w.groups h) o false) (moves.elsewhere q apart)

  everyone_named : (q : List ℕ) (e : Bool) → bytes_eq n q ≡ e → (length gs == 0) ≡ true → cond e lives (stands x.everyone q) ≡ lives_for_everyone m1 q
  everyone_named q true same is = sym (moves.everyone_in is) ∙ ap (lives_for_everyone m1) (bytes_eq_tells n q same)
  everyone_named q false same is = live.for_everyone q ∙ sym (everyone_elsewhere q same)

  everyone_left : (q : List ℕ) (e : Bool) → bytes_eq n q ≡ e → (length gs == 0) ≡ false → stands x.everyone q ≡ lives_for_everyone m1 q
  everyone_left q true same is =
      live.for_everyone q ∙ sym (ap (lives_for_everyone m0) (bytes_eq_tells n q same)) ∙ sym (moves.everyone_out is) ∙ ap (lives_for_everyone m1) (bytes_eq_tells n q same)
  everyone_left q false same is = live.for_everyone q ∙ sym (everyone_elsewhere q same)

  group_named : (h q : List ℕ) (e : Bool) → bytes_eq n q ≡ e → has_group gs h ≡ true → cond e lives (stands (in_group x.by_group h) q) ≡ lives_for m1 h q
  group_named h q true same is = sym (moves.group_in h is) ∙ ap (lives_for m1 h) (bytes_eq_tells n q same)
  group_named h q false same is = live.for_groups h q ∙ sym (group_elsewhere h q same)

  group_left : (h q : List ℕ) (e : Bool) → bytes_eq n q ≡ e → has_group gs h ≡ false → stands (in_group x.by_group h) q ≡ lives_for m1 h q
  group_left h q true same is =
      live.for_groups h q ∙ sym (ap (lives_for m0 h) (bytes_eq_tells n q same)) ∙ sym (moves.group_out h is) ∙ ap (lives_for m1 h) (bytes_eq_tells n q same)
  group_left h q false same is = live.for_groups h q ∙ sym (group_elsewhere h q same)

  group_case : (h q : List ℕ) (b : Bool) → has_group gs h ≡ b → cond (b && bytes_eq n q) lives (stands (in_group x.by_group h) q) ≡ lives_for m1 h q
  group_case h q true is = group_named h q (bytes_eq n q) refl is
  group_case h q false is = group_left h q (bytes_eq n q) refl is

  with_everyone : (length gs == 0) ≡ true → AreLive m1 (record x { everyone = with_name lives n x.everyone })
  with_everyone is = record {
    named = moves.named;
    for_everyone = λ q. stands-with_name lives n x.everyone q ∙ everyone_named q (bytes_eq n q) refl is;
    for_groups = λ h q. group_left h q (bytes_eq n q) refl (no_group gs h is);
  }

  with_groups : (length gs == 0) ≡ false → AreLive m1 (record x { by_group = with_name_in_each lives n x.by_group gs })
  with_groups is = record {
    named = moves.named;
    for_everyone = λ q. everyone_left q (bytes_eq n q) refl is;
    for_groups = λ h q. stands-in_each lives n x.by_group gs h q ∙ group_case h q (has_group gs h) refl;
  }

  moved_case : (b : Bool) → (length gs == 0) ≡ b → AreLive m1 (if b then record x { everyone = with_name lives n x.everyone } else record x { by_group = with_name_in_each lives n x.by_group gs })
  moved_case true is = with_everyone is
  moved_case false is = with_groups is

  moved : AreLive m1 (with_name_of lives n gs x)
  moved = moved_case (length gs == 0) refl

-- ---- a write's name is taken out

without_elsewhere : (m : Entries) (n q : List ℕ) → bytes_eq n q ≡ false → finmap.get (finmap.remove m n) q ≡ finmap.get m q
without_elsewhere m n q apart = get-remove m n q ∙ ap (λ b. cond b None (finmap.get m q)) apart

without_here : (m : Entries) (n : List ℕ) → finmap.get (finmap.remove m n) n ≡ None
without_here m n = get-remove m n n ∙ ap (λ b. cond b None (finmap.get m n)) (bytes_eq_same n)

named_case : (e : Bool) (o : Option StampedWrite) (q : List ℕ) → IfSome o (λ w. w.name ≡ q) → IfSome (cond e None o) (λ w. w.name ≡ q)
named_case true o q named = tt
named_case false o q named = named

without_named : (m : Entries) (n : List ℕ) → IsCatalogue m → IsCatalogue (finmap.remove m n)
without_named m n named q = subst (λ (o : Option StampedWrite). IfSome o (λ w. w.name ≡ q)) (sym (get-remove m n q)) (named_case (bytes_eq n q) (finmap.get m q) q (named q))

everyone_none : (m : Entries) (n : List ℕ) → finmap.get m n ≡ None → lives_for_everyone m n ≡ false
everyone_none m n none = ap (λ (o : Option StampedWrite). option_map_or (λ w. is_live w && (length w.groups == 0)) o false) none

group_none : (m : Entries) (h n : List ℕ) → finmap.get m n ≡ None → lives_for m h n ≡ false
group_none m h n none = ap (λ (o : Option StampedWrite). option_map_or (λ w. is_live w && has_group w.groups h) o false) none

everyone_some : (m : Entries) (n : List ℕ) (w : StampedWrite) → finmap.get m n ≡ Some w → lives_for_everyone m n ≡ (is_live w && (length w.groups == 0))
everyone_some m n w has = ap (λ (o : Option StampedWrite). option_map_or (λ v. is_live v && (length v.groups == 0)) o false) has

group_some : (m : Entries) (h n : List ℕ) (w : StampedWrite) → finmap.get m n ≡ Some w → lives_for m h n ≡ (is_live w && has_group w.groups h)
group_some m h n w has = ap (λ (o : Option StampedWrite). option_map_or (λ v. is_live v && has_group v.groups h) o false) has

pub taken_out : (m : Entries) (n : List ℕ) (w : StampedWrite) (x y : LiveNames) → finmap.get m n ≡ Some w → y ≡ with_name_of false n w.groups x → AreLive m x → AreLive (finmap.remove m n) y
taken_out m n w x y has is live =
    subst (AreLive (finmap.remove m n)) (sym is) (moved m (finmap.remove m n) n w.groups false x
    (record {
      named = without_named m n live.named;
      elsewhere = without_elsewhere m n;
      everyone_in = λ so. everyone_none (finmap.remove m n) n (without_here m n);
      everyone_out = λ so. everyone_none (finmap.remove m n) n (without_here m n) ∙ sym (everyone_some m n w has ∙ and_right (is_live w) _ so);
      group_in = λ h so. group_none (finmap.remove m n) h n (without_here m n);
      group_out = λ h so. group_none (finmap.remove m n) h n (without_here m n) ∙ sym (group_some m h n w has ∙ and_right (is_live w) _ so);
    })
    live)

absent_case : (m : Entries) (n q : List ℕ) (e : Bool) → bytes_eq n q ≡ e → finmap.get m n ≡ None → cond e None (finmap.get m q) ≡ finmap.get m q
absent_case m n q true same none = sym none ∙ ap (finmap.get m) (bytes_eq_tells n q same)
absent_case m n q false same none = refl

-- where nothing stands under a name
pub without_absent : (m : Entries) (n : List ℕ) → finmap.get m n ≡ None → finmap.remove m n ≡ m
without_absent m n none = same_names (finmap.remove m n) m (λ q. get-remove m n q ∙ absent_case m n q (bytes_eq n q) refl none)

-- ---- and put in

-- rule: tombstones
pub put_back : (m : Entries) (n : List ℕ) (w : StampedWrite) (x y : LiveNames) → IsCatalogue m → finmap.get m n ≡ Some w → is_live w ≡ true → y ≡ with_name_of true n w.groups x → AreLive (finmap.remove m n) x → AreLive m y
put_back m n w x y named has lives is live =
    subst (AreLive m) (sym is) (moved (finmap.remove m n) m n w.groups true x
    (record {
      named = named;
      elsewhere = λ q apart. sym (without_elsewhere m n q apart);
      everyone_in = λ so. everyone_some m n w has ∙ and_from (is_live w) _ lives so;
      everyone_out = λ so. everyone_some m n w has ∙ and_right (is_live w) _ so ∙ sym (everyone_none (finmap.remove m n) n (without_here m n));
      group_in = λ h so. group_some m h n w has ∙ and_from (is_live w) _ lives so;
      group_out = λ h so. group_some m h n w has ∙ and_right (is_live w) _ so ∙ sym (group_none (finmap.remove m n) h n (without_here m n));
    })
    live)

dead_case : (m : Entries) (n q : List ℕ) (w : StampedWrite) (f : StampedWrite → Bool) (e : Bool) → bytes_eq n q ≡ e → finmap.get m n ≡ Some w → f w ≡ false
    → option_map_or f (cond e None (finmap.get m q)) false ≡ option_map_or f (finmap.get m q) false
dead_case m n q w f true same has dead = sym (ap (λ (o : Option StampedWrite). option_map_or f o false) (sym (ap (finmap.get m) (bytes_eq_tells n q same)) ∙ has) ∙ dead)
dead_case m n q w f false same has dead = refl

-- rule: tombstones
-- what is deleted isn't put in
pub left_out : (m : Entries) (n : List ℕ) (w : StampedWrite) (x : LiveNames) → IsCatalogue m → finmap.get m n ≡ Some w → is_live w ≡ false → AreLive (finmap.remove m n) x → AreLive m x
left_out m n w x named has dead live = record {
  named = named;
  for_everyone = λ q.
      live.for_everyone q ∙ ap (λ (o : Option StampedWrite). option_map_or (λ v. is_live v && (length v.groups == 0)) o false) (get-remove m n q)
      ∙ dead_case m n q w (λ v. is_live v && (length v.groups == 0)) (bytes_eq n q) refl has (and_left (is_live w) _ dead);
  for_groups = λ h q.
      live.for_groups h q ∙ ap (λ (o : Option StampedWrite). option_map_or (λ v. is_live v && has_group v.groups h) o false) (get-remove m n q)
      ∙ dead_case m n q w (λ v. is_live v && has_group v.groups h) (bytes_eq n q) refl has (and_left (is_live w) _ dead);
}

-- ---- a write that is joined

best_beside : (m : Entries) (w : StampedWrite) (q : List ℕ) (e : Bool) → bytes_eq w.name q ≡ e → IsCatalogue m → cond e None (best (finmap.values m ++ w ∷ []) q) ≡ cond e None (finmap.get m q)
best_beside m w q true same named = refl
best_beside m w q false same named =
    best_of_both (finmap.values m) (w ∷ []) q ∙ ap (λ (b : Bool). greater (best (finmap.values m) q) (greater (if b then Some w else None) None)) same ∙ greater-comm (best (finmap.values m) q) None ∙ best-values m named q

-- it changes nothing under other names
pub joined_beside : (h : Holdings) (w : StampedWrite) → IsCatalogue h.entries → finmap.remove (joined h (w ∷ [])).entries w.name ≡ finmap.remove h.entries w.name
joined_beside h w named =
    same_names _ _ (λ q. get-remove (joined h (w ∷ [])).entries w.name q ∙ ap (λ o. cond (bytes_eq w.name q) None o) (get-catalogue_of (finmap.values h.entries ++ w ∷ []) q)
    ∙ best_beside h.entries w q (bytes_eq w.name q) refl named ∙ sym (get-remove h.entries w.name q))

-- rule: tombstones
-- before any write no name lives
pub none_live : (h : Holdings) (x : LiveNames) → h ≡ nothing_held → x ≡ no_names → AreLive h.entries x
none_live h x held is =
    let none : (q : List ℕ) → finmap.get h.entries q ≡ None = λ q. ap (λ (g : Holdings). finmap.get g.entries q) held ∙ finmap.get-empty text_cmp q in
    let unmarked : (q : List ℕ) → stands finmap.empty q ≡ false = λ q. ap is_some (finmap.get-empty text_cmp q) in
    record {
      named = λ q. subst (λ (o : Option StampedWrite). IfSome o (λ w. w.name ≡ q)) (sym (none q)) tt;
      for_everyone = λ q. ap (λ (y : LiveNames). stands y.everyone q) is ∙ unmarked q ∙ sym (everyone_none h.entries q (none q));
      for_groups = λ g q.
          ap (λ (y : LiveNames). stands (in_group y.by_group g) q) is ∙ ap (λ (o : Option Marks). stands (unwrap_or o finmap.empty) q) (finmap.get-empty text_cmp g) ∙ unmarked q ∙ sym (group_none h.entries g q (none q));
    }

body_some : {A : Type 0} (f : A → List ℕ) (o : Option A) (b : Option (List ℕ)) → option_map f o ≡ b → is_some b ≡ is_some o
body_some f None b is = ap is_some (sym is)
body_some f (Some x) b is = ap is_some (sym is)

-- whether a write lives, by whether there is no body
pub body_dead : {A : Type 0} (f : A → List ℕ) (o : Option A) (w : StampedWrite) (r : Bool) → option_map f o ≡ w.body → is_some o ≡ not r → r ≡ true → is_live w ≡ false
body_dead f o w r same is so = body_some f o w.body same ∙ is ∙ ap not so

pub body_lives : {A : Type 0} (f : A → List ℕ) (o : Option A) (w : StampedWrite) (r : Bool) → option_map f o ≡ w.body → is_some o ≡ not r → r ≡ false → is_live w ≡ true
body_lives f o w r same is so = body_some f o w.body same ∙ is ∙ ap not so

-- ---- what a whole response has

among_tells : (names others : Marks) → are_among names others ≡ true → (q : List ℕ) → stands names q ≡ true → stands others q ≡ true
among_tells names others all q is = each_passes (stands others) (finmap.keys names) q all (has_text-keys names q ∙ is)

among_lacks : (names others : Marks) → are_among names others ≡ false → (q : List ℕ) × (stands names q ≡ true) × (stands others q ≡ false)
among_lacks names others none = let one = one_lacks (stands others) (finmap.keys names) none in (one.0, sym (has_text-keys names one.0) ∙ one.1, one.2)

module _ (m : Entries) (x : LiveNames) (s : Selection) (stated : Marks) (live : AreLive m x) where
  -- a name that is shown, by its write
  abbrev is_shown_by : List ℕ → StampedWrite → Type 0
  is_shown_by q w = (finmap.get m q ≡ Some w) × (is_live w ≡ true) × (covers s q w.groups ≡ true)

  shown_by_case : (q : List ℕ) (o : Option StampedWrite) → finmap.get m q ≡ o → (is_some (option_and_then if_live o) && option_map_or (λ w. covers s q w.groups) o false) ≡ true → (w : StampedWrite) × is_shown_by q w
  shown_by_case q None has is = never (sym is)
  shown_by_case q (Some w) has is = (w, (has, sym (live_some w (is_live w)) ∙ and_first _ _ is, and_second _ _ is))

  shown_by : (q : List ℕ) → is_shown_in m s q ≡ true → (w : StampedWrite) × is_shown_by q w
  shown_by q is = shown_by_case q (finmap.get m q) refl (sym (shown_parts s q (finmap.get m q)) ∙ is)

  shown_so : (q : List ℕ) (w : StampedWrite) → is_shown_by q w → is_shown_in m s q ≡ true
  shown_so q w by =
      shown_parts s q (finmap.get m q)
      ∙ ap (λ (o : Option StampedWrite). is_some (option_and_then if_live o) && option_map_or (λ v. covers s q v.groups) o false) by.0 ∙ and_from _ _ (live_some w (is_live w) ∙ by.1) by.2

  -- ---- where all is there

  starred_has : (q : List ℕ) (w : StampedWrite) → finmap.get m q ≡ Some w → is_live w ≡ true → (b : Bool) → (length w.groups == 0) ≡ b → (b || has_group w.groups s.cluster) ≡ true → has_starred x s.cluster stated ≡ true → stands stated q ≡ true
  starred_has q w has lives true none clear all =
      among_tells x.everyone stated (and_first _ _ all) q (live.for_everyone q ∙ everyone_some m q w has ∙ and_from (is_live w) _ lives none)
  starred_has q w has lives false some clear all =
      among_tells (in_group x.by_group s.cluster) stated (and_second _ _ all) q (live.for_groups s.cluster q ∙ group_some m s.cluster q w has ∙ and_from (is_live w) _ lives clear)

  or_other : (a b : Bool) → (not a || b) ≡ true → a ≡ true → b ≡ true
  or_other true b is so = is
  or_other false b is so = never (sym so)

  live_there : (q : List ℕ) (w : StampedWrite) → finmap.get m q ≡ Some w → is_live w ≡ true → is_some (live_at m q) ≡ true
  live_there q w has lives = ap (λ (o : Option StampedWrite). is_some (option_and_then if_live o)) has ∙ live_some w (is_live w) ∙ lives

  has_case : (q : List ℕ) (w : StampedWrite) (explicit : Bool) → set.contains s.names q ≡ explicit → finmap.get m q ≡ Some w → is_live w ≡ true → (explicit || (s.star && is_open_to w.groups s.cluster)) ≡ true
      → has_shown m x s stated ≡ true → stands stated q ≡ true
  has_case q w true explicit has lives covered all =
      or_other (is_some (live_at m q)) (stands stated q) (each_passes (has_if_live m stated) (set.items s.names) q (and_first _ _ all) (has_text-items s.names q ∙ explicit)) (live_there q w has lives)
  has_case q w false explicit has lives covered all =
      starred_has q w has lives (length w.groups == 0) refl (and_second s.star _ covered) (or_other s.star _ (and_second _ _ all) (and_first s.star _ covered))

  has_each : has_shown m x s stated ≡ true → (q : List ℕ) → is_shown_in m s q ≡ true → stands stated q ≡ true
  has_each all q is = let w = shown_by q is in has_case q w.0 (set.contains s.names q) refl w.1.0 w.1.1 w.1.2 all

  -- ---- where a name is lacking

  abbrev Lacking : Type 0
  Lacking = (q : List ℕ) × (is_shown_in m s q ≡ true) × (stands stated q ≡ false)

  lives_case : (q : List ℕ) (o : Option StampedWrite) (f : StampedWrite → Bool) → finmap.get m q ≡ o → option_map_or f o false ≡ true → (w : StampedWrite) × (finmap.get m q ≡ Some w) × (f w ≡ true)
  lives_case q None f has is = never (sym is)
  lives_case q (Some w) f has is = (w, has, is)

  -- rule: star-covers, rule: whole-response
  starred_shown : (q : List ℕ) (w : StampedWrite) (f : Bool) → s.star ≡ true → finmap.get m q ≡ Some w → (is_live w && f) ≡ true → (f ≡ true → is_open_to w.groups s.cluster ≡ true) → is_shown_in m s q ≡ true
  starred_shown q w f star has is clear =
      shown_so q w (has, and_first (is_live w) f is, ap (λ b. set.contains s.names q || b) (and_from s.star _ star (clear (and_second (is_live w) f is))) ∙ or-true (set.contains s.names q))

  everyone_lacking : s.star ≡ true → are_among x.everyone stated ≡ false → Lacking
  everyone_lacking star none =
      let one = among_lacks x.everyone stated none in
      let w = lives_case one.0 (finmap.get m one.0) (λ v. is_live v && (length v.groups == 0)) refl (sym (live.for_everyone one.0) ∙ one.1) in
      (one.0, starred_shown one.0 w.0 (length w.0.groups == 0) star w.1 w.2 (λ is. ap (λ b. b || has_group w.0.groups s.cluster) is), one.2)

  group_lacking : s.star ≡ true → are_among (in_group x.by_group s.cluster) stated ≡ false → Lacking
  group_lacking star none =
      let one = among_lacks (in_group x.by_group s.cluster) stated none in
      let w = lives_case one.0 (finmap.get m one.0) (λ v. is_live v && has_group v.groups s.cluster) refl (sym (live.for_groups s.cluster one.0) ∙ one.1) in
      (one.0, starred_shown one.0 w.0 (has_group w.0.groups s.cluster) star w.1 w.2 (λ is. ap (λ b. (length w.0.groups == 0) || b) is ∙ or-true (length w.0.groups == 0)), one.2)

  -- rule: star-covers, rule: whole-response
  starred_lacking : (b : Bool) → are_among x.everyone stated ≡ b → s.star ≡ true → (b && are_among (in_group x.by_group s.cluster) stated) ≡ false → Lacking
  starred_lacking true all star none = group_lacking star none
  starred_lacking false lacks star none = everyone_lacking star lacks

  or_none : (a b : Bool) → (not a || b) ≡ false → (a ≡ true) × (b ≡ false)
  or_none true b is = (refl, is)
  or_none false b is = never is

  live_case : (o : Option StampedWrite) → is_some (option_and_then if_live o) ≡ true → (w : StampedWrite) × (o ≡ Some w) × (is_live w ≡ true)
  live_case None is = never (sym is)
  live_case (Some w) is = (w, refl, sym (live_some w (is_live w)) ∙ is)

  -- rule: whole-response
  explicit_lacking : has_explicit m s stated ≡ false → Lacking
  explicit_lacking none =
      let one = one_lacks (has_if_live m stated) (set.items s.names) none in
      let parts = or_none (is_some (live_at m one.0)) (stands stated one.0) one.2 in
      let w = live_case (finmap.get m one.0) parts.0 in
      (one.0, shown_so one.0 w.0 (w.1, w.2, ap (λ b. b || (s.star && is_open_to w.0.groups s.cluster)) (sym (has_text-items s.names one.0) ∙ one.1)), parts.1)

  lacking_case : (b : Bool) → has_explicit m s stated ≡ b → (b && (not s.star || has_starred x s.cluster stated)) ≡ false → Lacking
  lacking_case true all none = let parts = or_none s.star (has_starred x s.cluster stated) none in starred_lacking (are_among x.everyone stated) refl parts.0 parts.1
  lacking_case false lacks none = explicit_lacking lacks

  one_lacking : has_shown m x s stated ≡ false → Lacking
  one_lacking none = lacking_case (has_explicit m s stated) refl none

  -- ---- together

  module _ (names : List (List ℕ)) (same : (q : List ℕ) → stands stated q ≡ has_name names q) where
    judged_case : (has lacks : Bool) → has_shown m x s stated ≡ has → lacks_one names (content m s) ≡ lacks → not has ≡ lacks
    judged_case true true all lacks = let one = lacks_tells m s names live.named lacks in never (sym (has_each all one.0 one.1) ∙ same one.0 ∙ one.2)
    judged_case true false all lacks = refl
    judged_case false true none lacks = refl
    judged_case false false none lacks = let one = one_lacking none in absurd (lacks_none m s names live.named lacks one.0 one.1 (sym (same one.0) ∙ one.2))

    -- a whole response lacks one of the resources that are shown where its names aren't all of these
    pub judged : not (has_shown m x s stated) ≡ lacks_one names (content m s)
    judged = judged_case (has_shown m x s stated) (lacks_one names (content m s)) refl refl
