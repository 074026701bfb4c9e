-- The steps of tokens that one call of a node is made of, composed.
use Rattle.std.proofs.Common.{◌≡◌, ℕ, ◌+◌, List, [], ◌∷◌, ◌++◌, length, map, nat_eq, sym, ap, subst, ◌∙◌, arith, append_assoc, append-nil, length-append, Bool, true}
use Rattle.std.specs.Prelude.{All, Contains, IsPermutation}
use Rattle.std.specs.List.{flat_map}
use Rattle.std.proofs.lemmas.List.{flat_map_more, map-append}
use Rattle.xds_node.specs.declared.node.holding.TokenHolding.{TokenHolding}
use Rattle.xds_node.specs.Entries.{numbered, Counted, AllBelow, IsBeginning}
use Rattle.xds_node.specs.Holdings.{keeper, seat_holding, share_holding, lent_part, both, with_seats, with_shares, recorded, IsAlone, IsKeeperOf, IsClosed}
use Rattle.xds_node.specs.Tally.{IsPartOf, Known}
use Rattle.std.proofs.lemmas.Bool.{eqb-true}
use Rattle.std.proofs.lemmas.List.Elements.{All-nil, All-cons, All-head, All-tail}
use Rattle.std.proofs.lemmas.List.Sorted.{IsPermutation-sym, IsPermutation-trans, IsPermutation-append_left}
use Rattle.xds_node.proofs.Numbers.{numbered_one, length_numbered, counted_on, counted_below, rising}
use Rattle.xds_node.proofs.Parts.{part_weaker, all_given, whole_given}

all_of_map : {X Y : Type 0} (f : X → Y) (P : Y → Type 0) (xs : List X) → All P (map f xs) → All (λ x. P (f x)) xs
all_of_map f P [] all = All-nil (λ x. P (f x))
all_of_map f P (x ∷ xs) all = All-cons (λ y. P (f y)) x xs (All-head P (f x) (map f xs) all) (all_of_map f P xs (All-tail P (f x) (map f xs) all))

module _ {E : Type 0} where
  -- a holding that is a keeper's, with its own list of what was cut
  keeps_so : (journal : List E) (seats : ℕ) (cut : List (ℕ × E)) (v : TokenHolding E) → v ≡ keeper seats cut (numbered (length cut + 1) journal) → Counted 1 cut → IsKeeperOf journal seats v
  keeps_so journal seats cut v is counted =
      let same : cut ≡ v.cut = sym (ap (λ (u : TokenHolding E). u.cut) is) in
      record {
        is = is ∙ ap (λ c. keeper seats c (numbered (length c + 1) journal)) same;
        counted = subst (Counted 1) same counted;
      }

  -- what a seat was told stands in what the keeper recorded, once the keeper has it
  pub told_stands : (token seat lent joined : TokenHolding E) → IsAlone token → seat ≡ seat_holding seat.told seat.refused → lent ≡ lent_part seat → joined ≡ both token lent → Known joined → All (Contains (recorded token)) seat.told
  told_stands token seat lent joined alone seated lends joins known =
      let one : joined ≡ both (keeper token.made token.cut token.journal) (seat_holding seat.told []) = joins ∙ ap (λ (v : TokenHolding E). both v lent) alone ∙ ap (both (keeper token.made token.cut token.journal)) (lends ∙ ap lent_part seated) in
      let part : IsPartOf seat.told (recorded token) ((0 + 1) ≡ token.made) = subst (λ (v : TokenHolding E). IsPartOf v.told (recorded v) (v.seats ≡ v.made)) one known.told in
      part.stands

  -- the keeper of a journal, through the calls of a node

  pub keeper_begins : (v : TokenHolding E) → v ≡ keeper 0 [] [] → IsKeeperOf [] 0 v
  keeper_begins v is = keeps_so [] 0 [] v is tt

  pub keeper_alone : (journal : List E) (seats : ℕ) (v : TokenHolding E) → IsKeeperOf journal seats v → IsAlone v
  keeper_alone journal seats v k = k.is ∙ sym (λ i. keeper (k.is i).made v.cut (k.is i).journal)

  -- what it recorded is what was cut, and the records of the journal, numbered on
  pub recorded_is : (journal : List E) (seats : ℕ) (v : TokenHolding E) → IsKeeperOf journal seats v → recorded v ≡ v.cut ++ numbered (length v.cut + 1) journal
  recorded_is journal seats v k = ap (λ j. v.cut ++ j) (ap (λ (u : TokenHolding E). u.journal) k.is)

  pub recorded_counted : (journal : List E) (seats : ℕ) (v : TokenHolding E) → IsKeeperOf journal seats v → Counted 1 (recorded v)
  recorded_counted journal seats v k = subst (Counted 1) (sym (recorded_is journal seats v k)) (counted_on v.cut journal k.counted)

  pub keeper_seat : (journal : List E) (seats : ℕ) (v w : TokenHolding E) → IsKeeperOf journal seats v → w ≡ keeper (v.made + 1) v.cut v.journal → IsKeeperOf journal (seats + 1) w
  keeper_seat journal seats v w k is = keeps_so journal (seats + 1) v.cut w (is ∙ λ i. keeper ((k.is i).made + 1) v.cut (k.is i).journal) k.counted

  pub keeper_tell : (journal : List E) (seats n : ℕ) (e : E) (v w : TokenHolding E) → IsKeeperOf journal seats v → n ≡ length v.cut + length journal + 1 → w ≡ keeper v.made v.cut (v.journal ++ (n, e) ∷ []) → IsKeeperOf (journal ++ e ∷ []) seats w
  keeper_tell journal seats n e v w k number is =
      let j = numbered (length v.cut + 1) journal in
      let longer : j ++ (n, e) ∷ [] ≡ numbered (length v.cut + 1) (journal ++ e ∷ []) = ap (λ m. j ++ (m, e) ∷ []) (number ∙ omega arith) ∙ sym (numbered_one (length v.cut + 1) journal e) in
      keeps_so (journal ++ e ∷ []) seats v.cut w (is ∙ (λ i. keeper (k.is i).made v.cut ((k.is i).journal ++ (n, e) ∷ [])) ∙ ap (keeper seats v.cut) longer) k.counted

  pub keeper_share : (journal : List E) (seats : ℕ) (v w : TokenHolding E) → IsKeeperOf journal seats v → w ≡ keeper v.made (recorded v) [] → IsKeeperOf [] seats w
  keeper_share journal seats v w k is = keeps_so [] seats (recorded v) w (is ∙ λ i. keeper (k.is i).made (recorded v) []) (recorded_counted journal seats v k)

  -- how many were cut then
  pub cut_many : (journal : List E) (seats : ℕ) (v : TokenHolding E) → IsKeeperOf journal seats v → length (recorded v) ≡ length v.cut + length journal
  cut_many journal seats v k =
      ap length (recorded_is journal seats v k) ∙ length-append v.cut (numbered (length v.cut + 1) journal) ∙ ap (λ n. length v.cut + n) (length_numbered (length v.cut + 1) journal)

  -- the share of the journal is its records, numbered
  pub share_is : (journal : List E) (seats : ℕ) (v l : TokenHolding E) → IsKeeperOf journal seats v → l ≡ share_holding v.cut v.journal → l ≡ share_holding v.cut (numbered (length v.cut + 1) journal)
  share_is journal seats v l k is = is ∙ ap (λ (u : TokenHolding E). share_holding v.cut u.journal) k.is

  -- what stands among the entries recorded has a number below the next
  pub below_next : (journal : List E) (seats n : ℕ) (v : TokenHolding E) (told : List (ℕ × E)) → IsKeeperOf journal seats v → n ≡ length v.cut + length journal + 1 → All (Contains (recorded v)) told → AllBelow n told
  below_next journal seats n v told k number stands = rising n told (recorded v) (counted_below 1 n (recorded v) (recorded_counted journal seats v k) (omega (arith, cut_many journal seats v k))) stands

  -- seats are put into a token, one after another

  pub no_seats : {X : Type 0} (told_of : X → List (ℕ × E)) (refused_of : X → List E) (v : TokenHolding E) → v ≡ with_seats told_of refused_of v []
  no_seats told_of refused_of v =
      let many : v.seats ≡ v.seats + 0 = omega arith in
      let told : v.told ≡ v.told ++ [] = sym (append-nil v.told) in
      let refused : v.refused ≡ v.refused ++ [] = sym (append-nil v.refused) in
      λ i. record {
        keepers = v.keepers;
        made = v.made;
        cut = v.cut;
        journal = v.journal;
        seats = many i;
        told = told i;
        refused = refused i;
        share = v.share;
        pasts = v.pasts;
      }

  pub gathers_one : {X : Type 0} (told_of : X → List (ℕ × E)) (refused_of : X → List E) (v before lent later : TokenHolding E) (xs : List X) (x : X) → before ≡ with_seats told_of refused_of v xs → lent ≡ seat_holding (told_of x) (refused_of x) → later ≡ both before lent → later ≡ with_seats told_of refused_of v (xs ++ x ∷ [])
  gathers_one told_of refused_of v before lent later xs x was is gives =
      let many : (v.seats + length xs) + 1 ≡ v.seats + length (xs ++ x ∷ []) = omega (arith, length-append xs (x ∷ [])) in
      let told : (v.told ++ flat_map told_of xs) ++ told_of x ≡ v.told ++ flat_map told_of (xs ++ x ∷ []) = flat_map_more told_of v.told xs x in
      let refused : (v.refused ++ flat_map refused_of xs) ++ refused_of x ≡ v.refused ++ flat_map refused_of (xs ++ x ∷ []) = flat_map_more refused_of v.refused xs x in
      let share : v.share ++ [] ≡ v.share = append-nil v.share in
      let pasts : v.pasts ++ [] ≡ v.pasts = append-nil v.pasts in
      let one : both (with_seats told_of refused_of v xs) (seat_holding (told_of x) (refused_of x)) ≡ with_seats told_of refused_of v (xs ++ x ∷ []) = (λ i. record {
        keepers = v.keepers;
        made = v.made;
        cut = v.cut;
        journal = v.journal;
        seats = many i;
        told = told i;
        refused = refused i;
        share = share i;
        pasts = pasts i;
      }) in
      gives ∙ ap (λ (u : TokenHolding E). both u lent) was ∙ ap (both (with_seats told_of refused_of v xs)) is ∙ one

  pub no_shares : {X : Type 0} (before_of share_of : X → List (ℕ × E)) (v : TokenHolding E) → v ≡ with_shares before_of share_of v []
  no_shares before_of share_of v =
      let share : v.share ≡ v.share ++ [] = sym (append-nil v.share) in
      let pasts : v.pasts ≡ v.pasts ++ [] = sym (append-nil v.pasts) in
      λ i. record {
        keepers = v.keepers;
        made = v.made;
        cut = v.cut;
        journal = v.journal;
        seats = v.seats;
        told = v.told;
        refused = v.refused;
        share = share i;
        pasts = pasts i;
      }

  pub shares_one : {X : Type 0} (before_of share_of : X → List (ℕ × E)) (v before lent later : TokenHolding E) (xs : List X) (x : X) → before ≡ with_shares before_of share_of v xs → lent ≡ share_holding (before_of x) (share_of x) → later ≡ both before lent → later ≡ with_shares before_of share_of v (xs ++ x ∷ [])
  shares_one before_of share_of v before lent later xs x was is gives =
      let many : v.seats + 0 ≡ v.seats = omega arith in
      let told : v.told ++ [] ≡ v.told = append-nil v.told in
      let refused : v.refused ++ [] ≡ v.refused = append-nil v.refused in
      let share : (v.share ++ flat_map share_of xs) ++ share_of x ≡ v.share ++ flat_map share_of (xs ++ x ∷ []) = flat_map_more share_of v.share xs x in
      let pasts : (v.pasts ++ map before_of xs) ++ before_of x ∷ [] ≡ v.pasts ++ map before_of (xs ++ x ∷ []) = append_assoc v.pasts (map before_of xs) (before_of x ∷ []) ∙ ap (λ l. v.pasts ++ l) (sym (map-append before_of xs (x ∷ []))) in
      let one : both (with_shares before_of share_of v xs) (share_holding (before_of x) (share_of x)) ≡ with_shares before_of share_of v (xs ++ x ∷ []) = (λ i. record {
        keepers = v.keepers;
        made = v.made;
        cut = v.cut;
        journal = v.journal;
        seats = many i;
        told = told i;
        refused = refused i;
        share = share i;
        pasts = pasts i;
      }) in
      gives ∙ ap (λ (u : TokenHolding E). both u lent) was ∙ ap (both (with_shares before_of share_of v xs)) is ∙ one

  -- what the keeper then knows of what all these seats were told: it is part of what was recorded
  pub all_seats : {X : Type 0} (told_of : X → List (ℕ × E)) (refused_of : X → List E) (journal : List E) (seats : ℕ) (v w : TokenHolding E) (xs : List X) → IsKeeperOf journal seats v → w ≡ with_seats told_of refused_of v xs → Known w → IsPartOf (flat_map told_of xs) (recorded v) (length xs ≡ seats)
  all_seats told_of refused_of journal seats v w xs k is known =
      let all : w ≡ with_seats told_of refused_of (keeper seats v.cut v.journal) xs = is ∙ (λ i. with_seats told_of refused_of (keeper_alone journal seats v k i) xs) ∙ (λ i. with_seats told_of refused_of (keeper (k.is i).made v.cut v.journal) xs) in
      part_weaker (flat_map told_of xs) (recorded v) (0 + length xs ≡ seats) (length xs ≡ seats) (λ same. omega arith)
      (subst (λ (u : TokenHolding E). IsPartOf u.told (recorded u) (u.seats ≡ u.made)) all known.told)

  -- and where it has every seat, it is what was recorded, in some order
  pub ends : {X : Type 0} (told_of : X → List (ℕ × E)) (refused_of : X → List E) (journal : List E) (seats : ℕ) (v w : TokenHolding E) (xs : List X) → IsKeeperOf journal seats v → w ≡ with_seats told_of refused_of v xs → Known w → length xs ≡ seats → IsPermutation (flat_map told_of xs) (recorded v)
  ends told_of refused_of journal seats v w xs k is known every =
      all_given (flat_map told_of xs) (recorded v) 1 (length xs ≡ seats) (recorded_counted journal seats v k) (all_seats told_of refused_of journal seats v w xs k is known) every

  -- what a keeper with no share of its own knows of all these shares: they are part of what was cut
  pub all_shares : {X : Type 0} (before_of share_of : X → List (ℕ × E)) (v w : TokenHolding E) (xs : List X) → v.share ≡ [] → w ≡ with_shares before_of share_of v xs → Known w → IsPartOf (flat_map share_of xs) v.cut (length (flat_map share_of xs) ≡ length v.cut)
  all_shares before_of share_of v w xs own is known =
      let given : w.share ≡ flat_map share_of xs = ap (λ (u : TokenHolding E). u.share) is ∙ ap (λ l. l ++ flat_map share_of xs) own in
      let cut : w.cut ≡ v.cut = ap (λ (u : TokenHolding E). u.cut) is in
      subst (λ (l : List (ℕ × E)). IsPartOf l v.cut (length l ≡ length v.cut)) given (subst (λ (c : List (ℕ × E)). IsPartOf w.share c (length w.share ≡ length c)) cut known.share)

  -- where they have as many entries as were cut, they are what was cut, in some order; and in the order of their numbers they are what was cut
  pub cut_in_some_order : {X : Type 0} (before_of share_of : X → List (ℕ × E)) (v w : TokenHolding E) (xs : List X) → Counted 1 v.cut → v.share ≡ [] → w ≡ with_shares before_of share_of v xs → Known w → length (flat_map share_of xs) ≡ length v.cut → IsPermutation (flat_map share_of xs) v.cut
  cut_in_some_order before_of share_of v w xs counted own is known many =
      all_given (flat_map share_of xs) v.cut 1 (length (flat_map share_of xs) ≡ length v.cut) counted (all_shares before_of share_of v w xs own is known) many

  pub cut_in_order : {X : Type 0} (before_of share_of : X → List (ℕ × E)) (v w : TokenHolding E) (xs : List X) → Counted 1 v.cut → v.share ≡ [] → w ≡ with_shares before_of share_of v xs → Known w → Counted 1 (flat_map share_of xs) → length (flat_map share_of xs) ≡ length v.cut → flat_map share_of xs ≡ v.cut
  cut_in_order before_of share_of v w xs counted own is known order many =
      whole_given (flat_map share_of xs) v.cut 1 (length (flat_map share_of xs) ≡ length v.cut) counted order many (all_shares before_of share_of v w xs own is known)

  -- and what was cut before each of them is what was cut first
  pub all_pasts : {X : Type 0} (before_of share_of : X → List (ℕ × E)) (v w : TokenHolding E) (xs : List X) → v.pasts ≡ [] → w ≡ with_shares before_of share_of v xs → Known w → All (λ x. IsBeginning (before_of x) v.cut) xs
  all_pasts before_of share_of v w xs own is known =
      let given : w.pasts ≡ map before_of xs = ap (λ (u : TokenHolding E). u.pasts) is ∙ ap (λ l. l ++ map before_of xs) own in
      let cut : w.cut ≡ v.cut = ap (λ (u : TokenHolding E). u.cut) is in
      all_of_map before_of (λ past. IsBeginning past v.cut) xs (subst (λ (l : List (List (ℕ × E))). All (λ past. IsBeginning past v.cut) l) given (subst (λ (c : List (ℕ × E)). All (λ past. IsBeginning past c) w.pasts) cut known.pasts))

  -- a node is closed: the seats that are at hand were put into the keeper
  pub keeper_closes : {X : Type 0} (told_of : X → List (ℕ × E)) (refused_of : X → List E) (journal : List E) (seats : ℕ) (complete : Bool) (v w : TokenHolding E) (xs : List X) → IsKeeperOf journal seats v → w ≡ with_seats told_of refused_of v xs → Known w → complete ≡ nat_eq (length xs) seats → IsClosed journal complete w
  keeper_closes told_of refused_of journal seats complete v w xs k is known every =
      let cut : w.cut ≡ v.cut = ap (λ (u : TokenHolding E). u.cut) is in
      let same : recorded w ≡ recorded v = ap recorded is in
      let told : w.told ≡ flat_map told_of xs = ap (λ (u : TokenHolding E). u.told) is ∙ (λ i. (keeper_alone journal seats v k i).told ++ flat_map told_of xs) in
      let sat : w.seats ≡ 0 + length xs = ap (λ (u : TokenHolding E). u.seats) is ∙ ap (λ (u : TokenHolding E). u.seats + length xs) k.is in
      let have : length xs ≡ w.seats = omega arith in
      let made : seats ≡ w.made = sym (ap (λ (u : TokenHolding E). u.made) is ∙ ap (λ (u : TokenHolding E). u.made) k.is) in
      record {
        one = ap (λ (u : TokenHolding E). u.keepers) is ∙ ap (λ (u : TokenHolding E). u.keepers) k.is;
        no_share = ap (λ (u : TokenHolding E). u.share) is ∙ ap (λ (u : TokenHolding E). u.share) k.is;
        no_pasts = ap (λ (u : TokenHolding E). u.pasts) is ∙ ap (λ (u : TokenHolding E). u.pasts) k.is;
        journal_is = ap (λ (u : TokenHolding E). u.journal) is ∙ ap (λ (u : TokenHolding E). u.journal) k.is ∙ ap (λ c. numbered (length c + 1) journal) (sym cut);
        counted = subst (Counted 1) (sym cut) k.counted;
        every = every ∙ (λ i. nat_eq (have i) (made i));
        stands = known.told.stands;
        whole = λ c.
            subst (λ (l : List (ℕ × E)). IsPermutation l (recorded w)) (sym told)
            (subst (λ (l : List (ℕ × E)). IsPermutation (flat_map told_of xs) l) (sym same) (ends told_of refused_of journal seats v w xs k is known (eqb-true (length xs) seats (sym every ∙ c))));
      }

  -- and then shares of as many entries as were cut are put into it: what the seats were told is what the shares and the journal hold, in some order
  pub audited : {X : Type 0} (before_of share_of : X → List (ℕ × E)) (journal : List E) (complete : Bool) (v w : TokenHolding E) (xs : List X) → IsClosed journal complete v → w ≡ with_shares before_of share_of v xs → Known w → complete ≡ true → length (flat_map share_of xs) ≡ length v.cut → IsPermutation v.told (flat_map share_of xs ++ numbered (length v.cut + 1) journal)
  audited before_of share_of journal complete v w xs closed is known c many =
      let all = flat_map share_of xs in
      let shares = cut_in_some_order before_of share_of v w xs closed.counted closed.no_share is known many in
      let parts : IsPermutation (recorded v) (all ++ v.journal) = IsPermutation-append_left v.journal v.cut all (IsPermutation-sym all v.cut shares) in
      subst (λ (j : List (ℕ × E)). IsPermutation v.told (all ++ j)) closed.journal_is (IsPermutation-trans v.told (recorded v) (all ++ v.journal) (closed.whole c) parts)
