-- That all of which a request may change what is owed is listed, and that the list then suffices.
use Rattle.std.proofs.Common.{◌≡◌, inl, inr, ℕ, ◌≤◌, List, [], ◌∷◌, map, Bool, true, false, cond, ◌&&◌, ◌||◌, not, Option, Some, None, refl, sym, ap, subst, ◌∙◌, arith}
use Rattle.std.specs.Prelude.{T, bytes_eq, is_some, if◌then◌else◌, IfSome}
use Rattle.std.specs.Option.{option_map_or}
use Rattle.std.specs.Ordering.{eq_by_cmp}
use Rattle.std.specs.FinMap as finmap
use Rattle.std.specs.FinSet as set
use Rattle.std.proofs.lemmas.Map.Text.{is_eq-slice_cmp}
use Rattle.std.proofs.lemmas.Bool.{or_right}
use Rattle.xds_resource.specs.declared.types.TypeName.{TypeName}
use Rattle.xds_resource.specs.Writes.{text_cmp}
use Rattle.xds_resource.proofs.NameMaps.{has_text, get-insert, bytes_eq_swap, absent_key}
use Rattle.xds_interest.specs.Interests.{Selection, reaches}
use Rattle.xds_interest.specs.Touches.{Touch}
use Rattle.xds_interest.proofs.Texts.{contains-from_texts}
use Rattle.xds_catalogue.specs.Holdings.{Holdings}
use Rattle.xds_ledger.specs.declared.variant.VariantName.{VariantName}
use Rattle.xds_ledger.specs.declared.entry.Entry.{Entry}
use Rattle.xds_ledger.specs.declared.entry.Entry.TheVariants.{Unsure}
use Rattle.xds_ledger.specs.declared.entry.Due.{Due}
use Rattle.xds_ledger.specs.Variants.{is_whole}
use Rattle.xds_ledger.specs.Owed.{Beliefs, is_owed}
use Rattle.xds_ledger.specs.Offers.{Offer, offer, same_offer}
use Rattle.xds_ledger.specs.Listed as lists
use Rattle.xds_ledger.specs.Listed.{Listed, is_listed, with_name, without_mark, without_sending, IsPast, IsWider, KeepsSending}
use Rattle.xds_ledger.proofs.Fitting.{none_at_first, unowed, same_owed}
use Rattle.xds_ledger.proofs.Later.{past_more}
use Rattle.xds_ledger.proofs.BeliefsByName.{accepted_by_name, taken_by_name}
use Rattle.xds_ledger.proofs.Made.{resumed_by_name, resumed_at}
use Rattle.xds_ledger.specs.Ledgers.{Sent, Account, was_touched, believed_accepted, believed_touched, beliefs_taken, is_refused, answers, answered, Names, settled, touch, resume, taken, versions_of}
use Rattle.xds_ledger.specs.Laws.{RequestKeepsFitting}
use Rattle.xds_ledger.specs.Lists.{Books, Fits, FitsNext, IsForetold, Foretells, accepts, StaysPresent, IsPassedOver, ListsRequest, ListsNames, ListsNext, with_names, with_said, with_offer, with_all, with_changes, listed_after}
use Rattle.xds_ledger.proofs.Foretelling.{taken_is_foretold, accepted_books_fit, looked_foretells}
use Rattle.xds_ledger.proofs.Versions.{versions_of_none}
use Rattle.xds_ledger.proofs.Choosing.{first_false, le-itself, le-zero, second_false}

-- ---- what is listed

put_there : (b : Bool) (o : Option ℕ) → is_some (cond b (Some 0) o) ≡ (b || is_some o)
put_there true o = refl
put_there false o = refl

-- with one name more
listed_one : (l : Listed) (n q : List ℕ) → is_listed (with_name l n) q ≡ (bytes_eq q n || is_listed l q)
listed_one l n q = ap is_some (get-insert l.names n 0 q) ∙ put_there (bytes_eq n q) (finmap.get l.names q) ∙ ap (λ b. b || is_listed l q) (bytes_eq_swap n q)

swapped : (a b c : Bool) → (a || (b || c)) ≡ ((b || a) || c)
swapped true true c = refl
swapped true false c = refl
swapped false true c = refl
swapped false false c = refl

pub listed_with : (l : Listed) (ns : List (List ℕ)) (q : List ℕ) → is_listed (with_names l ns) q ≡ (has_text ns q || is_listed l q)
listed_with l [] q = refl
listed_with l (n ∷ ns) q = listed_with (with_name l n) ns q ∙ ap (λ b. has_text ns q || b) (listed_one l n q) ∙ swapped (has_text ns q) (bytes_eq q n) (is_listed l q)

-- a name that is listed by none of them
out_of : (l : Listed) (ns : List (List ℕ)) (q : List ℕ) → is_listed (with_names l ns) q ≡ false → (has_text ns q ≡ false) × (is_listed l q ≡ false)
out_of l ns q out =
    let neither : (has_text ns q || is_listed l q) ≡ false = sym (listed_with l ns q) ∙ out in
    (first_false (has_text ns q) (is_listed l q) neither, second_false (has_text ns q) (is_listed l q) neither)

pub mark_with : (l : Listed) (ns : List (List ℕ)) → (with_names l ns).mark ≡ l.mark
mark_with l [] = refl
mark_with l (n ∷ ns) = mark_with (with_name l n) ns

-- ---- names of which a client says that it holds a version

listed_said : (l : Listed) (ns : List (List ℕ)) (q : List ℕ) → is_listed (with_said l ns) q ≡ (has_text ns q || is_listed l q)
listed_said l [] q = refl
listed_said l (n ∷ ns) q = listed_said (without_sending (with_name l n)) ns q ∙ ap (λ b. has_text ns q || b) (listed_one l n q) ∙ swapped (has_text ns q) (bytes_eq q n) (is_listed l q)

pub out_of_said : (l : Listed) (ns : List (List ℕ)) (q : List ℕ) → is_listed (with_said l ns) q ≡ false → (has_text ns q ≡ false) × (is_listed l q ≡ false)
out_of_said l ns q out =
    let neither : (has_text ns q || is_listed l q) ≡ false = sym (listed_said l ns q) ∙ out in
    (first_false (has_text ns q) (is_listed l q) neither, second_false (has_text ns q) (is_listed l q) neither)

pub mark_said : (l : Listed) (ns : List (List ℕ)) → (with_said l ns).mark ≡ l.mark
mark_said l [] = refl
mark_said l (n ∷ ns) = mark_said (without_sending (with_name l n)) ns

-- ---- the mark of the sending

sending_with : (l : Listed) (ns : List (List ℕ)) → (with_names l ns).sent_mark ≡ l.sent_mark
sending_with l [] = refl
sending_with l (n ∷ ns) = sending_with (with_name l n) ns

-- what is left of a mark of the sending once some names are said
abbrev unless_said : List (List ℕ) → Option ℕ → Option ℕ
unless_said [] o = o
unless_said (n ∷ ns) o = None

none_said : (l : Listed) (ns : List (List ℕ)) → l.sent_mark ≡ None → (with_said l ns).sent_mark ≡ None
none_said l [] is = is
none_said l (n ∷ ns) is = none_said (without_sending (with_name l n)) ns refl

sending_said : (l : Listed) (ns : List (List ℕ)) → (with_said l ns).sent_mark ≡ unless_said ns l.sent_mark
sending_said l [] = refl
sending_said l (n ∷ ns) = none_said (without_sending (with_name l n)) ns refl

sending_offer : (accepting : Bool) (l : Listed) (o : Option Sent) → (if accepting then option_map_or (λ sent. with_names l (finmap.keys sent.offer)) o l else l).sent_mark ≡ l.sent_mark
sending_offer false l o = refl
sending_offer true l None = refl
sending_offer true l (Some sent) = sending_with l (finmap.keys sent.offer)

sending_all : (a : Account) (all : Bool) (mentioned : List (List ℕ)) (l : Listed) → (with_all a all mentioned l).sent_mark ≡ l.sent_mark
sending_all a false mentioned l = refl
sending_all a true mentioned l = sending_with (with_names l (finmap.keys a.beliefs)) mentioned ∙ sending_with l (finmap.keys a.beliefs)

-- a mark that is kept is the one that was, and the list's mark is the same
kept_if : (all : Bool) (said : List (List ℕ)) (l last : Listed) → last.mark ≡ l.mark → last.sent_mark ≡ unless_said said l.sent_mark
    → IfSome (with_changes all last).sent_mark (λ m. (l.sent_mark ≡ Some m) × (l.mark ≤ (with_changes all last).mark))
kept_if true said l last mark is = tt
kept_if false said l last mark is = subst (λ o. IfSome o (λ m. (l.sent_mark ≡ Some m) × (l.mark ≤ last.mark))) (sym is) (at said l.sent_mark refl)
  where
    low : l.mark ≤ last.mark
    low = subst (λ n. l.mark ≤ n) (sym mark) (le-itself l.mark)

    at : (ns : List (List ℕ)) (o : Option ℕ) → l.sent_mark ≡ o → IfSome (unless_said ns o) (λ m. (l.sent_mark ≡ Some m) × (l.mark ≤ last.mark))
    at [] None there = tt
    at [] (Some m) there = (there, low)
    at (n ∷ ns) o there = tt

-- where it is kept, nothing is said
unsaid_if : (all : Bool) (pairs : List (List ℕ × List ℕ)) (l last : Listed) → last.sent_mark ≡ unless_said (map (λ p. p.0) pairs) l.sent_mark
    → IfSome (with_changes all last).sent_mark (λ m. (name : List ℕ) → finmap.get (versions_of pairs) name ≡ None)
unsaid_if true pairs l last is = tt
unsaid_if false pairs l last is = subst (λ o. IfSome o (λ m. (name : List ℕ) → finmap.get (versions_of pairs) name ≡ None)) (sym is) (at pairs l.sent_mark)
  where
    at : (ps : List (List ℕ × List ℕ)) (o : Option ℕ) → IfSome (unless_said (map (λ p. p.0) ps) o) (λ m. (name : List ℕ) → finmap.get (versions_of ps) name ≡ None)
    at [] None = tt
    at [] (Some m) = λ name. ap (λ (h : finmap.FinMap text_cmp (List ℕ)). finmap.get h name) versions_of_none ∙ finmap.get-empty text_cmp name
    at (p ∷ ps) o = tt

out_of_offer : (a : Account) (accepting : Bool) (l : Listed) (q : List ℕ) (o : Option Sent) → a.sent ≡ o → is_listed (if accepting then option_map_or (λ sent. with_names l (finmap.keys sent.offer)) o l else l) q ≡ false
    → (accepting ≡ true → IfSome o (λ sent. finmap.get sent.offer q ≡ None)) × (is_listed l q ≡ false)
out_of_offer a false l q o is out = (λ never. absurd cc, out)
out_of_offer a true l q None is out = (λ _. tt, out)
out_of_offer a true l q (Some sent) is out =
    let parts = out_of l (finmap.keys sent.offer) q out in
    (λ _. absent_key sent.offer q parts.0, parts.1)

mark_offer : (accepting : Bool) (l : Listed) (o : Option Sent) → (if accepting then option_map_or (λ sent. with_names l (finmap.keys sent.offer)) o l else l).mark ≡ l.mark
mark_offer false l o = refl
mark_offer true l None = refl
mark_offer true l (Some sent) = mark_with l (finmap.keys sent.offer)

out_of_all : (a : Account) (all : Bool) (mentioned : List (List ℕ)) (l : Listed) (q : List ℕ) → is_listed (with_all a all mentioned l) q ≡ false
    → (all ≡ true → finmap.get a.beliefs q ≡ None) × (all ≡ true → has_text mentioned q ≡ false) × (is_listed l q ≡ false)
out_of_all a false mentioned l q out = (λ never. absurd cc, λ never. absurd cc, out)
out_of_all a true mentioned l q out =
    let second = out_of (with_names l (finmap.keys a.beliefs)) mentioned q out in
    let first = out_of l (finmap.keys a.beliefs) q second.1 in
    (λ _. absent_key a.beliefs q first.0, λ _. second.0, first.1)

mark_all : (a : Account) (all : Bool) (mentioned : List (List ℕ)) (l : Listed) → (with_all a all mentioned l).mark ≡ l.mark
mark_all a false mentioned l = refl
mark_all a true mentioned l = mark_with (with_names l (finmap.keys a.beliefs)) mentioned ∙ mark_with l (finmap.keys a.beliefs)

out_of_changes : (all : Bool) (l : Listed) (q : List ℕ) → is_listed (with_changes all l) q ≡ false → is_listed l q ≡ false
out_of_changes true l q out = out
out_of_changes false l q out = out

mark_changes : (all : Bool) (l : Listed) (n : ℕ) → l.mark ≡ n → (with_changes all l).mark ≤ n
mark_changes true l n is = le-zero n
mark_changes false l n is = subst (λ m. m ≤ n) (sym is) (le-itself n)

no_mark : (all : Bool) (l : Listed) → all ≡ true → (with_changes all l).mark ≡ 0
no_mark true l is = refl
no_mark false l is = absurd cc

unsaid_at : (pairs : List (List ℕ × List ℕ)) (q : List ℕ) (b : Bool) (k : List ℕ) (x : List ℕ) (rest : Option (List ℕ)) → eq_by_cmp text_cmp q k ≡ b → (bytes_eq q k || has_text (map (λ p. p.0) pairs) q) ≡ false
    → (has_text (map (λ p. p.0) pairs) q ≡ false → rest ≡ None) → cond b (Some x) rest ≡ None
unsaid_at pairs q true k x rest is out later = let never : true ≡ false = sym is ∙ is_eq-slice_cmp q k ∙ first_false (bytes_eq q k) _ out in absurd cc
unsaid_at pairs q false k x rest is out later = later (second_false (bytes_eq q k) (has_text (map (λ p. p.0) pairs) q) out)

not_found : (pairs : List (List ℕ × List ℕ)) (q : List ℕ) → has_text (map (λ p. p.0) pairs) q ≡ false → finmap.find text_cmp q pairs ≡ None
not_found [] q out = refl
not_found (p ∷ ps) q out = unsaid_at ps q (eq_by_cmp text_cmp q p.0) p.0 p.1 (finmap.find text_cmp q ps) refl out (not_found ps q)

-- all that a request may change is listed
module _ (a : Account) (accepting whole : Bool) (touched : Touch) (names mentioned : List (List ℕ)) (pairs : List (List ℕ × List ℕ)) (l : Listed) where
  abbrev all : Bool
  all = touched.all || (accepting && whole)

  abbrev said : List (List ℕ)
  said = map (λ p. p.0) pairs

  abbrev third : Listed
  third = with_offer a accepting (with_said (with_names l names) said)

  abbrev last : Listed
  last = with_all a all mentioned third

  parts : (q : List ℕ) → is_listed (listed_after a accepting whole touched.all names mentioned said l) q ≡ false
      → ((all ≡ true → finmap.get a.beliefs q ≡ None) × (all ≡ true → has_text mentioned q ≡ false))
      × (accepting ≡ true → IfSome a.sent (λ sent. finmap.get sent.offer q ≡ None)) × (has_text said q ≡ false) × (has_text names q ≡ false) × (is_listed l q ≡ false)
  parts q out =
      let fourth = out_of_all a all mentioned third q (out_of_changes touched.all last q out) in
      let offer = out_of_offer a accepting (with_said (with_names l names) said) q a.sent refl fourth.2 in
      let second = out_of_said (with_names l names) said q offer.1 in
      let first = out_of l names q second.1 in
      ((fourth.0, fourth.1), offer.0, second.0, first.0, first.1)

  mark_last : last.mark ≡ l.mark
  mark_last =
      mark_all a all mentioned third ∙ mark_offer accepting (with_said (with_names l names) said) a.sent ∙ mark_said (with_names l names) said ∙ mark_with l names

  sending_last : last.sent_mark ≡ unless_said said l.sent_mark
  sending_last =
      sending_all a all mentioned third ∙ sending_offer accepting (with_said (with_names l names) said) a.sent ∙ sending_said (with_names l names) said ∙ ap (unless_said said) (sending_with l names)

  pub after_is_wider : IsWider l (listed_after a accepting whole touched.all names mentioned said l)
  after_is_wider = record {
    mark = mark_changes touched.all last l.mark mark_last;
    sending = kept_if touched.all said l last mark_last sending_last;
    names = λ q out. (parts q out).4;
  }

  pub after_lists_request : T (finmap.is_sorted text_cmp pairs) → set.from_list names ≡ touched.names
      → ListsRequest a accepting whole touched (set.from_list mentioned) (versions_of pairs) (listed_after a accepting whole touched.all names mentioned said l)
  after_lists_request sorted are = record {
    mark = no_mark touched.all last;
    sending = unsaid_if touched.all pairs l last sending_last;
    others = λ q out.
        let p = parts q out in
        record {
          untouched = ap (λ s. set.contains s q) (sym are) ∙ contains-from_texts names q ∙ p.3;
          unsaid = finmap.get-from_sorted text_cmp pairs q sorted ∙ not_found pairs q p.2;
          unoffered = p.1;
          unbelieved = p.0.0;
          unmentioned = λ is. contains-from_texts mentioned q ∙ p.0.1 is;
        };
  }

-- a name that isn't listed once names and versions were put
pub neither_listed : (l here more : Listed) (names : List (List ℕ)) (pairs : List (List ℕ × List ℕ)) (firsts : List (List ℕ)) (touched : set.FinSet text_cmp) (q : List ℕ) → T (finmap.is_sorted text_cmp pairs) → firsts ≡ map (λ p. p.0) pairs
    → set.from_list names ≡ touched → here ≡ with_names l names → more ≡ with_said here firsts → is_listed more q ≡ false
    → (is_listed l q ≡ false) × (set.contains touched q ≡ false) × (finmap.get (versions_of pairs) q ≡ None)
neither_listed l here more names pairs firsts touched q sorted are of puts says out =
    let second = out_of_said here firsts q (ap (λ (x : Listed). is_listed x q) (sym says) ∙ out) in
    let first = out_of l names q (ap (λ (x : Listed). is_listed x q) (sym puts) ∙ second.1) in (
      first.1,
      ap (λ s. set.contains s q) (sym of) ∙ contains-from_texts names q ∙ first.0,
      finmap.get-from_sorted text_cmp pairs q sorted ∙ not_found pairs q (ap (λ ns. has_text ns q) (sym are) ∙ second.0),
    )

-- ---- what is believed of a name that a request passes over

kept_by : (whole touched : Bool) (offer : Option Due) (before : Option Entry) → offer ≡ None → (whole ≡ true → before ≡ None) → believed_accepted whole touched offer before ≡ before
kept_by whole touched (Some d) before is none = absurd cc
kept_by true true None before is none = refl
kept_by true false None before is none = sym (none refl)
kept_by false touched None before is none = refl

settled_at : (v : VariantName) (t : TypeName) (a : Account) (name : List ℕ) (rejects ans : Bool) (o : Option Sent) → ((not rejects && ans) ≡ true → IfSome o (λ sent. finmap.get sent.offer name ≡ None))
    → (((not rejects && ans) && is_whole v t) ≡ true → finmap.get a.beliefs name ≡ None)
    → finmap.get (if ans then option_map_or (λ sent. answered v t a sent rejects) o a else a).beliefs name ≡ finmap.get a.beliefs name
settled_at v t a name rejects false o unoffered unbelieved = refl
settled_at v t a name rejects true None unoffered unbelieved = refl
settled_at v t a name true true (Some sent) unoffered unbelieved = refl
settled_at v t a name false true (Some sent) unoffered unbelieved =
    accepted_by_name (is_whole v t) sent a.beliefs name
    ∙ kept_by (is_whole v t) (was_touched sent name) (finmap.get sent.offer name) (finmap.get a.beliefs name) (unoffered refl) unbelieved

unmentioned_at : (reached mentioned : Bool) (before : Option Entry) → mentioned ≡ false → before ≡ None → believed_touched reached mentioned before ≡ None
unmentioned_at true true before is none = absurd cc
unmentioned_at true false before is none = ap (λ e. if is_some e then Some Unsure else None) none
unmentioned_at false mentioned before is none = refl

module _ (v : VariantName) (t : TypeName) (a : Account) (nonce : List ℕ) (rejects : Bool) (s : Selection) (touched : Touch) (mentioned : set.FinSet text_cmp) (versions : finmap.FinMap text_cmp (List ℕ)) where
  abbrev once : Account
  once = settled v t a nonce rejects

  abbrev after : Account
  after = resume (touch once s touched mentioned) versions

  over_settled : (name : List ℕ) → IsPassedOver a (accepts a nonce rejects) (is_whole v t) touched mentioned versions name → finmap.get once.beliefs name ≡ finmap.get a.beliefs name
  over_settled name over =
      settled_at v t a name rejects (answers a nonce) a.sent over.unoffered (λ is. over.unbelieved (or_right touched.all (accepts a nonce rejects && is_whole v t) is))

  -- a request that doesn't touch every name leaves what is believed of it
  over_some : (name : List ℕ) → touched.all ≡ false → IsPassedOver a (accepts a nonce rejects) (is_whole v t) touched mentioned versions name → finmap.get after.beliefs name ≡ finmap.get a.beliefs name
  over_some name some over =
      resumed_by_name versions (beliefs_taken s touched mentioned once.beliefs) name
      ∙ resumed_at (finmap.get versions name) (finmap.get (beliefs_taken s touched mentioned once.beliefs) name) over.unsaid
      ∙ taken_by_name s touched mentioned once.beliefs name
      ∙ (λ i. if (some i || over.untouched i) then believed_touched (reaches s name) (set.contains mentioned name) (finmap.get once.beliefs name) else finmap.get once.beliefs name)
      ∙ over_settled name over

  -- and one that does leaves nothing
  over_every : (name : List ℕ) → touched.all ≡ true → IsPassedOver a (accepts a nonce rejects) (is_whole v t) touched mentioned versions name → finmap.get after.beliefs name ≡ None
  over_every name every over =
      let no_entry : finmap.get a.beliefs name ≡ None = over.unbelieved (ap (λ b. b || (accepts a nonce rejects && is_whole v t)) every) in
      resumed_by_name versions (beliefs_taken s touched mentioned once.beliefs) name
      ∙ resumed_at (finmap.get versions name) (finmap.get (beliefs_taken s touched mentioned once.beliefs) name) over.unsaid
      ∙ taken_by_name s touched mentioned once.beliefs name
      ∙ (λ i. if (every i || set.contains touched.names name) then believed_touched (reaches s name) (set.contains mentioned name) (finmap.get once.beliefs name) else finmap.get once.beliefs name)
      ∙ unmentioned_at (reaches s name) (set.contains mentioned name) (finmap.get once.beliefs name) (over.unmentioned (ap (λ b. b || (accepts a nonce rejects && is_whole v t)) every)) (over_settled name over ∙ no_entry)

  module _ (old next : Selection) (h : Holdings) (l wide : Listed) (wider : IsWider l wide) (lists_it : ListsRequest a (accepts a nonce rejects) (is_whole v t) touched mentioned versions wide)
      (fits : lists.Fits v t old h a.beliefs l) (stays : StaysPresent old next h l.mark touched) where
    owed_at : (every : Bool) → touched.all ≡ every → (name : List ℕ) → is_listed wide name ≡ false → IsPast h wide.mark name → is_owed v t next h.entries after.beliefs name ≡ false
    owed_at true every name out past =
        unowed v t next h after.beliefs name (over_every name every (lists_it.others name out)) (none_at_first h name (subst (λ m. IsPast h m name) (lists_it.mark every) past))
    owed_at false some name out past =
        let over = lists_it.others name out in
        let before : IsPast h l.mark name = past_more h wide.mark l.mark name wider.mark past in
        same_owed v t old next h h a.beliefs after.beliefs name (over_some name some over) (sym (stays name (λ i. some i || over.untouched i) before)) ∙ fits.others name (wider.names name out) before

    -- the list suffices once the request is taken
    pub taken_list_fits : lists.Fits v t next h after.beliefs wide
    taken_list_fits = record { counted = below wide.mark l.mark h.changes wider.mark fits.counted; others = owed_at touched.all refl }
      where
        below : (x y z : ℕ) → x ≤ y → y ≤ z → x ≤ z
        below x y z first second = omega arith

-- the same of books
pub taken_books_fit : (v : VariantName) (t : TypeName) (old new : Books) (nonce : List ℕ) (rejects : Bool) (names : Names) → ListsNames v t old (accepts old.account nonce rejects) names new.listed
    → new.account ≡ taken (settled v t old.account nonce rejects) names → FitsNext v t names.touched old new
taken_books_fit v t old new nonce rejects names lists_it left from next h fits stays = record {
  list = subst (λ (x : Account). lists.Fits v t next h x.beliefs new.listed) (sym left)
      (taken_list_fits v t old.account nonce rejects names.interest names.touched names.mentioned names.versions from next h old.listed new.listed lists_it.wider lists_it.request fits.list stays);
  foretold = subst (λ (x : Account). IfSome x.sent (λ sent. IfSome new.listed.sent_mark (IsForetold v t next h x.beliefs new.listed.mark sent))) (sym left)
      (taken_is_foretold v t from next h old.account names old.listed new.listed nonce rejects lists_it.wider.sending lists_it.request.sending fits.foretold stays);
}

pub request_keeps_fitting : RequestKeepsFitting
request_keeps_fitting v t old wide nonce rejects s touched mentioned versions wider lists_it =
    let names : Names = record { interest = s; touched = touched; mentioned = mentioned; versions = versions } in
    let new : Books = record { account = resume (touch (settled v t old.account nonce rejects) s touched mentioned) versions; listed = wide } in
    taken_books_fit v t old new nonce rejects names (record { wider = wider; request = lists_it }) refl

-- and once it accepted a response of which it is known what that leaves
pub next_books_fit : (v : VariantName) (t : TypeName) (old new : Books) (nonce : List ℕ) (rejects : Bool) (names : Names) → ListsNext v t old (accepts old.account nonce rejects) names new.listed
    → new.account ≡ taken (settled v t old.account nonce rejects) names → FitsNext v t names.touched old new
next_books_fit v t old new nonce rejects names (inl touched) left = accepted_books_fit v t old new nonce rejects names touched left
next_books_fit v t old new nonce rejects names (inr listed) left = taken_books_fit v t old new nonce rejects names listed left

-- a list that suffices, as a method sees it that opened the ledger
pub fits_inside : (v name : VariantName) (t : TypeName) (s : Selection) (h : Holdings) (inside now : Books) (beliefs : Beliefs) → name ≡ v → inside ≡ now → beliefs ≡ inside.account.beliefs → Fits v t s h now
    → lists.Fits name t s h beliefs inside.listed
fits_inside v name t s h inside now beliefs named same held fits =
    subst (λ w. lists.Fits w t s h beliefs inside.listed) (sym named)
    (subst (λ b. lists.Fits v t s h b inside.listed) (sym held) (subst (λ (k : Books). lists.Fits v t s h k.account.beliefs k.listed) (sym same) fits.list))

-- and back, once the list was tidied
pub fits_outside : (v name : VariantName) (t : TypeName) (s : Selection) (h : Holdings) (inside now after : Books) (beliefs : Beliefs) → name ≡ v → inside ≡ now → beliefs ≡ inside.account.beliefs → after.account ≡ inside.account
    → KeepsSending inside.listed after.listed → lists.Fits name t s h beliefs after.listed → Fits v t s h now → Fits v t s h after
fits_outside v name t s h inside now after beliefs named same held kept sending list fits = record {
  list = subst (λ (a : Account). lists.Fits v t s h a.beliefs after.listed) (sym kept) (subst (λ b. lists.Fits v t s h b after.listed) held (subst (λ w. lists.Fits w t s h beliefs after.listed) named list));
  foretold = subst (λ (a : Account). Foretells v t s h a after.listed) (sym kept) (looked_foretells v t s h inside.account inside.listed after.listed sending (subst (λ (k : Books). Foretells v t s h k.account k.listed) (sym same) fits.foretold));
}

pub none_refused : (inside now : Books) (o : Offer) → inside ≡ now → inside.account.refused ≡ None → false ≡ is_refused now.account o
none_refused inside now o same none = (λ i. option_map_or (same_offer o) (sym none i) false) ∙ ap (λ (b : Books). is_refused b.account o) same

-- the list that is made step by step
pub made_in_steps : (a : Account) (l start named told_of told held made : Listed) (acc accepting whole every touched every_entry : Bool) (names mentioned said : List (List ℕ))
    → start ≡ l → named ≡ with_names start names → told_of ≡ with_said named said → accepting ≡ acc → told ≡ with_offer a accepting told_of → every_entry ≡ (every || (accepting && whole)) → held ≡ with_all a every_entry mentioned told
    → touched ≡ every → made ≡ (if touched then without_mark held else held) → made ≡ listed_after a acc whole every names mentioned said l
made_in_steps a l start named told_of told held made acc accepting whole every touched every_entry names mentioned said starts names_it says accepts_it tells all_is holds touches_it ends =
    ends ∙ (λ i. with_changes (touches_it i) (holds i)) ∙ (λ i. with_changes every (with_all a (all_is i) mentioned (tells i)))
    ∙ (λ i. with_changes every (with_all a (every || (accepts_it i && whole)) mentioned (with_offer a (accepts_it i) (says i))))
    ∙ (λ i. with_changes every (with_all a (every || (acc && whole)) mentioned (with_offer a acc (with_said (names_it i) said))))
    ∙ (λ i. with_changes every (with_all a (every || (acc && whole)) mentioned (with_offer a acc (with_said (with_names (starts i) names) said))))

-- the names of pairs that are made of some values
pub firsts_of : {X : Type 0} (f g : X → List ℕ) (xs : List X) → map f xs ≡ map (λ (p : List ℕ × List ℕ). p.0) (map (λ x. (f x, g x)) xs)
firsts_of f g [] = refl
firsts_of f g (x ∷ xs) = ap (λ ns. f x ∷ ns) (firsts_of f g xs)

-- the list that is made has what was listed, and all of which the request may change what is owed
pub list_has_names : (v : VariantName) (t : TypeName) (b : Books) (acc : Bool) (s : Selection) (touched : Touch) (names mentioned firsts : List (List ℕ)) (pairs : List (List ℕ × List ℕ)) (wide : Listed)
    → T (finmap.is_sorted text_cmp pairs) → firsts ≡ map (λ p. p.0) pairs → set.from_list names ≡ touched.names
    → wide ≡ listed_after b.account acc (is_whole v t) touched.all names mentioned firsts b.listed
    → ListsNames v t b acc (record { interest = s; touched = touched; mentioned = set.from_list mentioned; versions = versions_of pairs }) wide
list_has_names v t b acc s touched names mentioned firsts pairs wide sorted says are made =
    let list : Listed = listed_after b.account acc (is_whole v t) touched.all names mentioned (map (λ p. p.0) pairs) b.listed in
    let is : list ≡ wide = sym (made ∙ ap (λ n. listed_after b.account acc (is_whole v t) touched.all names mentioned n b.listed) says) in
    record {
      wider = subst (λ l. IsWider b.listed l) is (after_is_wider b.account acc (is_whole v t) touched names mentioned pairs b.listed);
      request = subst (λ l. ListsRequest b.account acc (is_whole v t) touched (set.from_list mentioned) (versions_of pairs) l) is (after_lists_request b.account acc (is_whole v t) touched names mentioned pairs b.listed sorted are);
    }
