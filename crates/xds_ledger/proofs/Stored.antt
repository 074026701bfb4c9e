-- That changes made in place leave what they say, and that entries which were added are taken out again.
use Rattle.std.proofs.Common.{◌≡◌, ℕ, suc, ◌+◌, ◌<◌, List, [], ◌∷◌, length, take, drop, Bor, Bool, true, false, cond, ◌||◌, ◌&&◌, Option, Some, None, refl, sym, ap, ◌∙◌}
use Rattle.std.proofs.Math.ListN.{get_or}
use Rattle.std.proofs.Math.Seq.{drop-cons, split_at}
use Rattle.std.proofs.Math.Numerals.{suc-eq-add-one}
use Rattle.std.specs.Prelude.{bytes_eq, is_some, unwrap_or, if◌then◌else◌}
use Rattle.std.specs.Option.{option_or}
use Rattle.std.specs.FinMap as finmap
use Rattle.xds_resource.specs.Names.{put_each}
use Rattle.xds_resource.proofs.NameMaps.{has_text, same_names, get-insert, get-remove, bytes_eq_tells, bytes_eq_swap, has_text-keys, cond_same, removed_step, added_step, texts_of, listed_behind, filtered}
use Rattle.xds_resource.proofs.MadeMaps.{get-put_each}
use Rattle.xds_ledger.specs.declared.entry.Entry.{Entry}
use Rattle.xds_ledger.specs.Offers.{Offer}
use Rattle.xds_ledger.specs.Changes.{Changes}
use Rattle.xds_ledger.specs.Overlay.{Differences, told_in, tells}
use Rattle.xds_ledger.specs.Storing.{stored, stored_all, removed_all, is_new, new_names}

-- ---- removals

get-removed_all : (b : Differences) (ns : List (List ℕ)) (q : List ℕ) → finmap.get (removed_all b ns) q ≡ cond (has_text ns q) None (finmap.get b q)
get-removed_all b [] q = refl
get-removed_all b (n ∷ ns) q =
    get-removed_all (finmap.remove b n) ns q ∙ ap (cond (has_text ns q) None) (get-remove b n q) ∙ removed_step (bytes_eq n q) (has_text ns q) (finmap.get b q)
    ∙ ap (λ x. cond (x || has_text ns q) None (finmap.get b q)) (bytes_eq_swap n q)

-- an entry that was added at one of the names is taken out with them
pub removed_added : (b : Differences) (ns : List (List ℕ)) (n : List ℕ) (e : Option Entry) → has_text ns n ≡ true → removed_all (finmap.insert b n e) ns ≡ removed_all b ns
removed_added b ns n e listed =
    same_names _ _ (λ q. get-removed_all (finmap.insert b n e) ns q ∙ ap (cond (has_text ns q) None) (get-insert b n e q)
    ∙ added_step (has_text ns q) (bytes_eq n q) (Some e) (finmap.get b q) (λ same. sym (ap (has_text ns) (bytes_eq_tells n q same)) ∙ listed) ∙ sym (get-removed_all b ns q))

abbrev added : Differences → List (Bor (List ℕ)) → Differences
added b ns = put_each (λ name. Some None) b (texts_of ns)

-- once an entry was added at one more of some names
pub added_next : (b start after : Differences) (ns : List (Bor (List ℕ))) (i : ℕ) (d : Bor (List ℕ)) → i < length ns → after ≡ finmap.insert b (get_or ns i d).now None
    → (added b (drop i ns) ≡ added start ns) × (removed_all b (texts_of ns) ≡ start) → (added after (drop (i + 1) ns) ≡ added start ns) × (removed_all after (texts_of ns) ≡ start)
added_next b start after ns i d there is before =
    let x : Bor (List ℕ) = get_or ns i d in (
      (λ j. added (is j) (drop (sym (suc-eq-add-one i) j) ns)) ∙ sym (ap (added b) (drop-cons ns i d there)) ∙ before.0,
      ap (λ (m : Differences). removed_all m (texts_of ns)) is ∙ removed_added b (texts_of ns) x.now None (ap (λ l. has_text (texts_of l) x.now) (split_at ns i d there) ∙ listed_behind (take i ns) x (drop (suc i) ns)) ∙ before.1,
    )

-- ---- which names are new

new_absent : (listed told : Bool) (change old : Option (Option Entry)) → cond (listed && is_new told change old) None old ≡ old
new_absent true told None old = refl
new_absent true told (Some None) None = cond_same told None
new_absent true told (Some (Some e)) None = refl
new_absent true told (Some e) (Some x) = refl
new_absent false told change old = refl

-- new names have no difference
pub new_names_are_absent : (o : Option Offer) (c : Changes) (b : Differences) (names : List (List ℕ)) → removed_all b (new_names o c b names) ≡ b
new_names_are_absent o c b names =
    same_names _ _ (λ q. get-removed_all b (new_names o c b names) q
    ∙ ap (λ x. cond x None (finmap.get b q)) (filtered (λ n. is_new (tells o n) (finmap.get c n) (finmap.get b n)) names q)
    ∙ new_absent (has_text names q) (tells o q) (finmap.get c q) (finmap.get b q))

-- ---- what is stored

-- what is stored at a name
abbrev stored_at : Bool → Option (Option Entry) → Option (Option Entry) → Option (Option Entry)
stored_at told old None = old
stored_at told old (Some None) = if told then (if is_some old then Some None else None) else None
stored_at told old (Some (Some e)) = if is_some old then Some (Some e) else None

replaced_at : (b : Differences) (n : List ℕ) (e : Option Entry) (q : List ℕ) (held : Option (Option Entry)) (here : Bool) → finmap.get b n ≡ held → bytes_eq n q ≡ here
    → finmap.get (if is_some held then finmap.insert b n e else b) q ≡ cond here (if is_some (finmap.get b q) then Some e else None) (finmap.get b q)
replaced_at b n e q None true is same =
    let none = ap (finmap.get b) (sym (bytes_eq_tells n q same)) ∙ is in
    none ∙ sym (ap (λ o. if is_some o then Some e else None) none)
replaced_at b n e q None false is other = refl
replaced_at b n e q (Some x) true is same =
    get-insert b n e q ∙ ap (λ h. cond h (Some e) (finmap.get b q)) same
    ∙ sym (ap (λ o. if is_some o then Some e else None) (ap (finmap.get b) (sym (bytes_eq_tells n q same)) ∙ is))
replaced_at b n e q (Some x) false is other = get-insert b n e q ∙ ap (λ h. cond h (Some e) (finmap.get b q)) other

dropped_at : (b : Differences) (n q : List ℕ) (told : Bool) → finmap.get (if told then (if is_some (finmap.get b n) then finmap.insert b n None else b) else finmap.remove b n) q
    ≡ cond (bytes_eq n q) (if told then (if is_some (finmap.get b q) then Some None else None) else None) (finmap.get b q)
dropped_at b n q true = replaced_at b n None q (finmap.get b n) (bytes_eq n q) refl refl
dropped_at b n q false = get-remove b n q

-- what is stored of one name
get-stored : (o : Option Offer) (b : Differences) (n : List ℕ) (change : Option (Option Entry)) (q : List ℕ)
    → finmap.get (stored o b n change) q ≡ cond (bytes_eq n q) (stored_at (tells o n) (finmap.get b q) change) (finmap.get b q)
get-stored o b n None q = sym (cond_same (bytes_eq n q) (finmap.get b q))
get-stored o b n (Some None) q = dropped_at b n q (tells o n)
get-stored o b n (Some (Some e)) q = replaced_at b n (Some e) q (finmap.get b n) (bytes_eq n q) refl refl

stored_step : (here later there told : Bool) (old first change : Option (Option Entry)) → (here ≡ true → there ≡ told) → (here ≡ true → first ≡ change)
    → cond later (stored_at told (cond here (stored_at there old first) old) (cond here None change)) (cond here (stored_at there old first) old) ≡ cond (here || later) (stored_at told old change) old
stored_step true later there told old first change same is = cond_same later (stored_at there old first) ∙ (λ i. stored_at (same refl i) old (is refl i))
stored_step false later there told old first change same is = refl

get-stored_all : (o : Option Offer) (b : Differences) (c : Changes) (ns : List (List ℕ)) (q : List ℕ)
    → finmap.get (stored_all o b c ns) q ≡ cond (has_text ns q) (stored_at (tells o q) (finmap.get b q) (finmap.get c q)) (finmap.get b q)
get-stored_all o b c [] q = refl
get-stored_all o b c (n ∷ ns) q =
    get-stored_all o (stored o b n (finmap.get c n)) (finmap.remove c n) ns q
    ∙ (λ i. cond (has_text ns q) (stored_at (tells o q) (get-stored o b n (finmap.get c n) q i) (get-remove c n q i)) (get-stored o b n (finmap.get c n) q i))
    ∙ stored_step (bytes_eq n q) (has_text ns q) (tells o n) (tells o q) (finmap.get b q) (finmap.get c n) (finmap.get c q) (λ same. ap (tells o) (bytes_eq_tells n q same)) (λ same. ap (finmap.get c) (bytes_eq_tells n q same))
    ∙ ap (λ x. cond (x || has_text ns q) (stored_at (tells o q) (finmap.get b q) (finmap.get c q)) (finmap.get b q)) (bytes_eq_swap n q)

-- the difference that is there when the changes are stored
abbrev made : Bool → Option (Option Entry) → Option (Option Entry) → Option (Option Entry)
made told change old = cond (is_some change && is_new told change old) (option_or (Some None) old) old

all_parts : (told : Option Entry) (change old : Option (Option Entry))
    → unwrap_or (cond (is_some change) (stored_at (is_some told) (made (is_some told) change old) change) (made (is_some told) change old)) told ≡ unwrap_or change (unwrap_or old told)
all_parts told None old = refl
all_parts None (Some None) None = refl
all_parts None (Some None) (Some x) = refl
all_parts (Some t) (Some None) None = refl
all_parts (Some t) (Some None) (Some x) = refl
all_parts told (Some (Some e)) None = refl
all_parts told (Some (Some e)) (Some x) = refl

-- once a difference was made for each new name, and the changes were stored
pub changed : (o : Option Offer) (c : Changes) (b : Differences) (q : List ℕ)
    → unwrap_or (finmap.get (stored_all o (put_each (λ name. Some None) b (new_names o c b (finmap.keys c))) c (finmap.keys c)) q) (told_in o q) ≡ unwrap_or (finmap.get c q) (unwrap_or (finmap.get b q) (told_in o q))
changed o c b q =
    let change : Option (Option Entry) = finmap.get c q in
    let old : Option (Option Entry) = finmap.get b q in
    let listed : has_text (finmap.keys c) q ≡ is_some change = has_text-keys c q in
    let added : finmap.get (put_each (λ name. Some None) b (new_names o c b (finmap.keys c))) q ≡ made (tells o q) change old =
    get-put_each (λ name. Some None) b (new_names o c b (finmap.keys c)) q
    ∙ ap (λ x. cond x (option_or (Some None) old) old) (filtered (λ n. is_new (tells o n) (finmap.get c n) (finmap.get b n)) (finmap.keys c) q ∙ ap (λ x. x && is_new (tells o q) change old) listed) in
    ap (λ x. unwrap_or x (told_in o q))
    (get-stored_all o (put_each (λ name. Some None) b (new_names o c b (finmap.keys c))) c (finmap.keys c) q
    ∙ (λ i. cond (listed i) (stored_at (tells o q) (added i) change) (added i)))
    ∙ all_parts (told_in o q) change old
