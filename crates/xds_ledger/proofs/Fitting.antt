-- What keeps a list sufficient, and what it has once it was refreshed.
use Rattle.std.proofs.Common.{◌≡◌, ◌⊎◌, inl, inr, ℕ, ◌≤◌, List, Bool, true, false, cond, ◌||◌, Option, Some, None, Result, Ok, Err, refl, sym, ap, subst, ◌∙◌, arith}
use Rattle.std.specs.Prelude.{is_some, nat_lt, if◌then◌else◌, IfSome, IsSomeAnd, OnOk, OnErr}
use Rattle.std.specs.Option.{option_or, option_and_then, option_map_or}
use Rattle.std.specs.FinMap as finmap
use Rattle.std.proofs.lemmas.Bool.{cases_lt, lt-ltb}
use Rattle.xds_resource.specs.declared.refusal.Refusal.{Refusal}
use Rattle.xds_resource.specs.declared.types.TypeName.{TypeName}
use Rattle.xds_resource.specs.Writes.{text_cmp}
use Rattle.xds_resource.specs.Names.{put_all}
use Rattle.xds_resource.proofs.MadeMaps.{get-put_all}
use Rattle.xds_resource.proofs.NameMaps.{none_by_is_some, same_names}
use Rattle.xds_resource.proofs.WriteTies.{text_cmp-IsAntisymmetric}
use Rattle.xds_interest.specs.Interests.{Selection}
use Rattle.xds_catalogue.specs.Holdings.{Holdings, IsNumbered, Latest}
use Rattle.xds_ledger.specs.declared.variant.VariantName.{VariantName}
use Rattle.xds_ledger.specs.Variants.{is_told}
use Rattle.xds_ledger.specs.Owed.{Beliefs, owed, present, version_shown, is_owed}
use Rattle.xds_ledger.specs.Listed.{Listed, is_listed, is_since, IsPast, Fits, KeepsSending, StaysSufficient, changed_since, refreshed, pruned}
use Rattle.xds_ledger.specs.ListLaws.{NewListFits, WiderListFits, RefreshedListFits, PrunedListFits, OwedIsListed, LaterHoldingsFit}
use Rattle.xds_ledger.proofs.ByName.{owed_absent}
use Rattle.xds_ledger.proofs.Later.{past_more}
use Rattle.xds_ledger.proofs.Choosing.{first_false, le-itself, le-onward, le-zero, second_false}

no_number : (o : Option ℕ) → IsSomeAnd o (λ k. (1 ≤ k) × (k ≤ 0)) → ⊥
no_number None there = there
no_number (Some k) there = never k there.0 there.1
  where
    never : (k : ℕ) → 1 ≤ k → k ≤ 0 → ⊥
    never k low high = omega arith

-- before the first change no name has an entry
pub none_at_first : (h : Holdings) (name : List ℕ) → IsPast h 0 name → finmap.get h.entries name ≡ None
none_at_first h name (inl absent) = absent
none_at_first h name (inr there) = absurd (no_number (finmap.get h.latest name) there)

-- nothing is owed of a name that neither has
pub unowed : (v : VariantName) (t : TypeName) (s : Selection) (h : Holdings) (b : Beliefs) (name : List ℕ) → finmap.get b name ≡ None → finmap.get h.entries name ≡ None → is_owed v t s h.entries b name ≡ false
unowed v t s h b name unheld unknown = ap (λ o. option_map_or (is_told v t) o false) (owed_absent s h.entries b name unheld unknown)

-- what is owed depends on the entry and on the version that is present
pub same_owed : (v : VariantName) (t : TypeName) (s next : Selection) (h later : Holdings) (b after : Beliefs) (name : List ℕ) → finmap.get after name ≡ finmap.get b name
    → present next later.entries name ≡ present s h.entries name → is_owed v t next later.entries after name ≡ is_owed v t s h.entries b name
same_owed v t s next h later b after name held there = λ i. option_map_or (is_told v t) (owed (held i) (there i)) false

pub new_list_fits : NewListFits
new_list_fits v t s h = record {
  counted = le-zero h.changes;
  others = λ name out past. unowed v t s h finmap.empty name (finmap.get-empty text_cmp name) (none_at_first h name past);
}

pub wider_list_fits : WiderListFits
wider_list_fits v t s h b l wide wider fits = record {
  counted = le-onward wide.mark l.mark h.changes wider.mark fits.counted;
  others = λ name out past. fits.others name (wider.names name out) (past_more h wide.mark l.mark name wider.mark past);
}

pub later_holdings_fit : LaterHoldingsFit
later_holdings_fit v t s h later b l is fits = record {
  counted = le-onward l.mark h.changes later.changes fits.counted is.grows;
  others = λ name out past.
      let entry = is.same name (past_more later l.mark h.changes name fits.counted past) in
      same_owed v t s s h later b b name refl (ap (option_and_then (version_shown s name)) entry) ∙ fits.others name out (is.past name l.mark fits.counted past);
}

-- ---- a refreshed list

since_at : (mark : ℕ) (o : Option ℕ) → IfSome o (λ k. 1 ≤ k) → option_map_or (nat_lt mark) o false ≡ false → (o ≡ None) ⊎ IsSomeAnd o (λ k. (1 ≤ k) × (k ≤ mark))
since_at mark None counted unchanged = inl refl
since_at mark (Some k) counted unchanged = elim (cases_lt mark k) [
  | inl above ↦ let never : false ≡ true = sym unchanged ∙ lt-ltb mark k above in absurd cc
  | inr below ↦ inr (counted, below)
]

unknown_at : (h : Holdings) (name : List ℕ) (mark : ℕ) → IsNumbered h → (finmap.get h.latest name ≡ None) ⊎ IsSomeAnd (finmap.get h.latest name) (λ k. (1 ≤ k) × (k ≤ mark)) → IsPast h mark name
unknown_at h name mark numbered (inl none) = inl (none_by_is_some (finmap.get h.entries name) (sym (numbered.each name) ∙ ap is_some none))
unknown_at h name mark numbered (inr there) = inr there

counted_from : (o : Option ℕ) (n : ℕ) → IfSome o (λ k. (1 ≤ k) × (k ≤ n)) → IfSome o (λ k. 1 ≤ k)
counted_from None n is = tt
counted_from (Some k) n is = is.0

-- a name that didn't change since a mark
pub past_if : (h : Holdings) (mark : ℕ) (name : List ℕ) → IsNumbered h → is_since h mark name ≡ false → IsPast h mark name
past_if h mark name numbered unchanged =
    unknown_at h name mark numbered (since_at mark (finmap.get h.latest name) (counted_from (finmap.get h.latest name) h.changes (numbered.counted name)) unchanged)

get-changed_since : (h : Holdings) (mark : ℕ) (name : List ℕ) → finmap.get (changed_since h mark) name ≡ cond (is_since h mark name) (finmap.get h.latest name) None
get-changed_since h mark name =
    finmap.get-retain_keys h.latest (is_since h mark) name (λ x tied. ap (is_since h mark) (sym (text_cmp-IsAntisymmetric name x tied)))

pub number_again : (o : Option ℕ) → option_and_then (λ number. Some number) o ≡ o
number_again None = refl
number_again (Some k) = refl

get-refreshed : (h : Holdings) (l : Listed) (name : List ℕ) → finmap.get (refreshed h l).names name ≡ option_or (finmap.get l.names name) (cond (is_since h l.mark name) (finmap.get h.latest name) None)
get-refreshed h l name =
    get-put_all (λ name number. Some number) (changed_since h l.mark) l.names name ∙ (λ i. option_or (number_again (finmap.get l.names name) i) (get-changed_since h l.mark name i))

some_since : (mark : ℕ) (o : Option ℕ) → is_some (cond (option_map_or (nat_lt mark) o false) o None) ≡ option_map_or (nat_lt mark) o false
some_since mark None = refl
some_since mark (Some k) = at (nat_lt mark k)
  where
    at : (b : Bool) → is_some (cond b (Some k) None) ≡ b
    at true = refl
    at false = refl

either : (o p : Option ℕ) → is_some (option_or o p) ≡ (is_some o || is_some p)
either None p = refl
either (Some k) p = refl

-- the refreshed list has what it had, and what changed since
pub refreshed_has : (h : Holdings) (l : Listed) (name : List ℕ) → is_listed (refreshed h l) name ≡ (is_listed l name || is_since h l.mark name)
refreshed_has h l name =
    ap is_some (get-refreshed h l name) ∙ either (finmap.get l.names name) _ ∙ ap (λ b. is_listed l name || b) (some_since l.mark (finmap.get h.latest name))

-- a name that is neither listed nor changed since is owed nothing
pub unowed_else : (v : VariantName) (t : TypeName) (s : Selection) (h : Holdings) (b : Beliefs) (l : Listed) (name : List ℕ) → IsNumbered h → Fits v t s h b l → is_listed l name ≡ false → is_since h l.mark name ≡ false
    → is_owed v t s h.entries b name ≡ false
unowed_else v t s h b l name numbered fits out unchanged = fits.others name out (past_if h l.mark name numbered unchanged)

pub refreshed_list_fits : RefreshedListFits
refreshed_list_fits v t s h b l numbered fits = record {
  counted = le-itself h.changes;
  others = λ name out past.
      let neither : (is_listed l name || is_since h l.mark name) ≡ false = sym (refreshed_has h l name) ∙ out in
      unowed_else v t s h b l name numbered fits (first_false (is_listed l name) (is_since h l.mark name) neither) (second_false (is_listed l name) (is_since h l.mark name) neither);
}

-- the same of a list as a call leaves it
pub refreshed_suffices : (h : Holdings) (old new : Listed) → IsNumbered h → new ≡ refreshed h old → StaysSufficient h old new
refreshed_suffices h old new numbered is = record {
  fits = λ v t s b fits. subst (Fits v t s h b) (sym is) (refreshed_list_fits v t s h b old numbered fits);
  sending = λ low. record { sent_mark = ap (λ (l : Listed). l.sent_mark) is; mark = subst (λ (l : Listed). old.mark ≤ l.mark) (sym is) low };
}

listed_by : (a b o : Bool) → ((a ≡ false) → (b ≡ false) → o ≡ false) → o ≡ true → (a || b) ≡ true
listed_by true b o none is = refl
listed_by false true o none is = refl
listed_by false false o none is = let never : false ≡ true = sym (none refl refl) ∙ is in absurd cc

-- rule: owed
pub owed_is_listed : OwedIsListed
owed_is_listed v t s h b l name numbered fits is =
    refreshed_has h l name ∙ listed_by (is_listed l name) (is_since h l.mark name) (is_owed v t s h.entries b name) (unowed_else v t s h b l name numbered fits) is

-- ---- a pruned list

get-pruned : (v : VariantName) (t : TypeName) (s : Selection) (h : Holdings) (b : Beliefs) (l : Listed) (name : List ℕ)
    → finmap.get (pruned v t s h b l).names name ≡ option_or (option_and_then (λ number. if is_owed v t s h.entries b name then Some number else None) (finmap.get l.names name)) None
get-pruned v t s h b l name =
    get-put_all (λ name number. if is_owed v t s h.entries b name then Some number else None) finmap.empty l.names name
    ∙ ap (option_or (option_and_then (λ number. if is_owed v t s h.entries b name then Some number else None) (finmap.get l.names name))) (finmap.get-empty text_cmp name)

pruned_out : (o : Option ℕ) (holds : Bool) → is_some (option_or (option_and_then (λ number. if holds then Some number else None) o) None) ≡ false → (is_some o ≡ false) ⊎ (holds ≡ false)
pruned_out None holds out = inl refl
pruned_out (Some k) true out = absurd cc
pruned_out (Some k) false out = inr refl

pub pruned_list_fits : PrunedListFits
pruned_list_fits v t s h b l fits = record {
  counted = fits.counted;
  others = λ name out past. elim (pruned_out (finmap.get l.names name) (is_owed v t s h.entries b name) (sym (ap is_some (get-pruned v t s h b l name)) ∙ out)) [
    | inl absent ↦ fits.others name absent past
    | inr nothing ↦ nothing
  ];
}

-- ---- a list of which what is owed was left

left_at : (owed since : Bool) (o latest : Option ℕ) → option_or (option_and_then (λ number. if owed then Some number else None) o) (if since then (if owed then latest else None) else None)
    ≡ option_or (option_and_then (λ number. if owed then Some number else None) (option_or o (cond since latest None))) None
left_at true since (Some k) latest = refl
left_at true true None None = refl
left_at true true None (Some n) = refl
left_at true false None latest = refl
left_at false true (Some k) latest = refl
left_at false false (Some k) latest = refl
left_at false true None None = refl
left_at false true None (Some n) = refl
left_at false false None latest = refl

or_none : (o : Option ℕ) → option_or o None ≡ o
or_none None = refl
or_none (Some k) = refl

found_if : (o before : Option ℕ) (b : Bool) → before ≡ None → (if b then option_or o before else before) ≡ (if b then o else None)
found_if o before true is = ap (option_or o) is ∙ or_none o
found_if o before false is = is

-- what a walk from nothing found
pub found_owed : (h : Holdings) (mark : ℕ) (m : Latest) (f : List ℕ → Option ℕ) → ((q : List ℕ) → finmap.get m q ≡ (if is_since h mark q then option_or (f q) (finmap.get {R = text_cmp} finmap.empty q) else finmap.get {R = text_cmp} finmap.empty q))
    → (q : List ℕ) → finmap.get m q ≡ (if is_since h mark q then f q else None)
found_owed h mark m f found q = found q ∙ found_if (f q) (finmap.get {R = text_cmp} finmap.empty q) (is_since h mark q) (finmap.get-empty text_cmp q)

-- the names that are owed of those that changed since, and then of those that are listed, are what is left once the list was refreshed and pruned
pub left_names : (v : VariantName) (t : TypeName) (s : Selection) (h : Holdings) (b : Beliefs) (l : Listed) (since kept : Latest)
    → ((q : List ℕ) → finmap.get since q ≡ (if is_since h l.mark q then (if is_owed v t s h.entries b q then finmap.get h.latest q else None) else None))
    → kept ≡ put_all (λ name number. if is_owed v t s h.entries b name then Some number else None) since (finmap.entries l.names) → kept ≡ (pruned v t s h b (refreshed h l)).names
left_names v t s h b l since kept found is =
    same_names _ _ (λ q. ap (λ (m : Latest). finmap.get m q) is ∙ get-put_all (λ name number. if is_owed v t s h.entries b name then Some number else None) since l.names q
    ∙ ap (option_or (option_and_then (λ number. if is_owed v t s h.entries b q then Some number else None) (finmap.get l.names q))) (found q)
    ∙ left_at (is_owed v t s h.entries b q) (is_since h l.mark q) (finmap.get l.names q) (finmap.get h.latest q)
    ∙ ap (λ o. option_or (option_and_then (λ number. if is_owed v t s h.entries b q then Some number else None) o) None) (sym (get-refreshed h l q))
    ∙ sym (get-pruned v t s h b (refreshed h l) q))

-- such a list suffices, and so does the one that was, where there was no memory for it
pub tidied_fits : {X : Type 0} (v : VariantName) (t : TypeName) (s : Selection) (h : Holdings) (b : Beliefs) (old new : Listed) (left : Result X Refusal) → OnOk left (new ≡ pruned v t s h b (refreshed h old)) → OnOk left (IsNumbered h)
    → OnErr left (new ≡ old) → Fits v t s h b old → Fits v t s h b new
tidied_fits v t s h b old new (Ok x) is numbered same fits = subst (Fits v t s h b) (sym is) (pruned_list_fits v t s h b (refreshed h old) (refreshed_list_fits v t s h b old numbered fits))
tidied_fits v t s h b old new (Err e) is numbered same fits = subst (Fits v t s h b) (sym same) fits

pub keeps_itself : (old new : Listed) → new ≡ old → KeepsSending old new
keeps_itself old new same = record { sent_mark = ap (λ (l : Listed). l.sent_mark) same; mark = subst (λ (l : Listed). old.mark ≤ l.mark) (sym same) (le-itself old.mark) }

-- and it keeps the mark of the sending
pub tidied_keeps_sending : {X : Type 0} (v : VariantName) (t : TypeName) (s : Selection) (h : Holdings) (b : Beliefs) (old new : Listed) (left : Result X Refusal) → OnOk left (new ≡ pruned v t s h b (refreshed h old)) → OnErr left (new ≡ old)
    → old.mark ≤ h.changes → KeepsSending old new
tidied_keeps_sending v t s h b old new (Ok x) is same low = record { sent_mark = ap (λ (l : Listed). l.sent_mark) is; mark = subst (λ (l : Listed). old.mark ≤ l.mark) (sym is) low }
tidied_keeps_sending v t s h b old new (Err e) is same low = keeps_itself old new same

-- a copy, name by name
pub copied : (m : Latest) → put_all (λ name number. Some number) finmap.empty (finmap.entries m) ≡ m
copied m =
    same_names _ m (λ q. get-put_all (λ name number. Some number) finmap.empty m q ∙ (λ i. option_or (number_again (finmap.get m q) i) (finmap.get-empty text_cmp q i)) ∙ or_none (finmap.get m q))

-- what a walk from nothing found is what changed since
found_all : (o : Option ℕ) (before : Option ℕ) (b : Bool) → before ≡ None → (if b then option_or o before else before) ≡ cond b o None
found_all o before true is = ap (option_or o) is ∙ or_none o
found_all o before false is = is

pub all_changed : (h : Holdings) (mark : ℕ) (m start : Latest) → ((q : List ℕ) → finmap.get start q ≡ None) → ((q : List ℕ) → finmap.get m q ≡ (if is_since h mark q then option_or (finmap.get h.latest q) (finmap.get start q) else finmap.get start q))
    → m ≡ changed_since h mark
all_changed h mark m start empty found =
    same_names m (changed_since h mark) (λ q. found q ∙ found_all (finmap.get h.latest q) (finmap.get start q) (is_since h mark q) (empty q) ∙ sym (get-changed_since h mark q))
