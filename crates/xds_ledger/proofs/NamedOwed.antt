-- That without the star an owed name is an explicit one, or one of which something is told or differs; and what is found by going
-- over these.
use Rattle.std.proofs.Common.{◌≡◌, ℕ, List, [], ◌∷◌, Bool, true, false, cond, ◌&&◌, ◌||◌, Option, Some, None, refl, sym, ap, subst, ◌∙◌}
use Rattle.std.proofs.lemmas.Bool.{and_parts}
use Rattle.std.specs.Prelude.{is_some, unwrap_or, if◌then◌else◌, IsSome}
use Rattle.std.specs.Option.{option_or, option_and_then, option_map_or}
use Rattle.std.specs.List.{list_any}
use Rattle.std.specs.FinMap as finmap
use Rattle.std.specs.FinSet as set
use Rattle.xds_resource.specs.declared.types.TypeName.{TypeName}
use Rattle.xds_resource.specs.Writes.{StampedWrite, text_cmp}
use Rattle.xds_resource.specs.Names.{put_all, put_each}
use Rattle.xds_resource.proofs.NameMaps.{has_text}
use Rattle.xds_resource.proofs.MadeMaps.{get-put_all, get-put_each}
use Rattle.xds_interest.specs.Interests.{Selection, is_open_to}
use Rattle.xds_interest.proofs.Texts.{contains-from_texts}
use Rattle.xds_catalogue.specs.Holdings.{Holdings, Latest}
use Rattle.xds_ledger.specs.declared.variant.VariantName.{VariantName}
use Rattle.xds_ledger.specs.declared.entry.Entry.{Entry}
use Rattle.xds_ledger.specs.declared.entry.Due.{Due}
use Rattle.xds_ledger.specs.Variants.{is_told}
use Rattle.xds_ledger.specs.Owed.{Beliefs, owed, live_version, version_shown, is_owed}
use Rattle.xds_ledger.specs.Offers.{Offer}
use Rattle.xds_ledger.specs.Listed.{is_since}
use Rattle.xds_ledger.specs.Named.{is_owed_since, owed_number, told_entries}
use Rattle.xds_ledger.specs.Believing.{once_told}
use Rattle.xds_ledger.specs.Overlay.{Differences, told_in, told_by, overlaid}
use Rattle.xds_ledger.proofs.Overlaying.{believed_at}
use Rattle.xds_ledger.proofs.SomethingOwed.{named_fails}
use Rattle.xds_ledger.proofs.Choosing.{listed_fails}

-- what an offer says of a name, if there is one
abbrev pub told_at : Option Offer → List ℕ → Option Due
told_at None q = None
told_at (Some offer) q = finmap.get offer q

untold : (o : Option Offer) (q : List ℕ) → told_at o q ≡ None → told_in o q ≡ None
untold None q none = refl
untold (Some offer) q none = ap (option_and_then once_told) none

-- nothing is believed of a name of which nothing was told and nothing differs
pub unbelieved : (o : Option Offer) (changed : Differences) (b : Beliefs) (q : List ℕ) → overlaid (told_by o) changed ≡ b → finmap.get changed q ≡ None → told_at o q ≡ None → finmap.get b q ≡ None
unbelieved o changed b q is same none =
    ap (λ (m : Beliefs). finmap.get m q) (sym is) ∙ believed_at o changed q ∙ (λ i. unwrap_or (same i) (untold o q none i))

hidden : (named star shown : Bool) (version : Option (List ℕ)) → named ≡ false → star ≡ false → (if named || (star && shown) then version else None) ≡ None
hidden named star shown version unnamed starless = λ i. cond (unnamed i || (starless i && shown)) version None

unshown : (s : Selection) (q : List ℕ) (o : Option StampedWrite) → s.star ≡ false → set.contains s.names q ≡ false → option_and_then (version_shown s q) o ≡ None
unshown s q None starless unnamed = refl
unshown s q (Some w) starless unnamed = hidden (set.contains s.names q) s.star (is_open_to w.groups s.cluster) (live_version w) unnamed starless

-- rule: owed
-- nothing is owed of a name that isn't explicit, and of which nothing is believed
pub unowed_unnamed : (v : VariantName) (t : TypeName) (s : Selection) (h : Holdings) (b : Beliefs) (q : List ℕ) → s.star ≡ false → set.contains s.names q ≡ false → finmap.get b q ≡ None → is_owed v t s h.entries b q ≡ false
unowed_unnamed v t s h b q starless unnamed unheld =
    λ i. option_map_or (is_told v t) (owed (unheld i) (unshown s q (finmap.get h.entries q) starless unnamed i)) false

-- ---- all that are found

one_of_three : (u : Option ℕ) (c : Option (Option Entry)) (d : Option Due) (n : Bool) → (c ≡ None → d ≡ None → n ≡ false → u ≡ None)
    → option_or (option_and_then (λ x. u) c) (option_or (option_and_then (λ x. u) d) (cond n u None)) ≡ u
one_of_three None None None true none = refl
one_of_three None None None false none = refl
one_of_three None None (Some d) true none = refl
one_of_three None None (Some d) false none = refl
one_of_three None (Some c) None true none = refl
one_of_three None (Some c) None false none = refl
one_of_three None (Some c) (Some d) true none = refl
one_of_three None (Some c) (Some d) false none = refl
one_of_three (Some u) (Some c) d n none = refl
one_of_three (Some u) None (Some d) n none = refl
one_of_three (Some u) None None true none = refl
one_of_three (Some u) None None false none = sym (none refl refl refl)

put_told : (f : List ℕ → Option ℕ) (m : Latest) (o : Option Offer) (q : List ℕ) → finmap.get (put_all (λ name value. f name) m (told_entries o)) q ≡ option_or (option_and_then (λ x. f q) (told_at o q)) (finmap.get m q)
put_told f m None q = refl
put_told f m (Some offer) q = get-put_all (λ name value. f name) m offer q

explicit_at : (b : Bool) (u e : Option ℕ) → e ≡ None → cond b (option_or u e) e ≡ cond b u None
explicit_at b u e none = (λ i. cond b (option_or u (none i)) (none i)) ∙ ap (λ x. cond b x None) (or_none u)
  where
    or_none : (o : Option ℕ) → option_or o None ≡ o
    or_none None = refl
    or_none (Some x) = refl

both : (a b : Bool) (x : Option ℕ) → (if a && b then x else None) ≡ (if a then (if b then x else None) else None)
both true b x = refl
both false b x = refl

neither : (a b : Bool) (x : Option ℕ) → b ≡ false → (if a && b then x else None) ≡ None
neither true true x is = absurd cc
neither true false x is = refl
neither false b x is = refl

-- rule: owed
-- the numbers of the explicit names, of those that are told, and of those that differ, are those of all that changed and is owed
pub found_by_name : (v : VariantName) (t : TypeName) (s : Selection) (h : Holdings) (b : Beliefs) (mark : ℕ) (o : Option Offer) (changed : Differences) (names : List (List ℕ)) (explicit of_told all : Latest)
    → s.star ≡ false → overlaid (told_by o) changed ≡ b → set.from_list names ≡ s.names → explicit ≡ put_each (owed_number v t s h b mark) finmap.empty names
    → of_told ≡ put_all (λ name value. owed_number v t s h b mark name) explicit (told_entries o) → all ≡ put_all (λ name value. owed_number v t s h b mark name) of_told (finmap.entries changed)
    → (q : List ℕ) → finmap.get all q ≡ (if is_since h mark q then (if is_owed v t s h.entries b q then finmap.get h.latest q else None) else None)
found_by_name v t s h b mark o changed names explicit of_told all starless are listed first second third q =
    let f : List ℕ → Option ℕ = owed_number v t s h b mark in
    let here : has_text names q ≡ set.contains s.names q = sym (contains-from_texts names q) ∙ ap (λ x. set.contains x q) listed in
    let at_first : finmap.get explicit q ≡ cond (set.contains s.names q) (f q) None =
    ap (λ (m : Latest). finmap.get m q) first ∙ get-put_each f finmap.empty names q ∙ explicit_at (has_text names q) (f q) (finmap.get {R = text_cmp} finmap.empty q) (finmap.get-empty text_cmp q)
    ∙ ap (λ c. cond c (f q) None) here in
    ap (λ (m : Latest). finmap.get m q) third ∙ get-put_all (λ name value. f name) of_told changed q
    ∙ ap (option_or (option_and_then (λ x. f q) (finmap.get changed q))) (ap (λ (m : Latest). finmap.get m q) second ∙ put_told f explicit o q ∙ ap (option_or (option_and_then (λ x. f q) (told_at o q))) at_first)
    ∙ one_of_three (f q) (finmap.get changed q) (told_at o q) (set.contains s.names q)
    (λ same none unnamed. neither (is_since h mark q) (is_owed v t s h.entries b q) (finmap.get h.latest q) (unowed_unnamed v t s h b q starless unnamed (unbelieved o changed b q are same none)))
    ∙ both (is_since h mark q) (is_owed v t s h.entries b q) (finmap.get h.latest q)

-- ---- whether there is one

pub some_named : (p : List ℕ → Bool) (ns : List (List ℕ)) → list_any p ns ≡ true → (name : List ℕ) × (p name ≡ true)
some_named p [] some = absurd cc
some_named p (n ∷ ns) some = at (p n) refl (some_named p ns) some
  where
    at : (b : Bool) → p n ≡ b → (list_any p ns ≡ true → (name : List ℕ) × (p name ≡ true)) → (b || list_any p ns) ≡ true → (name : List ℕ) × (p name ≡ true)
    at true here later some = (n, here)
    at false here later some = later some

-- a name of which something is owed since is owed something
pub owed_if_since : (v : VariantName) (t : TypeName) (s : Selection) (h : Holdings) (b : Beliefs) (mark : ℕ) → ((name : List ℕ) × (is_owed_since v t s h b mark name ≡ true)) → (name : List ℕ) × (is_owed v t s h.entries b name ≡ true)
owed_if_since v t s h b mark one = (one.0, (and_parts (is_since h mark one.0) (is_owed v t s h.entries b one.0) one.1).1)

told_fails : (p : List ℕ → Bool) (o : Option Offer) (q : List ℕ) (d : Due) → told_at o q ≡ Some d → list_any (λ e. p e.0) (told_entries o) ≡ false → p q ≡ false
told_fails p None q d there none = absurd cc
told_fails p (Some offer) q d there none = named_fails p offer q none (ap is_some there)

some_is_none : {X : Type 0} (o : Option X) → IsSome o → o ≡ None → ⊥
some_is_none None some none = absurd cc
some_is_none (Some x) some none = absurd cc

-- where no name of the offer or of the differences passes, no believed one does
pub none_believed : (p : List ℕ → Bool) (o : Option Offer) (changed : Differences) (b : Beliefs) → overlaid (told_by o) changed ≡ b → list_any (λ e. p e.0) (finmap.entries changed) ≡ false
    → list_any (λ e. p e.0) (told_entries o) ≡ false → (q : List ℕ) → IsSome (finmap.get b q) → p q ≡ false
none_believed p o changed b are unchanged untold q there = at (finmap.get changed q) (told_at o q) refl refl
  where
    at : (c : Option (Option Entry)) (d : Option Due) → finmap.get changed q ≡ c → told_at o q ≡ d → p q ≡ false
    at (Some c) d is says = named_fails p changed q unchanged (ap is_some is)
    at None (Some d) is says = told_fails p o q d says untold
    at None None is says = absurd (some_is_none (finmap.get b q) there (unbelieved o changed b q are is says))

since_alone : (a b : Bool) → (a && b) ≡ false → a ≡ true → b ≡ false
since_alone true b is since = is
since_alone false b is since = absurd cc

-- rule: owed
-- where none of the explicit names passes, and no believed one, nothing is owed of any that changed since
pub none_by_name : (v : VariantName) (t : TypeName) (s : Selection) (h : Holdings) (b : Beliefs) (mark : ℕ) (names : List (List ℕ)) → s.star ≡ false → set.from_list names ≡ s.names
    → list_any (is_owed_since v t s h b mark) names ≡ false → ((q : List ℕ) → IsSome (finmap.get b q) → is_owed_since v t s h b mark q ≡ false) → (q : List ℕ) → is_since h mark q ≡ true
    → is_owed v t s h.entries b q ≡ false
none_by_name v t s h b mark names starless listed unnamed unheld q since = at (set.contains s.names q) (finmap.get b q) refl refl
  where
    here : has_text names q ≡ set.contains s.names q
    here = sym (contains-from_texts names q) ∙ ap (λ x. set.contains x q) listed

    at : (n : Bool) (e : Option Entry) → set.contains s.names q ≡ n → finmap.get b q ≡ e → is_owed v t s h.entries b q ≡ false
    at true e is held = since_alone (is_since h mark q) (is_owed v t s h.entries b q) (listed_fails (is_owed_since v t s h b mark) names q unnamed (here ∙ is)) since
    at false None is held = unowed_unnamed v t s h b q starless is held
    at false (Some e) is held = since_alone (is_since h mark q) (is_owed v t s h.entries b q) (unheld q (subst IsSome (sym held) refl)) since
