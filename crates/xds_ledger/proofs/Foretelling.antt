-- What is known of an unanswered response: once it is sent, at later holdings, once names were touched, and once it is accepted.
use Rattle.std.proofs.Common.{◌≡◌, ℕ, ◌≤◌, List, [], ◌∷◌, ◌||◌, ◌&&◌, not, Bool, true, false, Option, Some, None, refl, sym, ap, subst, ◌∙◌}
use Rattle.std.specs.Prelude.{bytes_eq, if◌then◌else◌, is_some, option_map, IfSome}
use Rattle.std.specs.Option.{option_and_then, option_map_or}
use Rattle.std.specs.FinMap as finmap
use Rattle.std.proofs.lemmas.List.Folds.{list_any-append}
use Rattle.std.proofs.Math.Bool.{or-false}
use Rattle.xds_resource.specs.declared.types.TypeName.{TypeName}
use Rattle.xds_resource.proofs.NameMaps.{bytes_eq_same}
use Rattle.xds_interest.specs.Interests.{Selection}
use Rattle.xds_interest.specs.Touches.{Touch, touches}
use Rattle.xds_catalogue.specs.Holdings.{Holdings, Entries}
use Rattle.xds_ledger.specs.declared.variant.VariantName.{VariantName}
use Rattle.xds_ledger.specs.declared.entry.Entry.{Entry}
use Rattle.xds_ledger.specs.declared.entry.Entry.TheVariants.{Told, Unsure}
use Rattle.xds_ledger.specs.declared.entry.Due.{Due}
use Rattle.xds_ledger.specs.declared.entry.Due.TheVariants.{Stated, Removed}
use Rattle.xds_ledger.specs.Variants.{is_whole, is_told}
use Rattle.xds_ledger.specs.Owed.{Beliefs, version_shown, present, owed}
use Rattle.xds_ledger.specs.Offers.{Offer, offer}
use Rattle.xds_ledger.specs.Listed as lists
use Rattle.xds_ledger.specs.Listed.{Listed, is_listed, IsPast, IsLater, KeepsSending, pruned}
use Rattle.xds_ledger.specs.Ledgers.{Account, Sent, Names, was_touched, touched_since, believed_accepted, beliefs_accepted, beliefs_taken, beliefs_after, nonce_text, send, answers, answered, accept, settled, taken}
use Rattle.xds_ledger.specs.Lists.{Books, IsForetold, Foretells, Fits, FitsNext, StaysPresent, accepts, ListsTouched}
use Rattle.xds_ledger.specs.BookLaws.{SentBooksFit, LaterBooksFit, RefreshedBooksFit, PrunedBooksFit, AcceptanceKeepsFitting}
use Rattle.xds_ledger.proofs.ByName.{offer_says_it}
use Rattle.xds_ledger.proofs.BeliefsByName.{accepted_by_name, untouched_keeps_belief}
use Rattle.xds_ledger.proofs.Made.{resumed_by_name, resumed_at}
use Rattle.xds_ledger.proofs.Later.{past_more}
use Rattle.xds_ledger.proofs.Fitting.{later_holdings_fit, refreshed_list_fits, pruned_list_fits}
use Rattle.xds_ledger.proofs.Choosing.{first_false, le-itself, le-onward, second_false}

-- ---- two that may be

-- what holds of two, where both are
both_hold : {X Y : Type 0} (P : X → Y → Type 0) (o : Option X) (w : Option Y) → ((x : X) (y : Y) → o ≡ Some x → w ≡ Some y → P x y) → IfSome o (λ x. IfSome w (P x))
both_hold P None w known = tt
both_hold P (Some x) None known = tt
both_hold P (Some x) (Some y) known = known x y refl refl

both_at : {X Y : Type 0} (P : X → Y → Type 0) (o : Option X) (w : Option Y) (x : X) (y : Y) → o ≡ Some x → w ≡ Some y → IfSome o (λ z. IfSome w (P z)) → P x y
both_at P o w x y here there known = subst (λ u. IfSome u (P x)) there (subst (λ u. IfSome u (λ z. IfSome w (P z))) here known)

-- ---- an offer, name by name

-- an offer that says of a name what is owed
abbrev said : (Due → Bool) → Option Entry → Option (List ℕ) → Option Due
said told e p = if option_map_or told (owed e p) false then owed e p else None

-- a due that is told
told_due : (told : Due → Bool) (d : Due) → told d ≡ true → (if option_map_or told (Some d) false then Some d else None) ≡ Some d
told_due told d is = ap (λ b. if b then Some d else None) is

-- of a name that is told as it is
not_owed : (told : Due → Bool) (p : Option (List ℕ)) → option_map_or told (owed (option_map Told p) p) false ≡ false
not_owed told None = refl
not_owed told (Some v) = ap (λ b. option_map_or told (if b then None else Some (Stated v)) false) (bytes_eq_same v)

-- what is owed of a name once an offer that says this of it is accepted
abbrev owed_then : (Due → Bool) → Option Due → Option Entry → Option (List ℕ) → Bool
owed_then told o e p = option_map_or told (owed (believed_accepted false false o e) p) false

-- where a version is stated
once_stated : (told : Due → Bool) (e : Option Entry) (v : List ℕ) → told (Stated v) ≡ true → owed_then told (if option_map_or told (Some (Stated v)) false then Some (Stated v) else None) e (Some v) ≡ false
once_stated told e v is = ap (λ o. owed_then told o e (Some v)) (told_due told (Stated v) is) ∙ not_owed told (Some v)

same_or_stated : (told : Due → Bool) (w v : List ℕ) (b : Bool) → bytes_eq w v ≡ b → told (Stated v) ≡ true
    → owed_then told (if option_map_or told (if b then None else Some (Stated v)) false then (if b then None else Some (Stated v)) else None) (Some (Told w)) (Some v) ≡ false
same_or_stated told w v true is stated = ap (λ b. option_map_or told (if b then None else Some (Stated v)) false) is
same_or_stated told w v false is stated = once_stated told (Some (Told w)) v stated

-- where a removal is told, or isn't
removed_or_kept : (told : Due → Bool) (e : Entry) (b : Bool) → told Removed ≡ b → ((x : Option (List ℕ)) → x ≡ None → owed (Some e) x ≡ Some Removed) → owed_then told (if b then Some Removed else None) (Some e) None ≡ false
removed_or_kept told e true is gone = refl
removed_or_kept told e false is gone = ap (λ o. option_map_or told o false) (gone None refl) ∙ is

-- an accepted response that isn't the whole leaves nothing owed that can be told
partly : (told : Due → Bool) (e : Option Entry) (p : Option (List ℕ)) → ((v : List ℕ) → told (Stated v) ≡ true) → owed_then told (said told e p) e p ≡ false
partly told None None stated = refl
partly told None (Some v) stated = once_stated told None v (stated v)
partly told (Some (Told w)) None stated = removed_or_kept told (Told w) (told Removed) refl (λ x is. ap (owed (Some (Told w))) is)
partly told (Some (Told w)) (Some v) stated = same_or_stated told w v (bytes_eq w v) refl (stated v)
partly told (Some Unsure) None stated = removed_or_kept told Unsure (told Removed) refl (λ x is. ap (owed (Some Unsure)) is)
partly told (Some Unsure) (Some v) stated = once_stated told (Some Unsure) v (stated v)

-- and so does one that is the whole
wholly : (told : Due → Bool) (e : Option Entry) (p : Option (List ℕ)) → option_map_or told (owed (believed_accepted true false (option_map Stated p) e) p) false ≡ false
wholly told e None = refl
wholly told e (Some v) = not_owed told (Some v)

either_way : (whole : Bool) (told : Due → Bool) (e : Option Entry) (p : Option (List ℕ)) → ((v : List ℕ) → told (Stated v) ≡ true)
    → option_map_or told (owed (believed_accepted whole false (if whole then option_map Stated p else said told e p) e) p) false ≡ false
either_way true told e p stated = wholly told e p
either_way false told e p stated = partly told e p stated

-- whatever was believed before
pub offer_foretells : (v : VariantName) (t : TypeName) (s : Selection) (m : Entries) (b : Beliefs) (q : List ℕ)
    → option_map_or (is_told v t) (owed (believed_accepted (is_whole v t) false (finmap.get (offer v t s m b) q) (finmap.get b q)) (present s m q)) false ≡ false
offer_foretells v t s m b q =
    ap (λ o. option_map_or (is_told v t) (owed (believed_accepted (is_whole v t) false o (finmap.get b q)) (present s m q)) false) (offer_says_it v t s m b q)
    ∙ either_way (is_whole v t) (is_told v t) (finmap.get b q) (present s m q) (λ version. refl)

-- ---- what stays known

-- once an offer of these holdings was sent
pub sent_foretells : (v : VariantName) (t : TypeName) (s : Selection) (h : Holdings) (a : Account) (l : Listed) (o : Offer) (nonce : ℕ) → o ≡ offer v t s h.entries a.beliefs → Foretells v t s h (send a o nonce) (lists.with_sending l)
sent_foretells v t s h a l o nonce is = record {
  below = le-itself l.mark;
  settled = λ name untouched past.
      ap (λ (x : Offer). option_map_or (is_told v t) (owed (believed_accepted (is_whole v t) false (finmap.get x name) (finmap.get a.beliefs name)) (present s h.entries name)) false) is
      ∙ offer_foretells v t s h.entries a.beliefs name;
}

-- at a catalogue to which writes came
pub later_foretells : (v : VariantName) (t : TypeName) (s : Selection) (h later : Holdings) (a : Account) (l : Listed) → IsLater h later → l.mark ≤ h.changes → Foretells v t s h a l → Foretells v t s later a l
later_foretells v t s h later a l is counted known =
    both_hold (IsForetold v t s later a.beliefs l.mark) a.sent l.sent_mark
    (λ sent m here there.
    let told = both_at (IsForetold v t s h a.beliefs l.mark) a.sent l.sent_mark sent m here there known in
    let low : m ≤ h.changes = le-onward m l.mark h.changes told.below counted in
    record {
      below = told.below;
      settled = λ name untouched past.
          let entry = is.same name (past_more later m h.changes name low past) in
          ap (λ o. option_map_or (is_told v t) (owed (believed_accepted (is_whole v t) false (finmap.get sent.offer name) (finmap.get a.beliefs name)) (option_and_then (version_shown s name) o)) false) entry
          ∙ told.settled name untouched (is.past name m low past);
    })

-- once the list was looked through
pub looked_foretells : (v : VariantName) (t : TypeName) (s : Selection) (h : Holdings) (a : Account) (l new : Listed) → KeepsSending l new → Foretells v t s h a l → Foretells v t s h a new
looked_foretells v t s h a l new keeps known =
    both_hold (IsForetold v t s h a.beliefs new.mark) a.sent new.sent_mark
    (λ sent m here there.
    let told = both_at (IsForetold v t s h a.beliefs l.mark) a.sent l.sent_mark sent m here (sym keeps.sent_mark ∙ there) known in
    record { below = le-onward m l.mark new.mark told.below keeps.mark; settled = told.settled })

-- ---- a request that doesn't answer

-- a name that wasn't touched, by a touch more either
touched_neither : (sent : Sent) (touch : Touch) (name : List ℕ) → was_touched (touched_since sent touch) name ≡ false → (was_touched sent name ≡ false) × (touches touch name ≡ false)
touched_neither sent touch name e =
    let both : (was_touched sent name || touches touch name) ≡ false =
    ap (λ b. was_touched sent name || b) (sym (or-false (touches touch name))) ∙ sym (list_any-append (λ t. touches t name) sent.touched (touch ∷ [])) ∙ e in
    (first_false (was_touched sent name) (touches touch name) both, second_false (was_touched sent name) (touches touch name) both)

-- a name that a request neither touches nor says a version of
left_alone : (names : Names) (b : Beliefs) (q : List ℕ) → touches names.touched q ≡ false → finmap.get names.versions q ≡ None → finmap.get (beliefs_after names b) q ≡ finmap.get b q
left_alone names b q untouched none =
    resumed_by_name names.versions (beliefs_taken names.interest names.touched names.mentioned b) q
    ∙ resumed_at (finmap.get names.versions q) (finmap.get (beliefs_taken names.interest names.touched names.mentioned b) q) none
    ∙ untouched_keeps_belief names.interest names.touched names.mentioned b q untouched

-- the response that is unanswered once a request was taken
sent_taken : (v : VariantName) (t : TypeName) (a : Account) (names : Names) (rejects ans : Bool) (o : Option Sent) → a.sent ≡ o
    → (taken (if ans then option_map_or (λ sent. answered v t a sent rejects) o a else a) names).sent ≡ (if ans then None else option_map (λ sent. touched_since sent names.touched) o)
sent_taken v t a names rejects true None is = ap (option_map (λ sent. touched_since sent names.touched)) is
sent_taken v t a names true true (Some sent) is = refl
sent_taken v t a names false true (Some sent) is = refl
sent_taken v t a names rejects false o is = ap (option_map (λ sent. touched_since sent names.touched)) is

module _ (v : VariantName) (t : TypeName) (s next : Selection) (h : Holdings) (a : Account) (names : Names) (l wide : Listed) where
  touched_is_foretold : (sent : Sent) (m : ℕ) → (l.mark ≤ wide.mark) → ((name : List ℕ) → finmap.get names.versions name ≡ None) → StaysPresent s next h l.mark names.touched → IsForetold v t s h a.beliefs l.mark sent m
      → IsForetold v t next h (beliefs_after names a.beliefs) wide.mark (touched_since sent names.touched) m
  touched_is_foretold sent m high none stays told = record {
    below = le-onward m l.mark wide.mark told.below high;
    settled = λ name untouched past.
        let parts = touched_neither sent names.touched name untouched in
        (λ i. option_map_or (is_told v t)
        (owed (believed_accepted (is_whole v t) false (finmap.get sent.offer name) (left_alone names a.beliefs name parts.1 (none name) i)) (sym (stays name parts.1 (past_more h m l.mark name told.below past)) i)) false)
        ∙ told.settled name parts.0 past;
  }

  -- by cases on what is unanswered, and on the mark that is kept
  taken_at : (ans : Bool) (o : Option Sent) (w : Option ℕ) → a.sent ≡ o → IfSome w (λ m. (l.sent_mark ≡ Some m) × (l.mark ≤ wide.mark)) → IfSome w (λ m. (name : List ℕ) → finmap.get names.versions name ≡ None)
      → IfSome a.sent (λ sent. IfSome l.sent_mark (IsForetold v t s h a.beliefs l.mark sent)) → StaysPresent s next h l.mark names.touched → (b : Beliefs) → (ans ≡ false → b ≡ beliefs_after names a.beliefs)
      → IfSome (if ans then None else option_map (λ sent. touched_since sent names.touched) o) (λ sent. IfSome w (IsForetold v t next h b wide.mark sent))
  taken_at true o w is kept none known stays b left = tt
  taken_at false None w is kept none known stays b left = tt
  taken_at false (Some sent) None is kept none known stays b left = tt
  taken_at false (Some sent) (Some m) is kept none known stays b left =
      subst (λ x. IsForetold v t next h x wide.mark (touched_since sent names.touched) m) (sym (left refl))
      (touched_is_foretold sent m kept.1 none stays (both_at (IsForetold v t s h a.beliefs l.mark) a.sent l.sent_mark sent m is kept.0 known))

  pub taken_is_foretold : (nonce : List ℕ) (rejects : Bool) → IfSome wide.sent_mark (λ m. (l.sent_mark ≡ Some m) × (l.mark ≤ wide.mark)) → IfSome wide.sent_mark (λ m. (name : List ℕ) → finmap.get names.versions name ≡ None)
      → IfSome a.sent (λ sent. IfSome l.sent_mark (IsForetold v t s h a.beliefs l.mark sent)) → StaysPresent s next h l.mark names.touched
      → IfSome (taken (settled v t a nonce rejects) names).sent (λ sent. IfSome wide.sent_mark (IsForetold v t next h (taken (settled v t a nonce rejects) names).beliefs wide.mark sent))
  taken_is_foretold nonce rejects kept none known stays =
      let b : Beliefs = (taken (settled v t a nonce rejects) names).beliefs in
      subst (λ o. IfSome o (λ sent. IfSome wide.sent_mark (IsForetold v t next h b wide.mark sent))) (sym (sent_taken v t a names rejects (answers a nonce) a.sent refl))
      (taken_at (answers a nonce) a.sent wide.sent_mark refl kept none known stays b
      (λ no. ap (λ x. (taken (if x then option_map_or (λ sent. answered v t a sent rejects) a.sent a else a) names).beliefs) no))

-- ---- a request that accepts

-- an account that accepts has a response that is unanswered
accepted_sent : (rejects told : Bool) (o : Option Sent) → (not rejects && (is_some o && told)) ≡ true → is_some o ≡ true
accepted_sent true told o is = absurd cc
accepted_sent false told None is = absurd cc
accepted_sent false told (Some sent) is = refl

settles : (v : VariantName) (t : TypeName) (a : Account) (rejects ans : Bool) (o : Option Sent) (sent : Sent) → o ≡ Some sent → (not rejects && ans) ≡ true
    → (if ans then option_map_or (λ x. answered v t a x rejects) o a else a) ≡ accept v t a sent
settles v t a true ans o sent is accepting = absurd cc
settles v t a false false o sent is accepting = absurd cc
settles v t a false true o sent is accepting = ap (λ x. option_map_or (λ y. answered v t a y false) x a) is

module _ (v : VariantName) (t : TypeName) (old : Books) (l : Listed) (nonce : List ℕ) (rejects : Bool) (names : Names) (touched : ListsTouched v t old (accepts old.account nonce rejects) names l) where
  module _ (sent : Sent) (here : old.account.sent ≡ Some sent) (s next : Selection) (h : Holdings) (fits : Fits v t s h old) (stays : StaysPresent s next h old.listed.mark names.touched) where
    abbrev after : Account
    after = taken (accept v t old.account sent) names

    known : IsForetold v t s h old.account.beliefs old.listed.mark sent l.mark
    known = both_at (IsForetold v t s h old.account.beliefs old.listed.mark) old.account.sent old.listed.sent_mark sent l.mark here touched.mark fits.foretold

    since : (name : List ℕ) → is_listed l name ≡ false → was_touched sent name ≡ false
    since = subst (λ o. IfSome o (λ x. (name : List ℕ) → is_listed l name ≡ false → was_touched x name ≡ false)) here touched.since

    accepted_fits : Fits v t next h (record { account = after; listed = l })
    accepted_fits = record {
      list = record {
        counted = le-onward l.mark old.listed.mark h.changes known.below fits.list.counted;
        others = λ name out past.
            (λ i. option_map_or (is_told v t)
            (owed ((left_alone names (beliefs_accepted (is_whole v t) sent old.account.beliefs) name (touched.untouched name out) (touched.unsaid name out)
            ∙ accepted_by_name (is_whole v t) sent old.account.beliefs name
            ∙ ap (λ x. believed_accepted (is_whole v t) x (finmap.get sent.offer name) (finmap.get old.account.beliefs name)) (since name out)) i)
            (sym (stays name (touched.untouched name out) (past_more h l.mark old.listed.mark name known.below past)) i)) false)
            ∙ known.settled name (since name out) past;
      };
      foretold = tt;
    }

  accepted_at : (o : Option Sent) → old.account.sent ≡ o → is_some o ≡ true → FitsNext v t names.touched old (record { account = taken (settled v t old.account nonce rejects) names; listed = l })
  accepted_at None here there s next h fits stays = absurd cc
  accepted_at (Some sent) here there s next h fits stays =
      subst (λ (x : Account). Fits v t next h (record { account = taken x names; listed = l })) (sym (settles v t old.account rejects (answers old.account nonce) old.account.sent sent here touched.accepted))
      (accepted_fits sent here s next h fits stays)

  pub acceptance_fits : FitsNext v t names.touched old (record { account = taken (settled v t old.account nonce rejects) names; listed = l })
  acceptance_fits = accepted_at old.account.sent refl (accepted_sent rejects (bytes_eq nonce (nonce_text old.account.nonce)) old.account.sent touched.accepted)

pub acceptance_keeps_fitting : AcceptanceKeepsFitting
acceptance_keeps_fitting v t old l nonce rejects names touched = acceptance_fits v t old l nonce rejects names touched

-- the same of books
pub accepted_books_fit : (v : VariantName) (t : TypeName) (old new : Books) (nonce : List ℕ) (rejects : Bool) (names : Names) → ListsTouched v t old (accepts old.account nonce rejects) names new.listed
    → new.account ≡ taken (settled v t old.account nonce rejects) names → FitsNext v t names.touched old new
accepted_books_fit v t old new nonce rejects names touched left s next h fits stays =
    subst (λ (x : Account). Fits v t next h (record { account = x; listed = new.listed })) (sym left) (acceptance_fits v t old new.listed nonce rejects names touched s next h fits stays)

-- ---- books

pub sent_books_fit : SentBooksFit
sent_books_fit v t s h b nonce fits = record {
  list = record { counted = fits.list.counted; others = fits.list.others };
  foretold = sent_foretells v t s h b.account b.listed (offer v t s h.entries b.account.beliefs) nonce refl;
}

pub later_books_fit : LaterBooksFit
later_books_fit v t s h later b is fits = record {
  list = later_holdings_fit v t s h later b.account.beliefs b.listed is fits.list;
  foretold = later_foretells v t s h later b.account b.listed is fits.list.counted fits.foretold;
}

pub refreshed_books_fit : RefreshedBooksFit
refreshed_books_fit v t s h b numbered fits = record {
  list = refreshed_list_fits v t s h b.account.beliefs b.listed numbered fits.list;
  foretold = looked_foretells v t s h b.account b.listed (lists.refreshed h b.listed) (record { sent_mark = refl; mark = fits.list.counted }) fits.foretold;
}

pub pruned_books_fit : PrunedBooksFit
pruned_books_fit v t s h b fits = record {
  list = pruned_list_fits v t s h b.account.beliefs b.listed fits.list;
  foretold = looked_foretells v t s h b.account b.listed (pruned v t s h b.account.beliefs b.listed) (record { sent_mark = refl; mark = le-itself b.listed.mark }) fits.foretold;
}
