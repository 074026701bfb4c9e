-- When the list of a session suffices: from the start, after a request of either variant, after a look at what changed, and once
-- writes came.
use Rattle.std.proofs.Common.{◌≡◌, ℕ, ◌≤◌, List, Bool, true, false, Option, Some, None, Result, Ok, Err, refl, sym, ap, subst, ◌∙◌}
use Rattle.std.specs.Prelude.{is_some, if◌then◌else◌, OnOk, OnErr}
use Rattle.std.specs.Option.{option_and_then}
use Rattle.std.specs.FinMap as finmap
use Rattle.xds_resource.specs.declared.refusal.Refusal.{Refusal}
use Rattle.xds_resource.specs.declared.types.TypeName.{TypeName}
use Rattle.xds_resource.specs.Writes.{StampedWrite}
use Rattle.xds_interest.specs.Interests.{Selection, covers}
use Rattle.xds_interest.specs.Asked.{Asked, unasked, sotw_asked, delta_asked, IsStarOfComplete}
use Rattle.xds_interest.specs.Delta.{Mention}
use Rattle.xds_interest.specs.Touches.{Touch, touches, sotw_touch, delta_touch}
use Rattle.xds_interest.proofs.AskedLaws.{kept_star_is_of_complete, untouched_keeps_cover_of_kept, untouched_keeps_cover_of_kept_in_delta}
use Rattle.xds_catalogue.specs.Holdings.{Holdings, Latest}
use Rattle.xds_ledger.specs.declared.variant.VariantName.{VariantName}
use Rattle.xds_ledger.specs.Owed.{live_version, version_shown, is_owed}
use Rattle.xds_ledger.specs.Listed as lists
use Rattle.xds_ledger.specs.Listed.{Listed, IsPast, IsLater, StaysSufficient, relisted}
use Rattle.xds_ledger.proofs.ByName.{present_absent}
use Rattle.xds_ledger.proofs.Choosing.{le-itself}
use Rattle.xds_ledger.proofs.Fitting.{new_list_fits, none_at_first, later_holdings_fit, keeps_itself}
use Rattle.xds_ledger.proofs.Foretelling.{sent_foretells, later_foretells, looked_foretells}
use Rattle.xds_ledger.specs.Ledgers.{Account}
use Rattle.xds_ledger.specs.Offers.{Offer, offer}
use Rattle.xds_ledger.specs.Lists.{Books, Kept, Fits, Foretells, new_kept, sent_kept, FitsNext, StaysPresent, SessionFits, StaysFit}
use Rattle.xds_ledger.specs.Sessions.{Session, IsNext}
use Rattle.xds_ledger.proofs.Polling.{next_offer}
use Rattle.xds_ledger.specs.BookLaws.{SentSessionFits}

-- before the first request every list suffices
pub new_kept_fits : (v : VariantName) (t : TypeName) (cluster : List ℕ) (h : Holdings) → SessionFits v t h (new_kept cluster)
new_kept_fits v t cluster h = record { list = new_list_fits v t (unasked cluster).interest h; foretold = tt; unbegun = λ _. refl; star = (kept_star_is_of_complete t).0 cluster }

-- once writes came
pub later_session_fits : (v : VariantName) (t : TypeName) (h later : Holdings) (k : Kept) → IsLater h later → SessionFits v t h k → SessionFits v t later k
later_session_fits v t h later k is fits = record {
  list = later_holdings_fit v t k.session.asked.interest h later k.session.account.beliefs k.listed is fits.list;
  foretold = later_foretells v t k.session.asked.interest h later k.session.account k.listed is fits.list.counted fits.foretold;
  unbegun = fits.unbegun;
  star = fits.star;
}

shown_alike : (s next : Selection) (name : List ℕ) (w : StampedWrite) → covers s name w.groups ≡ covers next name w.groups → version_shown s name w ≡ version_shown next name w
shown_alike s next name w same = ap (λ b. if b then live_version w else None) same

present_alike : (s next : Selection) (name : List ℕ) (o : Option StampedWrite) → ((groups : List (List ℕ)) → covers s name groups ≡ covers next name groups) → option_and_then (version_shown s name) o ≡ option_and_then (version_shown next name) o
present_alike s next name None same = refl
present_alike s next name (Some w) same = shown_alike s next name w (same w.groups)

never_both : {X : Type 0} (b : Bool) → b ≡ true → b ≡ false → X
never_both b yes_it_is not_it = let never : true ≡ false = sym yes_it_is ∙ not_it in absurd cc

-- state of the world: after a request that is taken
pub list_stays_fit : (v : VariantName) (t : TypeName) (before : Kept) (names : List (List ℕ)) (asked : Asked) (touched : Touch) (new : Books) → asked ≡ sotw_asked t before.session.asked names
    → touched ≡ sotw_touch before.session.asked.interest asked.interest → FitsNext v t touched (record { account = before.session.account; listed = before.listed }) new
    → StaysFit v t before (record { session = record { asked = asked; account = new.account }; listed = new.listed })
list_stays_fit v t before names asked touched new is touches_it next h fits =
    let old : Selection = before.session.asked.interest in
    let stays : StaysPresent old asked.interest h before.listed.mark touched =
    λ name out past. present_alike old asked.interest name (finmap.get h.entries name)
    (λ groups. sym (untouched_keeps_cover_of_kept t before.session.asked names name groups (ap (λ i. touches (sotw_touch old i) name) (sym (ap (λ (a : Asked). a.interest) is)) ∙ ap (λ x. touches x name) (sym touches_it) ∙ out))
    ∙ ap (λ (a : Asked). covers a.interest name groups) (sym is)) in
    let left = next old asked.interest h (record { list = fits.list; foretold = fits.foretold }) stays in
    record {
      list = left.list;
      foretold = left.foretold;
      unbegun = λ not_it. never_both asked.begun (ap (λ (a : Asked). a.begun) is) not_it;
      star = λ incomplete. ap (λ (a : Asked). a.interest.star) is ∙ (kept_star_is_of_complete t).1 before.session.asked names incomplete;
    }

stays_at : (t : TypeName) (old asked : Asked) (m : Mention) (touched : Touch) (h : Holdings) (mark : ℕ) (begun : Bool) → old.begun ≡ begun → asked ≡ delta_asked t old m → touched ≡ delta_touch t m → (old.begun ≡ false → mark ≡ 0)
    → IsStarOfComplete t old → StaysPresent old.interest asked.interest h mark touched
stays_at t old asked m touched h mark true begun is touches_it unbegun star name out past =
    present_alike old.interest asked.interest name (finmap.get h.entries name)
    (λ groups. sym (untouched_keeps_cover_of_kept_in_delta t old m name groups begun star (ap (λ x. touches x name) (sym touches_it) ∙ out)) ∙ ap (λ (a : Asked). covers a.interest name groups) (sym is))
stays_at t old asked m touched h mark false begun is touches_it unbegun star name out past =
    let none : finmap.get h.entries name ≡ None = none_at_first h name (subst (λ n. IsPast h n name) (unbegun begun) past) in
    present_absent old.interest h.entries name none ∙ sym (present_absent asked.interest h.entries name none)

-- delta: after a request that is taken, the first or a later one
pub mention_stays_fit : (v : VariantName) (t : TypeName) (before : Kept) (m : Mention) (asked : Asked) (touched : Touch) (new : Books) → asked ≡ delta_asked t before.session.asked m → touched ≡ delta_touch t m
    → FitsNext v t touched (record { account = before.session.account; listed = before.listed }) new
    → StaysFit v t before (record { session = record { asked = asked; account = new.account }; listed = new.listed })
mention_stays_fit v t before m asked touched new is touches_it next h fits =
    let old : Asked = before.session.asked in
    let left = next old.interest asked.interest h (record { list = fits.list; foretold = fits.foretold }) (stays_at t old asked m touched h before.listed.mark old.begun refl is touches_it fits.unbegun fits.star) in
    record {
      list = left.list;
      foretold = left.foretold;
      unbegun = λ not_it. never_both asked.begun (ap (λ (a : Asked). a.begun) is) not_it;
      star = λ incomplete. ap (λ (a : Asked). a.interest.star) is ∙ (kept_star_is_of_complete t).2 old m incomplete;
    }

-- once an offer was sent that was made of these holdings
pub sent_fits : (v : VariantName) (t : TypeName) (h : Holdings) (k : Kept) (o : Offer) (n : ℕ) → o ≡ offer v t k.session.asked.interest h.entries k.session.account.beliefs → SessionFits v t h k → SessionFits v t h (sent_kept k o n)
sent_fits v t h k o n is fits = record {
  list = record { counted = fits.list.counted; others = fits.list.others };
  foretold = sent_foretells v t k.session.asked.interest h k.session.account k.listed o n is;
  unbegun = fits.unbegun;
  star = fits.star;
}

pub sent_session_books_fit : SentSessionFits
sent_session_books_fit v t h k n fits = sent_fits v t h k (offer v t k.session.asked.interest h.entries k.session.account.beliefs) n refl fits

-- the list of the ledger of a session, as a method sees it that opened the session
pub ledger_fits : (v : VariantName) (t : TypeName) (h : Holdings) (asked : Asked) (b : Books) (now : Kept) (interest : Selection) → ◌≡◌ {A = Kept} (record { session = record { asked = asked; account = b.account }; listed = b.listed }) now
    → interest ≡ asked.interest → SessionFits v t h now → Fits v t interest h b
ledger_fits v t h asked b now interest same is fits =
    let inside : SessionFits v t h (record { session = record { asked = asked; account = b.account }; listed = b.listed }) = subst (SessionFits v t h) (sym same) fits in
    subst (λ i. Fits v t i h b) (sym is) (record { list = inside.list; foretold = inside.foretold })

-- and of the session once the ledger's list changed and suffices
pub session_fits_back : (v : VariantName) (t : TypeName) (h : Holdings) (asked : Asked) (b new : Books) (now : Kept) (interest : Selection) → ◌≡◌ {A = Kept} (record { session = record { asked = asked; account = b.account }; listed = b.listed }) now
    → interest ≡ asked.interest → new.account ≡ b.account → asked.begun ≡ true → Fits v t interest h new → SessionFits v t h now → SessionFits v t h (record { session = record { asked = asked; account = new.account }; listed = new.listed })
session_fits_back v t h asked b new now interest same is kept begun books fits = record {
  list = subst (λ i. lists.Fits v t i h new.account.beliefs new.listed) is books.list;
  foretold = subst (λ i. Foretells v t i h new.account new.listed) is books.foretold;
  unbegun = λ not_it. never_both asked.begun begun not_it;
  star = subst (λ (k : Kept). IsStarOfComplete t k.session.asked) (sym same) fits.star;
}

-- and once what changed was looked at
pub refreshed_session_fits : (v : VariantName) (t : TypeName) (h : Holdings) (asked : Asked) (b new : Books) (now : Kept) → ◌≡◌ {A = Kept} (record { session = record { asked = asked; account = b.account }; listed = b.listed }) now
    → new.account ≡ b.account → asked.begun ≡ true → StaysSufficient h b.listed new.listed → SessionFits v t h now → SessionFits v t h (record { session = record { asked = asked; account = new.account }; listed = new.listed })
refreshed_session_fits v t h asked b new now same kept begun stays fits =
    let before = ledger_fits v t h asked b now asked.interest same refl fits in
    let books : Fits v t asked.interest h new = record {
      list = subst (λ (a : Account). lists.Fits v t asked.interest h a.beliefs new.listed) (sym kept) (stays.fits v t asked.interest b.account.beliefs before.list);
      foretold = subst (λ (a : Account). Foretells v t asked.interest h a new.listed) (sym kept) (looked_foretells v t asked.interest h b.account b.listed new.listed (stays.sending before.list.counted) before.foretold);
    } in
    session_fits_back v t h asked b new now asked.interest same refl kept begun books fits

-- what is kept of the list, whatever became of a look
pub suffices_or : {X : Type 0} (h : Holdings) (old new : Listed) (r : Result X Refusal) → OnOk r (StaysSufficient h old new) → OnErr r (new ≡ old) → StaysSufficient h old new
suffices_or h old new (Ok x) stays same = stays
suffices_or h old new (Err e) stays same = record { fits = λ v t s b fits. subst (lists.Fits v t s h b) (sym same) fits; sending = λ low. keeps_itself old new same }

-- and once an offer of these holdings was sent
pub next_fits : {R : Type 0} (v : VariantName) (t : TypeName) (h : Holdings) (respond : Offer → ℕ → R) (k now after : Kept) (count : ℕ) (o : Offer) (d : R) (n : ℕ) → IsNext v t h.entries respond now.session count (Some (o, d, n))
    → k.session ≡ now.session → after ≡ sent_kept k o n → SessionFits v t h k → SessionFits v t h after
next_fits v t h respond k now after count o d n is same leaves fits =
    subst (SessionFits v t h) (sym leaves)
    (sent_fits v t h k o n (next_offer v t h.entries respond now.session count o d n is ∙ ap (λ (s : Session). offer v t s.asked.interest h.entries s.account.beliefs) (sym same)) fits)

unowed_by : (owed there : Bool) → (owed ≡ true → there ≡ true) → there ≡ false → owed ≡ false
unowed_by false there known out = refl
unowed_by true there known out = let never : true ≡ false = sym (known refl) ∙ out in absurd cc

-- rule: owed
-- once names were listed in place of others, and something is owed of no other name
pub relisted_fits : (v : VariantName) (t : TypeName) (s : Selection) (h : Holdings) (b : Books) (names : Latest) (changes : ℕ) → changes ≡ h.changes → ((q : List ℕ) → is_owed v t s h.entries b.account.beliefs q ≡ true → is_some (finmap.get names q) ≡ true)
    → Fits v t s h b → Fits v t s h (record b { listed = relisted changes names b.listed })
relisted_fits v t s h b names changes is owed fits = record {
  list = record {
    counted = subst (λ n. n ≤ h.changes) (sym is) (le-itself h.changes);
    others = λ name out past. unowed_by (is_owed v t s h.entries b.account.beliefs name) (is_some (finmap.get names name)) (owed name) out;
  };
  foretold = looked_foretells v t s h b.account b.listed (relisted changes names b.listed) (record { sent_mark = refl; mark = subst (λ n. b.listed.mark ≤ n) (sym is) fits.list.counted }) fits.foretold;
}
