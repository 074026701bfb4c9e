-- That the list of a client suffices after each step of a test: after a request, and once a catalogue changed.
use Rattle.std.proofs.Common.{◌≡◌, ℕ, List, [], ◌∷◌, Option, Some, None, Result, Ok, Err, refl, sym, ap, subst, ◌∙◌}
use Rattle.std.specs.Prelude.{◌==◌, not, nat_lt, if◌then◌else◌, IfSome, OnOk, OnErr}
use Rattle.std.specs.Option.{option_and_then}
use Rattle.std.specs.FinMap as finmap
use Rattle.xds_resource.specs.declared.refusal.Refusal.{Refusal}
use Rattle.xds_resource.specs.declared.refusal.Refusal.TheVariants.{CounterSpent, NotFound}
use Rattle.xds_resource.specs.declared.types.TypeName.{TypeName}
use Rattle.xds_resource.specs.Refusals.{Gives}
use Rattle.xds_resource.specs.Resources.{NamedBody, written, deleted}
use Rattle.xds_resource.specs.Stamps.{max_counter}
use Rattle.xds_resource.specs.Writes.{StampedWrite, text_cmp}
use Rattle.xds_resource.proofs.Refusing.{unless_once, unless_twice, unless_thrice}
use Rattle.xds_interest.specs.Interests.{Selection, covers}
use Rattle.xds_interest.specs.Touches.{Touch, touches, sotw_touch}
use Rattle.xds_interest.proofs.AskedLaws.{sotw_touch_is_a_set}
use Rattle.xds_interest.proofs.Reaching.{untouched_keeps_cover}
use Rattle.xds_catalogue.specs.Holdings.{Holdings, IsCatalogue, nothing_held}
use Rattle.xds_catalogue.specs.Joins.{joined, joining, changes_by}
use Rattle.xds_catalogue.specs.Local.{greatest_counter, next_counter, putting, deleting, has_live}
use Rattle.xds_catalogue.proofs.Catalogues.{catalogue_of-IsCatalogue}
use Rattle.xds_ledger.specs.declared.variant.VariantName.{VariantName}
use Rattle.xds_ledger.specs.Owed.{live_version, version_shown}
use Rattle.xds_ledger.specs.Listed.{IsLater}
use Rattle.xds_ledger.specs.Offers.{Offer, offer}
use Rattle.xds_ledger.proofs.Fitting.{new_list_fits}
use Rattle.xds_ledger.proofs.Foretelling.{sent_books_fit}
use Rattle.xds_ledger.proofs.Later.{later_itself, joined_is_later}
use Rattle.xds_ledger.specs.Lists.{Books, new_books, sent_books, Fits, FitsNext, Kept, SessionFits, StaysFit, StaysPresent}

-- ---- a catalogue that changes

-- each write stands under its own name, and what is held came after what was
abbrev pub Follows : Holdings → Holdings → Type 0
Follows h later = IsCatalogue later.entries × IsLater h later

pub unchanged : (h : Holdings) → IsCatalogue h.entries → Follows h h
unchanged h named = (named, later_itself h)

joined_follows : (h later : Holdings) (ws : List StampedWrite) → IsCatalogue h.entries → later ≡ joined h ws → Follows h later
joined_follows h later ws named is = subst (Follows h) (sym is) (catalogue_of-IsCatalogue _, joined_is_later h ws named)

-- before anything was put
pub new_named : (h : Holdings) → h ≡ nothing_held → IsCatalogue h.entries
new_named h held q = subst (λ (o : Option StampedWrite). IfSome o (λ w. w.name ≡ q)) (sym (ap (λ (g : Holdings). finmap.get g.entries q) held ∙ finmap.get-empty text_cmp q)) tt

kept_follows : (h later : Holdings) → later ≡ h → IsCatalogue h.entries → Follows h later
kept_follows h later same named = subst (Follows h) (sym same) (unchanged h named)

-- once a resource was put, or not
pub put_follows : {X : Type 0} (h later : Holdings) (body : NamedBody) (groups : List (List ℕ)) (writer : ℕ) (r : Result X Refusal) (counter : X → ℕ) → Gives (λ x. (counter x, later)) r (putting h body groups writer) → OnErr r (later ≡ h)
    → IsCatalogue h.entries → Follows h later
put_follows h later body groups writer (Ok x) counter gives same named =
    let ws = written (next_counter h) writer body groups ∷ [] in
    joined_follows h later ws named (ap (λ p. p.1) (unless_twice (greatest_counter h.entries == max_counter) (h.changes == max_counter) CounterSpent CounterSpent (next_counter h, joined h ws) (counter x, later) gives))
put_follows h later body groups writer (Err e) counter gives same named = kept_follows h later same named

-- once one was deleted, or not
pub delete_follows : {X : Type 0} (h later : Holdings) (name : List ℕ) (writer : ℕ) (r : Result X Refusal) (counter : X → ℕ) → Gives (λ x. (counter x, later)) r (deleting h name writer) → OnErr r (later ≡ h) → IsCatalogue h.entries
    → Follows h later
delete_follows h later name writer (Ok x) counter gives same named =
    let ws = deleted (next_counter h) writer name ∷ [] in
    joined_follows h later ws named
    (ap (λ p. p.1) (unless_thrice (not (has_live h.entries name)) (greatest_counter h.entries == max_counter) (h.changes == max_counter) NotFound CounterSpent CounterSpent (next_counter h, joined h ws) (counter x, later) gives))
delete_follows h later name writer (Err e) counter gives same named = kept_follows h later same named

-- once a write was joined, or not
pub join_follows : (h later : Holdings) (ws : List StampedWrite) (r : Result ℕ Refusal) → Gives (λ n. (n, later)) r (joining h ws) → OnErr r (later ≡ h) → IsCatalogue h.entries → Follows h later
join_follows h later ws (Ok n) gives same named =
    joined_follows h later ws named (ap (λ p. p.1) (unless_once (nat_lt max_counter (joined h ws).changes) CounterSpent (changes_by h ws, joined h ws) (n, later) gives))
join_follows h later ws (Err e) gives same named = kept_follows h later same named

-- ---- a session

-- once it took a request, or not
pub session_takes : {X : Type 0} (v : VariantName) (t : TypeName) (h : Holdings) (old new : Kept) (r : Result X Refusal) → OnOk r (StaysFit v t old new) → OnErr r (new ≡ old) → SessionFits v t h old → SessionFits v t h new
session_takes v t h old new (Ok x) stays same fits = stays h fits
session_takes v t h old new (Err e) stays same fits = subst (SessionFits v t h) (sym same) fits

-- ---- a ledger

shown_alike : (old new : Selection) (name : List ℕ) (o : Option StampedWrite) → ((groups : List (List ℕ)) → covers old name groups ≡ covers new name groups) → option_and_then (version_shown old name) o ≡ option_and_then (version_shown new name) o
shown_alike old new name None same = refl
shown_alike old new name (Some w) same = ap (λ b. if b then live_version w else None) (same w.groups)

-- from one interest to another of the same cluster
pub stays_present : (old new : Selection) (h : Holdings) (mark : ℕ) (touched : Touch) → old.cluster ≡ new.cluster → touched ≡ sotw_touch old new → StaysPresent old new h mark touched
stays_present old new h mark touched same is name out past =
    shown_alike old new name (finmap.get h.entries name) (λ groups. untouched_keeps_cover old new name groups same (sym (sotw_touch_is_a_set old new name) ∙ ap (λ x. touches x name) (sym is) ∙ out))

-- before the first request
pub new_books_fit : (v : VariantName) (t : TypeName) (s : Selection) (h : Holdings) (b : Books) → b ≡ new_books → Fits v t s h b
new_books_fit v t s h b is = subst (Fits v t s h) (sym is) (record { list = new_list_fits v t s h; foretold = tt })

-- once a request was taken
pub books_taken : (v : VariantName) (t : TypeName) (old new : Selection) (h : Holdings) (before after : Books) (touched : Touch) → FitsNext v t touched before after → old.cluster ≡ new.cluster → touched ≡ sotw_touch old new → Fits v t old h before
    → Fits v t new h after
books_taken v t old new h before after touched next same is fits = next old new h fits (stays_present old new h before.listed.mark touched same is)

-- once an offer was sent
pub books_sent : (v : VariantName) (t : TypeName) (s : Selection) (h : Holdings) (before after : Books) (o : Offer) (nonce : ℕ) → o ≡ offer v t s h.entries before.account.beliefs → after ≡ sent_books before o nonce
    → Fits v t s h before → Fits v t s h after
books_sent v t s h before after o nonce made is fits = subst (Fits v t s h) (sym (is ∙ ap (λ x. sent_books before x nonce) made)) (sent_books_fit v t s h before nonce fits)
