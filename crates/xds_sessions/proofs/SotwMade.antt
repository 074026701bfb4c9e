-- That what the code makes is the response, and what it leaves is the session.
use Rattle.std.proofs.Common.{◌≡◌, ℕ, List, Bool, true, Option, sym, ap, ◌∙◌, not}
use Rattle.std.specs.Prelude.{if◌then◌else◌}
use Rattle.std.specs.FinMap as finmap
use Rattle.xds_resource.specs.declared.types.TypeName.{TypeName}
use Rattle.xds_resource.specs.Writes.{StampedWrite, text_cmp}
use Rattle.xds_interest.specs.Asked.{Asked, sotw_asked}
use Rattle.std.specs.FinSet as set
use Rattle.xds_interest.specs.Touches.{Touch, sotw_touch}
use Rattle.xds_ledger.specs.declared.variant.VariantName.TheVariants.{StateOfTheWorld}
use Rattle.xds_ledger.specs.Ledgers.{Account, settled, touch, resume}
use Rattle.xds_ledger.specs.Sessions.{Session, is_stale}
use Rattle.xds_interest.specs.Interests.{Selection}
use Rattle.xds_sessions.specs.SotwPolls.{take_list}

abbrev pub body_of : StampedWrite → Option (List ℕ)
body_of w = w.body

-- a request that is taken leaves what is kept of the names, and the account with its names taken
pub list_taken : (t : TypeName) (s : Session) (nonce : List ℕ) (rejects : Bool) (names : List (List ℕ)) (asked : Asked) (account : Account) → not (is_stale s nonce) ≡ true → asked ≡ sotw_asked t s.asked names
    → account ≡ resume (touch (settled StateOfTheWorld t s.account nonce rejects) asked.interest (sotw_touch s.asked.interest asked.interest) asked.interest.names) finmap.empty
    → ◌≡◌ {A = Session} (record { asked = asked; account = account }) (take_list t s nonce rejects names)
list_taken t s nonce rejects names asked account holds is left =
    let after : Asked → Account =
    λ (a : Asked). resume (touch (settled StateOfTheWorld t s.account nonce rejects) a.interest (sotw_touch s.asked.interest a.interest) a.interest.names) finmap.empty in
    let all : Session = record { asked = sotw_asked t s.asked names; account = after (sotw_asked t s.asked names) } in
    (λ i. record { asked = is i; account = (left ∙ ap after is) i }) ∙ sym (ap (λ b. if b then all else s) holds)

-- the same from what the calls ensure
pub list_taken_by : (t : TypeName) (s before : Session) (nonce : List ℕ) (rejects : Bool) (names : List (List ℕ)) (asked : Asked) (account : Account) (interest : Selection) (touched : Touch) (mentioned : set.FinSet text_cmp)
    → before ≡ s → not (is_stale s nonce) ≡ true → asked ≡ sotw_asked t before.asked names → interest ≡ asked.interest → touched ≡ sotw_touch before.asked.interest interest → mentioned ≡ interest.names
    → account ≡ resume (touch (settled StateOfTheWorld t before.account nonce rejects) interest touched mentioned) finmap.empty
    → ◌≡◌ {A = Session} (record { asked = asked; account = account }) (take_list t s nonce rejects names)
list_taken_by t s before nonce rejects names asked account interest touched mentioned same holds kept covers touches says left =
    list_taken t s nonce rejects names asked account holds (kept ∙ ap (λ (x : Session). sotw_asked t x.asked names) same)
    (left ∙ (λ i. resume (touch (settled StateOfTheWorld t (same i).account nonce rejects) (covers i) ((touches ∙ (λ j. sotw_touch (same j).asked.interest (covers j))) i) ((says ∙ (λ j. (covers j).names)) i)) finmap.empty))
