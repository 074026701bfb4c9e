-- That a request needs to look at no more of the interest than what it leaves of the names that it touches.
use Rattle.std.proofs.Common.{◌≡◌, ℕ, List, Bool, true, false, ◌||◌, ◌++◌, Option, refl, sym, ap, ◌∙◌}
use Rattle.std.specs.Prelude.{is_some, if◌then◌else◌}
use Rattle.std.specs.FinMap as finmap
use Rattle.std.specs.FinSet as set
use Rattle.xds_resource.specs.declared.types.TypeName.{TypeName}
use Rattle.xds_resource.specs.Writes.{text_cmp}
use Rattle.xds_resource.specs.Names.{tabulate}
use Rattle.xds_interest.specs.Interests.{Selection, reaches}
use Rattle.xds_interest.specs.Asked.{delta_asked, wanted_by}
use Rattle.xds_interest.specs.Touches.{Touch, touches, delta_touch}
use Rattle.xds_interest.proofs.AskedLaws.{wanted_by-reaches}
use Rattle.xds_message.specs.DeltaMessages.{DeltaRequest}
use Rattle.xds_ledger.specs.declared.entry.Entry.{Entry}
use Rattle.xds_ledger.specs.declared.variant.VariantName.TheVariants.{Delta}
use Rattle.xds_ledger.specs.Ledgers.{Account, believed_touched, noted, settled, touch, resume}
use Rattle.xds_ledger.specs.Sessions.{Session}
use Rattle.xds_sessions.specs.DeltaParts.{account_after, session_taken}
use Rattle.xds_sessions.specs.DeltaPolls.{mention}

-- interests that reach the same of the names that a request touches
abbrev ReachAlike : Touch → Selection → Selection → Type 0
ReachAlike touched s n = (name : List ℕ) → touches touched name ≡ true → reaches s name ≡ reaches n name

believed_alike : (touched reached too mentioned : Bool) (before : Option Entry) → (touched ≡ true → reached ≡ too)
    → (if touched then believed_touched reached mentioned before else before) ≡ (if touched then believed_touched too mentioned before else before)
believed_alike true reached too mentioned before same = ap (λ b. believed_touched b mentioned before) (same refl)
believed_alike false reached too mentioned before same = refl

touch_alike : (a : Account) (s n : Selection) (touched : Touch) (mentioned : set.FinSet text_cmp) → ReachAlike touched s n → touch a s touched mentioned ≡ touch a n touched mentioned
touch_alike a s n touched mentioned alike = (λ i. record (noted a touched) {
  beliefs = tabulate
      (λ name. believed_alike (touches touched name) (reaches s name) (reaches n name) (set.contains mentioned name) (finmap.get a.beliefs name) (alike name) i)
      (set.items mentioned ++ finmap.keys a.beliefs);
})

some_touched : (t : TypeName) (m : DeltaRequest) (name : List ℕ) → (delta_touch t (mention m)).all ≡ false → touches (delta_touch t (mention m)) name ≡ true
    → set.contains (delta_touch t (mention m)).names name ≡ true
some_touched t m name some touched = ap (λ b. b || set.contains (delta_touch t (mention m)).names name) (sym some) ∙ touched

-- what a later request leaves, from what it leaves of the names that it touches
pub taken_in_place : (t : TypeName) (s now : Session) (m : DeltaRequest) (touched : Touch) (wanted : Selection) → s.asked.begun ≡ true → touched ≡ delta_touch t (mention m) → touched.all ≡ false
    → wanted ≡ wanted_by t s.asked (mention m) → now.asked ≡ delta_asked t s.asked (mention m) → now.account ≡ account_after t s.account m wanted touched touched.names finmap.empty
    → now ≡ session_taken t s m
taken_in_place t s now m touched wanted later is some here asked account =
    let whole = (delta_asked t s.asked (mention m)).interest in
    let d = delta_touch t (mention m) in
    let a = settled Delta t s.account m.response_nonce (is_some m.error_detail) in
    let alike : ReachAlike d (wanted_by t s.asked (mention m)) whole =
    λ name hit. wanted_by-reaches t s.asked (mention m) name (some_touched t m name (ap (λ x. x.all) (sym is) ∙ some) hit) in
    let told : now.account ≡ account_after t s.account m whole d d.names finmap.empty =
    account ∙ (λ i. account_after t s.account m (here i) (is i) (is i).names finmap.empty) ∙ ap (λ x. resume x finmap.empty) (touch_alike a (wanted_by t s.asked (mention m)) whole d d.names alike) in
    (λ i. record {
      asked = asked i;
      account = (told ∙ (λ j. account_after t s.account m whole d (if sym later j then d.names else whole.names) (if sym later j then finmap.empty else m.initial_resource_versions))) i;
    })
