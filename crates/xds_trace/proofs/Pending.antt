-- What holds of a name that waits for an answer: it is explicit in the interest, the client wasn't told it, and where the
-- response that is unanswered speaks of it, it was touched since. What a request makes of that.
use Rattle.std.proofs.Common.{◌≡◌, ℕ, List, ◌++◌, Bool, true, false, ◌&&◌, ◌||◌, not, Option, Some, None, refl, sym, ap, subst, ◌∙◌}
use Rattle.std.proofs.Math.Bool.{or-true}
use Rattle.std.specs.Prelude.{if◌then◌else◌, is_some, bytes_eq, option_map, ⊤}
use Rattle.std.specs.Option.{option_or}
use Rattle.std.specs.FinMap as finmap
use Rattle.std.specs.FinSet as set
use Rattle.xds_resource.specs.declared.types.TypeName.{TypeName}
use Rattle.xds_resource.specs.Types.{row}
use Rattle.xds_resource.specs.Writes.{text_cmp}
use Rattle.xds_resource.proofs.NameMaps.{get-tabulated, absent_key, in_neither}
use Rattle.xds_interest.specs.Interests.{Selection, reaches}
use Rattle.xds_interest.specs.Touches.{Touch, touches}
use Rattle.xds_interest.proofs.Listed.{list_any-push}
use Rattle.xds_ledger.specs.declared.variant.VariantName.{VariantName}
use Rattle.xds_ledger.specs.declared.entry.Entry.{Entry}
use Rattle.xds_ledger.specs.declared.entry.Entry.TheVariants.{Told, Unsure}
use Rattle.xds_ledger.specs.declared.entry.Due.{Due}
use Rattle.xds_ledger.specs.Variants.{is_delta, is_whole}
use Rattle.xds_ledger.specs.Owed.{Beliefs}
use Rattle.xds_ledger.specs.Believing.{Sent, touched_since, was_touched, believed_accepted, believed_touched, beliefs_resumed}
use Rattle.xds_ledger.proofs.BeliefsByName.{accepted_by_name, taken_by_name}
use Rattle.xds_ledger.proofs.Made.{resumed_absent}
use Rattle.xds_ledger.specs.Ledgers.{Account, nonce_text, settled, answered, touch, resume}
use Rattle.xds_trace.proofs.Accounts.{settled_as}

-- a client wasn't told of a name; of a delta client it isn't known what it holds
abbrev pub IsUntold : Bool → Option Entry → Type 0
IsUntold true e = e ≡ Some Unsure
IsUntold false e = (version : List ℕ) → e ≡ Some (Told version) → ⊥

-- a name of which the unanswered response speaks was touched since
abbrev pub IsNoted : Option Sent → List ℕ → Type 0
IsNoted None name = ⊤
IsNoted (Some x) name = is_some (finmap.get x.offer name) ≡ true → was_touched x name ≡ true

-- a name that waits, by an account
pub record Waits (delta : Bool) (k : Account) (name : List ℕ) : Type 0 where
  pub untold : IsUntold delta (finmap.get k.beliefs name)
  pub noted : IsNoted k.sent name

-- ---- by cases

unsure : (delta : Bool) → IsUntold delta (Some Unsure)
unsure true = refl
unsure false = λ version told. absurd cc

not_known : IsUntold false None
not_known version told = absurd cc

if_touched : (delta touched : Bool) (due : Due) → touched ≡ true → (whole : Bool) (e : Option Entry) → IsUntold delta (believed_accepted whole touched (Some due) e)
if_touched delta true due is whole e = unsure delta
if_touched delta false due is whole e = absurd cc

untold_accepted : (delta complete touched : Bool) (d : Option Due) (e : Option Entry) → IsUntold delta e → (is_some d ≡ true → touched ≡ true) → IsUntold delta (believed_accepted (not delta && complete) touched d e)
untold_accepted delta complete touched (Some due) e untold noted = if_touched delta touched due (noted refl) (not delta && complete) e
untold_accepted true complete touched None e untold noted = untold
untold_accepted false true true None e untold noted = untold
untold_accepted false true false None e untold noted = not_known
untold_accepted false false touched None e untold noted = untold

-- ---- an answer

accepted_waits : (v : VariantName) (t : TypeName) (k : Account) (x : Sent) (rejected : Bool) (name : List ℕ) → IsNoted (Some x) name → IsUntold (is_delta v) (finmap.get k.beliefs name)
    → Waits (is_delta v) (answered v t k x rejected) name
accepted_waits v t k x true name noted untold = record { untold = untold; noted = tt }
accepted_waits v t k x false name noted untold = record {
  untold = subst (IsUntold (is_delta v)) (sym (accepted_by_name (is_whole v t) x k.beliefs name)) (untold_accepted (is_delta v) (row t).is_complete (was_touched x name) (finmap.get x.offer name) (finmap.get k.beliefs name) untold noted);
  noted = tt;
}

settled_waits : (v : VariantName) (t : TypeName) (k : Account) (o : Option Sent) (same rejected : Bool) (name : List ℕ) → k.sent ≡ o → Waits (is_delta v) k name → Waits (is_delta v) (settled_as v t k o same rejected) name
settled_waits v t k None same rejected name sent waits = waits
settled_waits v t k (Some x) true rejected name sent waits = accepted_waits v t k x rejected name (subst (λ o. IsNoted o name) sent waits.noted) waits.untold
settled_waits v t k (Some x) false rejected name sent waits = waits

-- rule: awaited-names
-- a name that waits still does once a request settled a response
pub waits_settled : (v : VariantName) (t : TypeName) (k : Account) (nonce : List ℕ) (rejected : Bool) (name : List ℕ) → Waits (is_delta v) k name → Waits (is_delta v) (settled v t k nonce rejected) name
waits_settled v t k nonce rejected name waits = settled_waits v t k k.sent (bytes_eq nonce (nonce_text k.nonce)) rejected name refl waits

-- ---- the names of a request

-- beliefs once a client said what it holds, name by name
pub resumed_by_name : (versions : finmap.FinMap text_cmp (List ℕ)) (b : Beliefs) (name : List ℕ) → finmap.get (beliefs_resumed versions b) name ≡ option_or (option_map Told (finmap.get versions name)) (finmap.get b name)
resumed_by_name versions b name =
    get-tabulated (λ q. option_or (option_map Told (finmap.get versions q)) (finmap.get b q)) (finmap.keys versions ++ finmap.keys b) name
    (λ e. let parts = in_neither (finmap.keys versions) (finmap.keys b) name e in resumed_absent (finmap.get versions name) (finmap.get b name) (absent_key versions name parts.0) (absent_key b name parts.1))

untold_touched : (delta mentioned : Bool) (e : Option Entry) → IsUntold delta e → IsUntold delta (believed_touched true mentioned e)
untold_touched true mentioned e untold = ap (λ o. if mentioned || is_some o then Some Unsure else None) untold ∙ ap (λ b. if b then Some Unsure else None) (or-true mentioned)
untold_touched false true e untold = unsure false
untold_touched false false None untold = not_known
untold_touched false false (Some x) untold = unsure false

untold_taken : (delta reached mentioned touched : Bool) (e : Option Entry) → reached ≡ true → IsUntold delta e → IsUntold delta (if touched then believed_touched reached mentioned e else e)
untold_taken delta true mentioned true e reaches untold = untold_touched delta mentioned e untold
untold_taken delta true mentioned false e reaches untold = untold
untold_taken delta false mentioned touched e reaches untold = absurd cc

anew_taken : (delta reached mentioned touched : Bool) (e : Option Entry) → reached ≡ true → mentioned ≡ true → touched ≡ true → IsUntold delta (if touched then believed_touched reached mentioned e else e)
anew_taken delta reached mentioned touched e r m t = subst (IsUntold delta) (sym (λ i. if t i then believed_touched (r i) (m i) e else e)) (unsure delta)

noted_on : (o : Option Sent) (touched : Touch) (name : List ℕ) → IsNoted o name → IsNoted (option_map (λ sent. touched_since sent touched) o) name
noted_on None touched name noted = tt
noted_on (Some x) touched name noted = λ said. list_any-push (λ touch. touches touch name) x.touched touched ∙ ap (λ b. b || touches touched name) (noted said)

noted_anew : (o : Option Sent) (touched : Touch) (name : List ℕ) → touches touched name ≡ true → IsNoted (option_map (λ sent. touched_since sent touched) o) name
noted_anew None touched name is = tt
noted_anew (Some x) touched name is = λ said. list_any-push (λ touch. touches touch name) x.touched touched ∙ ap (λ b. was_touched x name || b) is ∙ or-true (was_touched x name)

-- what is believed of a name of which the request tells no version
unresumed : (k : Account) (s : Selection) (touched : Touch) (mentioned : set.FinSet text_cmp) (versions : finmap.FinMap text_cmp (List ℕ)) (name : List ℕ) → finmap.get versions name ≡ None
    → finmap.get (resume (touch k s touched mentioned) versions).beliefs name ≡ (if touches touched name then believed_touched (reaches s name) (set.contains mentioned name) (finmap.get k.beliefs name) else finmap.get k.beliefs name)
unresumed k s touched mentioned versions name none =
    resumed_by_name versions (touch k s touched mentioned).beliefs name ∙ ap (λ o. option_or (option_map Told o) (finmap.get (touch k s touched mentioned).beliefs name)) none ∙ taken_by_name s touched mentioned k.beliefs name

-- rule: awaited-names
-- a name that waited and is still wanted waits on
pub waits_on : (delta : Bool) (k : Account) (s : Selection) (touched : Touch) (mentioned : set.FinSet text_cmp) (versions : finmap.FinMap text_cmp (List ℕ)) (name : List ℕ)
    → finmap.get versions name ≡ None → reaches s name ≡ true → Waits delta k name → Waits delta (resume (touch k s touched mentioned) versions) name
waits_on delta k s touched mentioned versions name none reached waits = record {
  untold = subst (IsUntold delta) (sym (unresumed k s touched mentioned versions name none)) (untold_taken delta (reaches s name) (set.contains mentioned name) (touches touched name) (finmap.get k.beliefs name) reached waits.untold);
  noted = noted_on k.sent touched name waits.noted;
}

-- rule: awaited-names
-- a name that is wanted, mentioned and touched waits
pub waits_anew : (delta : Bool) (k : Account) (s : Selection) (touched : Touch) (mentioned : set.FinSet text_cmp) (versions : finmap.FinMap text_cmp (List ℕ)) (name : List ℕ)
    → finmap.get versions name ≡ None → reaches s name ≡ true → set.contains mentioned name ≡ true → touches touched name ≡ true → Waits delta (resume (touch k s touched mentioned) versions) name
waits_anew delta k s touched mentioned versions name none reached said is = record {
  untold = subst (IsUntold delta) (sym (unresumed k s touched mentioned versions name none)) (anew_taken delta (reaches s name) (set.contains mentioned name) (touches touched name) (finmap.get k.beliefs name) reached said is);
  noted = noted_anew k.sent touched name is;
}
