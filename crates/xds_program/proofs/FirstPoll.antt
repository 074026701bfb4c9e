-- That the first poll of a fresh stream, after one request, gives the response with the content.
use Rattle.std.proofs.Common.{arith, ◌≡◌, ℕ, List, [], ◌∷◌, map, Bool, true, false, cond, ◌||◌, ◌&&◌, not, Option, Some, None, refl, sym, ap, subst, ◌∙◌}
use Rattle.std.specs.Prelude.{IfSome, MatchOption, is_some, option_map, if◌then◌else◌, length, ◌==◌}
use Rattle.std.specs.List.{list_any, filter, filter_map}
use Rattle.std.specs.Option.{option_and_then, option_map_or, option_or}
use Rattle.std.specs.FinMap as finmap
use Rattle.std.specs.FinSet as set
use Rattle.std.proofs.Math.Dec.{eqb-suc-zero}
use Rattle.std.proofs.lemmas.Fmt.{decimal_digit}
use Rattle.std.proofs.lemmas.List.Folds.{list_any-append}
use Rattle.std.proofs.Math.Bool.{or-true}
use Rattle.xds_resource.specs.declared.types.TypeName.{TypeName}
use Rattle.xds_resource.specs.Types.{row}
use Rattle.xds_resource.specs.Resources.{value_of}
use Rattle.xds_resource.specs.Writes.{StampedWrite, text_cmp, version_of}
use Rattle.xds_resource.proofs.NameMaps.{has_text-keys, cond_same}
use Rattle.xds_resource.proofs.MadeMaps.{EachFound, each_found}
use Rattle.xds_interest.specs.Interests.{Selection, reaches, covers, in_cluster}
use Rattle.xds_interest.specs.Asked.{unasked, sotw_asked}
use Rattle.xds_interest.specs.SotW.{sotw_interest}
use Rattle.xds_interest.specs.Touches.{Touch, touches}
use Rattle.xds_catalogue.specs.Holdings.{Entries, Holdings, IsCatalogue}
use Rattle.xds_catalogue.specs.Content.{is_live, is_shown, content}
use Rattle.xds_message.specs.Messages.{Request}
use Rattle.xds_message.specs.Drafts.{Drafted, message_of}
use Rattle.xds_ledger.specs.declared.variant.VariantName.TheVariants.{StateOfTheWorld}
use Rattle.xds_ledger.specs.declared.entry.Entry.{Entry}
use Rattle.xds_ledger.specs.declared.entry.Entry.TheVariants.{Told, Unsure}
use Rattle.xds_ledger.specs.declared.entry.Due.TheVariants.{Stated}
use Rattle.xds_ledger.specs.Variants.{is_told}
use Rattle.xds_ledger.specs.Owed.{Beliefs, live_version, present, owed, something_owed, names_known}
use Rattle.xds_ledger.specs.Offers.{Offer, offered, offer}
use Rattle.xds_ledger.specs.Believing.{believed_touched, beliefs_taken, beliefs_resumed}
use Rattle.xds_ledger.specs.Sessions.{Session, unopened, send}
use Rattle.xds_ledger.proofs.ByName.{present_absent, offer_says_it}
use Rattle.xds_ledger.proofs.BeliefsByName.{taken_by_name}
use Rattle.xds_ledger.proofs.Choosing.{none_passes, listed_fails}
use Rattle.xds_ledger.proofs.Made.{resumed_by_name}
use Rattle.xds_core.specs.Streams.{cluster_in}
use Rattle.xds_sessions.specs.SotwPolls.{take, sending, response, stated_writes, HasPolled}
use Rattle.xds_program.specs.Answers.{response_with, response_to}
use Rattle.xds_program.proofs.Responding.{values_of}

-- ---- what is believed after the first request

-- of no name a version is known
abbrev pub AreUnsure : Beliefs → Type 0
AreUnsure b = (name : List ℕ) → IfSome (finmap.get b name) (λ e. e ≡ Unsure)

unsure_if : (b : Bool) → IfSome (cond b (Some Unsure) None) (λ (e : Entry). e ≡ Unsure)
unsure_if true = refl
unsure_if false = tt

touched_unsure : (touched reached mentioned : Bool) (o : Option Entry) → o ≡ None → IfSome (if touched then believed_touched reached mentioned o else o) (λ e. e ≡ Unsure)
touched_unsure true reached mentioned o none = unsure_if (reached && (mentioned || is_some o))
touched_unsure false reached mentioned o none = subst (λ x. IfSome x (λ (e : Entry). e ≡ Unsure)) (sym none) tt

-- what a request leaves where nothing was believed before, and no version is said
pub first_unsure : (s : Selection) (touched : Touch) (mentioned : set.FinSet text_cmp) → AreUnsure (beliefs_resumed finmap.empty (beliefs_taken s touched mentioned finmap.empty))
first_unsure s touched mentioned q =
    subst (λ o. IfSome o (λ (e : Entry). e ≡ Unsure))
    (sym (resumed_by_name finmap.empty (beliefs_taken s touched mentioned finmap.empty) q
    ∙ ap (λ o. option_or (option_map Told o) (finmap.get (beliefs_taken s touched mentioned finmap.empty) q)) (finmap.get-empty text_cmp q)
    ∙ taken_by_name s touched mentioned finmap.empty q))
    (touched_unsure (touches touched q) (reaches s q) (set.contains mentioned q) (finmap.get finmap.empty q) (finmap.get-empty text_cmp q))

-- ---- what is present

-- an entry is present where it is shown
shown_there : (s : Selection) (m : Entries) (name : List ℕ) (w : StampedWrite) → finmap.get m name ≡ Some w → w.name ≡ name
    → present s m name ≡ cond (is_shown s w) (Some (version_of w)) None
shown_there s m name w found named =
    ap (option_and_then (λ (v : StampedWrite). if covers s name v.groups then live_version v else None)) found ∙ ap (λ n. if covers s n w.groups then live_version w else None) (sym named)
    ∙ both (covers s w.name w.groups) (is_live w)
  where
    both : (covered live : Bool) → cond covered (cond live (Some (version_of w)) None) None ≡ cond (live && covered) (Some (version_of w)) None
    both true true = refl
    both true false = refl
    both false true = refl
    both false false = refl

named_so : (m : Entries) (name : List ℕ) (w : StampedWrite) → IsCatalogue m → finmap.get m name ≡ Some w → w.name ≡ name
named_so m name w named found = subst (λ o. IfSome o (λ v. v.name ≡ name)) found (named name)

-- ---- what is owed, where no version is known

owed_if : (t : TypeName) (e : Option Entry) (p : Option (List ℕ)) → (row t).is_complete ≡ false → IfSome e (λ x. x ≡ Unsure) → option_map_or (is_told StateOfTheWorld t) (owed e p) false ≡ is_some p
owed_if t None None incomplete unsure = refl
owed_if t None (Some v) incomplete unsure = refl
owed_if t (Some e) None incomplete unsure = ap (λ x. option_map_or (is_told StateOfTheWorld t) (owed (Some x) None) false) unsure ∙ incomplete
owed_if t (Some e) (Some v) incomplete unsure = ap (λ x. option_map_or (is_told StateOfTheWorld t) (owed (Some x) (Some v)) false) unsure

owed_stated : (e : Option Entry) (v : List ℕ) → IfSome e (λ x. x ≡ Unsure) → owed e (Some v) ≡ Some (Stated v)
owed_stated None v unsure = refl
owed_stated (Some e) v unsure = ap (λ x. owed (Some x) (Some v)) unsure

-- what is present is offered
offered_there : (t : TypeName) (s : Selection) (m : Entries) (b : Beliefs) (name version : List ℕ) → AreUnsure b → present s m name ≡ Some version
    → is_some (offered StateOfTheWorld t s m b name) ≡ true
offered_there t s m b name version unsure there =
    ap (λ p. is_some (if (row t).is_complete then option_map Stated p else if option_map_or (is_told StateOfTheWorld t) (owed (finmap.get b name) p) false then owed (finmap.get b name) p else None)) there
    ∙ ap (λ o. is_some (if (row t).is_complete then Some (Stated version) else if option_map_or (is_told StateOfTheWorld t) o false then o else None))
    (owed_stated (finmap.get b name) version (unsure name))
    ∙ ap is_some (cond_same (row t).is_complete (Some (Stated version)))

-- ---- the content is offered whole

offered_shown : (t : TypeName) (s : Selection) (m : Entries) (b : Beliefs) (name : List ℕ) (w : StampedWrite) → AreUnsure b → IsCatalogue m → finmap.get m name ≡ Some w → is_shown s w ≡ true
    → is_some (finmap.get (offer StateOfTheWorld t s m b) w.name) ≡ true
offered_shown t s m b name w unsure named found shown =
    let same : w.name ≡ name = named_so m name w named found in
    ap (λ n. is_some (finmap.get (offer StateOfTheWorld t s m b) n)) same ∙ ap is_some (offer_says_it StateOfTheWorld t s m b name)
    ∙ offered_there t s m b name (version_of w) unsure (shown_there s m name w found same ∙ ap (λ c. cond c (Some (version_of w)) None) shown)

kept_step : (said : StampedWrite → Bool) (w : StampedWrite) (ws : List StampedWrite) (b : Bool) → (b ≡ true → said w ≡ true) → filter said ws ≡ ws → filter said (cond b (w ∷ ws) ws) ≡ cond b (w ∷ ws) ws
kept_step said w ws true says rest = ap (λ c. cond c (w ∷ filter said ws) (filter said ws)) (says refl) ∙ ap (λ r. w ∷ r) rest
kept_step said w ws false says rest = rest

kept_whole : (t : TypeName) (s : Selection) (m : Entries) (b : Beliefs) → AreUnsure b → IsCatalogue m → (es : List (List ℕ × StampedWrite)) → EachFound m es
    → filter (λ w. is_some (finmap.get (offer StateOfTheWorld t s m b) w.name)) (filter (is_shown s) (map (λ e. e.1) es)) ≡ filter (is_shown s) (map (λ e. e.1) es)
kept_whole t s m b unsure named [] found = refl
kept_whole t s m b unsure named (e ∷ es) found =
    kept_step (λ w. is_some (finmap.get (offer StateOfTheWorld t s m b) w.name)) e.1 (filter (is_shown s) (map (λ e. e.1) es)) (is_shown s e.1) (offered_shown t s m b e.0 e.1 unsure named found.0)
    (kept_whole t s m b unsure named es found.1)

-- the offer states the whole content
pub states_content : (t : TypeName) (s : Selection) (m : Entries) (b : Beliefs) → AreUnsure b → IsCatalogue m → stated_writes m s (offer StateOfTheWorld t s m b) ≡ content m s
states_content t s m b unsure named = kept_whole t s m b unsure named (finmap.entries m) (each_found m)

-- ---- something is owed where there is content

some_if : {X : Type 0} (b : Bool) (x : X) → is_some (cond b (Some x) None) ≡ b
some_if true x = refl
some_if false x = refl

abbrev is_there : Selection → Entries → List ℕ → Bool
is_there s m name = is_some (present s m name)

there_by_entries : (s : Selection) (m : Entries) → IsCatalogue m → (es : List (List ℕ × StampedWrite)) → EachFound m es → list_any (is_there s m) (map (λ e. e.0) es) ≡ list_any (is_shown s) (map (λ e. e.1) es)
there_by_entries s m named [] found = refl
there_by_entries s m named (e ∷ es) found =
    let here : is_there s m e.0 ≡ is_shown s e.1 = ap is_some (shown_there s m e.0 e.1 found.0 (named_so m e.0 e.1 named found.0)) ∙ some_if (is_shown s e.1) (version_of e.1) in
    (λ i. here i || there_by_entries s m named es found.1 i)

any_step : (b any : Bool) (w : StampedWrite) (kept : List StampedWrite) → any ≡ not (length kept == 0) → (b || any) ≡ not (length (cond b (w ∷ kept) kept) == 0)
any_step true any w kept is = sym (ap not (eqb-suc-zero (length kept)))
any_step false any w kept is = is

any_kept : (p : StampedWrite → Bool) (ws : List StampedWrite) → list_any p ws ≡ not (length (filter p ws) == 0)
any_kept p [] = refl
any_kept p (w ∷ ws) = any_step (p w) (list_any p ws) w (filter p ws) (any_kept p ws)

there_at : (s : Selection) (m : Entries) (name : List ℕ) (o : Option StampedWrite) → finmap.get m name ≡ o → list_any (is_there s m) (finmap.keys m) ≡ false → is_there s m name ≡ false
there_at s m name None found none = ap is_some (present_absent s m name found)
there_at s m name (Some w) found none = listed_fails (is_there s m) (finmap.keys m) name none (has_text-keys m name ∙ ap is_some found)

-- no other names are present than the catalogue's
there_among : (s : Selection) (m : Entries) (names : List (List ℕ)) (any : Bool) → list_any (is_there s m) (finmap.keys m) ≡ any → (list_any (is_there s m) names || any) ≡ any
there_among s m names true is = or-true (list_any (is_there s m) names)
there_among s m names false is = ap (λ b. b || false) (none_passes (is_there s m) (λ name. there_at s m name (finmap.get m name) refl is) names)

pub owed_by_content : (t : TypeName) (s : Selection) (m : Entries) (b : Beliefs) → AreUnsure b → IsCatalogue m → (row t).is_complete ≡ false
    → something_owed StateOfTheWorld t s m b ≡ not (length (content m s) == 0)
owed_by_content t s m b unsure named incomplete =
    ap (λ p. list_any p (names_known m b)) (λ i name. owed_if t (finmap.get b name) (present s m name) incomplete (unsure name) i)
    ∙ list_any-append (is_there s m) (finmap.keys b) (finmap.keys m) ∙ there_among s m (finmap.keys b) _ refl
    ∙ there_by_entries s m named (finmap.entries m) (each_found m) ∙ any_kept (is_shown s) (finmap.values m)

-- ---- what is sent

due_if : (complete owed test : Bool) → (complete ≡ false → owed ≡ test) → (owed || (complete && true)) ≡ (complete || test)
due_if true owed test is = or-true owed
due_if false true test is = is refl
due_if false false test is = is refl

sent_if : (b : Bool) (o : Offer) → (if true && b && true then Some o else None) ≡ cond b (Some o) None
sent_if true o = refl
sent_if false o = refl

-- whether the first request is answered
abbrev is_answered : TypeName → Selection → Entries → Bool
is_answered t s m = (row t).is_complete || not (length (content m s) == 0)

first_sending : (t : TypeName) (m : Entries) (cluster : List ℕ) (r : Request) → IsCatalogue m
    → let after = take t (unopened cluster) r in sending t after m ≡ cond (is_answered t after.asked.interest m) (Some (offer StateOfTheWorld t after.asked.interest m after.account.beliefs)) None
first_sending t m cluster r named =
    let after : Session = take t (unopened cluster) r in
    let s : Selection = after.asked.interest in
    let b : Beliefs = after.account.beliefs in
    let unsure : AreUnsure b = first_unsure s _ _ in
    ap (λ d. if true && d && true then Some (offer StateOfTheWorld t s m b) else None)
    (due_if (row t).is_complete (something_owed StateOfTheWorld t s m b) (not (length (content m s) == 0)) (owed_by_content t s m b unsure named))
    ∙ sent_if (is_answered t s m) (offer StateOfTheWorld t s m b)

-- ---- the response

message_made : (replica : ℕ) (t : TypeName) (h : Holdings) (s : Selection) (o : Offer) → stated_writes h.entries s o ≡ content h.entries s
    → message_of (response replica t h s o 1) ≡ response_with replica t h.changes s (content h.entries s)
message_made replica t h s o whole =
    let resources = ap (λ ws. map value_of (filter_map (λ (w : StampedWrite). w.body) ws)) whole ∙ values_of (content h.entries s) in
    λ i. record (message_of (response replica t h s o 1)) { resources = resources i; nonce = decimal_digit 1 (omega arith) i }

-- what a stream's first list asks for
first_asked : (t : TypeName) (cluster : List ℕ) (names : List (List ℕ)) → (sotw_asked t (unasked cluster) names).interest ≡ in_cluster cluster (sotw_interest t (names ∷ []))
first_asked t cluster [] = refl
first_asked t cluster (name ∷ names) = refl

-- what a poll that draws the first nonce answers and leaves, where this offer is to be sent, if one is
abbrev Polled : ℕ → TypeName → Holdings → Session → Option Drafted → Session → ℕ → Option Offer → Type 0
Polled replica t h before answer after count o =
    MatchOption o ((answer ≡ None) × (after ≡ before) × (count ≡ 0)) (λ x. (answer ≡ Some (response replica t h before.asked.interest x 1)) × (after ≡ send before x 1) × (count ≡ 1))

answered_if : (replica : ℕ) (t : TypeName) (h : Holdings) (before : Session) (o : Offer) (answer : Option Drafted) (after : Session) (count : ℕ) (b : Bool)
    → Polled replica t h before answer after count (cond b (Some o) None) → option_map message_of answer ≡ cond b (Some (message_of (response replica t h before.asked.interest o 1))) None
answered_if replica t h before o answer after count true is = ap (option_map message_of) is.0
answered_if replica t h before o answer after count false is = ap (option_map message_of) is.0

-- the first poll gives the response with the content
pub first_poll : (replica : ℕ) (t : TypeName) (h : Holdings) (r : Request) (answer : Option Drafted) (after : Session) (count : ℕ) → IsCatalogue h.entries
    → HasPolled replica t h (take t (unopened (cluster_in r.node)) r) 0 answer after count → option_map message_of answer ≡ response_to replica t h r
first_poll replica t h r answer after count named polled =
    let before : Session = take t (unopened (cluster_in r.node)) r in
    let s : Selection = before.asked.interest in
    let o : Offer = offer StateOfTheWorld t s h.entries before.account.beliefs in
    let whole : stated_writes h.entries s o ≡ content h.entries s = states_content t s h.entries before.account.beliefs (first_unsure s _ _) named in
    answered_if replica t h before o answer after count (is_answered t s h.entries) (subst (Polled replica t h before answer after count) (first_sending t h.entries (cluster_in r.node) r named) polled)
    ∙ ap (λ x. cond (is_answered t s h.entries) (Some x) None) (message_made replica t h s o whole)
    ∙ ap (λ i. cond (is_answered t i h.entries) (Some (response_with replica t h.changes i (content h.entries i))) None) (first_asked t (cluster_in r.node) r.resource_names)
