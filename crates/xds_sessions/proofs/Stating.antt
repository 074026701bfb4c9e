-- That a response states what its offer states.
use Rattle.std.proofs.Common.{◌≡◌, ℕ, List, [], ◌∷◌, map, Bool, true, false, cond, Option, Some, None, refl, sym, ap, ◌∙◌}
use Rattle.std.specs.Prelude.{bytes_eq, is_some, option_map, unwrap_or, if◌then◌else◌, IfSome}
use Rattle.std.specs.Option.{option_and_then, option_map_or}
use Rattle.std.specs.List.{filter_map, cons_option}
use Rattle.std.specs.FinMap as finmap
use Rattle.xds_resource.specs.declared.types.TypeName.{TypeName}
use Rattle.xds_resource.specs.Writes.{StampedWrite, version_of}
use Rattle.xds_resource.proofs.MadeMaps.{EachFound, each_found}
use Rattle.xds_interest.specs.Interests.{Selection, covers}
use Rattle.xds_catalogue.specs.Holdings.{Entries, IsCatalogue}
use Rattle.xds_message.specs.Drafts.{DraftedResource}
use Rattle.xds_ledger.specs.declared.variant.VariantName.TheVariants.{Delta}
use Rattle.xds_ledger.specs.declared.entry.Entry.{Entry}
use Rattle.xds_ledger.specs.declared.entry.Entry.TheVariants.{Told, Unsure}
use Rattle.xds_ledger.specs.declared.entry.Due.{Due}
use Rattle.xds_ledger.specs.declared.entry.Due.TheVariants.{Stated, Removed}
use Rattle.xds_ledger.specs.Variants.{is_told}
use Rattle.xds_ledger.specs.Owed.{Beliefs, live_version, version_shown, present, owed, owed_of}
use Rattle.xds_ledger.specs.Offers.{Offer, offer, stated_version}
use Rattle.xds_ledger.proofs.ByName.{offer_says_it}
use Rattle.xds_sessions.specs.Laws.{ResponseStatesTheOffer}
use Rattle.xds_sessions.specs.DeltaPolls.{resource_of, resource_at}
use Rattle.xds_sessions.proofs.DeltaMade.{stated_in}

-- a resource's name and version
abbrev named : DraftedResource → List ℕ × List ℕ
named r = (r.name, r.version)

-- ---- what is stated is present

told_other : (same : Bool) (u version : List ℕ) → option_and_then stated_version (if same then None else Some (Stated u)) ≡ Some version → Some u ≡ Some version
told_other true u version is = absurd cc
told_other false u version is = is

-- where a statement is owed, its version is present
pub present_if_stated : (e : Option Entry) (p : Option (List ℕ)) (version : List ℕ) → option_and_then stated_version (owed e p) ≡ Some version → p ≡ Some version
present_if_stated None None version is = absurd cc
present_if_stated None (Some u) version is = is
present_if_stated (Some (Told told)) None version is = absurd cc
present_if_stated (Some (Told told)) (Some u) version is = told_other (bytes_eq told u) u version is
present_if_stated (Some Unsure) None version is = absurd cc
present_if_stated (Some Unsure) (Some u) version is = is

pub kept_at : (tells : Bool) (o : Option Due) (version : List ℕ) → cond tells o None ≡ Some (Stated version) → option_and_then stated_version o ≡ Some version
kept_at true o version is = ap (option_and_then stated_version) is
kept_at false o version is = absurd cc

-- ---- what is present is a live write of that version

live_resource : (name q u version : List ℕ) (body : Option (List ℕ)) → name ≡ q → (if is_some body then Some u else None) ≡ Some version
    → option_map named (option_map (λ b. record { name = name; version = u; body = b }) body) ≡ Some (q, version)
live_resource name q u version None same is = absurd cc
live_resource name q u version (Some b) same is = λ i. option_map (λ v. (same i, v)) (is i)

shown_resource : (q version : List ℕ) (covered : Bool) (w : StampedWrite) → w.name ≡ q → (if covered then live_version w else None) ≡ Some version → option_map named (resource_of w) ≡ Some (q, version)
shown_resource q version false w same is = absurd cc
shown_resource q version true w same is = live_resource w.name q (version_of w) version w.body same is

present_resource : (s : Selection) (q version : List ℕ) (o : Option StampedWrite) → IfSome o (λ w. w.name ≡ q) → option_and_then (version_shown s q) o ≡ Some version → option_map named (option_and_then resource_of o) ≡ Some (q, version)
present_resource s q version None same is = absurd cc
present_resource s q version (Some w) same is = shown_resource q version (covers s q w.groups) w same is

stated_resource : (t : TypeName) (s : Selection) (m : Entries) (b : Beliefs) → IsCatalogue m → (q version : List ℕ) → finmap.get (offer Delta t s m b) q ≡ Some (Stated version)
    → option_map named (resource_at m q) ≡ Some (q, version)
stated_resource t s m b catalogue q version is =
    present_resource s q version (finmap.get m q) (catalogue q)
    (present_if_stated (finmap.get b q) (present s m q) version
    (kept_at (option_map_or (is_told Delta t) (owed_of s m b q) false) (owed_of s m b q) version (sym (offer_says_it Delta t s m b q) ∙ is)))

-- ---- entry by entry

abbrev EachStated : Entries → Offer → Type 0
EachStated m o = (q version : List ℕ) → finmap.get o q ≡ Some (Stated version) → option_map named (resource_at m q) ≡ Some (q, version)

with_first : (r : Option DraftedResource) (p : List ℕ × List ℕ) (rest : List DraftedResource) → option_map named r ≡ Some p → map named (cons_option r rest) ≡ p ∷ map named rest
with_first None p rest is = absurd cc
with_first (Some x) p rest is = ap (λ o. unwrap_or o p ∷ map named rest) is

abbrev statements_in : List (List ℕ × Due) → List (List ℕ × List ℕ)
statements_in es = filter_map (λ e. option_map (λ version. (e.0, version)) (stated_version e.1)) es

entry_stated : (m : Entries) (o : Offer) (q : List ℕ) (due : Due) (es : List (List ℕ × Due)) → EachStated m o → finmap.get o q ≡ Some due
    → map named (stated_in m es) ≡ statements_in es → map named (stated_in m ((q, due) ∷ es)) ≡ statements_in ((q, due) ∷ es)
entry_stated m o q (Stated version) es each is rest = with_first (resource_at m q) (q, version) (stated_in m es) (each q version is) ∙ ap (λ l. (q, version) ∷ l) rest
entry_stated m o q Removed es each is rest = rest

all_stated : (m : Entries) (o : Offer) (es : List (List ℕ × Due)) → EachStated m o → EachFound o es → map named (stated_in m es) ≡ statements_in es
all_stated m o [] each found = refl
all_stated m o (e ∷ es) each found = entry_stated m o e.0 e.1 es each found.0 (all_stated m o es each found.1)

-- rule: best-writes
pub response_states_the_offer : ResponseStatesTheOffer
response_states_the_offer replica t h s b number catalogue =
    let o : Offer = offer Delta t s h.entries b in all_stated h.entries o (finmap.entries o) (stated_resource t s h.entries b catalogue) (each_found o)
