-- That what the code makes is the response, and what it leaves is the session.
use Rattle.std.proofs.Common.{◌≡◌, ℕ, List, [], ◌∷◌, ◌++◌, Bool, true, false, Option, Some, None, map, sym, ap, ◌∙◌, append_assoc, append-nil}
use Rattle.std.specs.Prelude.{option_map, is_some}
use Rattle.std.specs.Option.{option_and_then, option_map_or}
use Rattle.std.specs.List.{filter, filter_map, cons_option}
use Rattle.std.specs.FinMap as finmap
use Rattle.std.specs.FinSet as set
use Rattle.xds_resource.specs.declared.types.TypeName.{TypeName}
use Rattle.xds_resource.specs.Writes.{StampedWrite, text_cmp, version_of}
use Rattle.xds_interest.specs.Interests.{Selection}
use Rattle.xds_interest.specs.Touches.{Touch}
use Rattle.xds_message.specs.DeltaMessages.{DeltaRequest}
use Rattle.xds_catalogue.specs.Holdings.{Entries}
use Rattle.xds_message.specs.Drafts.{DraftedResource, with_resource}
use Rattle.xds_ledger.specs.declared.entry.Due.{Due}
use Rattle.xds_ledger.specs.declared.entry.Due.TheVariants.{Stated, Removed}
use Rattle.xds_ledger.specs.declared.variant.VariantName.TheVariants.{Delta}
use Rattle.xds_ledger.specs.Offers.{Offer}
use Rattle.xds_ledger.specs.Ledgers.{Account, Names, settled, taken}
use Rattle.xds_sessions.specs.DeltaParts.{account_taken, nothing_said, said_all}
use Rattle.xds_sessions.specs.DeltaPolls.{Said, is_statement, is_removal, resource_of, resource_at, said_by}

-- what is said, with more resources and more names that are gone
abbrev with_more : Said → List DraftedResource → List (List ℕ) → Said
with_more d resources names = record d { resources = d.resources ++ resources; removed = d.removed ++ names }

abbrev pub stated_in : Entries → List (List ℕ × Due) → List DraftedResource
stated_in m es = filter_map (resource_at m) (map (λ e. e.0) (filter (λ e. is_statement e.1) es))

abbrev removed_in : List (List ℕ × Due) → List (List ℕ)
removed_in es = map (λ e. e.0) (filter (λ e. is_removal e.1) es)

-- that the rest adds what it says, whatever it is added to
abbrev RestAdds : Entries → List (List ℕ × Due) → Type 0
RestAdds m es = (d : Said) → said_all m d es ≡ with_more d (stated_in m es) (removed_in es)

body_step : (m : Entries) (d : Said) (w : StampedWrite) (body : Option (List ℕ)) (es : List (List ℕ × Due)) → RestAdds m es
    → said_all m (record d { resources = with_resource d.resources w body }) es
    ≡ with_more d (cons_option (option_map (λ b. record { name = w.name; version = version_of w; body = b }) body) (stated_in m es)) (removed_in es)
body_step m d w None es rest = rest d
body_step m d w (Some b) es rest =
    rest (record d { resources = with_resource d.resources w (Some b) }) ∙ (λ i. record d { resources = append_assoc d.resources (record { name = w.name; version = version_of w; body = b } ∷ []) (stated_in m es) i; removed = d.removed ++ removed_in es })

write_step : (m : Entries) (d : Said) (o : Option StampedWrite) (es : List (List ℕ × Due)) → RestAdds m es
    → said_all m (option_map_or (λ w. record d { resources = with_resource d.resources w w.body }) o d) es ≡ with_more d (cons_option (option_and_then resource_of o) (stated_in m es)) (removed_in es)
write_step m d None es rest = rest d
write_step m d (Some w) es rest = body_step m d w w.body es rest

entry_step : (m : Entries) (d : Said) (name : List ℕ) (due : Due) (es : List (List ℕ × Due)) → RestAdds m es
    → said_all m d ((name, due) ∷ es) ≡ with_more d (stated_in m ((name, due) ∷ es)) (removed_in ((name, due) ∷ es))
entry_step m d name (Stated version) es rest = write_step m d (finmap.get m name) es rest
entry_step m d name Removed es rest =
    rest (record d { removed = d.removed ++ name ∷ [] }) ∙ (λ i. record d { resources = d.resources ++ stated_in m es; removed = append_assoc d.removed (name ∷ []) (removed_in es) i })

pub said_together : (m : Entries) (es : List (List ℕ × Due)) (d : Said) → said_all m d es ≡ with_more d (stated_in m es) (removed_in es)
said_together m [] d = λ i. record d { resources = sym (append-nil d.resources) i; removed = sym (append-nil d.removed) i }
said_together m (e ∷ es) d = entry_step m d e.0 e.1 es (said_together m es)

-- what is gathered is what the response says
pub saying_made : (m : Entries) (o : Offer) (all : Said) → all ≡ said_all m nothing_said (finmap.entries o) → all ≡ said_by m o
saying_made m o all made = made ∙ said_together m (finmap.entries o) nothing_said

-- what a later request leaves of the account, from what the calls ensure
pub taken_later : (t : TypeName) (a : Account) (m : DeltaRequest) (s : Selection) (touched : Touch) (mentioned : set.FinSet text_cmp) (nonce : List ℕ) (rejects : Bool) (names : Names)
    → nonce ≡ m.response_nonce → rejects ≡ is_some m.error_detail → mentioned ≡ touched.names
    → names ≡ record { interest = s; touched = touched; mentioned = mentioned; versions = finmap.empty }
    → taken (settled Delta t a nonce rejects) names ≡ account_taken t true a m s touched
taken_later t a m s touched mentioned nonce rejects names named told says is =
    ap (taken (settled Delta t a nonce rejects)) is
    ∙ (λ i. taken (settled Delta t a (named i) (told i)) (record { interest = s; touched = touched; mentioned = says i; versions = finmap.empty }))

-- a first request that is taken
pub taken_first : (t : TypeName) (a : Account) (m : DeltaRequest) (s : Selection) (touched : Touch) (mentioned : set.FinSet text_cmp) (nonce : List ℕ) (rejects : Bool) (held : finmap.FinMap text_cmp (List ℕ)) (names : Names)
    → nonce ≡ m.response_nonce → rejects ≡ is_some m.error_detail → mentioned ≡ s.names → held ≡ m.initial_resource_versions
    → names ≡ record { interest = s; touched = touched; mentioned = mentioned; versions = held }
    → taken (settled Delta t a nonce rejects) names ≡ account_taken t false a m s touched
taken_first t a m s touched mentioned nonce rejects held names named told says holds is =
    ap (taken (settled Delta t a nonce rejects)) is
    ∙ (λ i. taken (settled Delta t a (named i) (told i)) (record { interest = s; touched = touched; mentioned = says i; versions = holds i }))
