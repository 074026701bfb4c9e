-- That what the code makes, entry by entry, is what is believed.
use Rattle.std.proofs.Common.{◌≡◌, ℕ, List, ◌++◌, Bool, true, false, cond, ◌||◌, ◌&&◌, not, Option, Some, None, refl, sym, ap, ◌∙◌}
use Rattle.std.specs.Prelude.{is_some, option_map, if◌then◌else◌}
use Rattle.std.specs.Option.{option_or, option_and_then}
use Rattle.std.specs.FinMap as finmap
use Rattle.std.specs.FinSet as set
use Rattle.xds_resource.specs.Writes.{text_cmp}
use Rattle.xds_resource.specs.Names.{put_all, put_each}
use Rattle.xds_resource.proofs.NameMaps.{has_text, same_names, get-tabulated, in_neither, absent_key, cond_same}
use Rattle.xds_resource.proofs.MadeMaps.{get-put_all, get-put_each}
use Rattle.xds_resource.proofs.BoolsAndLists.{option_or-None}
use Rattle.xds_interest.specs.Interests.{Selection, reaches}
use Rattle.xds_interest.specs.Touches.{Touch, touches}
use Rattle.xds_interest.proofs.Texts.{contains-from_texts}
use Rattle.xds_ledger.specs.declared.entry.Entry.{Entry}
use Rattle.xds_ledger.specs.declared.entry.Entry.TheVariants.{Told, Unsure}
use Rattle.xds_ledger.specs.declared.entry.Due.{Due}
use Rattle.xds_ledger.specs.Owed.{Beliefs}
use Rattle.xds_ledger.specs.Believing.{Sent, was_touched, believed_accepted, beliefs_accepted, believed_touched, beliefs_taken, beliefs_resumed}
use Rattle.xds_ledger.specs.Parts.{told_unless_touched, kept_beside, left_by, made_unsure, told_as}
use Rattle.xds_ledger.proofs.BeliefsByName.{accepted_by_name, taken_by_name}

accepted_parts : (whole touched : Bool) (o : Option Due) (e : Option Entry)
    → option_or (option_and_then (λ x. if is_some o || (whole && not touched) then None else Some x) e) (option_or (option_and_then (told_unless_touched touched) o) None)
    ≡ believed_accepted whole touched o e
accepted_parts whole touched None None = sym (cond_same (whole && not touched) None)
accepted_parts whole touched None (Some x) = option_or-None (if whole && not touched then None else Some x)
accepted_parts whole touched (Some d) None = option_or-None (told_unless_touched touched d)
accepted_parts whole touched (Some d) (Some x) = option_or-None (told_unless_touched touched d)

-- what the names of an accepted response leave
abbrev pub told_by : Sent → Beliefs
told_by sent = put_all (λ name due. told_unless_touched (was_touched sent name) due) finmap.empty (finmap.entries sent.offer)

pub accepted_made : (whole : Bool) (sent : Sent) (b : Beliefs) → put_all (kept_beside whole sent) (told_by sent) (finmap.entries b) ≡ beliefs_accepted whole sent b
accepted_made whole sent b =
    same_names _ _ (λ q. get-put_all (kept_beside whole sent) (told_by sent) b q
    ∙ ap (option_or (option_and_then (kept_beside whole sent q) (finmap.get b q)))
    (get-put_all (λ name due. told_unless_touched (was_touched sent name) due) finmap.empty sent.offer q
    ∙ ap (option_or (option_and_then (told_unless_touched (was_touched sent q)) (finmap.get sent.offer q))) (finmap.get-empty text_cmp q))
    ∙ accepted_parts whole (was_touched sent q) (finmap.get sent.offer q) (finmap.get b q) ∙ sym (accepted_by_name whole sent b q))

abbrev left : Bool → Bool → Option Entry → Option Entry
left touched reached e = option_or (option_and_then (λ x. if touched then (if reached then Some Unsure else None) else Some x) e) None

taken_parts : (touched reached mentioned : Bool) (e : Option Entry)
    → cond mentioned (option_or (if touched && reached then Some Unsure else None) (left touched reached e)) (left touched reached e)
    ≡ (if touched then believed_touched reached mentioned e else e)
taken_parts true true true None = refl
taken_parts true true true (Some x) = refl
taken_parts true true false None = refl
taken_parts true true false (Some x) = refl
taken_parts true false true None = refl
taken_parts true false true (Some x) = refl
taken_parts true false false None = refl
taken_parts true false false (Some x) = refl
taken_parts false reached true None = refl
taken_parts false reached true (Some x) = refl
taken_parts false reached false None = refl
taken_parts false reached false (Some x) = refl

pub taken_made : (s : Selection) (touched : Touch) (names : List (List ℕ)) (b : Beliefs)
    → put_each (made_unsure s touched) (put_all (left_by s touched) finmap.empty (finmap.entries b)) names ≡ beliefs_taken s touched (set.from_list names) b
taken_made s touched names b =
    let before = put_all (left_by s touched) finmap.empty (finmap.entries b) in
    same_names _ _ (λ q.
    let made = made_unsure s touched q in
    get-put_each (made_unsure s touched) before names q
    ∙ ap (λ o. cond (has_text names q) (option_or made o) o)
    (get-put_all (left_by s touched) finmap.empty b q ∙ ap (option_or (option_and_then (left_by s touched q) (finmap.get b q))) (finmap.get-empty text_cmp q))
    ∙ taken_parts (touches touched q) (reaches s q) (has_text names q) (finmap.get b q)
    ∙ ap (λ m. if touches touched q then believed_touched (reaches s q) m (finmap.get b q) else finmap.get b q) (sym (contains-from_texts names q))
    ∙ sym (taken_by_name s touched (set.from_list names) b q))

told_parts : (o : Option (List ℕ)) (e : Option Entry) → option_or (option_and_then (λ v. Some (Told v)) o) e ≡ option_or (option_map Told o) e
told_parts None e = refl
told_parts (Some v) e = refl

pub resumed_at : (o : Option (List ℕ)) (e : Option Entry) → o ≡ None → option_or (option_map Told o) e ≡ e
resumed_at o e unsaid = ap (λ x. option_or (option_map Told x) e) unsaid

pub resumed_absent : (o : Option (List ℕ)) (e : Option Entry) → o ≡ None → e ≡ None → option_or (option_map Told o) e ≡ None
resumed_absent o e unsaid unheld = (λ i. option_or (option_map Told (unsaid i)) (unheld i))

-- what is believed once a client said which versions it holds, name by name
pub resumed_by_name : (held : finmap.FinMap text_cmp (List ℕ)) (b : Beliefs) (q : List ℕ) → finmap.get (beliefs_resumed held b) q ≡ option_or (option_map Told (finmap.get held q)) (finmap.get b q)
resumed_by_name held b q =
    get-tabulated (λ name. option_or (option_map Told (finmap.get held name)) (finmap.get b name)) (finmap.keys held ++ finmap.keys b) q
    (λ e. let parts = in_neither (finmap.keys held) (finmap.keys b) q e in resumed_absent _ _ (absent_key held q parts.0) (absent_key b q parts.1))

pub resumed_made : (held : finmap.FinMap text_cmp (List ℕ)) (b : Beliefs) → put_all told_as b (finmap.entries held) ≡ beliefs_resumed held b
resumed_made held b = same_names _ _ (λ q. get-put_all told_as b held q ∙ told_parts (finmap.get held q) (finmap.get b q) ∙ sym (resumed_by_name held b q))
