-- That the changes of an answer and a request leave what is believed after them.
use Rattle.std.proofs.Common.{◌≡◌, ℕ, List, [], ◌∷◌, Bool, true, false, cond, ◌||◌, ◌&&◌, Option, Some, None, refl, sym, ap, ◌∙◌}
use Rattle.std.specs.Prelude.{bytes_eq, unwrap_or, option_map, if◌then◌else◌}
use Rattle.std.specs.Option.{option_or, option_and_then}
use Rattle.std.specs.FinMap as finmap
use Rattle.std.specs.FinSet as set
use Rattle.xds_resource.specs.Names.{put_all}
use Rattle.xds_resource.specs.Writes.{text_cmp}
use Rattle.xds_resource.proofs.NameMaps.{has_text, get-insert, bytes_eq_tells, bytes_eq_swap}
use Rattle.xds_resource.proofs.MadeMaps.{get-put_all, get-put_each}
use Rattle.xds_interest.specs.Interests.{Selection, reaches}
use Rattle.xds_interest.specs.Touches.{Touch, touches}
use Rattle.xds_interest.proofs.Texts.{contains-from_texts}
use Rattle.xds_ledger.specs.declared.entry.Entry.{Entry}
use Rattle.xds_ledger.specs.declared.entry.Entry.TheVariants.{Told, Unsure}
use Rattle.xds_ledger.specs.declared.entry.Due.{Due}
use Rattle.xds_ledger.specs.Owed.{Beliefs}
use Rattle.xds_ledger.specs.Believing.{Sent, was_touched, believed_accepted, beliefs_accepted, believed_touched, beliefs_taken, beliefs_resumed}
use Rattle.xds_ledger.specs.Parts.{told_unless_touched, made_unsure}
use Rattle.xds_ledger.specs.Changes.{Changes, believed_now, changes_told, left_touched, changes_left, changes_unsure, change_as}
use Rattle.xds_ledger.proofs.BeliefsByName.{accepted_by_name, taken_by_name}
use Rattle.xds_ledger.proofs.Made.{resumed_by_name}

-- ---- an accepted response that isn't the whole

told_parts : (touched : Bool) (o : Option Due) (e : Option Entry) → believed_accepted false touched o e ≡ unwrap_or (option_or (option_and_then (λ due. Some (told_unless_touched touched due)) o) None) e
told_parts touched None e = refl
told_parts touched (Some due) e = refl

pub told_by_name : (sent : Sent) (b : Beliefs) (q : List ℕ) → finmap.get (beliefs_accepted false sent b) q ≡ believed_now (changes_told sent) b q
told_by_name sent b q =
    accepted_by_name false sent b q ∙ told_parts (was_touched sent q) (finmap.get sent.offer q) (finmap.get b q)
    ∙ ap (λ o. unwrap_or o (finmap.get b q))
    (ap (option_or (option_and_then (λ due. Some (told_unless_touched (was_touched sent q) due)) (finmap.get sent.offer q))) (sym (finmap.get-empty text_cmp q))
    ∙ sym (get-put_all (λ name due. Some (told_unless_touched (was_touched sent name) due)) finmap.empty sent.offer q))

-- ---- touched names

again : (reached : Bool) (e : Option Entry) → left_touched reached (left_touched reached e) ≡ left_touched reached e
again true None = refl
again true (Some x) = refl
again false e = refl

left_step : (here later : Bool) (reached here_reached : Bool) (c : Option (Option Entry)) (e here_e : Option Entry) → (here ≡ true → here_reached ≡ reached) → (here ≡ true → here_e ≡ unwrap_or c e)
    → cond later (left_touched reached (unwrap_or (cond here (Some (left_touched here_reached here_e)) c) e)) (unwrap_or (cond here (Some (left_touched here_reached here_e)) c) e)
    ≡ cond (here || later) (left_touched reached (unwrap_or c e)) (unwrap_or c e)
left_step true true reached here_reached c e here_e same is = (λ i. left_touched reached (left_touched (same refl i) (is refl i))) ∙ again reached (unwrap_or c e)
left_step true false reached here_reached c e here_e same is = λ i. left_touched (same refl i) (is refl i)
left_step false later reached here_reached c e here_e same is = refl

-- what is believed of a name once some names were touched
left_by_name : (s : Selection) (b : Beliefs) (c : Changes) (ns : List (List ℕ)) (q : List ℕ) → believed_now (changes_left s b c ns) b q ≡ cond (has_text ns q) (left_touched (reaches s q) (believed_now c b q)) (believed_now c b q)
left_by_name s b c [] q = refl
left_by_name s b c (n ∷ ns) q =
    left_by_name s b (finmap.insert c n (left_touched (reaches s n) (believed_now c b n))) ns q
    ∙ ap (λ o. cond (has_text ns q) (left_touched (reaches s q) (unwrap_or o (finmap.get b q))) (unwrap_or o (finmap.get b q))) (get-insert c n (left_touched (reaches s n) (believed_now c b n)) q)
    ∙ left_step (bytes_eq n q) (has_text ns q) (reaches s q) (reaches s n) (finmap.get c q) (finmap.get b q) (believed_now c b n) (λ same. ap (reaches s) (bytes_eq_tells n q same)) (λ same. ap (believed_now c b) (bytes_eq_tells n q same))
    ∙ ap (λ x. cond (x || has_text ns q) (left_touched (reaches s q) (believed_now c b q)) (believed_now c b q)) (bytes_eq_swap n q)

-- ---- mentioned names, and versions

unsure_parts : (listed : Bool) (u : Option Entry) (c : Option (Option Entry)) (e : Option Entry) → unwrap_or (cond listed (option_or (option_map Some u) c) c) e ≡ cond listed (option_or u (unwrap_or c e)) (unwrap_or c e)
unsure_parts true None c e = refl
unsure_parts true (Some x) c e = refl
unsure_parts false u c e = refl

resumed_parts : (h : Option (List ℕ)) (c : Option (Option Entry)) (e : Option Entry) → unwrap_or (option_or (option_and_then (λ v. Some (Some (Told v))) h) c) e ≡ option_or (option_map Told h) (unwrap_or c e)
resumed_parts None c e = refl
resumed_parts (Some v) c e = refl

taken_parts : (touched reached mentioned : Bool) (e : Option Entry)
    → cond mentioned (option_or (if touched && reached then Some Unsure else None) (cond touched (left_touched reached e) e)) (cond touched (left_touched reached e) e)
    ≡ (if touched then believed_touched reached mentioned e else e)
taken_parts true true true None = refl
taken_parts true true true (Some x) = refl
taken_parts true true false None = refl
taken_parts true true false (Some x) = refl
taken_parts true false true e = refl
taken_parts true false false e = refl
taken_parts false reached true e = refl
taken_parts false reached false e = refl

touched_by_name : (touched : Touch) (left : List (List ℕ)) (q : List ℕ) → touched.all ≡ false → set.from_list left ≡ touched.names → has_text left q ≡ touches touched q
touched_by_name touched left q some same = sym (contains-from_texts left q) ∙ (λ i. set.contains (same i) q) ∙ (λ i. sym some i || set.contains touched.names q)

pub changed_by_name : (s : Selection) (touched : Touch) (c : Changes) (b before : Beliefs) (left mentioned : List (List ℕ)) (held : finmap.FinMap text_cmp (List ℕ)) → touched.all ≡ false → set.from_list left ≡ touched.names
    → ((name : List ℕ) → finmap.get before name ≡ believed_now c b name) → (q : List ℕ)
    → finmap.get (beliefs_resumed held (beliefs_taken s touched (set.from_list mentioned) before)) q ≡ believed_now (put_all change_as (changes_unsure s touched (changes_left s b c left) mentioned) (finmap.entries held)) b q
changed_by_name s touched c b before left mentioned held some same is q =
    let l : Changes = changes_left s b c left in
    let u : Changes = changes_unsure s touched l mentioned in
    let made : Option Entry = made_unsure s touched q in
    let e : Option Entry = finmap.get b q in
    let tells : Option (List ℕ) = finmap.get held q in
    let p : Option Entry = believed_now c b q in
    let listed : Bool = has_text mentioned q in
    let after : believed_now (put_all change_as u (finmap.entries held)) b q ≡ option_or (option_map Told tells) (believed_now u b q) =
    ap (λ o. unwrap_or o e) (get-put_all change_as u held q) ∙ resumed_parts tells (finmap.get u q) e in
    let unsure : believed_now u b q ≡ cond listed (option_or made (believed_now l b q)) (believed_now l b q) =
    ap (λ o. unwrap_or o e) (get-put_each (λ name. option_map Some (made_unsure s touched name)) l mentioned q) ∙ unsure_parts listed made (finmap.get l q) e in
    let kept : believed_now l b q ≡ cond (touches touched q) (left_touched (reaches s q) p) p =
    left_by_name s b c left q ∙ ap (λ x. cond x (left_touched (reaches s q) p) p) (touched_by_name touched left q some same) in
    let named : believed_now u b q ≡ (if touches touched q then believed_touched (reaches s q) listed p else p) =
    unsure ∙ ap (λ x. cond listed (option_or made x) x) kept ∙ taken_parts (touches touched q) (reaches s q) listed p in
    resumed_by_name held (beliefs_taken s touched (set.from_list mentioned) before) q
    ∙ ap (option_or (option_map Told tells))
    (taken_by_name s touched (set.from_list mentioned) before q
    ∙ (λ i. if touches touched q then believed_touched (reaches s q) (contains-from_texts mentioned q i) (is q i) else is q i)
    ∙ sym named) ∙ sym after
