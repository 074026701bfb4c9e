-- What is kept of every stream is what the lines say, line by line.
use Rattle.std.proofs.Common.{◌≡◌, inl, inr, ℕ, List, ◌∷◌, ◌++◌, Bool, true, false, cond, ◌&&◌, ◌||◌, Option, Some, None, refl, sym, ap, subst, ◌∙◌}
use Rattle.std.proofs.lemmas.Bool.{true≢false}
use Rattle.std.specs.Prelude.{bytes_eq, ◌==◌, if◌then◌else◌, ⊤}
use Rattle.std.specs.Option.{option_map, unwrap_or, option_or}
use Rattle.std.specs.FinMap as finmap
use Rattle.xds_resource.specs.declared.types.TypeName.{TypeName}
use Rattle.xds_resource.specs.Names.{put_each}
use Rattle.xds_resource.specs.Types.{is_same_type}
use Rattle.xds_resource.specs.Writes.{StampedWrite, text_cmp, version_of}
use Rattle.xds_resource.proofs.MadeMaps.{get-put_each}
use Rattle.xds_resource.proofs.NameMaps.{same_names, get-tabulated, in_neither}
use Rattle.xds_resource.proofs.TypesApart.{same_type}
use Rattle.xds_resource.proofs.BoolsAndLists.{option_or-None}
use Rattle.xds_interest.specs.Interests.{Selection, has_name}
use Rattle.xds_catalogue.specs.Holdings.{Entries}
use Rattle.xds_ledger.specs.declared.entry.Due.{Due}
use Rattle.xds_ledger.specs.declared.entry.Due.TheVariants.{Stated, Removed}
use Rattle.xds_check.specs.declared.asking.Asking.{Asking}
use Rattle.xds_check.specs.declared.line.Line.{Line}
use Rattle.xds_check.specs.declared.line.Line.TheVariants as lines
use Rattle.xds_check.specs.Answers.{Answer, is_of, cluster_of, stated_names}
use Rattle.xds_check.specs.Lines.{Turn, Asks, Answers, Nothing, is_asking, has_asked, offered, offer_at, sent, sent_after, is_waiting, taken, taken_after, cluster_on, interest, is_pending, pending_after, is_used, standing}
use Rattle.xds_check.specs.Kept.{StreamTalk, introduced, requested, asked, stated_due, offer_in, responded, with_nonce, told, heard}
use Rattle.xds_check.proofs.Talking.{IsSpoken, wanted_is, introduced_spoken, requested_spoken, nonce_spoken, responded_spoken}

-- what is kept of a stream is what some lines say
abbrev pub IsSpokenBy : ℕ → TypeName → List Line → StreamTalk → Type 0
IsSpokenBy s t earlier k = IsSpoken t (cluster_on s earlier) (has_asked s t earlier) (taken s t earlier) (sent s t earlier) (is_pending s t earlier) (is_used s earlier) k

-- the same with one line more, by what it says of the stream
abbrev SpokenAfter : ℕ → TypeName → List Line → Turn → Option (List ℕ) → (List ℕ → Bool) → StreamTalk → Type 0
SpokenAfter s t e tn cluster uses k =
    IsSpoken t (option_or (cluster_on s e) cluster) (is_asking tn || has_asked s t e) (taken_after (has_asked s t e) (sent s t e) tn (taken s t e)) (sent_after e (has_asked s t e) tn (sent s t e))
    (λ name. pending_after s t e tn name (is_pending s t e name)) (λ nonce. uses nonce || is_used s e nonce) k

silent : (s : ℕ) (t : TypeName) (e : List Line) (k : StreamTalk) → IsSpokenBy s t e k → SpokenAfter s t e Nothing None (λ _. false) k
silent s t e k spoken =
    subst (λ (c : Option (List ℕ)). IsSpoken t c (has_asked s t e) (taken s t e) (sent s t e) (is_pending s t e) (is_used s e) k) (sym (option_or-None (cluster_on s e))) spoken

-- ---- a request

known_now : (o : Option (List ℕ)) (c : List ℕ) → option_or o (Some c) ≡ Some (unwrap_or o c)
known_now None c = refl
known_now (Some d) c = refl

introduced_by : (s : ℕ) (t : TypeName) (e : List Line) (c : List ℕ) (k : StreamTalk) → IsSpokenBy s t e k → SpokenAfter s t e Nothing (Some c) (λ _. false) (introduced c k)
introduced_by s t e c k spoken = introduced_spoken t (cluster_on s e) c (has_asked s t e) (taken s t e) (sent s t e) (is_pending s t e) (is_used s e) k spoken

asked_own : (s : ℕ) (t : TypeName) (e : List Line) (q : Asking) (k : StreamTalk) → IsSpokenBy s t e k → SpokenAfter s t e (Asks q) (Some (cluster_of q)) (λ _. false) (requested t q (introduced (cluster_of q) k))
asked_own s t e q k spoken =
    let c = unwrap_or (cluster_on s e) (cluster_of q) in
    let known = known_now (cluster_on s e) (cluster_of q) in
    let now = introduced_by s t e (cluster_of q) k spoken in
    let names = ap (λ (x : Selection). x.names) (wanted_is t (option_or (cluster_on s e) (Some (cluster_of q))) (has_asked s t e) (taken s t e) (sent s t e) (is_pending s t e) (is_used s e) (introduced (cluster_of q) k) now) in
    subst (λ (o : Option (List ℕ)). IsSpoken t o true (taken_after (has_asked s t e) (sent s t e) (Asks q) (taken s t e)) (sent_after e (has_asked s t e) (Asks q) (sent s t e))
    (λ name. pending_after s t e (Asks q) name (is_pending s t e name)) (is_used s e) (requested t q (introduced (cluster_of q) k))) (sym known)
    (requested_spoken t c (has_asked s t e) (taken s t e) (sent s t e) (is_pending s t e) (is_used s e) (introduced (cluster_of q) k) (interest s t e) q
    (subst (λ (o : Option (List ℕ)). IsSpoken t o (has_asked s t e) (taken s t e) (sent s t e) (is_pending s t e) (is_used s e) (introduced (cluster_of q) k)) known now) names)

asked_spoken : (s : ℕ) (t : TypeName) (e : List Line) (q : Asking) (k : StreamTalk) (own : Bool) → IsSpokenBy s t e k
    → SpokenAfter s t e (if own then Asks q else Nothing) (Some (cluster_of q)) (λ _. false) (if own then requested t q (introduced (cluster_of q) k) else introduced (cluster_of q) k)
asked_spoken s t e q k true spoken = asked_own s t e q k spoken
asked_spoken s t e q k false spoken = introduced_by s t e (cluster_of q) k spoken

request_spoken : (s : ℕ) (t : TypeName) (e : List Line) (q : Asking) (k : StreamTalk) (here : Bool) → IsSpokenBy s t e k
    → SpokenAfter s t e (if here && is_of t q then Asks q else Nothing) (if here then Some (cluster_of q) else None) (λ _. false) (if here then asked t q k else k)
request_spoken s t e q k true spoken = asked_spoken s t e q k (is_of t q) spoken
request_spoken s t e q k false spoken = silent s t e k spoken

-- ---- a response

offer_case : (removed stated : Bool) (w : Option Due) → cond removed (Some Removed) (cond stated (option_or w None) None) ≡ (if removed then Some Removed else if stated then w else None)
offer_case true stated w = refl
offer_case false true None = refl
offer_case false true (Some w) = refl
offer_case false false w = refl

absent_case : (removed stated : Bool) (w : Option Due) → removed ≡ false → stated ≡ false → (if removed then Some Removed else if stated then w else None) ≡ None
absent_case removed stated w r s = (λ i. if r i then Some Removed else if s i then w else None)

-- rule: refused-offer
-- the offer of a response is the one that is made of what is held
pub offer_same : (t : TypeName) (e : List Line) (held : Entries) (a : Answer) → a.kind ≡ t → ((q : List ℕ) → finmap.get held q ≡ standing t e q) → offer_at e a ≡ offer_in held a
offer_same t e held a kind same =
    same_names (offer_at e a) (offer_in held a) (λ q.
    let removed = has_name a.removed q in
    let stated = has_name (stated_names a) q in
    let due = option_map (λ w. Stated (version_of w)) (standing a.kind e q) in
    get-tabulated (offered e a) (a.removed ++ stated_names a) q (λ none. let both = in_neither a.removed (stated_names a) q none in absent_case removed stated due both.0 both.1)
    ∙ sym (get-put_each (λ _. Some Removed) (put_each (stated_due held) finmap.empty (stated_names a)) a.removed q
    ∙ ap (λ (o : Option Due). cond removed (Some Removed) o) (get-put_each (stated_due held) finmap.empty (stated_names a) q ∙ ap (λ (o : Option Due). cond stated (option_or (stated_due held q) o) o) (finmap.get-empty text_cmp q))
    ∙ offer_case removed stated (stated_due held q)
    ∙ ap (λ (o : Option StampedWrite). if removed then Some Removed else if stated then option_map (λ w. Stated (version_of w)) o else None) (same q ∙ ap (λ k. standing k e q) (sym kind))))

pub kind_told : (a b : TypeName) → is_same_type a b ≡ true → a ≡ b
kind_told a b same = elim (same_type a b) [ inl is ↦ is.0 | inr other ↦ absurd (true≢false (sym same ∙ other.1)) ]

-- what the lines say of the stream once a response came
abbrev SpokenOf : ℕ → TypeName → List Line → Answer → StreamTalk → Option (List ℕ) → Type 0
SpokenOf s t e a k c =
    IsSpoken t c (has_asked s t e) (taken s t e) (sent_after e (has_asked s t e) (Answers a) (sent s t e)) (λ name. pending_after s t e (Answers a) name (is_pending s t e name)) (λ q. bytes_eq a.nonce q || is_used s e q) k

told_spoken : (s : ℕ) (t : TypeName) (e : List Line) (held : Entries) (a : Answer) (k : StreamTalk) (own : Bool) → is_same_type a.kind t ≡ own → ((q : List ℕ) → finmap.get held q ≡ standing t e q)
    → (own ≡ true → is_waiting (sent s t e) ≡ false) → IsSpokenBy s t e k
    → SpokenAfter s t e (if own then Answers a else Nothing) None (bytes_eq a.nonce) (if own then responded held a (with_nonce a.nonce k) else with_nonce a.nonce k)
told_spoken s t e held a k true is same quiet spoken =
    subst (SpokenOf s t e a (responded held a (with_nonce a.nonce k))) (sym (option_or-None (cluster_on s e)))
    (responded_spoken t (cluster_on s e) (has_asked s t e) (taken s t e) (sent s t e) (is_pending s t e) (λ q. bytes_eq a.nonce q || is_used s e q) (with_nonce a.nonce k) held (offer_at e a) a
    (nonce_spoken t (cluster_on s e) (has_asked s t e) (taken s t e) (sent s t e) (is_pending s t e) (is_used s e) k a.nonce spoken) (quiet refl) (offer_same t e held a (kind_told a.kind t is) same))
told_spoken s t e held a k false is same quiet spoken =
    subst (λ (c : Option (List ℕ)). IsSpoken t c (has_asked s t e) (taken s t e) (sent s t e) (is_pending s t e) (λ q. bytes_eq a.nonce q || is_used s e q) (with_nonce a.nonce k)) (sym (option_or-None (cluster_on s e)))
    (nonce_spoken t (cluster_on s e) (has_asked s t e) (taken s t e) (sent s t e) (is_pending s t e) (is_used s e) k a.nonce spoken)

response_spoken : (s : ℕ) (t : TypeName) (e : List Line) (held : Entries) (a : Answer) (k : StreamTalk) (here : Bool) → ((q : List ℕ) → finmap.get held q ≡ standing t e q)
    → (here ≡ true → is_same_type a.kind t ≡ true → is_waiting (sent s t e) ≡ false) → IsSpokenBy s t e k
    → SpokenAfter s t e (if here && is_same_type a.kind t then Answers a else Nothing) None (λ nonce. here && bytes_eq a.nonce nonce) (if here then told t held a k else k)
response_spoken s t e held a k true same quiet spoken = told_spoken s t e held a k (is_same_type a.kind t) refl same (quiet refl) spoken
response_spoken s t e held a k false same quiet spoken = silent s t e k spoken

-- ---- a line

-- a response of the type on the stream comes where none is unanswered
abbrev pub IsQuiet : ℕ → TypeName → List Line → Line → Type 0
IsQuiet s t e (lines.Write w) = ⊤
IsQuiet s t e (lines.Open r) = ⊤
IsQuiet s t e (lines.Close r) = ⊤
IsQuiet s t e (lines.Request r q) = ⊤
IsQuiet s t e (lines.Response r a) = (r == s) ≡ true → is_same_type a.kind t ≡ true → is_waiting (sent s t e) ≡ false
IsQuiet s t e (lines.Idle r u) = ⊤

pub heard_spoken : (s : ℕ) (t : TypeName) (e : List Line) (held : Entries) (l : Line) (k : StreamTalk) → ((q : List ℕ) → finmap.get held q ≡ standing t e q) → IsQuiet s t e l → IsSpokenBy s t e k → IsSpokenBy s t (l ∷ e) (heard t held s l k)
heard_spoken s t e held (lines.Write w) k same quiet spoken = silent s t e k spoken
heard_spoken s t e held (lines.Open r) k same quiet spoken = silent s t e k spoken
heard_spoken s t e held (lines.Close r) k same quiet spoken = silent s t e k spoken
heard_spoken s t e held (lines.Request r q) k same quiet spoken = request_spoken s t e q k (r == s) spoken
heard_spoken s t e held (lines.Response r a) k same quiet spoken = response_spoken s t e held a k (r == s) same quiet spoken
heard_spoken s t e held (lines.Idle r u) k same quiet spoken = silent s t e k spoken
