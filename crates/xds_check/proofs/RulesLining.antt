-- Lines that are read by their forms.
use Rattle.std.proofs.Common.{◌≡◌, ℕ, List, [], Option, Some, None, Result, Ok, Err, Bool, true, false, cond, inl, inr, refl, ap, sym, ◌∙◌, subst, arith}
use Rattle.std.specs.Prelude.{bytes_eq, is_some, codes}
use Rattle.std.specs.Option.{unwrap_or}
use Rattle.std.specs.Str.{IsUtf8}
use Rattle.std.specs.Str.Parse.{digits_value}
use Rattle.std.proofs.lemmas.Bool.{true≢false}
use Rattle.std.proofs.lemmas.Fmt.{decimal_is_IsNumeral}
use Rattle.xds_json.proofs.Lists.{one_value}
use Rattle.xds_resource.specs.Writes.{StampedWrite}
use Rattle.xds_resource.proofs.NameMaps.{bytes_eq_tells, bytes_eq_same}
use Rattle.xds_resource.specs.declared.types.TypeName.{TypeName}
use Rattle.xds_resource.specs.declared.any.AnyWrite.{AnyWrite}
use Rattle.xds_resource.specs.declared.refusal.Refusal.{Refusal}
use Rattle.xds_resource.specs.Any.{write_type, stamped_write}
use Rattle.xds_message.specs.Messages.{Request, Response, SpellsRequest, SpellsResponse}
use Rattle.xds_message.specs.DeltaMessages.{DeltaRequest, DeltaResponse, SpellsDeltaRequest, SpellsDeltaResponse}
use Rattle.xds_message.proofs.OneMessage.{SpellsResponse-unique}
use Rattle.xds_message.proofs.OneDeltaMessage.{SpellsDeltaResponse-unique}
use Rattle.xds_ledger.specs.declared.variant.VariantName.TheVariants as variants
use Rattle.xds_ledger.specs.Variants.{is_delta}
use Rattle.xds_message.specs.StampedWrites.{IsSpelledBy}
use Rattle.xds_check.specs.declared.asking.Asking.{Asking}
use Rattle.xds_check.specs.declared.asking.Asking.TheVariants.{Sotw, Delta}
use Rattle.xds_check.specs.declared.line.Line.{Line}
use Rattle.xds_check.specs.declared.line.Line.TheVariants as lines
use Rattle.xds_check.specs.declared.words.Verb.{Verb}
use Rattle.xds_check.specs.declared.words.Verb.TheVariants as verbs
use Rattle.xds_check.specs.Answers.{Answer}
use Rattle.xds_check.specs.Texts.{IsJsonOf, IsBehind, IsBehindStream, IsLineOf, IsLineWith, IsText, IsRequestOf, IsRequestWith, IsRequestOn, IsResponseOf, IsResponseWith, IsResponseOn, IsSotwAnswer, IsDeltaAnswer, Says, SaysBehind, SpellsAsking, SpellsAnswer, SpellsSotwAnswer, SpellsDeltaAnswer, request_kind, response_kind, verb_in}
use Rattle.xds_check.specs.Words.{Finds, cut, word_of, verb_of, IsStreamText}

-- ---- the lines of a form

pub as_write : (l : Line) (rest : List ℕ) → IsLineOf verbs.Write rest l → (w : AnyWrite) × IsJsonOf IsSpelledBy rest (write_type w, stamped_write w)
as_write (lines.Write w) rest is = (w, is.1)
as_write (lines.Open s) rest is = let e = is.0 in cc
as_write (lines.Close s) rest is = let e = is.0 in cc
as_write (lines.Request s m) rest is = let e = is.0 in cc
as_write (lines.Response s a) rest is = let e = is.0 in cc
as_write (lines.Idle s t) rest is = let e = is.0 in cc

pub as_request : (l : Line) (rest : List ℕ) → IsLineOf verbs.Request rest l → (s : ℕ) × (m : Asking) × IsBehindStream s (IsBehind (request_kind m) (SpellsAsking m)) rest
as_request (lines.Write w) rest is = let e = is.0 in cc
as_request (lines.Open s) rest is = let e = is.0 in cc
as_request (lines.Close s) rest is = let e = is.0 in cc
as_request (lines.Request s m) rest is = (s, m, is.1)
as_request (lines.Response s a) rest is = let e = is.0 in cc
as_request (lines.Idle s t) rest is = let e = is.0 in cc

pub as_response : (l : Line) (rest : List ℕ) → IsLineOf verbs.Response rest l → (s : ℕ) × (a : Answer) × IsBehindStream s (IsBehind (response_kind a) (SpellsAnswer a)) rest
as_response (lines.Write w) rest is = let e = is.0 in cc
as_response (lines.Open s) rest is = let e = is.0 in cc
as_response (lines.Close s) rest is = let e = is.0 in cc
as_response (lines.Request s m) rest is = let e = is.0 in cc
as_response (lines.Response s a) rest is = (s, a, is.1)
as_response (lines.Idle s t) rest is = let e = is.0 in cc

-- ---- texts that are cut in one way

pub one_cut : (text word rest other more : List ℕ) → cut text ≡ Some (word, rest) → cut text ≡ Some (other, more) → (word ≡ other) × (rest ≡ more)
one_cut text word rest other more p q =
    let same : Some (word, rest) ≡ Some (other, more) = sym p ∙ q in
    (ap (λ (o : Option (List ℕ × List ℕ)). (unwrap_or o ([], [])).0) same, ap (λ (o : Option (List ℕ × List ℕ)). (unwrap_or o ([], [])).1) same)

pub never_cut : (text word rest : List ℕ) → None ≡ cut text → cut text ≡ Some (word, rest) → ⊥
never_cut text word rest p q = let same : None ≡ Some (word, rest) = p ∙ q in true≢false (sym (ap is_some same))

-- two facts that hold of the same answers are found alike
pub Finds-same : {X Y : Type 0} (P Q : Y → Type 0) (view : X → Y) (r : Result X Refusal) → ((y : Y) → P y → Q y) → ((y : Y) → Q y → P y) → Finds view P r → Finds view Q r
Finds-same P Q view (Ok x) to back h = to (view x) h
Finds-same P Q view (Err e) to back h = λ other. let k = h other in (k.0, λ y q. k.1 y (back y q))

-- ---- requests and responses by their kinds

pub not_same : (a b : List ℕ) → a ≡ b → bytes_eq a b ≡ false → ⊥
not_same a b e differ = true≢false (sym (ap (λ x. bytes_eq x b) e ∙ bytes_eq_same b) ∙ differ)

pub no_sotw_asking : (json : List ℕ) → ((y : Request) → IsJsonOf SpellsRequest json y → ⊥) → (m : Asking) → IsRequestOf (codes "1") json m → ⊥
no_sotw_asking json none (Sotw q) is = none q is.1
no_sotw_asking json none (Delta q) is = not_same (codes "1") (codes "3") is.0 refl

pub no_delta_asking : (json : List ℕ) → ((y : DeltaRequest) → IsJsonOf SpellsDeltaRequest json y → ⊥) → (m : Asking) → IsRequestOf (codes "3") json m → ⊥
no_delta_asking json none (Sotw q) is = not_same (codes "3") (codes "1") is.0 refl
no_delta_asking json none (Delta q) is = none q is.1

pub no_write : (rest : List ℕ) → ((y : TypeName × StampedWrite) → IsJsonOf IsSpelledBy rest y → ⊥) → (l : Line) → IsLineOf verbs.Write rest l → ⊥
no_write rest none l is = let w = as_write l rest is in none (write_type w.0, stamped_write w.0) w.1

-- a kind that is neither
pub no_request_kind : (kind json : List ℕ) → bytes_eq kind (codes "1") ≡ false → bytes_eq kind (codes "3") ≡ false → (m : Asking) → IsRequestOf kind json m → ⊥
no_request_kind kind json p q (Sotw m) is = not_same kind (codes "1") is.0 p
no_request_kind kind json p q (Delta m) is = not_same kind (codes "3") is.0 q

-- the kind of an answer by its variant
pub sotw_kind : (a : Answer) → a.variant ≡ variants.StateOfTheWorld → response_kind a ≡ codes "2"
sotw_kind a e = ap (λ v. cond (is_delta v) (codes "4") (codes "2")) e

pub delta_kind : (a : Answer) → a.variant ≡ variants.Delta → response_kind a ≡ codes "4"
delta_kind a e = ap (λ v. cond (is_delta v) (codes "4") (codes "2")) e

only_sotw : (json : List ℕ) (a : Answer) → codes "2" ≡ response_kind a → SpellsAnswer a json → IsJsonOf SpellsSotwAnswer json a
only_sotw json a e (inl s) = s
only_sotw json a e (inr d) = absurd (not_same (codes "2") (codes "4") (e ∙ delta_kind a d.2.2.variant) refl)

only_delta : (json : List ℕ) (a : Answer) → codes "4" ≡ response_kind a → SpellsAnswer a json → IsJsonOf SpellsDeltaAnswer json a
only_delta json a e (inl s) = absurd (not_same (codes "4") (codes "2") (e ∙ sotw_kind a s.2.2.variant) refl)
only_delta json a e (inr d) = d

pub sotw_of : (json : List ℕ) (r : Result Answer Refusal) → Finds (λ a. a) (IsJsonOf SpellsSotwAnswer json) r → Finds (λ a. a) (IsResponseOf (codes "2") json) r
sotw_of json r h = Finds-same (IsJsonOf SpellsSotwAnswer json) (IsResponseOf (codes "2") json) (λ a. a) r (λ a is. (sym (sotw_kind a is.2.2.variant), inl is)) (λ a is. only_sotw json a is.0 is.1) h

pub delta_of : (json : List ℕ) (r : Result Answer Refusal) → Finds (λ a. a) (IsJsonOf SpellsDeltaAnswer json) r → Finds (λ a. a) (IsResponseOf (codes "4") json) r
delta_of json r h = Finds-same (IsJsonOf SpellsDeltaAnswer json) (IsResponseOf (codes "4") json) (λ a. a) r (λ a is. (sym (delta_kind a is.2.2.variant), inr is)) (λ a is. only_delta json a is.0 is.1) h

no_kind_of : (kind json : List ℕ) (a : Answer) → bytes_eq kind (codes "2") ≡ false → bytes_eq kind (codes "4") ≡ false → kind ≡ response_kind a → SpellsAnswer a json → ⊥
no_kind_of kind json a p q e (inl s) = not_same kind (codes "2") (e ∙ sotw_kind a s.2.2.variant) p
no_kind_of kind json a p q e (inr d) = not_same kind (codes "4") (e ∙ delta_kind a d.2.2.variant) q

pub no_response_kind : (kind json : List ℕ) → bytes_eq kind (codes "2") ≡ false → bytes_eq kind (codes "4") ≡ false → (a : Answer) → IsResponseOf kind json a → ⊥
no_response_kind kind json p q a is = no_kind_of kind json a p q is.0 is.1

-- what a response's JSON spells, and what that is as an answer
pub sotw_found : (json : List ℕ) (m : Response) (r : Result Answer Refusal) → IsJsonOf SpellsResponse json m → Finds (λ a. a) (IsSotwAnswer m) r → Finds (λ a. a) (IsJsonOf SpellsSotwAnswer json) r
sotw_found json m r spelled h =
    Finds-same (IsSotwAnswer m) (IsJsonOf SpellsSotwAnswer json) (λ a. a) r (λ a is. (spelled.0, spelled.1, (m, spelled.2, is)))
    (λ a is.
    let same : is.2.0 ≡ m = SpellsResponse-unique spelled.0 is.2.0 m (subst (λ d. SpellsResponse d is.2.0) (one_value json is.0 spelled.0 is.1 spelled.1) is.2.1) spelled.2 in
    subst (λ x. IsSotwAnswer x a) same is.2.2)
    h

pub delta_found : (json : List ℕ) (m : DeltaResponse) (r : Result Answer Refusal) → IsJsonOf SpellsDeltaResponse json m → Finds (λ a. a) (IsDeltaAnswer m) r → Finds (λ a. a) (IsJsonOf SpellsDeltaAnswer json) r
delta_found json m r spelled h =
    Finds-same (IsDeltaAnswer m) (IsJsonOf SpellsDeltaAnswer json) (λ a. a) r (λ a is. (spelled.0, spelled.1, (m, spelled.2, is)))
    (λ a is.
    let same : is.2.0 ≡ m = SpellsDeltaResponse-unique spelled.0 is.2.0 m (subst (λ d. SpellsDeltaResponse d is.2.0) (one_value json is.0 spelled.0 is.1 spelled.1) is.2.1) spelled.2 in
    subst (λ x. IsDeltaAnswer x a) same is.2.2)
    h

-- ---- a stream's number, a kind, and JSON

pub request_on : (s : ℕ) (behind kind json : List ℕ) (r : Result Line Refusal) → Some (kind, json) ≡ cut behind → Finds (λ l. l) (IsRequestWith s kind json) r → Finds (λ l. l) (IsRequestOn s behind) r
request_on s behind kind json r e h =
    Finds-same (IsRequestWith s kind json) (IsRequestOn s behind) (λ l. l) r (λ l is. (is.0, is.1, (json, sym e ∙ ap (λ k. Some (k, json)) is.2.0, is.2.1)))
    (λ l is.
    let same = one_cut behind (request_kind is.0) is.2.0 kind json is.2.1 (sym e) in
    (is.0, is.1, (sym same.0, subst (λ (x : List ℕ). SpellsAsking is.0 x) same.1 is.2.2)))
    h

pub response_on : (s : ℕ) (behind kind json : List ℕ) (r : Result Line Refusal) → Some (kind, json) ≡ cut behind → Finds (λ l. l) (IsResponseWith s kind json) r → Finds (λ l. l) (IsResponseOn s behind) r
response_on s behind kind json r e h =
    Finds-same (IsResponseWith s kind json) (IsResponseOn s behind) (λ l. l) r (λ l is. (is.0, is.1, (json, sym e ∙ ap (λ k. Some (k, json)) is.2.0, is.2.1)))
    (λ l is.
    let same = one_cut behind (response_kind is.0) is.2.0 kind json is.2.1 (sym e) in
    (is.0, is.1, (sym same.0, subst (λ (x : List ℕ). SpellsAnswer is.0 x) same.1 is.2.2)))
    h

-- two numbers that one word spells
pub one_number : (s r : ℕ) (word : List ℕ) → IsStreamText s word → IsStreamText r word → s ≡ r
one_number s r word p q = let read = (decimal_is_IsNumeral s (omega (arith, p.0.1))).1 in sym read ∙ ap (digits_value 10) (sym p.1 ∙ q.1) ∙ (decimal_is_IsNumeral r (omega (arith, q.0.1))).1

is_request : (rest word behind : List ℕ) (s : ℕ) → cut rest ≡ Some (word, behind) → IsStreamText s word → (l : Line) → IsRequestOn s behind l → IsLineOf verbs.Request rest l
is_request rest word behind s e text l is = subst (IsLineOf verbs.Request rest) (sym is.1) (refl, (word, behind, e, text, is.2))

was_request : (rest word behind : List ℕ) (s : ℕ) → cut rest ≡ Some (word, behind) → IsStreamText s word → (l : Line) → IsLineOf verbs.Request rest l → IsRequestOn s behind l
was_request rest word behind s e text (lines.Write w) is = let k = is.0 in cc
was_request rest word behind s e text (lines.Open r) is = let k = is.0 in cc
was_request rest word behind s e text (lines.Close r) is = let k = is.0 in cc
was_request rest word behind s e text (lines.Request r m) is =
    let b = is.1 in
    let same = one_cut rest b.0 b.1 word behind b.2 e in
    let number : r ≡ s = one_number r s word (subst (λ (x : List ℕ). IsStreamText r x) same.0 b.3) text in
    (m, ap (λ n. lines.Request n m) number, subst (λ (x : List ℕ). IsBehind (request_kind m) (SpellsAsking m) x) same.1 b.4)
was_request rest word behind s e text (lines.Response r a) is = let k = is.0 in cc
was_request rest word behind s e text (lines.Idle r t) is = let k = is.0 in cc

pub request_there : (rest word behind : List ℕ) (s : ℕ) (r : Result Line Refusal) → cut rest ≡ Some (word, behind) → IsStreamText s word → Finds (λ l. l) (IsRequestOn s behind) r → Finds (λ l. l) (IsLineOf verbs.Request rest) r
request_there rest word behind s r e text h = Finds-same (IsRequestOn s behind) (IsLineOf verbs.Request rest) (λ l. l) r (is_request rest word behind s e text) (was_request rest word behind s e text) h

is_response : (rest word behind : List ℕ) (s : ℕ) → cut rest ≡ Some (word, behind) → IsStreamText s word → (l : Line) → IsResponseOn s behind l → IsLineOf verbs.Response rest l
is_response rest word behind s e text l is = subst (IsLineOf verbs.Response rest) (sym is.1) (refl, (word, behind, e, text, is.2))

was_response : (rest word behind : List ℕ) (s : ℕ) → cut rest ≡ Some (word, behind) → IsStreamText s word → (l : Line) → IsLineOf verbs.Response rest l → IsResponseOn s behind l
was_response rest word behind s e text (lines.Write w) is = let k = is.0 in cc
was_response rest word behind s e text (lines.Open r) is = let k = is.0 in cc
was_response rest word behind s e text (lines.Close r) is = let k = is.0 in cc
was_response rest word behind s e text (lines.Request r m) is = let k = is.0 in cc
was_response rest word behind s e text (lines.Response r a) is =
    let b = is.1 in
    let same = one_cut rest b.0 b.1 word behind b.2 e in
    let number : r ≡ s = one_number r s word (subst (λ (x : List ℕ). IsStreamText r x) same.0 b.3) text in
    (a, ap (λ n. lines.Response n a) number, subst (λ (x : List ℕ). IsBehind (response_kind a) (SpellsAnswer a) x) same.1 b.4)
was_response rest word behind s e text (lines.Idle r t) is = let k = is.0 in cc

pub response_there : (rest word behind : List ℕ) (s : ℕ) (r : Result Line Refusal) → cut rest ≡ Some (word, behind) → IsStreamText s word → Finds (λ l. l) (IsResponseOn s behind) r → Finds (λ l. l) (IsLineOf verbs.Response rest) r
response_there rest word behind s r e text h = Finds-same (IsResponseOn s behind) (IsLineOf verbs.Response rest) (λ l. l) r (is_response rest word behind s e text) (was_response rest word behind s e text) h

-- ---- whole lines

pub verb_in_word : (v : Verb) → verb_of (word_of v) ≡ Some v
verb_in_word verbs.Write = refl
verb_in_word verbs.Open = refl
verb_in_word verbs.Close = refl
verb_in_word verbs.Request = refl
verb_in_word verbs.Response = refl
verb_in_word verbs.Idle = refl

step_found : (t : Bool) (w : List ℕ) (v u : Verb) (later : Option Verb) → bytes_eq w (word_of u) ≡ t → cond t (Some u) later ≡ Some v → (later ≡ Some v → w ≡ word_of v) → w ≡ word_of v
step_found true w v u later e f more = let same : u ≡ v = cc in bytes_eq_tells w (word_of u) e ∙ ap word_of same
step_found false w v u later e f more = more f

no_more : (w : List ℕ) (v : Verb) → None ≡ Some v → w ≡ word_of v
no_more w v e = absurd (true≢false (sym (ap is_some e)))

-- a word of which a verb is found is that verb's
word_found : (w : List ℕ) (v : Verb) → verb_of w ≡ Some v → w ≡ word_of v
word_found w v e =
    step_found (bytes_eq w (word_of verbs.Write)) w v verbs.Write _ refl e (λ f.
    step_found (bytes_eq w (word_of verbs.Open)) w v verbs.Open _ refl f (λ g.
    step_found (bytes_eq w (word_of verbs.Close)) w v verbs.Close _ refl g (λ h.
    step_found (bytes_eq w (word_of verbs.Request)) w v verbs.Request _ refl h (λ i.
    step_found (bytes_eq w (word_of verbs.Response)) w v verbs.Response _ refl i (λ j.
    step_found (bytes_eq w (word_of verbs.Idle)) w v verbs.Idle None refl j (no_more w v))))))

pub same_verb : (u v : Verb) → Some u ≡ Some v → u ≡ v
same_verb u v e = cc

pub line_with : (word rest : List ℕ) (v : Verb) (r : Result Line Refusal) → Some v ≡ verb_of word → Finds (λ l. l) (IsLineOf v rest) r → Finds (λ l. l) (IsLineWith word rest) r
line_with word rest v r e h =
    Finds-same (IsLineOf v rest) (IsLineWith word rest) (λ l. l) r (λ l is. (word_found word v (sym e) ∙ ap word_of (sym is.0), is.1))
    (λ l is. (same_verb (verb_in l) v (sym (verb_in_word (verb_in l)) ∙ ap verb_of (sym is.0) ∙ sym e), is.1)) h

pub no_verb : (word rest : List ℕ) → None ≡ verb_of word → (l : Line) → IsLineWith word rest l → ⊥
no_verb word rest e l is =
    let same : None ≡ Some (verb_in l) = e ∙ ap verb_of is.0 ∙ verb_in_word (verb_in l) in
    true≢false (sym (ap is_some same))

pub text_is : (text word rest : List ℕ) (r : Result Line Refusal) → Some (word, rest) ≡ cut text → Finds (λ l. l) (IsLineWith word rest) r → Finds (λ l. l) (IsText text) r
text_is text word rest r e h =
    Finds-same (IsLineWith word rest) (IsText text) (λ l. l) r (λ l is. (rest, sym e ∙ ap (λ x. Some (x, rest)) is.0, is.1))
    (λ l is.
    let same = one_cut text (word_of (verb_in l)) is.0 word rest is.1 (sym e) in
    (sym same.0, subst (λ (x : List ℕ). SaysBehind l x) same.1 is.2))
    h

pub says_found : (line text : List ℕ) (r : Result Line Refusal) → (text ≡ line) × IsUtf8 line → Finds (λ l. l) (IsText text) r → Finds (λ l. l) (Says line) r
says_found line text r is h =
    Finds-same (IsText line) (Says line) (λ l. l) r (λ l s. (is.1, s)) (λ l s. s.1) (subst (λ (x : List ℕ). Finds (λ l. l) (IsText x) r) is.0 h)
