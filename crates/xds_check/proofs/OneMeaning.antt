-- A text says one line at most.
use Rattle.std.proofs.Common.{◌≡◌, ℕ, List, [], ◌∷◌, Result, Ok, Err, inl, inr, refl, ap, sym, ◌∙◌, subst}
use Rattle.std.specs.Prelude.{codes}
use Rattle.std.specs.List.{AllZip}
use Rattle.std.specs.Option.{unwrap_or}
use Rattle.xds_json.proofs.Lists.{one_value}
use Rattle.serde_json.specs.Data.{Data}
use Rattle.xds_resource.specs.declared.types.TypeName.{TypeName}
use Rattle.xds_resource.specs.declared.types.TypeName.TheVariants as types
use Rattle.xds_resource.specs.declared.any.AnyWrite.{AnyWrite}
use Rattle.xds_resource.specs.declared.any.AnyWrite.TheVariants as writes
use Rattle.xds_resource.specs.declared.refusal.Refusal.{Refusal}
use Rattle.xds_resource.specs.Any.{write_type, stamped_write}
use Rattle.xds_resource.specs.Resources.{NamedBody}
use Rattle.xds_resource.specs.Types.{row, type_of_word}
use Rattle.xds_resource.specs.Writes.{StampedWrite}
use Rattle.xds_resource.proofs.TypesApart.{word_again}
use Rattle.xds_message.specs.StampedWrites.{IsSpelledBy, SpellsWrite}
use Rattle.xds_message.proofs.StampedWriteLemmas.{SpellsWrite-unique, url-injective}
use Rattle.xds_message.specs.Messages.{Response, SpellsRequest, SpellsResponse}
use Rattle.xds_message.specs.DeltaMessages.{VersionedResource, DeltaResponse, SpellsDeltaRequest, SpellsDeltaResponse}
use Rattle.xds_message.proofs.OneMessage.{SpellsRequest-unique, SpellsResponse-unique}
use Rattle.xds_message.proofs.OneDeltaMessage.{SpellsDeltaRequest-unique, SpellsDeltaResponse-unique}
use Rattle.xds_check.specs.declared.asking.Asking.{Asking}
use Rattle.xds_check.specs.declared.asking.Asking.TheVariants.{Sotw, Delta}
use Rattle.xds_check.specs.declared.line.Line.{Line}
use Rattle.xds_check.specs.declared.line.Line.TheVariants as lines
use Rattle.xds_check.specs.Answers.{Statement, Answer}
use Rattle.xds_check.specs.Words.{word_of, verb_of, IsStreamText}
use Rattle.xds_check.specs.Texts.{IsStated, IsLabelled, IsSotwAnswer, IsDeltaAnswer, IsJsonOf, IsBehind, IsBehindStream, SpellsAsking, SpellsAnswer, SaysBehind, Says, request_kind, response_kind, verb_in}
use Rattle.xds_check.proofs.RulesLining.{one_cut, one_number, not_same, sotw_kind, delta_kind, verb_in_word, same_verb}

-- ---- writes

abbrev any_of : TypeName → StampedWrite → AnyWrite
any_of types.Cluster w = writes.Cluster w
any_of types.Endpoint w = writes.Endpoint w
any_of types.Listener w = writes.Listener w
any_of types.Route w = writes.Route w
any_of types.Secret w = writes.Secret w

any_again : (w : AnyWrite) → any_of (write_type w) (stamped_write w) ≡ w
any_again (writes.Cluster w) = refl
any_again (writes.Endpoint w) = refl
any_again (writes.Listener w) = refl
any_again (writes.Route w) = refl
any_again (writes.Secret w) = refl

same_any : (v w : AnyWrite) → write_type v ≡ write_type w → stamped_write v ≡ stamped_write w → v ≡ w
same_any v w p q = sym (any_again v) ∙ (λ i. any_of (p i) (q i)) ∙ any_again w

one_write : (rest : List ℕ) (v w : AnyWrite) → IsJsonOf IsSpelledBy rest (write_type v, stamped_write v) → IsJsonOf IsSpelledBy rest (write_type w, stamped_write w) → v ≡ w
one_write rest v w p q =
    let same = SpellsWrite-unique q.0 (write_type v) (write_type w) (stamped_write v) (stamped_write w) (subst (λ d. SpellsWrite d (write_type v) (stamped_write v)) (one_value rest p.0 q.0 p.1 q.1) p.2) q.2 in
    same_any v w same.0 same.1

-- ---- requests

one_request : (m n : Asking) (json : List ℕ) → request_kind m ≡ request_kind n → SpellsAsking m json → SpellsAsking n json → m ≡ n
one_request (Sotw m) (Sotw n) json e p q = ap Sotw (SpellsRequest-unique q.0 m n (subst (λ d. SpellsRequest d m) (one_value json p.0 q.0 p.1 q.1) p.2) q.2)
one_request (Sotw m) (Delta n) json e p q = absurd (not_same (codes "1") (codes "3") e refl)
one_request (Delta m) (Sotw n) json e p q = absurd (not_same (codes "3") (codes "1") e refl)
one_request (Delta m) (Delta n) json e p q = ap Delta (SpellsDeltaRequest-unique q.0 m n (subst (λ d. SpellsDeltaRequest d m) (one_value json p.0 q.0 p.1 q.1) p.2) q.2)

-- ---- responses

abbrev named_or_none : Result NamedBody Refusal → NamedBody
named_or_none (Ok r) = r
named_or_none (Err e) = record { name = []; body = [] }

one_resource : (o : Result NamedBody Refusal) (x y : Statement) → o ≡ Ok (record { name = x.name; body = x.body }) → o ≡ Ok (record { name = y.name; body = y.body }) → x.label ≡ y.label → x ≡ y
one_resource o x y p q label =
    let same = ap named_or_none (sym p ∙ q) in
    λ i. record { name = (same i).name; body = (same i).body; label = label i }

one_stated : (t : TypeName) (d : Data) (x y : Statement) → IsStated t d x → IsStated t d y → x ≡ y
one_stated t d x y p q = one_resource _ x y p.0 q.0 (p.1 ∙ sym q.1)

one_labelled : (t : TypeName) (r : VersionedResource) (x y : Statement) → IsLabelled t r x → IsLabelled t r y → x ≡ y
one_labelled t r x y p q = one_resource _ x y p.0 q.0 (p.1 ∙ sym q.1)

one_zip : {A B : Type 0} (R : A → B → Type 0) → ((a : A) (x y : B) → R a x → R a y → x ≡ y) → (ds : List A) (xs ys : List B) → AllZip R ds xs → AllZip R ds ys → xs ≡ ys
one_zip R one [] [] [] p q = refl
one_zip R one [] [] (y ∷ ys) p q = absurd q
one_zip R one [] (x ∷ xs) ys p q = absurd p
one_zip R one (d ∷ ds) [] ys p q = absurd p
one_zip R one (d ∷ ds) (x ∷ xs) [] p q = absurd q
one_zip R one (d ∷ ds) (x ∷ xs) (y ∷ ys) p q = let first = one d x y p.0 q.0 in let later = one_zip R one ds xs ys p.1 q.1 in λ i. first i ∷ later i

one_sotw : (m : Response) (a b : Answer) → IsSotwAnswer m a → IsSotwAnswer m b → a ≡ b
one_sotw m a b p q =
    let variant = p.variant ∙ sym q.variant in
    let kind = url-injective a.kind b.kind (sym p.kind ∙ q.kind) in
    let version_info = p.version_info ∙ sym q.version_info in
    let nonce = p.nonce ∙ sym q.nonce in
    let statements = one_zip (IsStated b.kind) (one_stated b.kind) m.resources a.statements b.statements (subst (λ t. AllZip (IsStated t) m.resources a.statements) kind p.statements) q.statements in
    let removed = p.removed ∙ sym q.removed in
    λ i. record { variant = variant i; kind = kind i; version_info = version_info i; nonce = nonce i; statements = statements i; removed = removed i }

one_delta : (m : DeltaResponse) (a b : Answer) → IsDeltaAnswer m a → IsDeltaAnswer m b → a ≡ b
one_delta m a b p q =
    let variant = p.variant ∙ sym q.variant in
    let kind = url-injective a.kind b.kind (sym p.kind ∙ q.kind) in
    let version_info = p.version_info ∙ sym q.version_info in
    let nonce = p.nonce ∙ sym q.nonce in
    let statements = one_zip (IsLabelled b.kind) (one_labelled b.kind) m.resources a.statements b.statements (subst (λ t. AllZip (IsLabelled t) m.resources a.statements) kind p.statements) q.statements in
    let removed = p.removed ∙ sym q.removed in
    λ i. record { variant = variant i; kind = kind i; version_info = version_info i; nonce = nonce i; statements = statements i; removed = removed i }

one_answer : (a b : Answer) (json : List ℕ) → response_kind a ≡ response_kind b → SpellsAnswer a json → SpellsAnswer b json → a ≡ b
one_answer a b json e (inl p) (inl q) =
    let same = SpellsResponse-unique q.0 p.2.0 q.2.0 (subst (λ d. SpellsResponse d p.2.0) (one_value json p.0 q.0 p.1 q.1) p.2.1) q.2.1 in
    one_sotw q.2.0 a b (subst (λ m. IsSotwAnswer m a) same p.2.2) q.2.2
one_answer a b json e (inl p) (inr q) = absurd (not_same (codes "2") (codes "4") (sym (sotw_kind a p.2.2.variant) ∙ e ∙ delta_kind b q.2.2.variant) refl)
one_answer a b json e (inr p) (inl q) = absurd (not_same (codes "4") (codes "2") (sym (delta_kind a p.2.2.variant) ∙ e ∙ sotw_kind b q.2.2.variant) refl)
one_answer a b json e (inr p) (inr q) =
    let same = SpellsDeltaResponse-unique q.0 p.2.0 q.2.0 (subst (λ d. SpellsDeltaResponse d p.2.0) (one_value json p.0 q.0 p.1 q.1) p.2.1) q.2.1 in
    one_delta q.2.0 a b (subst (λ m. IsDeltaAnswer m a) same p.2.2) q.2.2

-- ---- types by their words

one_type : (t u : TypeName) → (row t).word ≡ (row u).word → t ≡ u
one_type t u e = ap (λ o. unwrap_or o types.Cluster) (sym (word_again t) ∙ ap type_of_word e ∙ word_again u)

-- ---- what stands behind the first word

one_request_behind : (s r : ℕ) (m n : Asking) (rest : List ℕ) → IsBehindStream s (IsBehind (request_kind m) (SpellsAsking m)) rest → IsBehindStream r (IsBehind (request_kind n) (SpellsAsking n)) rest
    → lines.Request s m ≡ lines.Request r n
one_request_behind s r m n rest p q =
    let same = one_cut rest p.0 p.1 q.0 q.1 p.2 q.2 in
    let number = one_number s r q.0 (subst (λ (x : List ℕ). IsStreamText s x) same.0 p.3) q.3 in
    let b = subst (λ (x : List ℕ). IsBehind (request_kind m) (SpellsAsking m) x) same.1 p.4 in
    let kind = one_cut q.1 (request_kind m) b.0 (request_kind n) q.4.0 b.1 q.4.1 in
    let message = one_request m n q.4.0 kind.0 (subst (λ (x : List ℕ). SpellsAsking m x) kind.1 b.2) q.4.2 in
    λ i. lines.Request (number i) (message i)

one_response_behind : (s r : ℕ) (a b : Answer) (rest : List ℕ) → IsBehindStream s (IsBehind (response_kind a) (SpellsAnswer a)) rest → IsBehindStream r (IsBehind (response_kind b) (SpellsAnswer b)) rest
    → lines.Response s a ≡ lines.Response r b
one_response_behind s r a b rest p q =
    let same = one_cut rest p.0 p.1 q.0 q.1 p.2 q.2 in
    let number = one_number s r q.0 (subst (λ (x : List ℕ). IsStreamText s x) same.0 p.3) q.3 in
    let k = subst (λ (x : List ℕ). IsBehind (response_kind a) (SpellsAnswer a) x) same.1 p.4 in
    let kind = one_cut q.1 (response_kind a) k.0 (response_kind b) q.4.0 k.1 q.4.1 in
    let message = one_answer a b q.4.0 kind.0 (subst (λ (x : List ℕ). SpellsAnswer a x) kind.1 k.2) q.4.2 in
    λ i. lines.Response (number i) (message i)

one_idle : (s r : ℕ) (t u : TypeName) (rest : List ℕ) → IsBehindStream s (λ word. word ≡ (row t).word) rest → IsBehindStream r (λ word. word ≡ (row u).word) rest → lines.Idle s t ≡ lines.Idle r u
one_idle s r t u rest p q =
    let same = one_cut rest p.0 p.1 q.0 q.1 p.2 q.2 in
    let number = one_number s r q.0 (subst (λ (x : List ℕ). IsStreamText s x) same.0 p.3) q.3 in
    let kind = one_type t u (sym p.4 ∙ same.1 ∙ q.4) in
    λ i. lines.Idle (number i) (kind i)

one_behind : (l k : Line) (rest : List ℕ) → verb_in l ≡ verb_in k → SaysBehind l rest → SaysBehind k rest → l ≡ k
one_behind (lines.Write w) (lines.Write v) rest e p q = ap lines.Write (one_write rest w v p q)
one_behind (lines.Write w) (lines.Open r) rest e p q = absurd cc
one_behind (lines.Write w) (lines.Close r) rest e p q = absurd cc
one_behind (lines.Write w) (lines.Request r n) rest e p q = absurd cc
one_behind (lines.Write w) (lines.Response r b) rest e p q = absurd cc
one_behind (lines.Write w) (lines.Idle r u) rest e p q = absurd cc
one_behind (lines.Open s) (lines.Write v) rest e p q = absurd cc
one_behind (lines.Open s) (lines.Open r) rest e p q = ap lines.Open (one_number s r rest p q)
one_behind (lines.Open s) (lines.Close r) rest e p q = absurd cc
one_behind (lines.Open s) (lines.Request r n) rest e p q = absurd cc
one_behind (lines.Open s) (lines.Response r b) rest e p q = absurd cc
one_behind (lines.Open s) (lines.Idle r u) rest e p q = absurd cc
one_behind (lines.Close s) (lines.Write v) rest e p q = absurd cc
one_behind (lines.Close s) (lines.Open r) rest e p q = absurd cc
one_behind (lines.Close s) (lines.Close r) rest e p q = ap lines.Close (one_number s r rest p q)
one_behind (lines.Close s) (lines.Request r n) rest e p q = absurd cc
one_behind (lines.Close s) (lines.Response r b) rest e p q = absurd cc
one_behind (lines.Close s) (lines.Idle r u) rest e p q = absurd cc
one_behind (lines.Request s m) (lines.Write v) rest e p q = absurd cc
one_behind (lines.Request s m) (lines.Open r) rest e p q = absurd cc
one_behind (lines.Request s m) (lines.Close r) rest e p q = absurd cc
one_behind (lines.Request s m) (lines.Request r n) rest e p q = one_request_behind s r m n rest p q
one_behind (lines.Request s m) (lines.Response r b) rest e p q = absurd cc
one_behind (lines.Request s m) (lines.Idle r u) rest e p q = absurd cc
one_behind (lines.Response s a) (lines.Write v) rest e p q = absurd cc
one_behind (lines.Response s a) (lines.Open r) rest e p q = absurd cc
one_behind (lines.Response s a) (lines.Close r) rest e p q = absurd cc
one_behind (lines.Response s a) (lines.Request r n) rest e p q = absurd cc
one_behind (lines.Response s a) (lines.Response r b) rest e p q = one_response_behind s r a b rest p q
one_behind (lines.Response s a) (lines.Idle r u) rest e p q = absurd cc
one_behind (lines.Idle s t) (lines.Write v) rest e p q = absurd cc
one_behind (lines.Idle s t) (lines.Open r) rest e p q = absurd cc
one_behind (lines.Idle s t) (lines.Close r) rest e p q = absurd cc
one_behind (lines.Idle s t) (lines.Request r n) rest e p q = absurd cc
one_behind (lines.Idle s t) (lines.Response r b) rest e p q = absurd cc
one_behind (lines.Idle s t) (lines.Idle r u) rest e p q = one_idle s r t u rest p q

pub one_line_said : (text : List ℕ) (l k : Line) → Says text l → Says text k → l ≡ k
one_line_said text l k p q =
    let same = one_cut text (word_of (verb_in l)) p.1.0 (word_of (verb_in k)) q.1.0 p.1.1 q.1.1 in
    let verb = same_verb (verb_in l) (verb_in k) (sym (verb_in_word (verb_in l)) ∙ ap verb_of same.0 ∙ verb_in_word (verb_in k)) in
    one_behind l k q.1.0 verb (subst (λ (x : List ℕ). SaysBehind l x) same.1 p.1.2) q.1.2
