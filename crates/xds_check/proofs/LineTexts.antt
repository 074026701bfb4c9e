-- The text that is written for a line says the line, and is one line.
use Rattle.std.proofs.Common.{◌≡◌, ℕ, List, ◌∷◌, All, Bool, true, false, refl, ap, ◌∙◌, subst, decimal, codes, get_or}
use Rattle.std.specs.declared.alloc.Global.{Global}
use Rattle.std.proofs.lemmas.Str.{IsUtf8-string_bytes}
use Rattle.xds_resource.specs.declared.refusal.Refusal.{Refusal}
use Rattle.std.specs.Prelude.{String, string_bytes, Result, Ok, Err, IfOk, OnOk, IsUtf8, ◌==◌, if◌then◌else◌}
use Rattle.std.specs.List.{list_any}
use Rattle.xds_resource.specs.declared.types.TypeName.{TypeName}
use Rattle.xds_resource.specs.declared.types.TypeName.TheVariants as types
use Rattle.xds_resource.specs.Any.{write_type, stamped_write}
use Rattle.xds_resource.specs.Types.{row}
use Rattle.serde_json.specs.Written.{compact_text}
use Rattle.xds_message.specs.StampedWrites.{write_object}
use Rattle.xds_message.specs.Written.{request_object, response_object}
use Rattle.xds_message.specs.DeltaWritten.{delta_request_object, delta_response_object}
use Rattle.xds_ledger.specs.Variants.{is_delta}
use Rattle.xds_ledger.specs.declared.variant.VariantName.{VariantName}
use Rattle.xds_ledger.specs.declared.variant.VariantName.TheVariants as variants
use Rattle.xds_check.specs.declared.asking.Asking.{Asking}
use Rattle.xds_check.specs.declared.asking.Asking.TheVariants.{Sotw, Delta}
use Rattle.xds_check.specs.declared.line.Line.{Line}
use Rattle.xds_check.specs.declared.line.Line.TheVariants as lines
use Rattle.xds_check.specs.declared.words.Verb.{Verb}
use Rattle.xds_check.specs.declared.words.Verb.TheVariants as verbs
use Rattle.xds_check.specs.Answers.{Answer, sotw_message, delta_message}
use Rattle.xds_check.specs.Words.{word_of, IsStream}
use Rattle.xds_check.specs.Texts.{IsBehind, IsBehindStream, IsOneLine, SaysBehind, Says, SpellsAsking, SpellsAnswer, asking_json, answer_json, request_kind, response_kind, verb_in, spaced, behind_text, line_text, HasStream}
use Rattle.xds_check.proofs.Cutting.{cut-joined}
use Rattle.xds_check.proofs.OneLine.{joined_free, number_spaceless, number_feedless, compact_feedless}

-- ---- what is written is said

-- a stream's number, and a text behind it of which this is said
behind_number : (Says : List ℕ → Type 0) (s : ℕ) (rest : List ℕ) → IsStream s → Says rest → IsBehindStream s Says (spaced (decimal s) rest)
behind_number Says s rest is says = (decimal s, rest, cut-joined (decimal s) rest (number_spaceless s), (is, refl), says)

request_kind_spaceless : (m : Asking) → list_any (λ b. b == 32) (request_kind m) ≡ false
request_kind_spaceless (Sotw m) = refl
request_kind_spaceless (Delta m) = refl

response_kind_spaceless : (v : VariantName) (a : Answer) → a.variant ≡ v → list_any (λ b. b == 32) (response_kind a) ≡ false
response_kind_spaceless variants.StateOfTheWorld a e = ap (λ v. list_any (λ b. b == 32) (if is_delta v then codes "4" else codes "2")) e
response_kind_spaceless variants.Delta a e = ap (λ v. list_any (λ b. b == 32) (if is_delta v then codes "4" else codes "2")) e

pub request_said : (s : ℕ) (m : Asking) → IsStream s → SpellsAsking m (asking_json m) → SaysBehind (lines.Request s m) (behind_text (lines.Request s m))
request_said s m is spelled =
    behind_number (IsBehind (request_kind m) (SpellsAsking m)) s (spaced (request_kind m) (asking_json m)) is
    (asking_json m, cut-joined (request_kind m) (asking_json m) (request_kind_spaceless m), spelled)

pub response_said : (s : ℕ) (a : Answer) → IsStream s → SpellsAnswer a (answer_json a) → SaysBehind (lines.Response s a) (behind_text (lines.Response s a))
response_said s a is spelled =
    behind_number (IsBehind (response_kind a) (SpellsAnswer a)) s (spaced (response_kind a) (answer_json a)) is
    (answer_json a, cut-joined (response_kind a) (answer_json a) (response_kind_spaceless a.variant a refl), spelled)

pub idle_said : (s : ℕ) (t : TypeName) → IsStream s → SaysBehind (lines.Idle s t) (behind_text (lines.Idle s t))
idle_said s t is = behind_number (λ word. word ≡ (row t).word) s (row t).word is refl

verb_spaceless : (v : Verb) → list_any (λ b. b == 32) (word_of v) ≡ false
verb_spaceless verbs.Write = refl
verb_spaceless verbs.Open = refl
verb_spaceless verbs.Close = refl
verb_spaceless verbs.Request = refl
verb_spaceless verbs.Response = refl
verb_spaceless verbs.Idle = refl

pub line_said : (l : Line) (text : List ℕ) → text ≡ line_text l → IsUtf8 text → SaysBehind l (behind_text l) → Says (line_text l) l
line_said l text is utf says = (subst IsUtf8 is utf, (behind_text l, cut-joined (word_of (verb_in l)) (behind_text l) (verb_spaceless (verb_in l)), says))

-- ---- what calls answer

pub request_says : (s : ℕ) (m : Asking) (r : Result (String Global) Refusal) → OnOk r (SpellsAsking m (asking_json m)) → IsStream s
    → OnOk r (SaysBehind (lines.Request s m) (behind_text (lines.Request s m)))
request_says s m (Ok x) spelled is = request_said s m is spelled
request_says s m (Err e) spelled is = tt

pub response_says : (s : ℕ) (a : Answer) (r : Result (String Global) Refusal) → OnOk r (SpellsAnswer a (answer_json a)) → IsStream s
    → OnOk r (SaysBehind (lines.Response s a) (behind_text (lines.Response s a)))
response_says s a (Ok x) spelled is = response_said s a is spelled
response_says s a (Err e) spelled is = tt

pub idle_says : (s : ℕ) (t : TypeName) (r : Result (String Global) Refusal) → IsStream s → OnOk r (SaysBehind (lines.Idle s t) (behind_text (lines.Idle s t)))
idle_says s t (Ok x) is = idle_said s t is
idle_says s t (Err e) is = tt

pub text_says : (l : Line) (word rest : List ℕ) (r : Result (String Global) Refusal) → IfOk r (λ s. string_bytes s ≡ spaced word rest) → word ≡ word_of (verb_in l) → rest ≡ behind_text l
    → (HasStream l → SaysBehind l (behind_text l)) → HasStream l → OnOk r (Says (line_text l) l)
text_says l word rest (Ok s) is p q says has = line_said l (string_bytes s) (is ∙ (λ i. spaced (p i) (q i))) (IsUtf8-string_bytes s) (says has)
text_says l word rest (Err e) is p q says has = tt

-- ---- it is one line

verb_feedless : (v : Verb) → IsOneLine (word_of v)
verb_feedless verbs.Write = refl
verb_feedless verbs.Open = refl
verb_feedless verbs.Close = refl
verb_feedless verbs.Request = refl
verb_feedless verbs.Response = refl
verb_feedless verbs.Idle = refl

type_feedless : (t : TypeName) → IsOneLine (row t).word
type_feedless types.Cluster = refl
type_feedless types.Endpoint = refl
type_feedless types.Listener = refl
type_feedless types.Route = refl
type_feedless types.Secret = refl

spaced_feedless : (word rest : List ℕ) → IsOneLine word → IsOneLine rest → IsOneLine (spaced word rest)
spaced_feedless word rest a b = joined_free (λ b. b == 10) word (32 ∷ rest) a b

request_feedless : (m : Asking) → IsOneLine (spaced (request_kind m) (asking_json m))
request_feedless (Sotw m) = compact_feedless (request_object m)
request_feedless (Delta m) = compact_feedless (delta_request_object m)

kind_feedless : (delta : Bool) → IsOneLine (if delta then codes "4" else codes "2")
kind_feedless true = refl
kind_feedless false = refl

json_feedless : (delta : Bool) (a : Answer) → IsOneLine (if delta then compact_text (delta_response_object (delta_message a)) else compact_text (response_object (sotw_message a)))
json_feedless true a = compact_feedless (delta_response_object (delta_message a))
json_feedless false a = compact_feedless (response_object (sotw_message a))

behind_feedless : (l : Line) → IsOneLine (behind_text l)
behind_feedless (lines.Write w) = compact_feedless (write_object (write_type w) (stamped_write w))
behind_feedless (lines.Open s) = number_feedless s
behind_feedless (lines.Close s) = number_feedless s
behind_feedless (lines.Request s m) = spaced_feedless (decimal s) (spaced (request_kind m) (asking_json m)) (number_feedless s) (request_feedless m)
behind_feedless (lines.Response s a) =
    spaced_feedless (decimal s) (spaced (response_kind a) (answer_json a)) (number_feedless s)
    (spaced_feedless (response_kind a) (answer_json a) (kind_feedless (is_delta a.variant)) (json_feedless (is_delta a.variant) a))
behind_feedless (lines.Idle s t) = spaced_feedless (decimal s) (row t).word (number_feedless s) (type_feedless t)

pub line_feedless : (l : Line) → IsOneLine (line_text l)
line_feedless l = spaced_feedless (word_of (verb_in l)) (behind_text l) (verb_feedless (verb_in l)) (behind_feedless l)

pub lines_feedless : (ls : List Line) → All (λ l. IsOneLine (line_text l)) ls
lines_feedless ls = λ k l below. line_feedless (get_or ls k l)
