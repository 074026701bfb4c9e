-- The laws of interests of delta streams.
use Rattle.std.proofs.Common.{◌≡◌, ◌≢◌, ℕ, List, [], ◌∷◌, ◌++◌, Bool, true, false, ◌&&◌, ◌||◌, not, if◌then◌else◌, unwrap_or, refl, sym, ap, ◌∙◌}
use Rattle.std.specs.Str.{bytes_eq}
use Rattle.std.specs.Option.{option_or}
use Rattle.std.specs.FinSet as set
use Rattle.std.proofs.lemmas.Bool.{or_parts}
use Rattle.std.proofs.lemmas.List.Folds.{list_any-append}
use Rattle.std.proofs.lemmas.Map.Views.{any-filter_same}
use Rattle.std.proofs.lemmas.Slice.Eq.{bytes_eq-Decides}
use Rattle.std.proofs.Math.Bool.{and-true, and-false}
use Rattle.xds_resource.specs.declared.types.TypeName.{TypeName}
use Rattle.xds_resource.specs.Types.{row}
use Rattle.xds_resource.proofs.BoolsAndLists.{option_or-None}
use Rattle.xds_interest.specs.Interests.{star_text, is_star, has_name}
use Rattle.xds_interest.specs.Delta.{Mention, said, last_said, is_subscribed, opens_unnamed, ever_subscribed, delta_interest}
use Rattle.xds_interest.specs.Touched.{mentions}
use Rattle.xds_interest.specs.Laws.{OneRequestMore, OneRequestMoreForTheStar, UntouchedKeepsReachInDelta}
use Rattle.xds_interest.proofs.Texts.{contains-from_texts}
use Rattle.xds_interest.proofs.Choices.{and_implied, and_first, option_or_assoc, last_word, word_was_said, unmentioned, unmentioned_star}

last_said-push : (ms : List Mention) (m : Mention) (text : List ℕ) → last_said (ms ++ m ∷ []) text ≡ option_or (said m text) (last_said ms text)
last_said-push [] m text = sym (option_or-None (said m text))
last_said-push (x ∷ ms) m text = ap (λ o. option_or o (said x text)) (last_said-push ms m text) ∙ option_or_assoc (said m text) (last_said ms text) (said x text)

-- the last word on a text after one request more
pub last_word-push : (ms : List Mention) (m : Mention) (text : List ℕ) (start : Bool)
    → unwrap_or (last_said (ms ++ m ∷ []) text) start ≡ (if has_name m.subscribe text then true else if has_name m.unsubscribe text then false else unwrap_or (last_said ms text) start)
last_word-push ms m text start =
    ap (λ o. unwrap_or o start) (last_said-push ms m text) ∙ last_word (has_name m.subscribe text) (has_name m.unsubscribe text) start (last_said ms text)

opens_unnamed-push : (ms : List Mention) (m : Mention) → ms ≢ [] → opens_unnamed (ms ++ m ∷ []) ≡ opens_unnamed ms
opens_unnamed-push [] m some = absurd (some refl)
opens_unnamed-push (x ∷ ms) m some = refl

subscribed_somewhere : (ms : List Mention) (name : List ℕ) → is_subscribed ms name ≡ true → has_name (ever_subscribed ms) name ≡ true
subscribed_somewhere [] name h = h
subscribed_somewhere (m ∷ ms) name h =
    list_any-append (bytes_eq name) m.subscribe (ever_subscribed ms)
    ∙ word_was_said (last_said ms name) (has_name m.subscribe name) (has_name m.unsubscribe name) (has_name (ever_subscribed ms) name) (subscribed_somewhere ms name) h

-- a name is explicit if the last request that mentions it subscribes it
pub contains-delta : (t : TypeName) (ms : List Mention) (name : List ℕ) → set.contains (delta_interest t ms).names name ≡ (is_subscribed ms name && not (is_star t name))
contains-delta t ms name =
    contains-from_texts _ name
    ∙ any-filter_same (bytes_eq name) (λ text. is_subscribed ms text && not (is_star t text)) (is_subscribed ms name && not (is_star t name))
    (λ text same. ap (λ x. is_subscribed ms x && not (is_star t x)) (sym ((bytes_eq-Decides name text).0 same))) (ever_subscribed ms)
    ∙ and_implied (is_subscribed ms name && not (is_star t name)) (has_name (ever_subscribed ms) name) (λ both. subscribed_somewhere ms name (and_first (is_subscribed ms name) _ both))

contains-delta_plain : (t : TypeName) (ms : List Mention) (name : List ℕ) → is_star t name ≡ false → set.contains (delta_interest t ms).names name ≡ is_subscribed ms name
contains-delta_plain t ms name plain = contains-delta t ms name ∙ ap (λ b. is_subscribed ms name && not b) plain ∙ and-true (is_subscribed ms name)

-- rule: delta-names
pub one_request_more : OneRequestMore
one_request_more t ms m name plain =
    contains-delta_plain t (ms ++ m ∷ []) name plain ∙ last_word-push ms m name false
    ∙ ap (λ b. if has_name m.subscribe name then true else if has_name m.unsubscribe name then false else b) (sym (contains-delta_plain t ms name plain))

pub star-push : (ms : List Mention) (m : Mention) → ms ≢ []
    → unwrap_or (last_said (ms ++ m ∷ []) star_text) (opens_unnamed (ms ++ m ∷ []))
    ≡ (if has_name m.subscribe star_text then true else if has_name m.unsubscribe star_text then false else unwrap_or (last_said ms star_text) (opens_unnamed ms))
star-push ms m some = ap (λ b. unwrap_or (last_said (ms ++ m ∷ []) star_text) b) (opens_unnamed-push ms m some) ∙ last_word-push ms m star_text (opens_unnamed ms)

-- rule: delta-names
pub one_request_more_for_the_star : OneRequestMoreForTheStar
one_request_more_for_the_star t ms m some complete =
    ap (λ c. c && unwrap_or (last_said (ms ++ m ∷ []) star_text) (opens_unnamed (ms ++ m ∷ []))) complete ∙ star-push ms m some
    ∙ ap (λ c. if has_name m.subscribe star_text then true else if has_name m.unsubscribe star_text then false else (c && unwrap_or (last_said ms star_text) (opens_unnamed ms))) (sym complete)

pub delta_star_is_no_name : (t : TypeName) (name : List ℕ) → is_star t name ≡ true → (ms : List Mention) → set.contains (delta_interest t ms).names name ≡ false
delta_star_is_no_name t name starry ms = contains-delta t ms name ∙ ap (λ b. is_subscribed ms name && not b) starry ∙ and-false (is_subscribed ms name)

pub delta_incomplete_has_no_star : (t : TypeName) → (row t).is_complete ≡ false → (ms : List Mention) → (delta_interest t ms).star ≡ false
delta_incomplete_has_no_star t incomplete ms = ap (λ c. c && unwrap_or (last_said ms star_text) (opens_unnamed ms)) incomplete

pub untouched_keeps_reach_in_delta : UntouchedKeepsReachInDelta
untouched_keeps_reach_in_delta t ms m name some untouched =
    let parts : (mentions m name ≡ false) × (((row t).is_complete && mentions m star_text) ≡ false) = or_parts _ _ untouched in
    let star : (delta_interest t (ms ++ m ∷ [])).star ≡ (delta_interest t ms).star =
    unmentioned_star (row t).is_complete (has_name m.subscribe star_text) (has_name m.unsubscribe star_text) _ _ (star-push ms m some) parts.1 in
    let word : is_subscribed (ms ++ m ∷ []) name ≡ is_subscribed ms name = last_word-push ms m name false ∙ unmentioned (has_name m.subscribe name) (has_name m.unsubscribe name) _ parts.0 in
    (λ i. star i || (contains-delta t (ms ++ m ∷ []) name ∙ ap (λ b. b && not (is_star t name)) word ∙ sym (contains-delta t ms name)) i)
