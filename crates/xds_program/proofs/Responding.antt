-- The response to a request, from the type that it names and what is held of each type.
use Rattle.std.proofs.Common.{◌≡◌, ℕ, List, [], ◌∷◌, map, true, ◌||◌, not, Option, Some, None, refl, ap, sym, subst, ◌∙◌, arith}
use Rattle.std.specs.Prelude.{IfOk, Result, decimal, length, ◌==◌, if◌then◌else◌}
use Rattle.std.specs.List.{filter_map, cons_option}
use Rattle.std.specs.Option.{option_and_then, option_map}
use Rattle.std.proofs.lemmas.Fmt.{decimal_digit}
use Rattle.std.proofs.lemmas.Result.{IfOk-weaker}
use Rattle.serde_json.specs.Data.{Data}
use Rattle.xds_resource.specs.declared.types.TypeName.{TypeName}
use Rattle.xds_resource.specs.Types.{row, type_of_url}
use Rattle.xds_resource.specs.Resources.{value_of}
use Rattle.xds_resource.specs.Writes.{StampedWrite}
use Rattle.xds_resource.specs.declared.refusal.Refusal.{Refusal}
use Rattle.xds_resource.specs.PerType.{PerType, at}
use Rattle.xds_interest.specs.Interests.{Selection}
use Rattle.xds_catalogue.specs.Holdings.{Holdings}
use Rattle.xds_catalogue.specs.Content.{content}
use Rattle.xds_message.specs.Drafts.{Drafted, message_of}
use Rattle.xds_message.specs.Messages.{Request, Response}
use Rattle.xds_ledger.specs.Texts.{interest_version}
use Rattle.xds_program.specs.Answers.{asked, objects_of, response_with, response_to, response_by}

-- ---- the response that the content makes

values_step : (body : Option (List ℕ)) (bodies : List (List ℕ)) (objects : List Data) → map value_of bodies ≡ objects → map value_of (cons_option body bodies) ≡ cons_option (option_map value_of body) objects
values_step None bodies objects is = is
values_step (Some b) bodies objects is = ap (λ r. value_of b ∷ r) is

pub values_of : (ws : List StampedWrite) → map value_of (filter_map (λ w. w.body) ws) ≡ objects_of ws
values_of [] = refl
values_of (w ∷ ws) = values_step w.body (filter_map (λ (v : StampedWrite). v.body) ws) (objects_of ws) (values_of ws)

-- a draft of these writes is the first response with them
pub response_made : (replica : ℕ) (t : TypeName) (changes : ℕ) (s : Selection) (ws : List StampedWrite) (d : Drafted)
    → d ≡ record { kind = t; version_info = interest_version replica changes s; nonce = decimal 1; bodies = filter_map (λ w. w.body) ws } → message_of d ≡ response_with replica t changes s ws
response_made replica t changes s ws d made =
    let drafted : Drafted = record { kind = t; version_info = interest_version replica changes s; nonce = decimal 1; bodies = filter_map (λ (w : StampedWrite). w.body) ws } in
    ap message_of made ∙ (λ i. record (message_of drafted) { resources = values_of ws i; nonce = decimal_digit 1 (omega arith) i })

-- who is answered, is answered so
pub given_shown : (replica : ℕ) (t : TypeName) (h : Holdings) (m : Request) (s : Selection) (ws : List StampedWrite) (r : Response) → s ≡ asked t m → ws ≡ content h.entries s
    → ((row t).is_complete || not (length ws == 0)) ≡ true → r ≡ response_with replica t h.changes s ws → Some r ≡ response_to replica t h m
given_shown replica t h m s ws r wants shown answered made =
    let all : ws ≡ content h.entries (asked t m) = shown ∙ ap (content h.entries) wants in
    ap Some made
    ∙ (λ i. Some (response_with replica t h.changes (wants i) (all i)))
    ∙ ap (λ b. if b then Some (response_with replica t h.changes (asked t m) (content h.entries (asked t m))) else None)
    (sym (ap (λ l. (row t).is_complete || not (length l == 0)) (sym all) ∙ answered))

-- ---- which type, and which catalogue

-- a request of a type is answered by what is held of that type
pub response_by-typed : (replica : ℕ) (held : TypeName → Holdings) (m : Request) (t : TypeName) → type_of_url m.type_url ≡ Some t → response_by replica held m ≡ response_to replica t (held t) m
response_by-typed replica held m t e = ap (option_and_then (λ s. response_to replica s (held s) m)) e

same_at : (replica : ℕ) (f g : TypeName → Holdings) (m : Request) → ((t : TypeName) → f t ≡ g t) → (o : Option TypeName)
    → option_and_then (λ t. response_to replica t (f t) m) o ≡ option_and_then (λ t. response_to replica t (g t) m) o
same_at replica f g m agree None = refl
same_at replica f g m agree (Some t) = ap (λ h. response_to replica t h m) (agree t)

-- what is held of each type decides
pub response_by-same : (replica : ℕ) (f g : TypeName → Holdings) (m : Request) → ((t : TypeName) → f t ≡ g t) → response_by replica f m ≡ response_by replica g m
response_by-same replica f g m agree = same_at replica f g m agree (type_of_url m.type_url)

-- the response of the type that a request names is the one to the request
pub given_to : (replica : ℕ) (p : PerType Holdings) (m : Request) (t : TypeName) (r : Result (Option Drafted) Refusal) → type_of_url m.type_url ≡ Some t
    → IfOk r (λ o. option_map message_of o ≡ response_to replica t (at p t) m) → IfOk r (λ o. option_map message_of o ≡ response_by replica (at p) m)
given_to replica p m t r named =
    IfOk-weaker r (λ o. option_map message_of o ≡ response_to replica t (at p t) m) (λ o. option_map message_of o ≡ response_by replica (at p) m)
    (λ o given. given ∙ sym (response_by-typed replica (at p) m t named))

-- the response of the catalogue of a type is that of the catalogues, one of each type
pub given_at : (t kind : TypeName) (p q : PerType Holdings) (replica : ℕ) (m : Request) (r : Result (Option Drafted) Refusal) → q ≡ p → kind ≡ t
    → IfOk r (λ o. option_map message_of o ≡ response_to replica t (at q t) m) → IfOk r (λ o. option_map message_of o ≡ response_to replica kind (at p kind) m)
given_at t kind p q replica m r same is given =
    subst (λ k. IfOk r (λ o. option_map message_of o ≡ response_to replica k (at p k) m)) (sym is)
    (subst (λ (x : PerType Holdings). IfOk r (λ o. option_map message_of o ≡ response_to replica t (at x t) m)) same given)
