-- What a client makes of a response's text, and of its frame.
use Rattle.std.proofs.Common.{◌≡◌, ℕ, List, Option, Some, Result, Ok, Err, inl, inr, refl, sym, subst}
use Rattle.std.specs.Prelude.{is_some, IfOk, IfErr}
use Rattle.serde_json.specs.Data.{Data}
use Rattle.xds_resource.specs.declared.refusal.Refusal.{Refusal}
use Rattle.xds_resource.specs.declared.types.TypeName.{TypeName}
use Rattle.xds_frames.specs.declared.frame.Frame.{Frame}
use Rattle.xds_frames.specs.Decoding.{GivesNext, framed}
use Rattle.xds_frames.specs.Frames.{Framed}
use Rattle.xds_json.specs.Spelling.{IsJson}
use Rattle.xds_message.specs.Messages.{Request, Response, SpellsResponse}
use Rattle.xds_message.specs.DeltaMessages.{DeltaRequest, DeltaResponse, SpellsDeltaResponse}
use Rattle.xds_cache.specs.Clients.{Client}
use Rattle.xds_cache.specs.Receives.{sotw_receive, delta_receive}
use Rattle.xds_client.specs.declared.answering.ResponseReply.{ResponseReply}
use Rattle.xds_client.specs.declared.answering.StreamClient.{StreamClient}
use Rattle.xds_client.specs.declared.answering.StreamClient.TheVariants as clients
use Rattle.xds_client.specs.declared.subscription.StreamVariant.{StreamVariant}
use Rattle.xds_client.specs.declared.subscription.StreamVariant.TheVariants.{Sotw, Delta}
use Rattle.xds_client.specs.Subscribing.{Fits, response_kind, sotw_text, delta_text}
use Rattle.xds_client.specs.Answering.{Answer, SotwAnswers, SotwUnanswered, DeltaAnswers, DeltaUnanswered, Answers, IsUnanswered, answer_of, takes}
use Rattle.xds_client.specs.Turning.{GivesAnswer, IsMade, IsUntellable, client_of, variant_of}

-- ---- state of the world

pub sotw_told : (c left : Client) (bytes : List ℕ) (t : TypeName) (m : Response) (q : Request) (r : Result ResponseReply Refusal) → ((d : Data) × IsJson bytes d × SpellsResponse d m) → sotw_receive takes c m ≡ Ok (left, q)
    → IfOk r (λ x. Fits Sotw (sotw_text q) × IsMade Sotw t (answer_of left m.nonce (is_some q.error_detail) (sotw_text q)) x)
    → IfOk r (λ x. (a : Answer) × SotwAnswers c bytes a × Fits Sotw a.text × (left ≡ a.left) × IsMade Sotw t a x)
sotw_told c left bytes t m q (Ok x) (d, is_json, spells) received (fits, made) =
    (answer_of left m.nonce (is_some q.error_detail) (sotw_text q), (d, m, q, is_json, spells, received, refl, refl, refl), fits, refl, made)
sotw_told c left bytes t m q (Err e) spelled received none = tt

pub sotw_untold : (c left : Client) (bytes : List ℕ) (m : Response) (q : Request) (r : Result ResponseReply Refusal) → ((d : Data) × IsJson bytes d × SpellsResponse d m) → sotw_receive takes c m ≡ Ok (left, q)
    → IfErr r (IsUntellable Sotw (sotw_text q)) → IfErr r (SotwUnanswered c bytes)
sotw_untold c left bytes m q (Ok x) spelled received none = tt
sotw_untold c left bytes m q (Err e) spelled received (inl memory) = inr (inr (inr (inr memory)))
sotw_untold c left bytes m q (Err e) (d, is_json, spells) received (inr (is, long)) =
    inr (inr (inr (inl (is, (answer_of left m.nonce (is_some q.error_detail) (sotw_text q), (d, m, q, is_json, spells, received, refl, refl, refl), long)))))

-- ---- delta

pub delta_told : (c left : Client) (bytes : List ℕ) (t : TypeName) (m : DeltaResponse) (q : DeltaRequest) (r : Result ResponseReply Refusal) → ((d : Data) × IsJson bytes d × SpellsDeltaResponse d m) → delta_receive takes c m ≡ Ok (left, q)
    → IfOk r (λ x. Fits Delta (delta_text q) × IsMade Delta t (answer_of left m.nonce (is_some q.error_detail) (delta_text q)) x)
    → IfOk r (λ x. (a : Answer) × DeltaAnswers c bytes a × Fits Delta a.text × (left ≡ a.left) × IsMade Delta t a x)
delta_told c left bytes t m q (Ok x) (d, is_json, spells) received (fits, made) =
    (answer_of left m.nonce (is_some q.error_detail) (delta_text q), (d, m, q, is_json, spells, received, refl, refl, refl), fits, refl, made)
delta_told c left bytes t m q (Err e) spelled received none = tt

pub delta_untold : (c left : Client) (bytes : List ℕ) (m : DeltaResponse) (q : DeltaRequest) (r : Result ResponseReply Refusal) → ((d : Data) × IsJson bytes d × SpellsDeltaResponse d m) → delta_receive takes c m ≡ Ok (left, q)
    → IfErr r (IsUntellable Delta (delta_text q)) → IfErr r (DeltaUnanswered c bytes)
delta_untold c left bytes m q (Ok x) spelled received none = tt
delta_untold c left bytes m q (Err e) spelled received (inl memory) = inr (inr (inr (inr memory)))
delta_untold c left bytes m q (Err e) (d, is_json, spells) received (inr (is, long)) =
    inr (inr (inr (inl (is, (answer_of left m.nonce (is_some q.error_detail) (delta_text q), (d, m, q, is_json, spells, received, refl, refl, refl), long)))))

-- ---- frames

pub given_answer : (v : StreamVariant) (t : TypeName) (c left : Client) (held after : List ℕ) (r : Result (Option Frame) Refusal) (f : Frame) (reply : ResponseReply) → r ≡ Ok (Some f) → GivesNext held r after
    → (a : Answer) × Answers v c (framed f) a × (left ≡ a.left) × IsMade v t a reply → GivesAnswer v t c held (Ok (Some reply)) left after
given_answer v t c left held after r f reply is gives (a, answered, leaves, made) =
    let given = subst (λ (o : Result (Option Frame) Refusal). GivesNext held o after) is gives in
    (framed f, a, given.0, given.1, answered, leaves, made)

module _ (t : TypeName) (s : StreamClient) (k left : Client) (f : Framed) (r : Result ResponseReply Refusal) where
  sotw_framed : (x : Result ResponseReply Refusal) → f.kind ≡ response_kind Sotw → IfOk x (λ y. (a : Answer) × SotwAnswers k f.text a × Fits Sotw a.text × (left ≡ a.left) × IsMade Sotw t a y)
      → IfOk x (λ y. (a : Answer) × Answers Sotw k f a × (left ≡ a.left) × IsMade Sotw t a y)
  sotw_framed (Ok y) kind (a, answered, fits, leaves, made) = (a, (kind, answered, fits), leaves, made)
  sotw_framed (Err e) kind none = tt

  pub sotw_answered : s ≡ clients.Sotw k → f.kind ≡ response_kind (variant_of s) → IfOk r (λ y. (a : Answer) × SotwAnswers k f.text a × Fits Sotw a.text × (left ≡ a.left) × IsMade Sotw t a y)
      → IfOk r (λ y. (a : Answer) × Answers (variant_of s) (client_of s) f a × (left ≡ a.left) × IsMade (variant_of s) t a y)
  sotw_answered is kind ok =
      subst (λ (z : StreamClient). IfOk r (λ y. (a : Answer) × Answers (variant_of z) (client_of z) f a × (left ≡ a.left) × IsMade (variant_of z) t a y)) (sym is)
      (sotw_framed r (subst (λ (z : StreamClient). f.kind ≡ response_kind (variant_of z)) is kind) ok)

  sotw_unframed : (x : Result ResponseReply Refusal) → f.kind ≡ response_kind Sotw → IfErr x (SotwUnanswered k f.text) → IfErr x (IsUnanswered Sotw k f)
  sotw_unframed (Ok y) kind none = tt
  sotw_unframed (Err e) kind unanswered = inr (kind, unanswered)

  pub sotw_unanswered : s ≡ clients.Sotw k → f.kind ≡ response_kind (variant_of s) → IfErr r (SotwUnanswered k f.text) → IfErr r (IsUnanswered (variant_of s) (client_of s) f)
  sotw_unanswered is kind err =
      subst (λ (z : StreamClient). IfErr r (IsUnanswered (variant_of z) (client_of z) f)) (sym is) (sotw_unframed r (subst (λ (z : StreamClient). f.kind ≡ response_kind (variant_of z)) is kind) err)

  delta_framed : (x : Result ResponseReply Refusal) → f.kind ≡ response_kind Delta → IfOk x (λ y. (a : Answer) × DeltaAnswers k f.text a × Fits Delta a.text × (left ≡ a.left) × IsMade Delta t a y)
      → IfOk x (λ y. (a : Answer) × Answers Delta k f a × (left ≡ a.left) × IsMade Delta t a y)
  delta_framed (Ok y) kind (a, answered, fits, leaves, made) = (a, (kind, answered, fits), leaves, made)
  delta_framed (Err e) kind none = tt

  pub delta_answered : s ≡ clients.Delta k → f.kind ≡ response_kind (variant_of s) → IfOk r (λ y. (a : Answer) × DeltaAnswers k f.text a × Fits Delta a.text × (left ≡ a.left) × IsMade Delta t a y)
      → IfOk r (λ y. (a : Answer) × Answers (variant_of s) (client_of s) f a × (left ≡ a.left) × IsMade (variant_of s) t a y)
  delta_answered is kind ok =
      subst (λ (z : StreamClient). IfOk r (λ y. (a : Answer) × Answers (variant_of z) (client_of z) f a × (left ≡ a.left) × IsMade (variant_of z) t a y)) (sym is)
      (delta_framed r (subst (λ (z : StreamClient). f.kind ≡ response_kind (variant_of z)) is kind) ok)

  delta_unframed : (x : Result ResponseReply Refusal) → f.kind ≡ response_kind Delta → IfErr x (DeltaUnanswered k f.text) → IfErr x (IsUnanswered Delta k f)
  delta_unframed (Ok y) kind none = tt
  delta_unframed (Err e) kind unanswered = inr (kind, unanswered)

  pub delta_unanswered : s ≡ clients.Delta k → f.kind ≡ response_kind (variant_of s) → IfErr r (DeltaUnanswered k f.text) → IfErr r (IsUnanswered (variant_of s) (client_of s) f)
  delta_unanswered is kind err =
      subst (λ (z : StreamClient). IfErr r (IsUnanswered (variant_of z) (client_of z) f)) (sym is) (delta_unframed r (subst (λ (z : StreamClient). f.kind ≡ response_kind (variant_of z)) is kind) err)
