-- The text of records is written piece by piece.
use Rattle.std.proofs.Common.{◌≡◌, ◌≢◌, ◌<◌, ◌⊎◌, inl, inr, ℕ, ◌+◌, List, [], ◌∷◌, ◌++◌, length, map, take, drop, get_or, Option, refl, sym, ap, subst, ◌∙◌, append-nil, append_assoc, take-append-drop, codes, decimal}
use Rattle.std.specs.Prelude.{All}
use Rattle.std.proofs.Math.Seq.{take-append_seam}
use Rattle.std.proofs.lemmas.List.{take_more}
use Rattle.std.proofs.lemmas.List.Concat.{flat_map-append}
use Rattle.xds_resource.specs.declared.refusal.Refusal.{Refusal}
use Rattle.xds_resource.specs.declared.refusal.Refusal.TheVariants.{OutOfMemory, BadTrace, Device as DeviceRefusal}
use Rattle.xds_resource.specs.declared.types.TypeName.{TypeName}
use Rattle.xds_resource.specs.Resources.{value_of}
use Rattle.xds_resource.proofs.Refusing.{memory_or_not}
use Rattle.xds_message.specs.declared.draft.Draft.{Draft}
use Rattle.xds_message.specs.declared.draft.Draft.TheVariants as drafts
use Rattle.xds_message.specs.Drafts.{DraftedResource, drafted_resource}
use Rattle.xds_resource.specs.Types.{row}
use Rattle.xds_message.specs.Written.{response_object}
use Rattle.xds_message.specs.DeltaWritten.{delta_response_object}
use Rattle.xds_message.specs.DraftTexts.{text_of}
use Rattle.serde_json.specs.Written.{compact_text}
use Rattle.xds_frames.specs.Devices.{Device, HasFailed, Wrote, WrotePart}
use Rattle.xds_frames.specs.Gathering.{Passes}
use Rattle.xds_frames.proofs.Gatherings.{of_calls, part_of_more, passes_more, part_behind}
use Rattle.xds_core.specs.Legal.{Record, IsLegal}
use Rattle.xds_core.specs.Steps.{Core}
use Rattle.xds_node.specs.Pieces.{Piece, Story}
use Rattle.xds_check.specs.Answers.{labelled_resource}
use Rattle.xds_check.specs.declared.line.Line.{Line}
use Rattle.xds_check.specs.declared.line.Line.TheVariants as lines
use Rattle.xds_check.specs.Texts.{answer_json, behind_text, line_text, trace_text}
use Rattle.xds_trace.specs.Bases.{HoldsTellable}
use Rattle.xds_trace.specs.Joined.{pieces_records, all_records}
use Rattle.xds_trace.specs.Making.{own_names, statement_of, labelled_of, answer_of, lines_of, trace_of}
use Rattle.xds_trace.specs.Telling.{IsSoundRecord, IsTold, BeginsUntold}
use Rattle.xds_trace.specs.Texts.{records_text, pieces_text, draft_kind, WroteSome}
use Rattle.xds_trace.proofs.AnyBase.{short_from_base}
use Rattle.xds_trace.proofs.Joining.{untold_at}

-- ---- texts one after another

pub text_append : (ls ms : List Line) → trace_text (ls ++ ms) ≡ trace_text ls ++ trace_text ms
text_append [] ms = refl
text_append (l ∷ ls) ms = ap (λ t. line_text l ++ 10 ∷ t) (text_append ls ms) ∙ sym (append_assoc (line_text l) (10 ∷ trace_text ls) (trace_text ms))

pub records_append : (rs qs : List Record) → records_text (rs ++ qs) ≡ records_text rs ++ records_text qs
records_append rs qs = ap trace_text (flat_map-append (lines_of own_names) rs qs) ∙ text_append (trace_of rs) (trace_of qs)

pieces_joined : (ps : List Piece) → records_text (pieces_records ps) ≡ pieces_text ps
pieces_joined [] = refl
pieces_joined (p ∷ ps) = records_append p.records (pieces_records ps) ∙ ap (λ t. records_text p.records ++ t) (pieces_joined ps)

pub texts_join : (ps : List Piece) (s : Story) → trace_text (trace_of (all_records ps s)) ≡ pieces_text ps ++ records_text s.records
texts_join ps s = records_append (pieces_records ps) s.records ∙ ap (λ t. t ++ records_text s.records) (pieces_joined ps)

-- ---- the line of a response

stated : (t : TypeName) (bodies : List (List ℕ)) → map (λ x. value_of x.body) (map (statement_of own_names t) bodies) ≡ map value_of bodies
stated t [] = refl
stated t (b ∷ bodies) = ap (λ l. value_of b ∷ l) (stated t bodies)

labelled : (t : TypeName) (rs : List DraftedResource) → map labelled_resource (map (labelled_of own_names t) rs) ≡ map drafted_resource rs
labelled t [] = refl
labelled t (r ∷ rs) = ap (λ l. drafted_resource r ∷ l) (labelled t rs)

json_is : (d : Draft) → answer_json (answer_of own_names d) ≡ text_of d
json_is (drafts.Sotw d) =
    ap (λ l. compact_text (response_object (record { version_info = d.version_info; resources = l; type_url = (row d.kind).url; nonce = d.nonce }))) (stated d.kind d.bodies)
json_is (drafts.Delta d) =
    ap (λ l. compact_text (delta_response_object (record { system_version_info = d.system_version_info; resources = l; type_url = (row d.kind).url; nonce = d.nonce; removed_resources = d.removed_resources })))
    (labelled d.kind d.resources)

-- what stands between the number and the message
kind_is : (d : Draft) (s : ℕ) (message : List ℕ) → behind_text (lines.Response s (answer_of own_names d)) ≡ decimal s ++ (draft_kind d ++ answer_json (answer_of own_names d))
kind_is (drafts.Sotw d) s message = refl
kind_is (drafts.Delta d) s message = refl

pub response_is : (s : ℕ) (d : Draft) (t0 t1 t2 t3 t4 : List ℕ) (number kind message : List ℕ) → t0 ≡ codes "response " → number ≡ decimal s → t1 ≡ t0 ++ number → kind ≡ draft_kind d → t2 ≡ t1 ++ kind
    → message ≡ text_of d → t3 ≡ t2 ++ message → t4 ≡ t3 ++ codes "\n" → t4 ≡ trace_text (lines.Response s (answer_of own_names d) ∷ [])
response_is s d t0 t1 t2 t3 t4 number kind message e0 en e1 ek e2 em e3 e4 =
    e4 ∙ ap (λ t. t ++ codes "\n") (e3 ∙ ap (λ t. t ++ message) (e2 ∙ ap (λ t. t ++ kind) (e1 ∙ ap (λ t. t ++ number) e0)))
    ∙ (λ i. (((codes "response " ++ en i) ++ ek i) ++ (em ∙ sym (json_is d)) i) ++ codes "\n")
    ∙ ap (λ t. t ++ codes "\n") (append_assoc (codes "response " ++ decimal s) (draft_kind d) json ∙ append_assoc (codes "response ") (decimal s) (draft_kind d ++ json))
    ∙ ap (λ t. (codes "response " ++ t) ++ codes "\n") (sym (kind_is d s json))
  where
    json : List ℕ
    json = answer_json (answer_of own_names d)

-- ---- one record more

-- what came through is a beginning of what is written
sent_some : (d : Device) (bytes left more : List ℕ) → Passes d [] bytes left → WroteSome d (bytes ++ more)
sent_some d bytes left more p =
    let whole : bytes ++ more ≡ p.sent ++ (left ++ more) = ap (λ l. l ++ more) p.all ∙ append_assoc p.sent left more in
    (length p.sent, subst (Wrote d) (sym (ap (take (length p.sent)) whole ∙ take-append_seam p.sent (left ++ more))) p.wrote)

-- what failed behind what came through
part_after : (b m a : Option (List ℕ)) (f g h : ℕ) (bytes middle : List ℕ) → Passes (of_calls b m f g) [] bytes middle → WrotePart (of_calls m a g h) middle → WrotePart (of_calls b a f h) bytes
part_after b m a f g h bytes middle p part =
    subst (WrotePart (of_calls b a f h)) (append-nil bytes) (part_behind b m a f g h [] bytes middle [] p (subst (WrotePart (of_calls m a g h)) (sym (append-nil middle)) part))

module _ (rs : List Record) (i : ℕ) (x y : Record) (below : i < length rs) (is : x ≡ get_or rs i x) (same : y ≡ x) where
  take_one : take (i + 1) rs ≡ take i rs ++ y ∷ []
  take_one = take_more rs i x below ∙ ap (λ r. take i rs ++ r ∷ []) (sym (same ∙ is))

  text_one : records_text (take (i + 1) rs) ≡ records_text (take i rs) ++ trace_text (lines_of own_names y)
  text_one =
      ap records_text take_one ∙ records_append (take i rs) (y ∷ [])
      ∙ ap (λ t. records_text (take i rs) ++ t) (ap trace_text (append-nil (lines_of own_names y)))

  split : (k : ℕ) → records_text (take k rs) ++ records_text (drop k rs) ≡ records_text rs
  split k = sym (records_append (take k rs) (drop k rs)) ∙ ap records_text (take-append-drop k rs)

  pub text_more : (b m a : Option (List ℕ)) (f g h : ℕ) (middle text left : List ℕ) → text ≡ trace_text (lines_of own_names y) → Passes (of_calls b m f g) [] (records_text (take i rs)) middle
      → Passes (of_calls m a g h) middle text left → Passes (of_calls b a f h) [] (records_text (take (i + 1) rs)) left
  text_more b m a f g h middle text left e p q =
      subst (λ t. Passes (of_calls b a f h) [] t left) (ap (λ t. records_text (take i rs) ++ t) e ∙ sym text_one) (passes_more b m a f g h [] (records_text (take i rs)) middle text left p q)

  -- the text of the record couldn't be made
  pub unmade : (d : Device) (middle : List ℕ) (e : Refusal) → Passes d [] (records_text (take i rs)) middle → All IsSoundRecord (take i rs)
      → (e ≢ OutOfMemory → (e ≡ BadTrace) × (IsTold y → ⊥)) → (e ≢ OutOfMemory → IsSoundRecord y)
      → WroteSome d (records_text rs) × ((e ≡ OutOfMemory) ⊎ (((e ≡ DeviceRefusal) × HasFailed d) ⊎ ((e ≡ BadTrace) × BeginsUntold rs)))
  unmade d middle e p before told sound =
      (subst (WroteSome d) (split i) (sent_some d (records_text (take i rs)) middle (records_text (drop i rs)) p), which (memory_or_not e))
    where
      which : (e ≡ OutOfMemory) ⊎ (e ≢ OutOfMemory) → (e ≡ OutOfMemory) ⊎ (((e ≡ DeviceRefusal) × HasFailed d) ⊎ ((e ≡ BadTrace) × BeginsUntold rs))
      which (inl short) = inl short
      which (inr other) = inr (inr (untold_at rs i x y below is same e before told sound other))

  -- it couldn't be written
  pub unwritten : (b m a : Option (List ℕ)) (f g h : ℕ) (middle text : List ℕ) (e : Refusal) → text ≡ trace_text (lines_of own_names y) → Passes (of_calls b m f g) [] (records_text (take i rs)) middle
      → (e ≡ DeviceRefusal) × WrotePart (of_calls m a g h) (middle ++ text)
      → WroteSome (of_calls b a f h) (records_text rs) × ((e ≡ OutOfMemory) ⊎ (((e ≡ DeviceRefusal) × HasFailed (of_calls b a f h)) ⊎ ((e ≡ BadTrace) × BeginsUntold rs)))
  unwritten b m a f g h middle text e t p failed = (part.1, inr (inl (failed.0, part.0)))
    where
      part : WrotePart (of_calls b a f h) (records_text rs)
      part =
          subst (WrotePart (of_calls b a f h)) (ap (λ l. l ++ records_text (drop (i + 1) rs)) (ap (λ l. records_text (take i rs) ++ l) t ∙ sym text_one) ∙ split (i + 1))
          (part_of_more (of_calls b a f h) (records_text (take i rs) ++ text) (records_text (drop (i + 1) rs)) (part_behind b m a f g h [] (records_text (take i rs)) middle text p failed.1))

-- ---- the end

pub last_unwritten : (b m a : Option (List ℕ)) (f g h : ℕ) (rs : List Record) (bytes middle : List ℕ) (e : Refusal) → bytes ≡ records_text rs → Passes (of_calls b m f g) [] bytes middle
    → (e ≡ DeviceRefusal) × WrotePart (of_calls m a g h) middle
    → WroteSome (of_calls b a f h) (records_text rs) × ((e ≡ OutOfMemory) ⊎ (((e ≡ DeviceRefusal) × HasFailed (of_calls b a f h)) ⊎ ((e ≡ BadTrace) × BeginsUntold rs)))
last_unwritten b m a f g h rs bytes middle e is p failed =
    let part = subst (WrotePart (of_calls b a f h)) is (part_after b m a f g h bytes middle p failed.1) in
    (part.1, inr (inl (failed.0, part.0)))

-- records of a base that holds what could be read can be told
pub legal_unwritten : (d : Device) (base : Core) (rs : List Record) (e : Refusal) → HoldsTellable base.store → IsLegal base rs
    → WroteSome d (records_text rs) × ((e ≡ OutOfMemory) ⊎ (((e ≡ DeviceRefusal) × HasFailed d) ⊎ ((e ≡ BadTrace) × BeginsUntold rs)))
    → WroteSome d (records_text rs) × ((e ≡ OutOfMemory) ⊎ ((e ≡ DeviceRefusal) × HasFailed d))
legal_unwritten d base rs e held legal w = (w.0, which w.1)
  where
    which : (e ≡ OutOfMemory) ⊎ (((e ≡ DeviceRefusal) × HasFailed d) ⊎ ((e ≡ BadTrace) × BeginsUntold rs)) → (e ≡ OutOfMemory) ⊎ ((e ≡ DeviceRefusal) × HasFailed d)
    which (inl short) = inl short
    which (inr (inl failed)) = inr failed
    which (inr (inr untold)) = inl (short_from_base base rs e held legal (λ _. untold))
