-- A part fits a frame: beside the body and the groups, what is written of a write is short.
use Rattle.std.proofs.Common.{◌≡◌, ℕ, ◌+◌, ◌*◌, ◌≤◌, List, [], ◌∷◌, ◌++◌, length, map, true, not, ◌&&◌, nat_lt, bytes_eq, decimal, Option, Some, None, unwrap_or, option_map, All, codes, refl, ap, ◌∙◌, arith, append-nil, get_or, take, subst, sym}
use Rattle.std.specs.List.{sum_by}
use Rattle.std.specs.Option.{ForSome}
use Rattle.std.proofs.lemmas.Bool.{ltb-false, and_parts, not-true}
use Rattle.std.proofs.lemmas.Fmt.{length-decimal-le}
use Rattle.std.proofs.lemmas.List.Elements.{All-head, All-tail}
use Rattle.std.proofs.lemmas.List.Sums.{sum_by-cons, sum_by-append}
use Rattle.serde_json.specs.Written.{compact_text}
use Rattle.xds_resource.specs.declared.types.TypeName.{TypeName}
use Rattle.xds_resource.specs.declared.types.TypeName.TheVariants.{Cluster, Endpoint, Listener, Route, Secret}
use Rattle.xds_resource.specs.PerType.{PerType}
use Rattle.xds_resource.specs.Resources.{IsCanonical, is_valid_name, max_name, value_of}
use Rattle.xds_resource.specs.Stamps.{max_counter, max_writer}
use Rattle.xds_resource.specs.TypedWrites.{TypedWrite, writes_of}
use Rattle.xds_resource.specs.Types.{row}
use Rattle.xds_resource.specs.Writes.{StampedWrite}
use Rattle.xds_frames.specs.Frames.{IsFrame}
use Rattle.xds_message.specs.Batches.{by_type, typed, in_order, batch_fields, batch_object, IsSound}
use Rattle.xds_message.specs.StampedWrites.{write_fields, write_object}
use Rattle.xds_exchange.proofs.Cutting.{part_bounds, sound_parts}
use Rattle.xds_exchange.proofs.Lengths.{set_len, object_len, item_len, list_len, sum_by-map}
use Rattle.xds_exchange.proofs.Weights.{quoted_short}
use Rattle.xds_exchange.specs.OutboxLaws.{FitFrames}
use Rattle.xds_exchange.specs.Parts.{weight, is_part, parts_of, batch_frame, IsFirstPart}

-- ---- a write

url_short : (t : TypeName) → length (row t).url ≤ 70
url_short Cluster = omega arith
url_short Endpoint = omega arith
url_short Listener = omega arith
url_short Route = omega arith
url_short Secret = omega arith

name_short : (name : List ℕ) → is_valid_name name ≡ true → length name ≤ max_name
name_short name e =
    let parts = and_parts (nat_lt 0 (length name) && not (nat_lt max_name (length name))) (not (bytes_eq name (codes "*"))) e in
    ltb-false max_name (length name) (not-true (nat_lt max_name (length name)) (and_parts (nat_lt 0 (length name)) (not (nat_lt max_name (length name))) parts.0).1)

counter_short : (n : ℕ) → n ≤ max_counter → length (decimal n) ≤ 19
counter_short n h = length-decimal-le 19 n (omega arith) (omega (arith, h)) (omega (arith, h))

writer_short : (n : ℕ) → n ≤ max_writer → length (decimal n) ≤ 5
writer_short n h = length-decimal-le 5 n (omega arith) (omega (arith, h)) (omega (arith, h))

-- a body is written as it is
body_len : (t : TypeName) (name : List ℕ) (body : Option (List ℕ)) → ForSome body (λ b. IsCanonical t (record { name = name; body = b })) → set_len (option_map value_of body) ≡ length (unwrap_or body [])
body_len t name None h = refl
body_len t name (Some b) h = ap length (h b refl).text

-- beside the body and the groups a write takes at most this many bytes, and a comma
abbrev rest : ℕ
rest = 7000

write_len : (t : TypeName) (w : StampedWrite) → IsSound (t, w) → item_len (write_object t w) ≤ weight (t, w) + rest
write_len t w h =
    omega (arith, object_len (write_fields t w), body_len t w.name w.body h.writable.body, counter_short w.counter h.stamped.counter_to, writer_short w.writer h.stamped.writer_to, quoted_short w.name, name_short w.name h.writable.named, quoted_short (row t).url, url_short t)

-- ---- the writes of a batch

abbrev len : TypedWrite → ℕ
len x = item_len (write_object x.0 x.1)

writes_len : (ws : List TypedWrite) → All IsSound ws → sum_by len ws ≤ sum_by weight ws + rest * length ws
writes_len [] h = omega arith
writes_len (x ∷ xs) h = omega (arith, write_len x.0 x.1 (All-head IsSound x xs h), writes_len xs (All-tail IsSound x xs h), sum_by-cons len x xs, sum_by-cons weight x xs)

-- By type the writes are the same, and so is what they sum up to.
module _ (f : TypedWrite → ℕ) where
  abbrev of_type : TypeName → List TypedWrite → ℕ
  of_type t ws = sum_by f (typed t (writes_of t ws))

  abbrev of_all : List TypedWrite → ℕ
  of_all ws = of_type Cluster ws + (of_type Endpoint ws + (of_type Listener ws + (of_type Route ws + of_type Secret ws)))

  five : (a b c d e : List TypedWrite) → sum_by f (a ++ (b ++ (c ++ (d ++ (e ++ []))))) ≡ sum_by f a + (sum_by f b + (sum_by f c + (sum_by f d + sum_by f e)))
  five a b c d e =
      omega (arith, sum_by-append f a (b ++ (c ++ (d ++ (e ++ [])))), sum_by-append f b (c ++ (d ++ (e ++ []))), sum_by-append f c (d ++ (e ++ [])), sum_by-append f d (e ++ []), ap (sum_by f) (append-nil e))

  one_more : (t : TypeName) (w : StampedWrite) (ws : List TypedWrite) → of_all ((t, w) ∷ ws) ≡ f (t, w) + of_all ws
  one_more Cluster w ws = omega (arith, sum_by-cons f (Cluster, w) (typed Cluster (writes_of Cluster ws)))
  one_more Endpoint w ws = omega (arith, sum_by-cons f (Endpoint, w) (typed Endpoint (writes_of Endpoint ws)))
  one_more Listener w ws = omega (arith, sum_by-cons f (Listener, w) (typed Listener (writes_of Listener ws)))
  one_more Route w ws = omega (arith, sum_by-cons f (Route, w) (typed Route (writes_of Route ws)))
  one_more Secret w ws = omega (arith, sum_by-cons f (Secret, w) (typed Secret (writes_of Secret ws)))

  of_all_is : (ws : List TypedWrite) → of_all ws ≡ sum_by f ws
  of_all_is [] = refl
  of_all_is (x ∷ xs) = omega (arith, one_more x.0 x.1 xs, of_all_is xs, sum_by-cons f x xs)

  sum_by-in_order : (ws : List TypedWrite) → sum_by f (in_order (by_type ws)) ≡ sum_by f ws
  sum_by-in_order ws = five (typed Cluster (writes_of Cluster ws)) (typed Endpoint (writes_of Endpoint ws)) (typed Listener (writes_of Listener ws)) (typed Route (writes_of Route ws)) (typed Secret (writes_of Secret ws)) ∙ of_all_is ws

-- ---- a part

batch_len : (ws : List TypedWrite) → length (compact_text (batch_object (by_type ws))) ≤ sum_by len ws + 100
batch_len ws =
    let all = in_order (by_type ws) in
    omega (arith, object_len (batch_fields (by_type ws)), list_len (map (λ x. write_object x.0 x.1) all), sum_by-map item_len (λ (x : TypedWrite). write_object x.0 x.1) all, sum_by-in_order len ws)

pub part_fits : (ws : List TypedWrite) → is_part ws ≡ true → All IsSound ws → IsFrame (batch_frame (by_type ws))
part_fits ws within sound =
    let bounds = part_bounds ws within in
    (omega arith, omega (arith, batch_len ws, writes_len ws sound, bounds.0, bounds.1))

pub parts_fit : (ws : List TypedWrite) → FitFrames ws
parts_fit ws sound = λ i part below. let h = sound_parts ws sound i part below in part_fits (get_or (parts_of ws) i part) h.0 h.1

-- the batch of the first part fits
pub fits_by : (ws : List TypedWrite) (n : ℕ) (b : PerType (List StampedWrite)) → IsFirstPart ws n → All IsSound (take n ws) → b ≡ by_type (take n ws) → IsFrame (batch_frame b)
fits_by ws n b h sound is = subst (λ a. IsFrame (batch_frame a)) (sym is) (part_fits (take n ws) h.within sound)
