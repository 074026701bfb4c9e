-- What is under way on a link, of one type: a lane for each type, and what keeps all lanes of a link.
use Rattle.std.proofs.Common.{◌≡◌, ◌⊎◌, ℕ, zero, suc, ◌≤◌, ◌<◌, List, [], ◌∷◌, ◌++◌, Bool, true, false, Option, Some, None, refl, sym, ap, ◌∙◌, append-nil, arith}
use Rattle.std.specs.Prelude.{bytes_eq, if◌then◌else◌, is_some, decimal, ⊤, length}
use Rattle.std.specs.List.{AllByRecursion, filter}
use Rattle.std.proofs.lemmas.Fmt.{decimal_injective, decimal_nonempty}
use Rattle.xds_resource.specs.declared.types.TypeName.{TypeName}
use Rattle.xds_resource.specs.Types.{row, is_same_type}
use Rattle.xds_resource.specs.Stamps.{max_counter}
use Rattle.xds_resource.specs.PerType.{at, each}
use Rattle.xds_resource.proofs.NameMaps.{bytes_eq_tells}
use Rattle.xds_resource.proofs.TypesApart.{is_same_type-same}
use Rattle.xds_interest.specs.Asked.{IsStarOfComplete}
use Rattle.xds_message.specs.declared.draft.Draft.{Draft}
use Rattle.xds_message.specs.DraftTexts.{kind_of}
use Rattle.xds_ledger.specs.declared.variant.VariantName.{VariantName}
use Rattle.xds_ledger.specs.Ledgers.{nonce_text}
use Rattle.xds_ledger.specs.Sessions.{Session, unopened}
use Rattle.xds_core.specs.Streams.{Stream, Message, variant_of, url_of, nonce_of}
use Rattle.xds_cache.specs.Shelves.{Shelf}
use Rattle.xds_cache.specs.Clients.{Client, shelf}
use Rattle.xds_world.specs.Worlds.{Link, under_way}
use Rattle.xds_world.specs.Knows.{TypedWrite}
use Rattle.xds_world.specs.Claims.{asks_for}
use Rattle.xds_world.proofs.Folding.{folded, AllTaken, NoneAnswers}
use Rattle.xds_world.proofs.Lanes.{delivery, Abreast}
use Rattle.xds_world.proofs.Replicas.{filter-append}

-- ---- the requests and responses of a type

abbrev pub lane_up : TypeName → List Message → List Message
lane_up t ms = filter (asks_for t) ms

abbrev pub lane_down : TypeName → List Draft → List Draft
lane_down t ds = filter (λ d. is_same_type (kind_of d) t) ds

pub lane_down-append : (t : TypeName) (ds es : List Draft) → lane_down t (ds ++ es) ≡ lane_down t ds ++ lane_down t es
lane_down-append t ds es = filter-append (λ d. is_same_type (kind_of d) t) ds es

-- a request is of the type of its URL
pub asks_as : (s t : TypeName) (m : Message) → url_of m ≡ (row s).url → asks_for t m ≡ is_same_type s t
asks_as s t m url = ap (λ u. bytes_eq u (row t).url) url

-- what one at the end adds to the lane of its type, and of another
pub own_more : (t : TypeName) (ms : List Message) (m : Message) → url_of m ≡ (row t).url → lane_up t (ms ++ m ∷ []) ≡ lane_up t ms ++ m ∷ []
own_more t ms m url = filter-append (asks_for t) ms (m ∷ []) ∙ ap (λ b. lane_up t ms ++ (if b then m ∷ [] else [])) (asks_as t t m url ∙ is_same_type-same t)

pub other_more : (s t : TypeName) (ms : List Message) (m : Message) → url_of m ≡ (row s).url → is_same_type s t ≡ false → lane_up t (ms ++ m ∷ []) ≡ lane_up t ms
other_more s t ms m url other = filter-append (asks_for t) ms (m ∷ []) ∙ ap (λ b. lane_up t ms ++ (if b then m ∷ [] else [])) (asks_as s t m url ∙ other) ∙ append-nil (lane_up t ms)

-- each is of a variant, of a type of the table
abbrev pub IsOf : VariantName → Message → Type 0
IsOf v m = (t : TypeName) × (variant_of m ≡ v) × (url_of m ≡ (row t).url)

abbrev pub AllOf : VariantName → List Message → Type 0
AllOf v ms = AllByRecursion (IsOf v) ms

pub all_of-append : (v : VariantName) (ms ns : List Message) → AllOf v ms → AllOf v ns → AllOf v (ms ++ ns)
all_of-append v [] ns first second = second
all_of-append v (m ∷ ms) ns first second = (first.0, all_of-append v ms ns first.1 second)

-- ---- nonces

-- none, or that of one of the first so many responses
abbrev pub IsNumbered : ℕ → List ℕ → Type 0
IsNumbered count nonce = (k : ℕ) × (k ≤ count) × (nonce ≡ nonce_text k)

abbrev pub AllNumbered : ℕ → List Message → Type 0
AllNumbered count [] = ⊤
AllNumbered count (m ∷ ms) = IsNumbered count (nonce_of m) × AllNumbered count ms

pub all_numbered-append : (count : ℕ) (ms : List Message) (m : Message) → AllNumbered count ms → IsNumbered count (nonce_of m) → AllNumbered count (ms ++ m ∷ [])
all_numbered-append count [] m first last = (last, tt)
all_numbered-append count (x ∷ ms) m first last = (first.0, all_numbered-append count ms m first.1 last)

pub later : (count : ℕ) (nonce : List ℕ) → IsNumbered count nonce → IsNumbered (suc count) nonce
later count nonce is = (is.0, omega (arith, is.1), is.2)

pub all_later : (count : ℕ) (ms : List Message) → AllNumbered count ms → AllNumbered (suc count) ms
all_later count [] all = tt
all_later count (m ∷ ms) all = (later count (nonce_of m) all.0, all_later count ms all.1)

differs : (a b : List ℕ) (c : Bool) → bytes_eq a b ≡ c → (a ≡ b → ⊥) → c ≡ false
differs a b true is other = absurd (other (bytes_eq_tells a b is))
differs a b false is other = refl

empty_or_not : (xs : List ℕ) → 0 < length xs → [] ≡ xs → ⊥
empty_or_not [] some is = absurd (omega (arith, some))
empty_or_not (x ∷ xs) some is = absurd cc

nonces_apart : (k n : ℕ) → k < suc n → suc n ≤ max_counter → nonce_text k ≡ nonce_text (suc n) → ⊥
nonces_apart zero n below within is = empty_or_not (decimal (suc n)) (decimal_nonempty (suc n) (omega (arith, within))) is
nonces_apart (suc k) n below within is = let same : suc k ≡ suc n = decimal_injective (suc k) (suc n) (omega (arith, below, within)) (omega (arith, within)) is in absurd (omega (arith, below, same))

-- a nonce of an earlier number is another
pub nonces_differ : (count : ℕ) (nonce : List ℕ) → suc count ≤ max_counter → IsNumbered count nonce → bytes_eq nonce (nonce_text (suc count)) ≡ false
nonces_differ count nonce within is = differs nonce (nonce_text (suc count)) (bytes_eq nonce (nonce_text (suc count))) refl (λ same. nonces_apart is.0 count (omega (arith, is.1)) within (sym is.2 ∙ same))

-- a new number is none of theirs
pub none_answers : (count : ℕ) (ms : List Message) → suc count ≤ max_counter → AllNumbered count ms → NoneAnswers (suc count) ms
none_answers count [] within all = tt
none_answers count (m ∷ ms) within all = (nonces_differ count (nonce_of m) within all.0, none_answers count ms within all.1)

-- ---- a lane

-- of one type: the session of a replica, the requests and responses under way, and the shelf of the client
pub record Lane (v : VariantName) (cluster : List ℕ) (all : List TypedWrite) (t : TypeName) (s : Session) (count : ℕ) (ups : List Message) (downs : List Draft) (f : Shelf) : Type 0 where
  pub down : Option Draft
  pub downs_are : downs ≡ under_way down
  pub stands : IsStarOfComplete t s.asked
  pub taken : AllTaken t s ups
  pub numbered : AllNumbered count ups
  pub answered : (d : Draft) → down ≡ Some d → IsNumbered count (delivery t d).nonce
  pub last : IsNumbered count f.nonce
  pub abreast : Abreast v cluster all t (folded t s ups) down f

-- a stream of a variant, for a client of a cluster: while its variant isn't decided, it has no session of any type
abbrev pub Speaks : VariantName → List ℕ → Stream → Type 0
Speaks v cluster x = ((x.variant ≡ None) × (x.sessions ≡ each (unopened cluster))) ⊎ (x.variant ≡ Some v)

-- a stream as it is for a client of a cluster: before the first request it has the sessions that this request makes
abbrev pub started : List ℕ → Stream → Stream
started cluster x = record x { sessions = if is_some x.variant then x.sessions else each (unopened cluster) }

-- a link of a client of a variant
pub record Linked (v : VariantName) (all : List TypedWrite) (c : Client) (l : Link) (x : Stream) : Type 0 where
  pub variant : Speaks v c.cluster x
  pub counted : x.count ≤ max_counter
  pub requests : AllOf v l.up
  pub lanes : (t : TypeName) → Lane v c.cluster all t (at x.sessions t) x.count (lane_up t l.up) (lane_down t l.down) (shelf c t)
