-- What an answer leaves of one name, on both sides: what the server believes, and what the client holds.
use Rattle.std.proofs.Common.{◌≡◌, ◌⊎◌, inl, inr, ℕ, List, Bool, true, false, ◌||◌, ◌&&◌, Option, Some, None, refl, sym, ap, subst, ◌∙◌}
use Rattle.std.specs.Prelude.{if◌then◌else◌, is_some, option_map}
use Rattle.std.specs.Option.{option_or}
use Rattle.xds_ledger.specs.declared.entry.Entry.{Entry}
use Rattle.xds_ledger.specs.declared.entry.Entry.TheVariants.{Told, Unsure}
use Rattle.xds_ledger.specs.declared.entry.Due.{Due}
use Rattle.xds_ledger.specs.declared.entry.Due.TheVariants.{Stated, Removed}
use Rattle.xds_ledger.specs.Believing.{believed_accepted, believed_touched}
use Rattle.xds_cache.specs.Shelves.{Holding}

-- what a client holds of a name after a response of which it takes everything
abbrev pub held_after : Bool → Bool → Bool → Option Holding → Option Holding → Option Holding
held_after whole wanted removed stated held = if wanted then option_or stated (if whole || removed then None else held) else None

-- what is held of a name once the client wants something else
abbrev pub kept_after : Bool → Option Holding → Option Holding
kept_after wanted held = if wanted then held else None

-- what isn't believed held isn't held
abbrev pub IsNone : Option Entry → Option Holding → Type 0
IsNone b held = b ≡ None → held ≡ None

-- what is believed of a name after a request's names were taken
abbrev pub believed_after : Bool → Bool → Bool → Option Entry → Option Entry
believed_after touched reached mentioned b = if touched then believed_touched reached mentioned b else b

told_is : (v w : List ℕ) → (◌≡◌ {A = Option Entry} (Some (Told v)) (Some (Told w))) → v ≡ w
told_is v w e = cc

never_told : (reached known : Bool) (v : List ℕ) → (if reached && known then Some Unsure else None) ≡ Some (Told v) → ⊥
never_told true true v e = cc
never_told true false v e = cc
never_told false known v e = cc

-- a name that doesn't count as told doesn't after a request either, nor does one that the request touches
pub not_told : (touched reached mentioned : Bool) (b : Option Entry) (v : List ℕ) → (b ≡ Some (Told v) → ⊥) → believed_after touched reached mentioned b ≡ Some (Told v) → ⊥
not_told true reached mentioned b v never is = never_told reached (mentioned || is_some b) v is
not_told false reached mentioned b v never is = never is

pub touched_not_told : (touched reached mentioned : Bool) (b : Option Entry) (v : List ℕ) → touched ≡ true → believed_after touched reached mentioned b ≡ Some (Told v) → ⊥
touched_not_told touched reached mentioned b v touched_it is = never_told reached (mentioned || is_some b) v (ap (λ x. believed_after x reached mentioned b) (sym touched_it) ∙ is)

pub by_touch : (touched reached mentioned : Bool) (b : Option Entry) (v : List ℕ) → believed_after touched reached mentioned b ≡ Some (Told v) → (touched ≡ true) ⊎ (b ≡ Some (Told v))
by_touch true reached mentioned b v is = inl refl
by_touch false reached mentioned b v is = inr is

absent_before : (mentioned : Bool) (b : Option Entry) → (if true && (mentioned || is_some b) then Some Unsure else None) ≡ None → b ≡ None
absent_before true b e = absurd cc
absent_before false None e = refl
absent_before false (Some x) e = absurd cc

pub none_changed : (touched wanted mentioned : Bool) (b : Option Entry) (held : Option Holding) → IsNone b held → IsNone (believed_after touched wanted mentioned b) (kept_after wanted held)
none_changed touched false mentioned b held none is = refl
none_changed true true mentioned b held none is = none (absent_before mentioned b is)
none_changed false true mentioned b held none is = none is

kept_same : (before wanted : Bool) (held : Option Holding) → wanted ≡ before → (before ≡ false → held ≡ None) → kept_after wanted held ≡ held
kept_same before true held same within = refl
kept_same before false held same within = sym (within (sym same))

-- ---- a response, by what it is to hold a name at a version

module _ (P : List ℕ → Holding → Type 0) where
  abbrev pub IsHeld : List ℕ → Option Holding → Type 0
  IsHeld v held = (h : Holding) × (held ≡ Some h) × P v h

  -- what is believed told is held at that version
  abbrev pub IsTold : Option Entry → Option Holding → Type 0
  IsTold b held = (v : List ℕ) → b ≡ Some (Told v) → IsHeld v held

  -- what a response says of a name, as the client sees it
  abbrev pub Says : Option Due → Bool → Option Holding → Type 0
  Says (Some (Stated v)) removed stated = IsHeld v stated
  Says (Some Removed) removed stated = (stated ≡ None) × (removed ≡ true)
  Says None removed stated = (stated ≡ None) × (removed ≡ false)

  -- Once it is accepted: a name that is stated and untouched is wanted. Where the response is the whole, a name that was touched
  -- doesn't count as told.
  pub told_accepted : (whole touched wanted removed : Bool) (o : Option Due) (b : Option Entry) (stated held : Option Holding) → Says o removed stated → ((v : List ℕ) → o ≡ Some (Stated v) → touched ≡ false → wanted ≡ true)
      → ((v : List ℕ) → whole ≡ true → touched ≡ true → b ≡ Some (Told v) → ⊥) → (wanted ≡ false → held ≡ None) → IsTold b held → IsTold (believed_accepted whole touched o b) (held_after whole wanted removed stated held)
  told_accepted whole true wanted removed (Some d) b stated held says reached unsure within told v is = absurd cc
  told_accepted whole false wanted removed (Some (Stated w)) b stated held says reached unsure within told v is =
      (says.0, (λ i. if reached w refl refl i then option_or (says.1 i) (if whole || removed then None else held) else None), subst (λ x. P x says.0) (told_is w v is) says.2)
  told_accepted whole false wanted removed (Some Removed) b stated held says reached unsure within told v is = absurd cc
  told_accepted true true wanted removed None b stated held says reached unsure within told v is = absurd (unsure v refl refl is)
  told_accepted true false wanted removed None b stated held says reached unsure within told v is = absurd cc
  told_accepted false touched true removed None b stated held says reached unsure within told v is =
      let was = told v is in (was.0, (λ i. option_or (says.0 i) (if false || says.1 i then None else held)) ∙ was.1, was.2)
  told_accepted false touched false removed None b stated held says reached unsure within told v is = let was = told v is in let never : None ≡ Some was.0 = sym (within refl) ∙ was.1 in absurd cc

  pub none_accepted : (whole touched wanted removed : Bool) (o : Option Due) (b : Option Entry) (stated held : Option Holding) → Says o removed stated → (whole ≡ false → IsNone b held) → IsNone (believed_accepted whole touched o b) (held_after whole wanted removed stated held)
  none_accepted whole true wanted removed (Some d) b stated held says none is = absurd cc
  none_accepted whole false wanted removed (Some (Stated w)) b stated held says none is = absurd cc
  none_accepted whole touched false removed o b stated held says none is = refl
  none_accepted true false true removed (Some Removed) b stated held says none is = ap (λ x. option_or x None) says.0
  none_accepted false false true removed (Some Removed) b stated held says none is = λ i. option_or (says.0 i) (if false || says.1 i then None else held)
  none_accepted true touched true removed None b stated held says none is = ap (λ x. option_or x None) says.0
  none_accepted false touched true removed None b stated held says none is = (λ i. option_or (says.0 i) (if false || says.1 i then None else held)) ∙ none refl is

  -- once the client wants something else: an untouched name is wanted as before
  pub told_changed : (touched before wanted mentioned : Bool) (b : Option Entry) (held : Option Holding) → (touched ≡ false → wanted ≡ before) → (before ≡ false → held ≡ None) → IsTold b held → IsTold (believed_after touched wanted mentioned b) (kept_after wanted held)
  told_changed true before wanted mentioned b held same within told v is = absurd (never_told wanted (mentioned || is_some b) v is)
  told_changed false before wanted mentioned b held same within told v is = let was = told v is in (was.0, kept_same before wanted held (same refl) within ∙ was.1, was.2)

-- whatever holds of what a response states, and of what is held, holds of what is held then
pub held_made : (Q : Holding → Type 0) (whole wanted removed : Bool) (stated held : Option Holding) (h : Holding) → ((x : Holding) → stated ≡ Some x → Q x) → ((x : Holding) → held ≡ Some x → Q x) → held_after whole wanted removed stated held ≡ Some h → Q h
held_made Q whole false removed stated held h new old is = absurd cc
held_made Q whole true removed (Some x) held h new old is = new h is
held_made Q true true removed None held h new old is = absurd cc
held_made Q false true true None held h new old is = absurd cc
held_made Q false true false None held h new old is = old h is

pub kept_made : (Q : Holding → Type 0) (wanted : Bool) (held : Option Holding) (h : Holding) → ((x : Holding) → held ≡ Some x → Q x) → kept_after wanted held ≡ Some h → Q h
kept_made Q true held h old is = old h is
kept_made Q false held h old is = absurd cc

-- ---- a first request

-- what is believed of a name after a first request: what the client says that it holds, and else unsure of what it names
abbrev pub resumed_after : Option (List ℕ) → Option Entry → Option Entry
resumed_after version b = option_or (option_map Told version) b

abbrev pub version_held : Option Holding → Option (List ℕ)
version_held held = option_map (λ h. h.version) held

abbrev pub IsOfVersion : List ℕ → Holding → Type 0
IsOfVersion v h = h.version ≡ v

pub told_resumed : (b : Option Entry) (held : Option Holding) → ((v : List ℕ) → b ≡ Some (Told v) → ⊥) → IsTold IsOfVersion (resumed_after (version_held held) b) held
told_resumed b None unsure v is = absurd (unsure v is)
told_resumed b (Some h) unsure v is = (h, refl, told_is h.version v is)

pub none_resumed : (b : Option Entry) (held : Option Holding) → IsNone (resumed_after (version_held held) b) held
none_resumed b None is = refl
none_resumed b (Some h) is = absurd cc
