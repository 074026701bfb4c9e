-- When the lists of a stream suffice, type by type.
use Rattle.std.proofs.Common.{◌≡◌, ◌≢◌, ◌⊎◌, inl, inr, ℕ, List, true, false, Option, Some, None, Result, Ok, Err, refl, sym, ap, subst}
use Rattle.std.specs.Prelude.{OnOk}
use Rattle.std.specs.Option.{option_map_or}
use Rattle.xds_resource.specs.declared.refusal.Refusal.{Refusal}
use Rattle.xds_resource.specs.declared.types.TypeName.{TypeName}
use Rattle.xds_resource.specs.PerType.{at, with_at, each}
use Rattle.xds_resource.specs.Types.{is_same_type}
use Rattle.xds_resource.proofs.TypesApart.{at-with_at, at-with_at_other, at-each, same_type}
use Rattle.xds_ledger.specs.declared.variant.VariantName.{VariantName}
use Rattle.xds_ledger.specs.Listed.{IsLater, unlisted}
use Rattle.xds_ledger.specs.Lists.{Kept, SessionFits, StaysFit}
use Rattle.xds_ledger.specs.Sessions.{unopened}
use Rattle.xds_ledger.proofs.Keeping.{later_session_fits, new_kept_fits}
use Rattle.xds_events.specs.Stores.{Store}
use Rattle.xds_core.specs.Talks.{Talk, begun, kept_at, Followed, followed, followed_opening, StreamFits, StreamStaysFit}

abbrev variant_or : VariantName → Option VariantName → VariantName
variant_or w o = option_map_or (λ v. v) o w

-- a stream of this variant, type by type
pub fits_in : (v : VariantName) (store : Store) (k : Talk) → ((t : TypeName) → SessionFits v t (at store t) (kept_at (followed v k) t)) → StreamFits store (followed v k)
fits_in v store k fits = record { each = λ w speaks t. subst (λ x. SessionFits x t (at store t) (kept_at (followed v k) t)) (ap (variant_or v) speaks) (fits t) }

pub opening_fits : (store : Store) → StreamFits store followed_opening
opening_fits store = record { each = λ v speaks t. none_is speaks }
  where
    none_is : {v : VariantName} {P : Type 0} → ◌≡◌ {A = Option VariantName} None (Some v) → P
    none_is never = absurd cc

begun_at : (v : VariantName) (store : Store) (cluster : List ℕ) (t : TypeName) → SessionFits v t (at store t) (kept_at (followed v (begun cluster)) t)
begun_at v store cluster t =
    subst (λ x. SessionFits v t (at store t) (record { session = x; listed = at (each unlisted) t })) (sym (at-each (unopened cluster) t))
    (subst (λ x. SessionFits v t (at store t) (record { session = unopened cluster; listed = x })) (sym (at-each unlisted t)) (new_kept_fits v t cluster (at store t)))

-- what the first request begins
pub begun_stays : (v : VariantName) (cluster : List ℕ) (k new : Talk) → k ≡ begun cluster → StreamStaysFit (followed v k) (followed v new) → StreamStaysFit followed_opening (followed v new)
begun_stays v cluster k new is stays store opens = stays store (subst (λ x. StreamFits store (followed v x)) (sym is) (fits_in v store (begun cluster) (begun_at v store cluster)))

-- once writes came of any type
pub later_stream_fits : (store later : Store) (f : Followed) → ((t : TypeName) → IsLater (at store t) (at later t)) → StreamFits store f → StreamFits later f
later_stream_fits store later f is fits = record { each = λ v speaks t. later_session_fits v t (at store t) (at later t) _ (is t) (fits.each v speaks t) }

-- ---- once the session of one type changed

-- with this session of a type, and its list
abbrev pub with_kept : Talk → ℕ → TypeName → Kept → Talk
with_kept k n t x = record { count = n; sessions = with_at k.sessions t x.session; lists = with_at k.lists t x.listed }

placed_by : (v : VariantName) (store : Store) (k : Talk) (n : ℕ) (t : TypeName) (x : Kept) (s : TypeName) → SessionFits v t (at store t) x → SessionFits v s (at store s) (kept_at (followed v k) s)
    → ((s ≡ t) × (is_same_type s t ≡ true)) ⊎ ((s ≢ t) × (is_same_type s t ≡ false)) → SessionFits v s (at store s) (kept_at (followed v (with_kept k n t x)) s)
placed_by v store k n t x s here there (inl same) =
    subst (λ u. SessionFits v u (at store u) (kept_at (followed v (with_kept k n t x)) u)) (sym same.0)
    (subst (λ y. SessionFits v t (at store t) y) (λ i. record { session = sym (at-with_at k.sessions t x.session) i; listed = sym (at-with_at k.lists t x.listed) i }) here)
placed_by v store k n t x s here there (inr other) =
    subst (λ y. SessionFits v s (at store s) y) (λ i. record { session = sym (at-with_at_other k.sessions t x.session s other.0) i; listed = sym (at-with_at_other k.lists t x.listed s other.0) i }) there

pub placed_fits : (v : VariantName) (store : Store) (k : Talk) (n : ℕ) (t : TypeName) (x : Kept) → SessionFits v t (at store t) x → StreamFits store (followed v k) → StreamFits store (followed v (with_kept k n t x))
placed_fits v store k n t x here there = fits_in v store (with_kept k n t x) (λ s. placed_by v store k n t x s here (there.each v refl s) (same_type s t))

-- ---- as a method sees it that asks one session

pub fits_at : {store held : Store} {k now : Talk} (v : VariantName) (t : TypeName) → store ≡ held → k ≡ now → StreamFits held (followed v now) → SessionFits v t (at store t) (kept_at (followed v k) t)
fits_at {store} {held} {k} {now} v t holds begins fits =
    subst (λ (x : Talk). SessionFits v t (at store t) (kept_at (followed v x) t)) (sym begins) (subst (λ h. SessionFits v t (at h t) (kept_at (followed v now) t)) (sym holds) (fits.each v refl t))

pub taken_fits : {X : Type 0} {k now : Talk} (v : VariantName) (t : TypeName) (x : Kept) (r : Result X Refusal) → k ≡ now → OnOk r (StaysFit v t (kept_at (followed v k) t) x) → OnOk r (StreamStaysFit (followed v now) (followed v (with_kept k k.count t x)))
taken_fits {X} {k} {now} v t x (Ok y) begins stays = subst (λ (b : Talk). StreamStaysFit (followed v b) (followed v (with_kept k k.count t x))) begins (λ store fits. placed_fits v store k k.count t x (stays (at store t) (fits.each v refl t)) fits)
taken_fits v t x (Err e) begins stays = stays
