-- How an input that is read in pieces is judged: by all of its bytes, where these are known.
use Rattle.std.proofs.Common.{◌≡◌, ◌⊎◌, inl, inr, ℕ, List, [], ◌++◌, Option, Some, None, IfSome, refl, sym, ap, subst, ◌∙◌, append_assoc, Result, Ok, Err, IfErr}
use Rattle.std.specs.Prelude.{IsErrAnd}
use Rattle.std.specs.Io.KnownBytes.{Consumes, prepend_known}
use Rattle.std.proofs.KnownBytes.{Consumes-trans}
use Rattle.xds_frames.specs.Devices.{MoreFailed}
use Rattle.xds_check.specs.declared.piecewise.PiecewiseChecker.{PiecewiseChecker}
use Rattle.xds_check.specs.Checkers.{HasRead}
use Rattle.xds_check.specs.Texts.{IsFirstBad}
use Rattle.xds_program.specs.declared.judge.NoVerdict.{NoVerdict}
use Rattle.xds_program.specs.declared.judge.NoVerdict.TheVariants.{Unjudged as NotJudged, Device}
use Rattle.xds_program.specs.declared.judge.Unjudged.{Unjudged}
use Rattle.xds_program.specs.declared.judge.Unjudged.TheVariants.{BadTrace, OutOfMemory}
use Rattle.xds_program.specs.Judged.{IsUnjudged, IsUnread, ReadsOn, IsReadWhole}

-- ---- why a read failed

-- there was no memory, or a call of the reader failed
abbrev pub HasStopped : ℕ → ℕ → NoVerdict → Type 0
HasStopped before after why = (why ≡ NotJudged OutOfMemory) ⊎ ((why ≡ Device) × MoreFailed before after)

anything : (known : Option (List ℕ)) → IfSome known (λ bytes. IsUnjudged bytes OutOfMemory)
anything None = tt
anything (Some bytes) = tt

pub stopped : (known : Option (List ℕ)) (before after : ℕ) (why : NoVerdict) → HasStopped before after why → IsUnread known before after why
stopped known before after why (inl memory) = subst (IsUnread known before after) (sym memory) (anything known)
stopped known before after why (inr failed) = subst (IsUnread known before after) (sym failed.0) failed.1

-- what holds of what a `?` passes on
pub passed_on : {X : Type 0} (P : NoVerdict → Type 0) (r : Result X NoVerdict) (e : NoVerdict) → IsErrAnd r (λ f. f ≡ e) → P e → IfErr r P
passed_on P (Ok x) e failed holds = tt
passed_on P (Err f) e failed holds = subst P (sym failed) holds

-- what is said of a bad line
pub told_bad : (known : Option (List ℕ)) (before after : ℕ) (why : NoVerdict) (unjudged : Unjudged) (line : ℕ) → why ≡ NotJudged unjudged → unjudged ≡ BadTrace line → IsUnread known before after why
    → IfSome known (λ bytes. IsFirstBad bytes line)
told_bad known before after why unjudged line is bad holds = subst (λ (u : Unjudged). IsUnread known before after (NotJudged u)) bad (subst (IsUnread known before after) is holds)

-- ---- pieces

pub some_is : {X : Type 0} (P : X → Type 0) (o : Option X) (x : X) → o ≡ Some x → IfSome o P → P x
some_is {X = X} P o x is holds = subst (λ (q : Option X). IfSome q P) is holds

-- a checker has read what came of an input so far
pub record IsReadSo (initial now : Option (List ℕ)) (checker : PiecewiseChecker) : Type 0 where
  pub bytes : List ℕ
  pub taken : Consumes initial now bytes
  pub read : HasRead bytes checker

nothing_taken : (known : Option (List ℕ)) → Consumes known known []
nothing_taken None = tt
nothing_taken (Some bytes) = refl

pub so_far_none : (known : Option (List ℕ)) (checker : PiecewiseChecker) → HasRead [] checker → IsReadSo known known checker
so_far_none known checker read = record { bytes = []; taken = nothing_taken known; read = read }

pub so_far_some : (initial now : Option (List ℕ)) (checker : PiecewiseChecker) → IsReadSo initial now checker → (bytes : List ℕ) × HasRead bytes checker
so_far_some initial now checker r = (r.bytes, r.read)

pub so_far_more : (initial now after : Option (List ℕ)) (old new : PiecewiseChecker) → IsReadSo initial now old → ReadsOn now after old new → IsReadSo initial after new
so_far_more initial now after old new r more = record { bytes = r.bytes ++ more.came; taken = Consumes-trans initial now after r.bytes more.came r.taken more.taken; read = more.read r.bytes r.read }

-- what is said of all bytes, by those that came and those that are left
behind : (P : List ℕ → Type 0) (initial now : Option (List ℕ)) (bytes : List ℕ) → Consumes initial now bytes → IfSome (prepend_known bytes now) P → IfSome initial P
behind P None now bytes taken is = tt
behind P (Some all) None bytes taken is = absurd taken
behind P (Some all) (Some left) bytes taken is = subst P (sym taken) is

pub unread_so_far : (initial now : Option (List ℕ)) (checker : PiecewiseChecker) (before after : ℕ) (why : NoVerdict) → IsReadSo initial now checker
    → ((bytes : List ℕ) → HasRead bytes checker → IsUnread (prepend_known bytes now) before after why) → IsUnread initial before after why
unread_so_far initial now checker before after (NotJudged why) r is = behind (λ bytes. IsUnjudged bytes why) initial now r.bytes r.taken (is r.bytes r.read)
unread_so_far initial now checker before after Device r is = is r.bytes r.read

-- of a piece
pub unread_in : (now after : Option (List ℕ)) (bytes came : List ℕ) (why : Unjudged) → Consumes now after came → ((following : List ℕ) → IsUnjudged (bytes ++ came ++ following) why)
    → IfSome (prepend_known bytes now) (λ input. IsUnjudged input why)
unread_in None after bytes came why taken is = tt
unread_in (Some all) None bytes came why taken is = absurd taken
unread_in (Some all) (Some left) bytes came why taken is =
    subst (λ (input : List ℕ). IsUnjudged input why) (append_assoc bytes came left ∙ ap (λ (l : List ℕ). bytes ++ l) (sym taken)) (is left)

-- ---- the whole

known_so : (known : Option (List ℕ)) (bytes : List ℕ) (P : List ℕ → Type 0) → IfSome known (λ input. input ≡ bytes) → P bytes → IfSome known P
known_so None bytes P same is = tt
known_so (Some input) bytes P same is = subst P (sym same) is

pub whole_judged : (known : Option (List ℕ)) (checker : PiecewiseChecker) (P : List ℕ → Type 0) → IsReadWhole known checker → ((bytes : List ℕ) → HasRead bytes checker → P bytes) → IfSome known P
whole_judged known checker P r is = known_so known r.bytes P r.all (is r.bytes r.read)
