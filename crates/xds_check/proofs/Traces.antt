-- How far a trace was read, and what its text says.
use Rattle.std.proofs.Common.{◌≡◌, ◌≢◌, ◌<◌, ◌≤◌, ◌+◌, ℕ, zero, suc, List, [], ◌∷◌, ◌++◌, length, reverse, map, take, drop, get_or, All, Bool, true, false, inl, inr, refl, ap, sym, ◌∙◌, subst, arith, append_assoc, append-nil, length-append, ne_eqb}
use Rattle.std.specs.Prelude.{◌==◌, ◌||◌}
use Rattle.std.specs.List.{list_any}
use Rattle.std.proofs.lemmas.Grind.{reverse_onto}
use Rattle.std.proofs.lemmas.List.{reverse-append, take_all}
use Rattle.std.proofs.lemmas.List.Elements.{All-more, All-push, All-nil, All-head, All-tail, All-map}
use Rattle.xds_resource.specs.declared.refusal.Refusal.{Refusal}
use Rattle.xds_resource.specs.declared.refusal.Refusal.TheVariants.{OutOfMemory, BadTrace}
use Rattle.xds_resource.proofs.Refusing.{memory_or_not}
use Rattle.xds_check.specs.declared.line.Line.{Line}
use Rattle.xds_check.specs.Orders.{OrderKept, IsOrderOf, nothing_kept, may_follow_in, kept_after, IsTaken, IsBadIn}
use Rattle.xds_check.specs.Streams.{may_follow, AllFollow, IsInOrder}
use Rattle.xds_check.specs.Texts.{Says, SayAll, ended, IsOneLine, IsTrace, IsBad, IsRefusedAt, HasStream, line_text, trace_text}
use Rattle.xds_message.proofs.BatchLemmas.{map-take-more}
use Rattle.xds_check.proofs.LineTexts.{lines_feedless}
use Rattle.xds_check.proofs.Orderly.{nothing_yet, order_after, follows_same}

-- ---- lists

pub reverse-front : {X : Type 0} (x : X) (xs ys : List X) → reverse (x ∷ xs) ++ ys ≡ reverse xs ++ x ∷ ys
reverse-front x xs ys = ap (λ l. l ++ ys) (reverse_onto xs x []) ∙ append_assoc (reverse xs) (x ∷ []) ys

pub ended-more : (texts : List (List ℕ)) (text next : List ℕ) → ended texts ++ (text ++ 10 ∷ next) ≡ ended (texts ++ text ∷ []) ++ next
ended-more [] text next = sym (append_assoc text (10 ∷ []) next)
ended-more (t ∷ texts) text next =
    append_assoc t (10 ∷ ended texts) (text ++ 10 ∷ next) ∙ ap (λ l. t ++ 10 ∷ l) (ended-more texts text next) ∙ sym (append_assoc t (10 ∷ ended (texts ++ text ∷ [])) next)

pub say-more : (earlier : List Line) (texts : List (List ℕ)) (ls : List Line) (text : List ℕ) (l : Line) → SayAll earlier texts ls → Says text l → may_follow (reverse ls ++ earlier) l ≡ true
    → SayAll earlier (texts ++ text ∷ []) (ls ++ l ∷ [])
say-more earlier [] [] text l say says follows = (says, follows, tt)
say-more earlier [] (x ∷ ls) text l say says follows = absurd say
say-more earlier (t ∷ texts) [] text l say says follows = absurd say
say-more earlier (t ∷ texts) (x ∷ ls) text l say says follows =
    (say.0, say.1, say-more (x ∷ earlier) texts ls text l say.2 says (sym (ap (λ e. may_follow e l) (reverse-front x ls earlier)) ∙ follows))

-- ---- reading

pub record IsReadTo (bytes rest : List ℕ) (number : ℕ) (taken : List Line) (k : OrderKept) : Type 0 where
  pub texts : List (List ℕ)
  pub bytes_are : bytes ≡ ended texts ++ rest
  pub each : All IsOneLine texts
  pub say : SayAll [] texts taken
  pub number_is : number ≡ length texts + 1
  pub order_is : IsOrderOf (reverse taken) k
  pub short : length texts + length rest ≤ length bytes

pub read_none : (bytes : List ℕ) → IsReadTo bytes bytes 1 [] nothing_kept
read_none bytes = record { texts = []; bytes_are = refl; each = All-nil IsOneLine; say = tt; number_is = refl; order_is = nothing_yet; short = omega arith }

pub read_more : (bytes rest text next : List ℕ) (number : ℕ) (taken now_taken : List Line) (k after : OrderKept) → IsReadTo bytes rest number taken k → rest ≡ text ++ 10 ∷ next → IsOneLine text
    → IsTaken k taken text after now_taken → IsReadTo bytes next (number + 1) now_taken after
read_more bytes rest text next number taken now_taken k after r split one t =
    let follows : may_follow (reverse taken ++ []) t.line ≡ true = ap (λ e. may_follow e t.line) (append-nil (reverse taken)) ∙ sym (follows_same (reverse taken) k t.line r.order_is) ∙ t.follows in
    let order : IsOrderOf (reverse (taken ++ t.line ∷ [])) (kept_after k t.line) =
    subst (λ (e : List Line). IsOrderOf e (kept_after k t.line)) (sym (reverse-append taken (t.line ∷ []))) (order_after (reverse taken) k t.line r.order_is) in
    record {
      texts = r.texts ++ text ∷ [];
      bytes_are = r.bytes_are ∙ ap (λ (l : List ℕ). ended r.texts ++ l) split ∙ ended-more r.texts text next;
      each = All-push IsOneLine r.texts text r.each one;
      say = subst (λ (ls : List Line). SayAll [] (r.texts ++ text ∷ []) ls) (sym t.pushed) (say-more [] r.texts taken text t.line r.say t.says follows);
      number_is = omega (arith, r.number_is, length-append r.texts (text ∷ []));
      order_is = subst (λ (ls : List Line). IsOrderOf (reverse ls) after) (sym t.pushed) (subst (λ (x : OrderKept). IsOrderOf (reverse (taken ++ t.line ∷ [])) x) (sym t.kept) order);
      short = omega (arith, r.short, ap length split, length-append text (10 ∷ next), length-append r.texts (text ∷ []));
    }

-- a line that is said, and may not come next
pub not_following : (k : OrderKept) (text : List ℕ) (l : Line) (follows : Bool) → Says text l → follows ≡ false → follows ≡ may_follow_in k l → BadTrace ≢ OutOfMemory → (BadTrace ≡ BadTrace) × IsBadIn k text
not_following k text l follows says no_more is = λ other. (refl, inr (l, says, sym is ∙ no_more))

pub read_all : (bytes : List ℕ) (number : ℕ) (taken : List Line) (k : OrderKept) → IsReadTo bytes [] number taken k → IsTrace bytes taken
read_all bytes number taken k r = record { texts = r.texts; bytes_are = r.bytes_are ∙ append-nil (ended r.texts); each = r.each; say = r.say }

bad_so : (taken : List Line) (k : OrderKept) (text : List ℕ) → IsOrderOf (reverse taken) k → IsBadIn k text → IsBad (reverse taken) text
bad_so taken k text o (inl none) = inl none
bad_so taken k text o (inr out) = inr (out.0, out.1, sym (follows_same (reverse taken) k out.0 o) ∙ out.2)

pub read_bad : (bytes rest text next : List ℕ) (number : ℕ) (taken : List Line) (k : OrderKept) (e : Refusal) → IsReadTo bytes rest number taken k → rest ≡ text ++ 10 ∷ next → IsOneLine text
    → (e ≢ OutOfMemory → (e ≡ BadTrace) × IsBadIn k text) → IsRefusedAt bytes number e
read_bad bytes rest text next number taken k e r split one why =
    elim (memory_or_not e) [
      | inl memory ↦ inl memory
      | inr other ↦
          let p = why other in
          inr (p.0, record { texts = r.texts; before = taken; rest = rest; bytes_are = r.bytes_are; each = r.each; say = r.say; number_is = r.number_is; bad = inr (text, next, split, one, bad_so taken k text r.order_is p.1) })
    ]

pub read_unended : (bytes rest : List ℕ) (number : ℕ) (taken : List Line) (k : OrderKept) → IsReadTo bytes rest number taken k → rest ≢ [] → IsOneLine rest → IsRefusedAt bytes number BadTrace
read_unended bytes rest number taken k r some one =
    inr (refl, record { texts = r.texts; before = taken; rest = rest; bytes_are = r.bytes_are; each = r.each; say = r.say; number_is = r.number_is; bad = inl (some, one) })

-- ---- the first line feed

pub one_line-take : (bs : List ℕ) (i : ℕ) → ((k : ℕ) → k < i → get_or bs k 0 ≡ 10 → ⊥) → list_any (λ b. b == 10) (take i bs) ≡ false
one_line-take [] zero none = refl
one_line-take [] (suc i) none = refl
one_line-take (b ∷ bs) zero none = refl
one_line-take (b ∷ bs) (suc i) none =
    ap (λ t. t || list_any (λ b. b == 10) (take i bs)) (ne_eqb b 10 (none zero (omega arith))) ∙ one_line-take bs i (λ k below. none (suc k) (omega (arith, below)))

pub one_line-all : (bs : List ℕ) → ((k : ℕ) → k < length bs → get_or bs k 0 ≡ 10 → ⊥) → list_any (λ b. b == 10) bs ≡ false
one_line-all [] none = refl
one_line-all (b ∷ bs) none = ap (λ t. t || list_any (λ b. b == 10) bs) (ne_eqb b 10 (none zero (omega arith))) ∙ one_line-all bs (λ k below. none (suc k) (omega (arith, below)))

pub split_there : (bs : List ℕ) (i : ℕ) → i < length bs → get_or bs i 0 ≡ 10 → bs ≡ take i bs ++ 10 ∷ drop (suc i) bs
split_there [] i below e = absurd (omega (arith, below))
split_there (b ∷ bs) zero below e = ap (λ x. x ∷ bs) e
split_there (b ∷ bs) (suc i) below e = ap (λ l. b ∷ l) (split_there bs i (omega (arith, below)) e)

-- ---- writing

pub ended-push : (texts : List (List ℕ)) (text : List ℕ) → ended texts ++ text ++ 10 ∷ [] ≡ ended (texts ++ text ∷ [])
ended-push texts text = append_assoc (ended texts) text (10 ∷ []) ∙ ended-more texts text [] ∙ append-nil (ended (texts ++ text ∷ []))

-- of lines that follow one another, those that came first do
follows_last : (late early : List Line) → AllFollow (late ++ early) → AllFollow early
follows_last [] early follow = follow
follows_last (l ∷ late) early follow = follows_last late early follow.1

-- lines that follow one another, each of which its text says
say_written : (earlier ls : List Line) → All (λ x. Says (line_text x) x) ls → AllFollow (reverse ls ++ earlier) → SayAll earlier (map line_text ls) ls
say_written earlier [] says follow = tt
say_written earlier (x ∷ ls) says follow =
    let later : AllFollow (reverse ls ++ x ∷ earlier) = subst AllFollow (reverse-front x ls earlier) follow in
    (All-head (λ x. Says (line_text x) x) x ls says, (follows_last (reverse ls) (x ∷ earlier) later).0, say_written (x ∷ earlier) ls (All-tail (λ x. Says (line_text x) x) x ls says) later)

pub read_back : (text : List ℕ) (trace : List Line) → text ≡ trace_text trace → All (λ x. Says (line_text x) x) trace → All (λ x. IsOneLine (line_text x)) trace → IsInOrder trace → IsTrace text trace
read_back text trace is says one order = record {
  texts = map line_text trace;
  bytes_are = is;
  each = All-map IsOneLine line_text trace one;
  say = say_written [] trace says (subst AllFollow (sym (append-nil (reverse trace))) order);
}

pub written_more : (trace : List Line) (i : ℕ) (x : Line) (old new : List ℕ) → i < length trace → x ≡ get_or trace i x → old ≡ ended (map line_text (take i trace)) → new ≡ old ++ line_text x ++ 10 ∷ []
    → new ≡ ended (map line_text (take (i + 1) trace))
written_more trace i x old new below is before joined =
    joined ∙ (λ j. before j ++ line_text x ++ 10 ∷ []) ∙ ended-push (map line_text (take i trace)) (line_text x) ∙ ap ended (sym (map-take-more line_text trace i x below is))

pub said_more : (trace : List Line) (i : ℕ) (x : Line) → i < length trace → x ≡ get_or trace i x → (All HasStream trace → All (λ l. Says (line_text l) l) (take i trace)) → (HasStream x → Says (line_text x) x)
    → All HasStream trace → All (λ l. Says (line_text l) l) (take (i + 1) trace)
said_more trace i x below is before says has =
    All-more (λ (l : Line). Says (line_text l) l) trace i x below (before has) (subst (λ (l : Line). Says (line_text l) l) is (says (subst HasStream (sym is) (has i x below))))

pub written_all : (trace : List Line) (i : ℕ) (out : List ℕ) → length trace ≤ i → out ≡ ended (map line_text (take i trace)) → (All HasStream trace → All (λ l. Says (line_text l) l) (take i trace))
    → All HasStream trace → IsInOrder trace → IsTrace out trace
written_all trace i out end text says has order =
    let all = take_all i trace end in
    read_back out trace (text ∙ ap (λ (ls : List Line). ended (map line_text ls)) all) (subst (λ (ls : List Line). All (λ l. Says (line_text l) l) ls) all (says has)) (lines_feedless trace) order
