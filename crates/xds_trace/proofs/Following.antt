-- What the lines of a trace say of a whole replica; and that a stream that changed with a line of its own, a line of no stream, and
-- lines of writes keep it.
use Rattle.std.proofs.Common.{◌≡◌, ◌≢◌, inl, inr, ℕ, ◌+◌, ◌<◌, ◌≤◌, List, [], ◌∷◌, ◌++◌, map, reverse, Some, None, refl, sym, ap, subst, ◌∙◌, arith}
use Rattle.std.specs.Prelude.{IfSome, decimal, ⊤}
use Rattle.std.specs.List.{flat_map}
use Rattle.std.specs.Ordering.{nat_cmp}
use Rattle.std.specs.Cmp.{nat_cmp_total}
use Rattle.std.specs.FinMap as finmap
use Rattle.std.specs.FinMap.{nat_cmp-IsAntisymmetric}
use Rattle.std.proofs.lemmas.Grind.{reverse_onto}
use Rattle.std.proofs.lemmas.Option.{same_Some}
use Rattle.xds_resource.specs.declared.types.TypeName.{TypeName}
use Rattle.xds_resource.specs.declared.types.TypeName.TheVariants.{Cluster, Endpoint, Listener, Route, Secret}
use Rattle.xds_resource.specs.PerType.{at, each}
use Rattle.xds_resource.specs.Writes.{StampedWrite, text_cmp}
use Rattle.xds_catalogue.specs.Holdings.{nothing_held, catalogue_of}
use Rattle.xds_catalogue.proofs.Lookups.{get-inserted, get-removed}
use Rattle.xds_core.specs.Stores.{Store, Batch}
use Rattle.xds_core.specs.Streams.{Stream, opening}
use Rattle.xds_core.specs.Events.{Event, Reply}
use Rattle.xds_core.specs.Steps.{Core, fresh, with_stream}
use Rattle.xds_check.specs.declared.line.Line.{Line}
use Rattle.xds_check.specs.declared.line.Line.TheVariants as lines
use Rattle.xds_check.specs.Lines.{write_at}
use Rattle.xds_check.specs.Rules.{KeepsRules, AllKeep}
use Rattle.xds_trace.specs.Making.{Naming, IsCalled, any_write, write_line, answered_lines}
use Rattle.xds_trace.proofs.Writes.{Holds, holds_unwritten}
use Rattle.xds_trace.proofs.StreamLines.{IsNew, IsSilent, Follows, follows_after, new_after, silent_write, silent_open, silent_close}

-- what a replica is, and what the lines say of it
pub record Keeps (named : Naming) (c : Core) (ls : List Line) : Type 0 where
  pub holds : Holds named c.store ls
  pub follows : (n : ℕ) (s : Stream) → finmap.get c.streams n ≡ Some s → Follows n s ls
  pub counted : (n : ℕ) (s : Stream) → finmap.get c.streams n ≡ Some s → n ≤ c.opened
  pub new : (n : ℕ) → c.opened < n → IsNew n ls

-- what an event leaves
abbrev pub Made : Naming → Event → List Line → Reply × Core → Type 0
Made named e ls q = Keeps named q.1 (reverse (answered_lines named e q.0) ++ ls) × (AllKeep ls → AllKeep (reverse (answered_lines named e q.0) ++ ls))

-- ---- at the beginning

pub absent : {X Y : Type 0} (n : ℕ) (x : X) → finmap.get (finmap.empty {X = X} {R = nat_cmp}) n ≡ Some x → Y
absent n x has = absurd (differ (sym (finmap.get-empty nat_cmp n) ∙ has))
  where
    differ : None ≡ Some x → ⊥
    differ e = cc

pub keeps_fresh : (named : Naming) (replica : ℕ) → Keeps named (fresh replica) []
keeps_fresh named replica = record {
  holds = record { entries = nothing_said; called = nothing_called };
  follows = λ n s has. absent n s has;
  counted = λ n s has. absent n s has;
  new = λ n above. record { unheard = record { asked = λ t. refl; sent = λ t. refl; taken = λ t. refl; pending = λ t name. refl; cluster = refl }; unused = λ nonce. refl };
}
  where
    nothing_said : (t : TypeName) → (at (each nothing_held) t).entries ≡ catalogue_of []
    nothing_said Cluster = refl
    nothing_said Endpoint = refl
    nothing_said Listener = refl
    nothing_said Route = refl
    nothing_said Secret = refl

    none_called : (t : TypeName) (q : List ℕ) → IfSome (finmap.get (finmap.empty {X = StampedWrite} {R = text_cmp}) q) (IsCalled named t)
    none_called t q = subst (λ o. IfSome o (IsCalled named t)) (sym (finmap.get-empty text_cmp q)) tt

    nothing_called : (t : TypeName) (q : List ℕ) → IfSome (finmap.get (at (each nothing_held) t).entries q) (IsCalled named t)
    nothing_called Cluster q = none_called Cluster q
    nothing_called Endpoint q = none_called Endpoint q
    nothing_called Listener q = none_called Listener q
    nothing_called Route q = none_called Route q
    nothing_called Secret q = none_called Secret q

-- ---- changes of a stream

pub not_above : (n k opened : ℕ) → n ≤ opened → opened < k → n ≢ k
not_above n k opened below above same = omega (arith, below, above, same)

module _ (named : Naming) (c : Core) (ls : List Line) (keeps : Keeps named c ls) where
  -- a stream that changed with a line of its own
  pub stream_kept : (n : ℕ) (s after : Stream) (l : Line) → finmap.get c.streams n ≡ Some s → Follows n after (l ∷ ls) → ((k : ℕ) → n ≢ k → IsSilent k l) → ((t : TypeName) → write_at t l ≡ []) → Keeps named (with_stream c n after) (l ∷ ls)
  stream_kept n s after l has follows silent unwritten = record {
    holds = holds_unwritten named c.store ls l unwritten keeps.holds;
    follows = λ k x there.
        elim (get-inserted nat_cmp_total nat_cmp-IsAntisymmetric c.streams n after k) [
          | inl same ↦ subst (λ z. Follows k z (l ∷ ls)) (same_Some after x (sym same.1 ∙ there)) (subst (λ z. Follows z after (l ∷ ls)) same.0 follows)
          | inr other ↦ follows_after k l ls x (silent k other.0) (keeps.follows k x (sym other.1 ∙ there))
        ];
    counted = λ k x there.
        elim (get-inserted nat_cmp_total nat_cmp-IsAntisymmetric c.streams n after k) [
          | inl same ↦ subst (λ z. z ≤ c.opened) same.0 (keeps.counted n s has)
          | inr other ↦ keeps.counted k x (sym other.1 ∙ there)
        ];
    new = λ k above. new_after k l ls (silent k (not_above n k c.opened (keeps.counted n s has) above)) (keeps.new k above);
  }

  -- a stream that was put back as it was
  pub stream_same : (n : ℕ) (s after : Stream) → finmap.get c.streams n ≡ Some s → after ≡ s → Keeps named (with_stream c n after) ls
  stream_same n s after has is = record {
    holds = keeps.holds;
    follows = λ k x there.
        elim (get-inserted nat_cmp_total nat_cmp-IsAntisymmetric c.streams n after k) [
          | inl same ↦ keeps.follows k x (ap (finmap.get c.streams) (sym same.0) ∙ has ∙ ap Some (sym is) ∙ sym same.1 ∙ there)
          | inr other ↦ keeps.follows k x (sym other.1 ∙ there)
        ];
    counted = λ k x there.
        elim (get-inserted nat_cmp_total nat_cmp-IsAntisymmetric c.streams n after k) [
          | inl same ↦ subst (λ z. z ≤ c.opened) same.0 (keeps.counted n s has)
          | inr other ↦ keeps.counted k x (sym other.1 ∙ there)
        ];
    new = keeps.new;
  }

  -- a line that says nothing of any stream
  pub line_kept : (l : Line) → ((k : ℕ) → IsSilent k l) → ((t : TypeName) → write_at t l ≡ []) → Keeps named c (l ∷ ls)
  line_kept l silent unwritten = record {
    holds = holds_unwritten named c.store ls l unwritten keeps.holds;
    follows = λ k x there. follows_after k l ls x (silent k) (keeps.follows k x there);
    counted = keeps.counted;
    new = λ k above. new_after k l ls (silent k) (keeps.new k above);
  }

  pub opened_kept : Keeps named (record c { opened = c.opened + 1; streams = finmap.insert c.streams (c.opened + 1) opening }) (lines.Open (c.opened + 1) ∷ ls)
  opened_kept = record {
    holds = holds_unwritten named c.store ls (lines.Open (c.opened + 1)) (λ t. refl) keeps.holds;
    follows = λ k x there.
        elim (get-inserted nat_cmp_total nat_cmp-IsAntisymmetric c.streams (c.opened + 1) opening k) [
          | inl same ↦
              subst (λ z. Follows k z (lines.Open (c.opened + 1) ∷ ls)) (same_Some opening x (sym same.1 ∙ there))
              (first_stream k (new_after k (lines.Open (c.opened + 1)) ls (silent_open k (c.opened + 1)) (keeps.new k (just_above k same.0))))
          | inr other ↦ follows_after k (lines.Open (c.opened + 1)) ls x (silent_open k (c.opened + 1)) (keeps.follows k x (sym other.1 ∙ there))
        ];
    counted = λ k x there.
        elim (get-inserted nat_cmp_total nat_cmp-IsAntisymmetric c.streams (c.opened + 1) opening k) [
          | inl same ↦ no_more k same.0
          | inr other ↦ one_more k (keeps.counted k x (sym other.1 ∙ there))
        ];
    new = λ k above. new_after k (lines.Open (c.opened + 1)) ls (silent_open k (c.opened + 1)) (keeps.new k (still_above k above));
  }
    where
      just_above : (k : ℕ) → c.opened + 1 ≡ k → c.opened < k
      just_above k same = omega (arith, same)

      still_above : (k : ℕ) → c.opened + 1 < k → c.opened < k
      still_above k above = omega (arith, above)

      no_more : (k : ℕ) → c.opened + 1 ≡ k → k ≤ c.opened + 1
      no_more k same = omega (arith, same)

      one_more : (k : ℕ) → k ≤ c.opened → k ≤ c.opened + 1
      one_more k below = omega (arith, below)

      first_stream : (k : ℕ) {after : List Line} → IsNew k after → Follows k opening after
      first_stream k new = record { counted = record { within = omega arith; unused = λ j above within. new.unused (decimal j) }; heard = new.unheard }

  pub closed_kept : (n : ℕ) → Keeps named (record c { streams = finmap.remove c.streams n }) (lines.Close n ∷ ls)
  closed_kept n = record {
    holds = holds_unwritten named c.store ls (lines.Close n) (λ t. refl) keeps.holds;
    follows = λ k x there. follows_after k (lines.Close n) ls x (silent_close k n) (keeps.follows k x (was_there k x there));
    counted = λ k x there. keeps.counted k x (was_there k x there);
    new = λ k above. new_after k (lines.Close n) ls (silent_close k n) (keeps.new k above);
  }
    where
      differ : {x : Stream} → None ≡ Some x → ⊥
      differ e = cc

      was_there : (k : ℕ) (x : Stream) → finmap.get (finmap.remove c.streams n) k ≡ Some x → finmap.get c.streams k ≡ Some x
      was_there k x there =
          elim (get-removed nat_cmp_total nat_cmp-IsAntisymmetric c.streams n k) [
            | inl gone ↦ absurd (differ (sym gone.1 ∙ there))
            | inr other ↦ sym other.1 ∙ there
          ]

-- ---- lines of writes

pub record IsQuietLine (l : Line) : Type 0 where
  pub silent : (n : ℕ) → IsSilent n l
  pub harmless : (ls : List Line) → KeepsRules ls l

abbrev pub AreQuiet : List Line → Type 0
AreQuiet [] = ⊤
AreQuiet (l ∷ ls) = IsQuietLine l × AreQuiet ls

quiet_append : (xs ys : List Line) → AreQuiet xs → AreQuiet ys → AreQuiet (xs ++ ys)
quiet_append [] ys left right = right
quiet_append (x ∷ xs) ys left right = (left.0, quiet_append xs ys left.1 right)

pub quiet_reverse : (xs : List Line) → AreQuiet xs → AreQuiet (reverse xs)
quiet_reverse [] all = tt
quiet_reverse (x ∷ xs) all = subst AreQuiet (sym (reverse_onto xs x [])) (quiet_append (reverse xs) (x ∷ []) (quiet_reverse xs all.1) (all.0, tt))

pub quiet_write : (t : TypeName) (w : StampedWrite) → IsQuietLine (write_line t w)
quiet_write t w = record { silent = λ n. silent_write n (any_write t w); harmless = λ ls rule broken. broken }

quiet_writes : (t : TypeName) (ws : List StampedWrite) → AreQuiet (map (write_line t) ws)
quiet_writes t [] = tt
quiet_writes t (w ∷ ws) = (quiet_write t w, quiet_writes t ws)

pub quiet_flat : (b : Batch) (ts : List TypeName) → AreQuiet (flat_map (λ t. map (write_line t) (at b t)) ts)
quiet_flat b [] = tt
quiet_flat b (t ∷ ts) = quiet_append (map (write_line t) (at b t)) _ (quiet_writes t (at b t)) (quiet_flat b ts)

follows_quiet : (n : ℕ) (s : Stream) (new ls : List Line) → AreQuiet new → Follows n s ls → Follows n s (new ++ ls)
follows_quiet n s [] ls all follows = follows
follows_quiet n s (l ∷ new) ls all follows = follows_after n l (new ++ ls) s (all.0.silent n) (follows_quiet n s new ls all.1 follows)

new_quiet : (n : ℕ) (added ls : List Line) → AreQuiet added → IsNew n ls → IsNew n (added ++ ls)
new_quiet n [] ls all new = new
new_quiet n (l ∷ added) ls all new = new_after n l (added ++ ls) (all.0.silent n) (new_quiet n added ls all.1 new)

pub keep_quiet : (added ls : List Line) → AreQuiet added → AllKeep ls → AllKeep (added ++ ls)
keep_quiet [] ls all kept = kept
keep_quiet (l ∷ added) ls all kept = (all.0.harmless (added ++ ls), keep_quiet added ls all.1 kept)

-- what is held after some lines of writes
pub store_kept : (named : Naming) (c : Core) (ls added : List Line) (store : Store) → Keeps named c ls → AreQuiet added → Holds named store (added ++ ls) → Keeps named (record c { store = store }) (added ++ ls)
store_kept named c ls added store keeps quiet holds = record {
  holds = holds;
  follows = λ n s there. follows_quiet n s added ls quiet (keeps.follows n s there);
  counted = keeps.counted;
  new = λ n above. new_quiet n added ls quiet (keeps.new n above);
}
