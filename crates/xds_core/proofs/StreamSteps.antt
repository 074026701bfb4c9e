-- A step of one stream, which is taken out and put back.
use Rattle.std.proofs.Common.{◌≡◌, ℕ, cond, Option, Some, Result, Ok, Err, refl, sym, ap, subst, ◌∙◌}
use Rattle.std.specs.Prelude.{IsOk, IsSome, IsSomeAnd, IfErr, OnErr}
use Rattle.std.specs.Option.{option_map_or}
use Rattle.std.specs.Ordering.{nat_cmp, eq_by_cmp}
use Rattle.std.specs.Cmp.{nat_cmp_total, eq_by_cmp_equiv}
use Rattle.std.specs.FinMap as finmap
use Rattle.std.specs.FinMap.{FinMap, nat_cmp-IsAntisymmetric}
use Rattle.xds_resource.specs.declared.refusal.Refusal.{Refusal}
use Rattle.xds_resource.specs.declared.refusal.Refusal.TheVariants.{OutOfMemory, NoStream}
use Rattle.xds_resource.specs.Refusals.{Gives}
use Rattle.xds_catalogue.proofs.Lookups.{insert-insert, twice}
use Rattle.xds_events.specs.Stores.{if_done}
use Rattle.xds_resource.specs.declared.types.TypeName.{TypeName}
use Rattle.xds_events.specs.Streams.{Stream, IsToRespond, looked_at}
use Rattle.xds_events.specs.Events.{Reply, Poll}
use Rattle.xds_events.specs.declared.event.Reply as declared
use Rattle.xds_events.specs.Seen.{reply_of}
use Rattle.xds_events.specs.Legal.{IsShort}
use Rattle.xds_events.specs.Steps.{Core, with_stream, stream_step}

-- something is there after an insertion
pub there : {X : Type 0} (m : FinMap nat_cmp X) (n : ℕ) (x : X) → IsSome (finmap.get (finmap.insert m n x) n)
there m n x = subst IsSome (sym (finmap.get-insert nat_cmp_total m n x n ∙ ap (λ b. cond b (Some x) (finmap.get m n)) ((eq_by_cmp_equiv nat_cmp_total).refl n))) refl

-- what is put at a number twice is put there once
pub put_twice : {X : Type 0} (m : FinMap nat_cmp X) (n : ℕ) (x y : X) → finmap.insert (finmap.insert m n x) n y ≡ finmap.insert m n y
put_twice m n x y =
    finmap.same_map nat_cmp_total nat_cmp-IsAntisymmetric _ _ (λ q. finmap.get-insert nat_cmp_total (finmap.insert m n x) n y q ∙ ap (cond (eq_by_cmp nat_cmp q n) (Some y)) (finmap.get-insert nat_cmp_total m n x q)
    ∙ twice (eq_by_cmp nat_cmp q n) (Some y) (Some x) (finmap.get m q) ∙ sym (finmap.get-insert nat_cmp_total m n y q))

-- a stream that is put back as it was
pub put_back : {X : Type 0} (m : FinMap nat_cmp X) (n : ℕ) (x y : X) → finmap.get m n ≡ Some y → finmap.insert (finmap.insert m n x) n y ≡ m
put_back m n x y has = insert-insert nat_cmp_total nat_cmp-IsAntisymmetric m n x y has

-- what an open stream's step is
pub at_open : {X : Type 0} (c : Core) (n : ℕ) (reply : X → Reply) (f : Stream → Result (X × Stream) Refusal) (s : Stream) → finmap.get c.streams n ≡ Some s
    → stream_step c n reply f ≡ if_done (λ p. (reply p.0, with_stream c n p.1)) (f s)
at_open c n reply f s has = ap (λ o. option_map_or (λ s. if_done (λ p. (reply p.0, with_stream c n p.1)) (f s)) o (Err NoStream)) has

-- the core with other streams
abbrev pub with_streams : Core → FinMap nat_cmp Stream → Core
with_streams c m = record c { streams = m }

-- What a method answers that took an open stream out, made a step of it and put it back: x is what stood there meanwhile.
module _ {X : Type 0} (c : Core) (n : ℕ) (reply : X → Reply) (f : Stream → Result (X × Stream) Refusal) (s left x : Stream) (has : finmap.get c.streams n ≡ Some s) (back : FinMap nat_cmp Stream)
    (puts : back ≡ finmap.insert (finmap.insert c.streams n x) n left) where
  pub step_done : (o : X) → f s ≡ Ok (o, left) → stream_step c n reply f ≡ Ok (reply o, with_streams c back)
  step_done o is = at_open c n reply f s has ∙ ap (if_done (λ p. (reply p.0, with_stream c n p.1))) is ∙ (λ i. Ok (reply o, with_streams c (sym (puts ∙ put_twice c.streams n x left) i)))

  pub step_refused : (e : Refusal) → f s ≡ Err e → stream_step c n reply f ≡ Err e
  step_refused e is = at_open c n reply f s has ∙ ap (if_done (λ p. (reply p.0, with_stream c n p.1))) is

  -- rule: refused-event
  pub step_undone : left ≡ s → with_streams c back ≡ c
  step_undone same = λ i. with_streams c ((puts ∙ ap (finmap.insert (finmap.insert c.streams n x) n) same ∙ put_back c.streams n x s has) i)

done_at : {X : Type 0} (f : Result X Refusal) (g : X → Reply × Core) → IsOk f → IsOk (if_done g f)
done_at (Ok x) g ok = ok
done_at (Err e) g ok = ok

-- a step of an open stream that would be done
pub step_ok : {X : Type 0} (c : Core) (n : ℕ) (reply : X → Reply) (f : Stream → Result (X × Stream) Refusal) (s : Stream) → finmap.get c.streams n ≡ Some s → IsOk (f s) → IsOk (stream_step c n reply f)
step_ok c n reply f s has ok = subst IsOk (sym (at_open c n reply f s has)) (done_at (f s) (λ p. (reply p.0, with_stream c n p.1)) ok)

-- what a method answers, from what the step of the stream answers
module _ {X : Type 0} (c : Core) (n : ℕ) (reply : X → Reply) (make : X → declared.Reply) (seen : (o : X) → reply_of (make o) ≡ reply o) (f : Stream → Result (X × Stream) Refusal) (s left x : Stream) (has : finmap.get c.streams n ≡ Some s)
    (back : FinMap nat_cmp Stream) (puts : back ≡ finmap.insert (finmap.insert c.streams n x) n left) where
  gives_at : (r : Result X Refusal) → Gives (λ o. (o, left)) r (f s) → Gives (λ p. (reply_of p, with_streams c back)) (if_done make r) (stream_step c n reply f)
  gives_at (Ok o) gives = step_done c n reply f s left x has back puts o gives ∙ (λ i. Ok (sym (seen o) i, with_streams c back))
  gives_at (Err e) gives = λ other. step_refused c n reply f s left x has back puts e (gives other)

  pub step_gives : (r : Result X Refusal) (result : Result declared.Reply Refusal) (core : Core) → core ≡ with_streams c back → result ≡ if_done make r → Gives (λ o. (o, left)) r (f s) → Gives (λ p. (reply_of p, core)) result (stream_step c n reply f)
  step_gives r result core same is gives =
      subst (λ y. Gives (λ p. (reply_of p, core)) y (stream_step c n reply f)) (sym is) (subst (λ k. Gives (λ p. (reply_of p, k)) (if_done make r) (stream_step c n reply f)) (sym same) (gives_at r gives))

  short_at : (r : Result X Refusal) → IfErr r (λ e. e ≡ OutOfMemory → IsOk (f s)) → IfErr (if_done make r) (λ e. e ≡ OutOfMemory → IsOk (stream_step c n reply f))
  short_at (Ok o) short = short
  short_at (Err e) short = λ none. step_ok c n reply f s has (short none)

  pub step_short : (r : Result X Refusal) (result : Result declared.Reply Refusal) → result ≡ if_done make r → IfErr r (λ e. e ≡ OutOfMemory → IsOk (f s)) → IfErr result (λ e. e ≡ OutOfMemory → IsOk (stream_step c n reply f))
  step_short r result is short = subst (λ y. IfErr y (λ e. e ≡ OutOfMemory → IsOk (stream_step c n reply f))) (sym is) (short_at r short)

  kept_at : (r : Result X Refusal) → OnErr r (left ≡ s) → OnErr (if_done make r) (with_streams c back ≡ c)
  kept_at (Ok o) same = same
  kept_at (Err e) same = step_undone c n reply f s left x has back puts same

  -- rule: refused-event
  pub step_kept : (r : Result X Refusal) (result : Result declared.Reply Refusal) (core : Core) → core ≡ with_streams c back → result ≡ if_done make r → OnErr r (left ≡ s) → OnErr result (core ≡ c)
  step_kept r result core same is kept = subst (λ y. OnErr y (core ≡ c)) (sym is) (subst (λ k. OnErr (if_done make r) (k ≡ c)) (sym same) (kept_at r kept))

refused_at : {X : Type 0} (P : Refusal → Type 0) (make : X → declared.Reply) (r : Result X Refusal) → IfErr r P → IfErr (if_done make r) P
refused_at P make (Ok o) refused = refused
refused_at P make (Err e) refused = refused

-- where a poll of an open stream finds no memory
pub poll_short : {X : Type 0} (c k : Core) (n : ℕ) (which : Option TypeName) (make : X → declared.Reply) (s : Stream) (r : Result X Refusal) (result : Result declared.Reply Refusal)
    → finmap.get c.streams n ≡ Some s → k ≡ c → result ≡ if_done make r → IfErr r (λ e. e ≡ OutOfMemory → IsToRespond k.store s (looked_at which)) → IfErr result (λ e. e ≡ OutOfMemory → IsShort c (Poll n which))
poll_short c k n which make s r result has same is short =
    subst (λ y. IfErr y (λ e. e ≡ OutOfMemory → IsShort c (Poll n which))) (sym is)
    (subst (λ o. IfErr (if_done make r) (λ e. e ≡ OutOfMemory → IsSomeAnd o (λ s. IsToRespond c.store s (looked_at which)))) (sym has)
    (refused_at (λ e. e ≡ OutOfMemory → IsToRespond c.store s (looked_at which)) make r (subst (λ (x : Core). IfErr r (λ e. e ≡ OutOfMemory → IsToRespond x.store s (looked_at which))) same short)))
