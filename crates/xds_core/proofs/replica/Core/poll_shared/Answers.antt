use Rattle.std.proofs.Common.{◌≡◌, Some, refl, sym, ap, subst, ◌∙◌}
use Rattle.std.specs.Prelude.{IsSome, IfNone}
use Rattle.std.specs.FinMap as finmap
use Rattle.xds_resource.specs.Refusals.{Gives}
use Rattle.xds_resource.specs.declared.refusal.Refusal.TheVariants.{OutOfMemory}
use Rattle.xds_events.specs.Stores.{if_done}
use Rattle.xds_events.specs.Events as events
use Rattle.xds_events.specs.Legal.{IsShort}
use Rattle.xds_events.specs.declared.event.Reply.TheVariants as replies
use Rattle.xds_events.specs.Streams.{looked_at, polled_first}
use Rattle.xds_core.specs.Talks.{firsts, StreamFits}
use Rattle.xds_core.proofs.StreamsFitting.{opening_fits}
use Rattle.xds_core.specs.Lists.{AllFit, streams_of}
use Rattle.xds_core.proofs.Fitting.{has_stream, none_there, not_open, puts_back, fits_back}
use Rattle.xds_core.proofs.StreamSteps.{there, with_streams, step_gives, step_kept, poll_short}
use Rattle.xds_core.proofs.Twins.{undone_short, undone_kept, firsts_short, firsts_kept}
use Rattle.xds_core.proofs.replica.Core.poll_shared.Goals as goal

pub set-requires : goal.set-requires
set-requires c = subst (λ m. IsSome (finmap.get m c.args.number)) (sym c.in-Some.ensures.found) (there c.self.inside.streams c.args.number c.opening.result)

pub poll-drafts-requires : goal.poll-drafts-requires
poll-drafts-requires c = c.self.invariant.fitting.fits c.args.number c.in-Some.stream (sym c.replace.ensures.old ∙ c.in-Some.is)

pub invariant_of-self : goal.invariant_of-self
invariant_of-self c = record {
  numbered = c.self.invariant.numbered;
  counted = c.self.invariant.counted;
  fitting = subst (AllFit c.self.inside.held) (sym (subst (λ o. IfNone o (c.replace.new.self ≡ c.self.inside.streams)) c.in_default.is c.replace.ensures.none)) c.self.invariant.fitting;
}

pub returns-in_default-clause-steps : goal.returns-in_default-clause-steps
returns-in_default-clause-steps c = λ other.
    not_open c.args.self.now c.args.number events.Polled (λ s. polled_first c.args.self.now.replica c.args.self.now.store s (looked_at c.args.which))
    (none_there c.self.inside.streams c.args.self.now.streams c.args.number c.replace.result (ap (λ k. k.streams) c.self.view_is) c.replace.ensures.old c.in_default.is)

pub invariant_of-self-2 : goal.invariant_of-self-2
invariant_of-self-2 c = record {
  numbered = c.self.invariant.numbered;
  counted = c.self.invariant.counted;
  fitting =
      fits_back c.self.inside.held c.self.inside.streams c.replace.new.self c.set.new.self c.args.number c.opening.result c.poll-drafts.new.self c.in-Some.ensures.found c.set.ensures
      (subst (StreamFits c.self.inside.held) (sym c.opening.ensures) (opening_fits c.self.inside.held)) c.poll-drafts.ensures.fits c.self.invariant.fitting;
}

pub returns-clause-steps : goal.returns-clause-steps
returns-clause-steps c =
    let n = c.args.number in
    let s = c.in-Some.stream in
    let left = c.poll-drafts.new.self in
    let x = c.opening.result in
    let has : finmap.get c.args.self.now.streams n ≡ Some s.stream = has_stream c.self.inside.streams c.args.self.now.streams n c.replace.result s (ap (λ k. k.streams) c.self.view_is) c.replace.ensures.old c.in-Some.is in
    let puts : streams_of c.set.new.self ≡ finmap.insert (finmap.insert c.args.self.now.streams n x.stream) n left.stream = puts_back c.self.inside.streams c.replace.new.self c.set.new.self c.args.self.now.streams n x left (ap (λ k. k.streams) c.self.view_is) c.in-Some.ensures.found c.set.ensures in
    step_gives c.args.self.now n events.Polled replies.Polled (λ o. refl) (λ s. polled_first c.args.self.now.replica c.args.self.now.store s (looked_at c.args.which)) s.stream left.stream x.stream has (streams_of c.set.new.self) puts (firsts c.poll-drafts.result)
    (if_done replies.Polled (firsts c.poll-drafts.result)) _ (λ i. with_streams (c.self.view_is i) (streams_of c.set.new.self)) refl
    (subst (λ k. Gives (λ o. (o, left.stream)) (firsts c.poll-drafts.result) (polled_first k.replica k.store s.stream (looked_at c.args.which))) c.self.view_is c.poll-drafts.ensures.polls)

pub returns-clause-err : goal.returns-clause-err
returns-clause-err c =
    let n = c.args.number in
    let s = c.in-Some.stream in
    let left = c.poll-drafts.new.self in
    let x = c.opening.result in
    let has : finmap.get c.args.self.now.streams n ≡ Some s.stream = has_stream c.self.inside.streams c.args.self.now.streams n c.replace.result s (ap (λ k. k.streams) c.self.view_is) c.replace.ensures.old c.in-Some.is in
    let puts : streams_of c.set.new.self ≡ finmap.insert (finmap.insert c.args.self.now.streams n x.stream) n left.stream = puts_back c.self.inside.streams c.replace.new.self c.set.new.self c.args.self.now.streams n x left (ap (λ k. k.streams) c.self.view_is) c.in-Some.ensures.found c.set.ensures in
    undone_kept replies.Polled _ c.poll-drafts.result
    (step_kept c.args.self.now n events.Polled replies.Polled (λ o. refl) (λ s. polled_first c.args.self.now.replica c.args.self.now.store s (looked_at c.args.which)) s.stream left.stream x.stream has (streams_of c.set.new.self) puts (firsts c.poll-drafts.result)
    (if_done replies.Polled (firsts c.poll-drafts.result)) _ (λ i. with_streams (c.self.view_is i) (streams_of c.set.new.self)) refl (firsts_kept _ c.poll-drafts.result c.poll-drafts.ensures.err))

pub returns-clause-memory : goal.returns-clause-memory
returns-clause-memory c =
    let n = c.args.number in
    let s = c.in-Some.stream in
    let has : finmap.get c.args.self.now.streams n ≡ Some s.stream = has_stream c.self.inside.streams c.args.self.now.streams n c.replace.result s (ap (λ k. k.streams) c.self.view_is) c.replace.ensures.old c.in-Some.is in
    undone_short replies.Polled (λ e. e ≡ OutOfMemory → IsShort c.args.self.now (events.Poll n c.args.which)) c.poll-drafts.result
    (poll_short c.args.self.now _ n c.args.which replies.Polled s.stream (firsts c.poll-drafts.result) (if_done replies.Polled (firsts c.poll-drafts.result)) has c.self.view_is refl
    (firsts_short _ c.poll-drafts.result c.poll-drafts.ensures.memory))
