use Rattle.std.proofs.Common.{rules, ◌≡◌, ◌≢◌, get_or, Err, Ok, Some, refl, sym, ap, ◌∙◌}
use Rattle.std.specs.Prelude.{is_some, option_map}
use Rattle.xds_resource.specs.declared.types.TypeName.TheVariants.{Cluster}
use Rattle.xds_resource.specs.declared.refusal.Refusal.TheVariants.{OutOfMemory}
use Rattle.xds_resource.specs.Types.{types}
use Rattle.xds_events.specs.Streams.{IsToRespond, first_due, polled_first, to_send}
use Rattle.xds_core.specs.Talks.{stream_in}
use Rattle.xds_core.proofs.FirstDue.{any_gives, any_short, due_later, refused_due, silent_left}
use Rattle.xds_core.proofs.talk.Talk.poll_any.Goals as goal

pub loop-kind-preserved : goal.loop-kind-preserved
loop-kind-preserved g c =
    let v = g.V.Variant.NAME in
    let held = c.args.held.now in
    let now = stream_in v c.loop-kind.self in
    let kind = get_or types c.loop-kind.kind-index Cluster in
    let polls = c.in_ok-drafts.ensures.polls in
    let none = sym polls.sent ∙ ap is_some c.in_default.is in
    record {
      same = silent_left c.args.replica held now kind _ (stream_in v c.poll_type.new.self) none polls.gives ∙ c.loop-kind.invariant.same;
      fits = polls.fits;
      due = due_later held (stream_in v c.args.self.now) types c.loop-kind.kind-index kind Cluster (first_due held (stream_in v c.args.self.now) types) c.loop-kind-test.true refl c.loop-kind.invariant.due
          (ap (λ s. is_some (to_send held s kind)) (sym c.loop-kind.invariant.same) ∙ none);
    }

pub returns-in-Some-clause-polls : goal.returns-in-Some-clause-polls
returns-in-Some-clause-polls g c =
    let v = g.V.Variant.NAME in
    let polls = c.in_ok-drafts.ensures.polls in
    any_gives c.args.replica c.args.held.now (stream_in v c.loop-kind.self) (stream_in v c.args.self.now) types c.loop-kind.kind-index (get_or types c.loop-kind.kind-index Cluster) Cluster c.loop-kind-test.true refl
    c.loop-kind.invariant.due c.loop-kind.invariant.same _ (sym polls.sent ∙ ap is_some c.in-Some.is) (polls.gives ∙ ap (λ o. Ok (option_map (λ p. p.0) o, stream_in v c.poll_type.new.self)) c.in-Some.is)

pub returns-in_err-drafts-clause-polls : goal.returns-in_err-drafts-clause-polls
returns-in_err-drafts-clause-polls g c =
    let v = g.V.Variant.NAME in
    let kind = get_or types c.loop-kind.kind-index Cluster in
    let e = c.in_err-drafts.field-0.0 in
    let polls = c.in_err-drafts.ensures.polls in
    let gives : e ≢ OutOfMemory → polled_first c.args.replica c.args.held.now (stream_in v c.args.self.now) types ≡ Err e = λ other.
    any_gives c.args.replica c.args.held.now (stream_in v c.loop-kind.self) (stream_in v c.args.self.now) types c.loop-kind.kind-index kind Cluster c.loop-kind-test.true refl c.loop-kind.invariant.due
    c.loop-kind.invariant.same (Err e) (refused_due c.args.replica c.args.held.now (stream_in v c.loop-kind.self) kind e (polls.gives other)) (polls.gives other) in
    search rules

pub returns-in_err-drafts-clause-memory : goal.returns-in_err-drafts-clause-memory
returns-in_err-drafts-clause-memory g c =
    let v = g.V.Variant.NAME in
    let kind = get_or types c.loop-kind.kind-index Cluster in
    let e = c.in_err-drafts.field-0.0 in
    let short : e ≡ OutOfMemory → IsToRespond c.args.held.now (stream_in v c.args.self.now) types = λ none.
    any_short c.args.replica c.args.held.now (stream_in v c.loop-kind.self) (stream_in v c.args.self.now) types c.loop-kind.kind-index kind Cluster c.loop-kind-test.true refl c.loop-kind.invariant.due
    c.loop-kind.invariant.same (c.in_err-drafts.ensures.polls.memory none) in
    search rules
