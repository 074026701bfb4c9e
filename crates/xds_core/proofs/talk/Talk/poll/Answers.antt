use Rattle.std.proofs.Common.{◌≡◌, sym, subst}
use Rattle.std.specs.Prelude.{IfErr}
use Rattle.xds_resource.specs.declared.refusal.Refusal.TheVariants.{OutOfMemory}
use Rattle.xds_events.specs.Streams.{IsToRespond, looked_at}
use Rattle.xds_core.specs.Talks.{firsts, stream_in}
use Rattle.xds_core.proofs.FirstDue.{gives_alone}
use Rattle.xds_core.proofs.talk.Talk.poll.Goals as goal

pub returns-in-Some-clause-polls : goal.returns-in-Some-clause-polls
returns-in-Some-clause-polls g c =
    let v = g.V.Variant.NAME in
    gives_alone c.args.replica c.args.held.now c.in-Some.kind c.args.which (firsts c.poll_type.result) (stream_in v c.poll_type.new.self) (stream_in v c.args.self.now) c.in-Some.is c.poll_type.ensures.polls.gives

pub returns-in-Some-clause-fits : goal.returns-in-Some-clause-fits
returns-in-Some-clause-fits g c = c.poll_type.ensures.polls.fits

pub returns-in-Some-clause-memory : goal.returns-in-Some-clause-memory
returns-in-Some-clause-memory g c =
    subst (λ w. IfErr c.poll_type.result (λ e. e ≡ OutOfMemory → IsToRespond c.args.held.now (stream_in g.V.Variant.NAME c.args.self.now) (looked_at w))) (sym c.in-Some.is) c.poll_type.ensures.polls.memory

pub returns-in-Some-clause-err : goal.returns-in-Some-clause-err
returns-in-Some-clause-err g c = c.poll_type.ensures.polls.same
