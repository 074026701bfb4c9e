use Rattle.std.proofs.Common.{map, sym, subst, ◌∙◌, arith}
use Rattle.xds_script.specs.ModelSeen.{happening_of}
use Rattle.xds_world.specs.Steps.{event_for}
use Rattle.xds_world.specs.Played.{HasStepped}
use Rattle.xds_world.proofs.Settles.{settles_more, settles_few, settles_done, settles_held, settles_stopped, still_played, falls}
use Rattle.xds_world.proofs.settling.settle_run.Goals as goal

pub returns-then-not-branch-clause-ended : goal.returns-then-not-branch-clause-ended
returns-then-not-branch-clause-ended g c =
    settles_stopped g.A.Accept.accepts c.args.client c.args.kind (map happening_of c.args.run.now.events.items) (map happening_of c.loop-step.run.events.items) (map happening_of c.step.new.self.events.items) c.loop-step.run.state c.step.new.self.state c.loop-step.responses
    c.in-Some.step c.loop-step.invariant (sym c.in-Some.ensures)
    (subst (λ b. HasStepped g.A.Accept.accepts c.loop-step.run.state (map happening_of c.loop-step.run.events.items) b c.step.new.self.state (map happening_of c.step.new.self.events.items) (event_for c.args.client c.args.kind c.in-Some.step)) c.if-not-branch.true c.in_ok-step.ensures.ok)

pub overflow_add-responses : goal.overflow_add-responses
overflow_add-responses g c =
    let few = settles_few g.A.Accept.accepts c.args.client c.args.kind (map happening_of c.args.run.now.events.items) (map happening_of c.loop-step.run.events.items) c.loop-step.run.state c.loop-step.responses c.loop-step.invariant in
    omega (arith, few, c.taken_in-taken.ensures.small)

pub returns-then-gave_nothing-clause-ended : goal.returns-then-gave_nothing-clause-ended
returns-then-gave_nothing-clause-ended g c =
    settles_held g.A.Accept.accepts c.args.client c.args.kind (map happening_of c.args.run.now.events.items) (map happening_of c.loop-step.run.events.items) (map happening_of c.step.new.self.events.items) c.loop-step.run.state c.step.new.self.state c.loop-step.responses
    c.taken_in-taken.result c.is_settled.result c.in-Some.step c.loop-step.invariant (sym c.in-Some.ensures)
    (subst (λ b. HasStepped g.A.Accept.accepts c.loop-step.run.state (map happening_of c.loop-step.run.events.items) b c.step.new.self.state (map happening_of c.step.new.self.events.items) (event_for c.args.client c.args.kind c.in-Some.step)) c.if-not-branch.false c.in_ok-step.ensures.ok)
    (sym c.gave_nothing.ensures ∙ c.if-gave_nothing.true) c.taken_in-taken.ensures.counts c.is_settled.ensures

pub loop-step-preserved : goal.loop-step-preserved
loop-step-preserved g c =
    settles_more g.A.Accept.accepts c.args.client c.args.kind (map happening_of c.args.run.now.events.items) (map happening_of c.loop-step.run.events.items) (map happening_of c.step.new.self.events.items) c.loop-step.run.state c.step.new.self.state c.loop-step.responses
    c.taken_in-taken.result c.in-Some.step c.loop-step.invariant (sym c.in-Some.ensures)
    (subst (λ b. HasStepped g.A.Accept.accepts c.loop-step.run.state (map happening_of c.loop-step.run.events.items) b c.step.new.self.state (map happening_of c.step.new.self.events.items) (event_for c.args.client c.args.kind c.in-Some.step)) c.if-not-branch.false c.in_ok-step.ensures.ok)
    (sym c.gave_nothing.ensures ∙ c.if-gave_nothing.false) c.taken_in-taken.ensures.counts

pub loop-step-smaller : goal.loop-step-smaller
loop-step-smaller g c =
    falls g.A.Accept.accepts c.args.client c.args.kind (map happening_of c.args.run.now.events.items) (map happening_of c.loop-step.run.events.items) (map happening_of c.step.new.self.events.items) c.loop-step.run.state c.step.new.self.state c.loop-step.responses
    c.in-Some.step c.loop-step.invariant (sym c.in-Some.ensures)
    (subst (λ b. HasStepped g.A.Accept.accepts c.loop-step.run.state (map happening_of c.loop-step.run.events.items) b c.step.new.self.state (map happening_of c.step.new.self.events.items) (event_for c.args.client c.args.kind c.in-Some.step)) c.if-not-branch.false c.in_ok-step.ensures.ok)
    (sym c.gave_nothing.ensures ∙ c.if-gave_nothing.false)

pub returns-clause-ended : goal.returns-clause-ended
returns-clause-ended g c =
    settles_done g.A.Accept.accepts c.args.client c.args.kind (map happening_of c.args.run.now.events.items) (map happening_of c.loop-step.run.events.items) c.loop-step.run.state c.loop-step.responses c.is_settled-2.result c.loop-step.invariant
    (sym c.in_default.ensures) c.is_settled-2.ensures

pub returns-then-gave_nothing-clause-played : goal.returns-then-gave_nothing-clause-played
returns-then-gave_nothing-clause-played g c =
    still_played g.A.Accept.accepts c.args.client c.args.kind (map happening_of c.loop-step.run.events.items) (map happening_of c.step.new.self.events.items) c.loop-step.run.state c.step.new.self.state c.in-Some.step c.loop-step.invariant.played
    (subst (λ b. HasStepped g.A.Accept.accepts c.loop-step.run.state (map happening_of c.loop-step.run.events.items) b c.step.new.self.state (map happening_of c.step.new.self.events.items) (event_for c.args.client c.args.kind c.in-Some.step)) c.if-not-branch.false c.in_ok-step.ensures.ok)
