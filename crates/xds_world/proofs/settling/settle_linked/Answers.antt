use Rattle.std.proofs.Common.{map, ap, subst, ◌∙◌}
use Rattle.std.specs.Prelude.{is_some}
use Rattle.xds_script.specs.ModelSeen.{happening_of}
use Rattle.xds_world.specs.Settling.{HasStopped, link_in}
use Rattle.xds_world.specs.Worlds.{world}
use Rattle.xds_world.proofs.Headline.{headline}
use Rattle.xds_world.specs.Played.{HasEnded}
use Rattle.xds_world.specs.Settled.{IsSettledByTaking}
use Rattle.xds_world.proofs.Settles.{settled_few, settled_quiet, settled_taking, settled_or_held_back}
use Rattle.xds_world.proofs.settling.settle_linked.Goals as goal

pub returns-in-Ok-Some-clause-few : goal.returns-in-Ok-Some-clause-few
returns-in-Ok-Some-clause-few g c =
    settled_few g.A.Accept.accepts c.args.client c.args.kind (map happening_of c.world.inside.run.events.items) (map happening_of c.settle_run.new.run.events.items) c.in-Ok-Some.settled c.in-Ok-Some.responses c.world.invariant.put
    (subst (HasEnded g.A.Accept.accepts c.args.client c.args.kind (map happening_of c.world.inside.run.events.items) (map happening_of c.settle_run.new.run.events.items)) c.in-Ok-Some.field-0-is c.in-Ok-Some.ensures.ended)

pub returns-in-Ok-Some-clause-quiet : goal.returns-in-Ok-Some-clause-quiet
returns-in-Ok-Some-clause-quiet g c =
    settled_quiet g.A.Accept.accepts c.args.client c.args.kind (map happening_of c.world.inside.run.events.items) (map happening_of c.settle_run.new.run.events.items) c.in-Ok-Some.settled c.in-Ok-Some.responses c.world.invariant.put
    (subst (HasEnded g.A.Accept.accepts c.args.client c.args.kind (map happening_of c.world.inside.run.events.items) (map happening_of c.settle_run.new.run.events.items)) c.in-Ok-Some.field-0-is c.in-Ok-Some.ensures.ended)

pub returns-in-Ok-Some-clause-taken : goal.returns-in-Ok-Some-clause-taken
returns-in-Ok-Some-clause-taken g c =
    subst (λ hs. IsSettledByTaking g.A.Accept.accepts c.args.client c.args.kind hs c.in-Ok-Some.settled) c.world.view_is
    (settled_taking g.A.Accept.accepts c.args.client c.args.kind (map happening_of c.world.inside.run.events.items) (map happening_of c.settle_run.new.run.events.items) c.in-Ok-Some.settled c.in-Ok-Some.responses c.world.invariant.put
    (subst (HasEnded g.A.Accept.accepts c.args.client c.args.kind (map happening_of c.world.inside.run.events.items) (map happening_of c.settle_run.new.run.events.items)) c.in-Ok-Some.field-0-is c.in-Ok-Some.ensures.ended))

pub returns-in-Ok-Some-clause-refused : goal.returns-in-Ok-Some-clause-refused
returns-in-Ok-Some-clause-refused g c =
    settled_or_held_back g.A.Accept.accepts c.args.client c.args.kind (map happening_of c.world.inside.run.events.items) (map happening_of c.settle_run.new.run.events.items) c.in-Ok-Some.settled c.in-Ok-Some.responses
    c.world.invariant.put (ap (λ hs. is_some (link_in (world g.A.Accept.accepts hs) c.args.client)) c.world.view_is ∙ c.requires)
    (subst (HasEnded g.A.Accept.accepts c.args.client c.args.kind (map happening_of c.world.inside.run.events.items) (map happening_of c.settle_run.new.run.events.items)) c.in-Ok-Some.field-0-is c.in-Ok-Some.ensures.ended)

pub returns-in-Ok-Some-clause-headline : goal.returns-in-Ok-Some-clause-headline
returns-in-Ok-Some-clause-headline g c = headline g.A.Accept.accepts (map happening_of c.settle_run.new.run.events.items) c.in-Ok-Some.ensures.played.put

pub returns-in-Ok-None-clause-stopped : goal.returns-in-Ok-None-clause-stopped
returns-in-Ok-None-clause-stopped g c = (
  subst (λ hs. HasStopped g.A.Accept.accepts c.args.client c.args.kind hs (map happening_of c.settle_run.new.run.events.items)) c.world.view_is
      (subst (HasEnded g.A.Accept.accepts c.args.client c.args.kind (map happening_of c.world.inside.run.events.items) (map happening_of c.settle_run.new.run.events.items)) c.in-Ok-None.field-0-is c.in-Ok-None.ensures.ended),
  headline g.A.Accept.accepts (map happening_of c.settle_run.new.run.events.items) c.in-Ok-None.ensures.played.put,
)
