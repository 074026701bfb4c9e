use Rattle.std.proofs.Common.{refl}
use Rattle.std.specs.Option.{option_map}
use Rattle.serde_json.specs.View.{view}
use Rattle.xds_resource.specs.Any.{named_body}
use Rattle.xds_cache.proofs.Stating.{stated_now}
use Rattle.xds_cache.proofs.faults.state.Goals as goal

pub returns-in-Ok-clause-none : goal.returns-in-Ok-clause-none
returns-in-Ok-clause-none g c = λ none.
    stated_now c.args.kind (view c.args.body.now) (view c.in_ok-clone.field-0) (option_map (λ s. s.now) c.args.named) c.args.version.now (named_body c.in-Ok.resource).name
    (named_body c.in-Ok.resource) (record { version = c.args.version.now; body = (named_body c.in-Ok.resource).body }) c.args.before.now c.state_read.new.before
    c.in-Ok.ensures.given c.in_ok-clone.ensures.cases refl refl (c.state_read.ensures.none none)
