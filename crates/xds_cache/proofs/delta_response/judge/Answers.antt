use Rattle.std.proofs.Common.{Ok, string_bytes, sym, ap, ◌∙◌}
use Rattle.std.specs.Option.{option_map}
use Rattle.xds_message.specs.Responses.{resource_of}
use Rattle.xds_cache.specs.Deliveries.{delta_stated}
use Rattle.xds_cache.proofs.Judging.{fault_more, stated_more}
use Rattle.xds_cache.proofs.delta_response.judge.Goals as goal
use Rattle.xds_resource.proofs.NameMaps.{none_by_is_some}

pub loop-resource-preserved : goal.loop-resource-preserved
loop-resource-preserved g c =
    let none = none_by_is_some c.in_ok-fault.fault (sym c.is_some.ensures ∙ c.if-is_some.false) in
    let stated = c.in_ok-fault.ensures.none (ap Ok none) in
    let test = g.A.Accept.accepts in
    let at = c.loop-resource.resource-index in
    let x = c.resource-item.result in
    let within = c.loop-resource-test.true in
    record {
      fault = fault_more resource_of delta_stated c.args.kind test c.args.removed.now c.args.resources.now at x c.loop-resource.stated _ _ within c.resource-item.is
          (sym c.in_ok-fault.ensures.fault ∙ ap (option_map string_bytes) none) stated c.loop-resource.invariant.fault;
      stated = stated_more resource_of delta_stated c.args.kind test c.args.removed.now c.args.resources.now at x c.loop-resource.stated _ _ within c.resource-item.is stated c.loop-resource.invariant.stated;
    }
