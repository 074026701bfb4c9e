use Rattle.std.proofs.Common.{◌∙◌}
use Rattle.xds_causes.proofs.Nearness.{common_fits, near_else, near_then}
use Rattle.xds_causes.proofs.likeness.is_near.Goals as goal

pub overflow_add-result-else-back-last_name : goal.overflow_add-result-else-back-last_name
overflow_add-result-else-back-last_name c =
    common_fits c.args.kind c.as_bytes-known.result.now _ _ (c.as_bytes-known.ensures.value ∙ c.url.ensures) c.common_front-front.ensures.bounded c.common_back-back.ensures.bounded

pub returns-then-back-last_name : goal.returns-then-back-last_name
returns-then-back-last_name c =
    near_then c.args.kind c.args.url.now _ _ _ _ _ _ c.as_bytes-given.ensures.value (c.as_bytes-known.ensures.value ∙ c.url.ensures) c.last_name.ensures c.common_front-front.ensures.common
    c.common_back-back.ensures.common c.max-all.ensures c.if-back-last_name.true

pub returns-else-back-last_name : goal.returns-else-back-last_name
returns-else-back-last_name c =
    near_else c.args.kind c.args.url.now _ _ _ _ _ _ c.as_bytes-given.ensures.value (c.as_bytes-known.ensures.value ∙ c.url.ensures) c.last_name.ensures c.common_front-front.ensures.common
    c.common_back-back.ensures.common c.max-all.ensures c.if-back-last_name.false
