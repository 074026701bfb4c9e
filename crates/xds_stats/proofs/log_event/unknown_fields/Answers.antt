use Rattle.std.proofs.Common.{◌++◌, ◌∙◌, codes}
use Rattle.xds_stats.proofs.log_event.unknown_fields.Goals as goal

pub returns : goal.returns
returns c =
    let placed = c.as_str-place.ensures.value ∙ c.in_ok-place.ensures in
    let told = c.as_str-type_url.ensures.value ∙ c.in_ok-type_url.ensures in
    c.in_ok-format.ensures.ok ∙ (λ i. placed i ++ (codes ",\"type\":" ++ told i))
