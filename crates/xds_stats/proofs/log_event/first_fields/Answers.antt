use Rattle.std.proofs.Common.{◌++◌, ◌∙◌, ap, codes}
use Rattle.xds_stats.specs.Statuses.{quoted}
use Rattle.xds_stats.proofs.log_event.first_fields.Goals as goal

pub returns : goal.returns
returns c =
    let placed = c.as_str-place.ensures.value ∙ c.in_ok-place.ensures in
    let node = c.as_str-node.ensures.value ∙ c.in_ok-node.ensures ∙ ap quoted c.as_str.ensures.value in
    let cluster = c.as_str-cluster.ensures.value ∙ c.in_ok-cluster.ensures ∙ ap quoted c.as_str-2.ensures.value in
    let variant = c.variant_word-variant.ensures in
    let kind = c.as_str-type_url.ensures.value ∙ c.in_ok-type_url.ensures ∙ ap quoted c.as_str-3.ensures.value in
    c.in_ok-format.ensures.ok
    ∙ (λ i. placed i ++ (codes ",\"node\":" ++ (node i ++ (codes ",\"cluster\":" ++ (cluster i ++ (codes ",\"variant\":\"" ++ (variant i ++ (codes "\",\"type\":" ++ kind i))))))))
