use Rattle.std.proofs.Common.{◌++◌, ◌∙◌, ap, codes}
use Rattle.xds_stats.specs.Statuses.{quoted}
use Rattle.xds_stats.proofs.log_event.rejected_fields.Goals as goal

pub returns : goal.returns
returns c =
    let placed = c.as_str-place.ensures.value ∙ c.in_ok-place.ensures in
    let kind = c.as_str-type_url.ensures.value ∙ c.in_ok-type_url.ensures ∙ ap quoted c.as_str.ensures.value in
    let nonce = c.as_str-nonce.ensures.value ∙ c.in_ok-nonce.ensures ∙ ap quoted c.as_str-2.ensures.value in
    let message = c.as_str-message.ensures.value ∙ c.in_ok-message.ensures ∙ ap quoted c.as_str-3.ensures.value in
    c.in_ok-format.ensures.ok
    ∙ (λ i. placed i ++ (codes ",\"type\":" ++ (kind i ++ (codes ",\"nonce\":" ++ (nonce i ++ (codes ",\"reason\":" ++ message i))))))
