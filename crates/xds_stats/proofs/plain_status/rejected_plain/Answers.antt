use Rattle.xds_stats.proofs.plain_status.rejected_plain.Goals as goal

pub returns : goal.returns
returns c = rw (c.as_str-nonce.ensures.value, c.as_str-reason.ensures.value) at c.in_ok-format.ensures.ok
