use Rattle.xds_stats.proofs.plain_status.told_plain.Goals as goal

pub returns : goal.returns
returns c = rw (c.as_str-sent.ensures.value, c.as_str-accepted.ensures.value) at c.in_ok-format.ensures.ok
