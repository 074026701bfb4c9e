use Rattle.xds_stats.proofs.plain_status.client_plain.Goals as goal

pub returns : goal.returns
returns c =
    rw (c.as_str-node.ensures.value, c.as_str-cluster.ensures.value, c.as_str-peer.ensures.value, c.variant_word-variant.ensures) at c.in_ok-format.ensures.ok
