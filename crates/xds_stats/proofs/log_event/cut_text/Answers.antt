use Rattle.xds_stats.proofs.log_event.cut_text.Goals as goal

pub returns : goal.returns
returns c = rw (c.number-number.ensures, c.name-name.ensures) at c.in_ok-format.ensures.ok
