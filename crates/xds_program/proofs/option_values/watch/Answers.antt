use Rattle.xds_program.proofs.option_values.watch.Goals as goal

pub returns-in-None : goal.returns-in-None
returns-in-None c = λ x h. c.in-None.ensures (x.addr, x.variant, x.kind, x.responses) (h.addr, h.variant, h.kind, h.responses)
