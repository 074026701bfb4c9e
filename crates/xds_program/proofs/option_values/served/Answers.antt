use Rattle.xds_program.proofs.option_values.served.Goals as goal

pub returns-in-None : goal.returns-in-None
returns-in-None c = λ x h. c.in-None.ensures (x.task, x.first_number, x.validate) (h.task, h.first_number, h.numbers, h.validate)
