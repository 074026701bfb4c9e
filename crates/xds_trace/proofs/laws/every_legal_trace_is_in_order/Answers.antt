use Rattle.xds_trace.proofs.InOrder as orders
use Rattle.xds_trace.proofs.Numbering as numbers
use Rattle.xds_trace.proofs.laws.every_legal_trace_is_in_order.Goals as goal

pub returns-clause-order : goal.returns-clause-order
returns-clause-order c = orders.every_legal_trace_is_in_order

pub returns-clause-numbers : goal.returns-clause-numbers
returns-clause-numbers c = numbers.every_stream_has_a_number
