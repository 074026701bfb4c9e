use Rattle.std.proofs.Common.{inl}
use Rattle.xds_http.proofs.polling.poll_by.Goals as goal

pub returns-in-Ok-clause-polled : goal.returns-in-Ok-clause-polled
returns-in-Ok-clause-polled g c = inl (c.in-Ok.request, c.in-Ok.ensures.ok, c.send.ensures.tells)
