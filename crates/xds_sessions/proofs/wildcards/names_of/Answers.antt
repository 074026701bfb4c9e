use Rattle.std.proofs.Common.{sym, ap, ◌∙◌}
use Rattle.xds_resource.specs.Names.{pairs, put_all}
use Rattle.xds_sessions.proofs.Sharing.{put_no_number, shared_as_made}
use Rattle.xds_sessions.proofs.wildcards.names_of.Goals as goal

pub returns-clause-ok : goal.returns-clause-ok
returns-clause-ok c =
    shared_as_made c.args.offer.now c.loop-name.names c.new.result
    (sym (ap (λ es. put_all (λ name due. put_no_number due) c.loop-name.names (pairs es)) c.in-None.ensures.steps.0) ∙ c.loop-name.invariant) c.new.ensures.ok
