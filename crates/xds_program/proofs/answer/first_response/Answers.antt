use Rattle.std.proofs.Common.{map, Bor, ◌∙◌}
use Rattle.xds_resource.specs.Writes.{StampedWrite}
use Rattle.xds_program.proofs.Responding.{response_made}
use Rattle.xds_program.proofs.answer.first_response.Goals as goal

abbrev seen : Bor StampedWrite → StampedWrite
seen w = w.now

pub returns-clause-made : goal.returns-clause-made
returns-clause-made g c =
    response_made c.args.replica g.T.ResourceType.TYPE c.args.changes c.args.interest.now (map seen c.args.shown.now) c.new.result
    (c.new.ensures ∙ (λ i. record { kind = c.TYPE.ensures i; version_info = c.in_ok-version.ensures.text i; nonce = c.in_ok-nonce.ensures.text i; bodies = c.in_ok-bodies.ensures.ok i }))
