use Rattle.xds_world.proofs.client.connect_delta.Goals as goal

pub returns-clause-up : goal.returns-clause-up
returns-clause-up g c = tt

pub returns-clause-requests : goal.returns-clause-requests
returns-clause-requests g c = tt
