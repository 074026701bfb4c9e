use Rattle.std.proofs.Common.{[], ◌∷◌}
use Rattle.serde_json.specs.View.{view}
use Rattle.xds_causes.specs.declared.messages.Message.TheVariants.{DeltaResponse}
use Rattle.xds_causes.specs.Told.{fields_of}
use Rattle.xds_causes.proofs.FirstWrong.{looked_at}
use Rattle.xds_causes.proofs.messages.wrong_of_delta_response.Goals as goal

pub returns-clause-first : goal.returns-clause-first
returns-clause-first c =
    looked_at (c.new.result ∷ c.new-2.result ∷ c.new-3.result ∷ c.new-4.result ∷ []) (fields_of DeltaResponse) (view c.args.value.now) c.first_wrong.result (λ i. c.new.ensures i ∷ c.new-2.ensures i ∷ c.new-3.ensures i ∷ c.new-4.ensures i ∷ [])
    c.first_wrong.ensures.first
