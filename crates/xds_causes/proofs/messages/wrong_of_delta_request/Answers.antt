use Rattle.std.proofs.Common.{[], ◌∷◌}
use Rattle.serde_json.specs.View.{view}
use Rattle.xds_causes.specs.declared.messages.Message.TheVariants.{DeltaRequest}
use Rattle.xds_causes.specs.Told.{fields_of}
use Rattle.xds_causes.proofs.FirstWrong.{looked_at}
use Rattle.xds_causes.proofs.messages.wrong_of_delta_request.Goals as goal

pub returns-clause-first : goal.returns-clause-first
returns-clause-first c =
    looked_at (c.new.result ∷ c.new-2.result ∷ c.new-3.result ∷ c.new-4.result ∷ c.new-5.result ∷ c.new-6.result ∷ c.new-7.result ∷ []) (fields_of DeltaRequest) (view c.args.value.now) c.first_wrong.result (λ i. c.new.ensures i ∷ c.new-2.ensures i ∷ c.new-3.ensures i ∷ c.new-4.ensures i ∷ c.new-5.ensures i ∷ c.new-6.ensures i ∷ c.new-7.ensures i ∷ [])
    c.first_wrong.ensures.first
