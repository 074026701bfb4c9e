use Rattle.std.proofs.Common.{map, [], ◌∷◌, ◌∙◌}
use Rattle.std.specs.String.{string_bytes}
use Rattle.std.specs.FinSet as set
use Rattle.xds_interest.specs.Interests.{names_among}
use Rattle.xds_interest.specs.SotW.{sotw_interest}
use Rattle.xds_interest.proofs.Made.{first_made}
use Rattle.xds_interest.proofs.interest.Interest.of_list.Goals as goal

pub returns-clause-ok : goal.returns-clause-ok
returns-clause-ok g c =
    let texts = map string_bytes c.args.names.now in
    c.of_parts.ensures
    ∙ first_made g.T.ResourceType.TYPE texts _ _ c.args.cluster (c.opens_star-star.ensures ∙ (λ i. (sotw_interest (c.TYPE.ensures i) (texts ∷ [])).star))
    (c.in_ok-insert_names.ensures.ok ∙ (λ i. set.union (c.new-explicit.ensures i) (set.from_list (names_among (c.TYPE-2.ensures i) texts))))
