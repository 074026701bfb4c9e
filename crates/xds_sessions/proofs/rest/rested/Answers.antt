use Rattle.std.proofs.Common.{◌≡◌, ℕ, List, [], ◌∷◌, false, map, string_bytes, sym, ◌∙◌}
use Rattle.xds_interest.specs.Interests.{Selection}
use Rattle.xds_interest.specs.SotW.{sotw_interest}
use Rattle.xds_sessions.specs.Rest.{asked_once}
use Rattle.xds_sessions.proofs.NamedRests.{asked_names, named_answer}
use Rattle.xds_sessions.proofs.rest.rested.Goals as goal

pub returns-then-not-opens_star-clause-ok : goal.returns-then-not-opens_star-clause-ok
returns-then-not-opens_star-clause-ok g c =
    let t = g.T.ResourceType.TYPE in
    let texts : List (List ℕ) = map string_bytes c.args.names.now in
    let s : Selection = asked_once t texts c.args.cluster in
    let unstarred : (sotw_interest t (texts ∷ [])).star ≡ false = sym (c.opens_star.ensures ∙ (λ i. (sotw_interest (c.TYPE.ensures i) (texts ∷ [])).star)) ∙ c.if-not-opens_star.true in
    named_answer c.args.replica t c.args.catalogue.now s c.args.version.now c.in_ok-draft.draft unstarred
    (c.in_ok-draft.ensures.ok s unstarred (asked_names t texts c.args.cluster unstarred))
