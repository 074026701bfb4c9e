-- What each rule of a trace says, in plain English. The words are this project's own; `Rules` of `xds_check` has what each means.
--     sentence    what a rule says
use Rattle.std.specs.Prelude.{ℕ, List, codes}
use Rattle.xds_check.specs.declared.rule.Rule.{Rule}
use Rattle.xds_check.specs.declared.rule.Rule.TheVariants.{FreshNonce, BestResources, CoveredResources, WholeResponse, RightRemovals, OneAtATime, NothingRefusedAgain, NothingPending}

-- rule: new-nonce, rule: best-writes, rule: covered-only, rule: whole-response, rule: no-live-removal, rule: one-unanswered, rule: refused-offer, rule: awaited-names
-- what a rule says
abbrev pub sentence : Rule → List ℕ
sentence FreshNonce = codes "A response has a nonce, and no response before it on its stream, of whatever type, had the same."
sentence BestResources = codes "A response states of a name the greatest write that the replica has taken, with its body, and in the incremental variant with its version; a name whose greatest write is a deletion isn't stated."
sentence CoveredResources = codes "A response states only what the client asks for: by its name, or by the star where the write is open to the client's cluster."
sentence WholeResponse = codes "A state-of-the-world response of clusters or listeners states every live name that the client asks for, since the client drops what it lacks."
sentence RightRemovals = codes "A response removes no name that is live and that the client asks for."
sentence OneAtATime = codes "A response is sent only once the client has accepted or rejected the one before it of its type."
sentence NothingRefusedAgain = codes "What the client has rejected isn't offered again as it was, unless another response of the type was accepted since."
sentence NothingPending = codes "That nothing is owed is said only once each name that the client asked for was stated or removed; in the state of the world a name that isn't live needs no answer."
