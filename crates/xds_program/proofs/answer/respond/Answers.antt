use Rattle.std.proofs.Common.{ℕ, [], ◌∷◌, map, length, string_bytes, Bor, not, ◌||◌, ◌==◌, ap, sym, ◌∙◌}
use Rattle.std.proofs.lemmas.List.{length-map}
use Rattle.xds_resource.specs.Types.{row}
use Rattle.xds_resource.specs.Writes.{StampedWrite}
use Rattle.xds_interest.specs.Interests.{in_cluster}
use Rattle.xds_interest.specs.SotW.{sotw_interest}
use Rattle.xds_catalogue.specs.Holdings.{Holdings}
use Rattle.xds_catalogue.specs.Content.{content}
use Rattle.xds_message.specs.Drafts.{message_of}
use Rattle.xds_message.specs.Messages.{Request}
use Rattle.xds_core.specs.Streams.{cluster_in}
use Rattle.xds_program.specs.Answers.{response_with}
use Rattle.xds_program.proofs.Responding.{given_shown}
use Rattle.xds_program.proofs.answer.respond.Goals as goal

abbrev seen : Bor StampedWrite → StampedWrite
seen w = w.now

pub returns-then-is_answered-clause-given : goal.returns-then-is_answered-clause-given
returns-then-is_answered-clause-given g c =
    let t = g.T.ResourceType.TYPE in
    let m = c.args.request.now in
    let s = c.in_ok-interest.interest in
    let ws = c.in_ok-shown.shown.items in
    given_shown c.args.replica t c.args.catalogue.now m s (map seen ws) (message_of c.in_ok-draft.draft)
    (c.in_ok-interest.ensures.ok
    ∙ (λ i. in_cluster (c.in_ok-cluster.ensures.ok i) (sotw_interest t (map string_bytes (c.deref.ensures.value i) ∷ [])))
    ∙ ap (λ (r : Request). in_cluster (cluster_in m.node) (sotw_interest t (r.resource_names ∷ []))) c.request.view_is)
    (c.in_ok-shown.ensures.ok ∙ ap (λ (h : Holdings). content h.entries s) c.catalogue-held.ensures)
    (ap (λ (n : ℕ). (row t).is_complete || not (n == 0)) (length-map ws seen ∙ ap length (sym c.deref-2.ensures.value)) ∙ sym c.is_answered.ensures ∙ c.if-is_answered.true)
    (c.in_ok-draft.ensures.made
    ∙ (λ i. response_with c.args.replica t (c.changes.ensures i) s (map seen (c.deref-then-is_answered.ensures.value i)))
    ∙ ap (λ (h : Holdings). response_with c.args.replica t h.changes s (map seen ws)) c.catalogue-held.ensures)
