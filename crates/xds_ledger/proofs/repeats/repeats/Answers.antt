use Rattle.std.proofs.Common.{sym, ap, ◌∙◌}
use Rattle.std.specs.Prelude.{if◌then◌else◌}
use Rattle.xds_ledger.specs.Variants.{is_whole}
use Rattle.xds_ledger.proofs.Repeating.{differs_among, differs_unsaid, others_decide}
use Rattle.xds_ledger.proofs.repeats.repeats.Goals as goal

pub returns-then-not-still_says_where_said : goal.returns-then-not-still_says_where_said
returns-then-not-still_says_where_said g c =
    differs_among c.args.refused.now c.args.variant g.T.ResourceType.TYPE c.args.interest.now c.args.catalogue.now.entries c.args.beliefs.now c.args.refused.now (sym c.still_says_where_said.ensures ∙ c.if-not-still_says_where_said.true)

pub returns-then-not-has_what_is_said_where_listed : goal.returns-then-not-has_what_is_said_where_listed
returns-then-not-has_what_is_said_where_listed g c =
    differs_unsaid c.args.refused.now c.args.variant g.T.ResourceType.TYPE c.args.interest.now c.args.catalogue.now.entries c.args.beliefs.now c.args.listed.now.names (sym c.has_what_is_said_where_listed.ensures ∙ c.if-not-has_what_is_said_where_listed.true)

pub returns : goal.returns
returns g c =
    let v = c.args.variant in
    let t = g.T.ResourceType.TYPE in
    let l = c.args.listed.now in
    others_decide v t c.args.interest.now c.args.catalogue.now c.args.beliefs.now l c.args.refused.now c.first_mark-mark.result c.has_what_is_said_where_changed.result
    (c.first_mark-mark.ensures ∙ ap (λ w. if w then 0 else l.mark) (c.is_whole.ensures ∙ ap (is_whole v) c.TYPE.ensures)) c.requires
    (sym c.still_says_where_said.ensures ∙ c.if-not-still_says_where_said.false) (sym c.has_what_is_said_where_listed.ensures ∙ c.if-not-has_what_is_said_where_listed.false)
    c.has_what_is_said_where_changed.ensures.all c.has_what_is_said_where_changed.ensures.one c.has_what_is_said_where_changed.ensures.numbered
