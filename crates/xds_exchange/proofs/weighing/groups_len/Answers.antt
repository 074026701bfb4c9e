use Rattle.std.proofs.Common.{ap, ◌∙◌, arith}
use Rattle.serde_json.specs.View.{view, members_view}
use Rattle.serde_json.proofs.Views.{view-Object}
use Rattle.xds_exchange.proofs.Weights.{list_alone, listed, unlisted, groups_short}
use Rattle.xds_exchange.proofs.weighing.groups_len.Goals as goal

pub returns-in-Some-clause-ok : goal.returns-in-Some-clause-ok
returns-in-Some-clause-ok c =
    let put = rw c.texts.ensures at c.in_ok-put_texts.ensures.ok in
    let held = list_alone _ _ _ c.args.groups.now (view-Object c.put_texts.new.map) put (ap members_view c.new-map.ensures.empty) in
    let both = listed c.args.groups.now (view c.in-Some.list.now) ((rw c.in-Some.is at c.get.ensures) ∙ held) in
    let text = c.in_ok-to_string-in-Some.ensures.text both.0 in
    c.len.ensures ∙ grind (arith, both.1, text)

pub returns-in-Some-clause-few : goal.returns-in-Some-clause-few
returns-in-Some-clause-few c =
    let put = rw c.texts.ensures at c.in_ok-put_texts.ensures.ok in
    let held = list_alone _ _ _ c.args.groups.now (view-Object c.put_texts.new.map) put (ap members_view c.new-map.ensures.empty) in
    let both = listed c.args.groups.now (view c.in-Some.list.now) ((rw c.in-Some.is at c.get.ensures) ∙ held) in
    let text = c.in_ok-to_string-in-Some.ensures.text both.0 in
    let short = groups_short c.args.groups.now c.requires in
    grind (arith, both.1, text, short, c.len.ensures)

pub returns-clause-ok : goal.returns-clause-ok
returns-clause-ok c =
    let put = rw c.texts.ensures at c.in_ok-put_texts.ensures.ok in
    let held = list_alone _ _ _ c.args.groups.now (view-Object c.put_texts.new.map) put (ap members_view c.new-map.ensures.empty) in
    unlisted c.args.groups.now ((rw c.in-None.is at c.get.ensures) ∙ held)
