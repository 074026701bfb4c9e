use Rattle.std.proofs.Common.{◌≡◌, ◌+◌, [], ◌∷◌, ◌++◌, ◌∙◌, sym, ap}
use Rattle.xds_core.specs.Legal as legal
use Rattle.xds_core.specs.Steps.{step}
use Rattle.xds_core.specs.Seen.{event_of}
use Rattle.xds_node.proofs.Steps.{below_next}
use Rattle.xds_node.specs.Books.{next_number}
use Rattle.xds_node.specs.Told.{Calls}
use Rattle.xds_node.proofs.Keeping.{kept_one, stands_now, step_told}
use Rattle.xds_node.proofs.node.desk.Desk.call.Goals as goal

pub invariant_of-self-in-Ok : goal.invariant_of-self-in-Ok
invariant_of-self-in-Ok g c =
    let d = c.self.inside in
    let many = c.len-records.ensures ∙ d.journal.ok.0 in
    let line : c.new-line.result ≡ record { event = event_of c.args.event; answer = legal.answer_of (step d.core (event_of c.args.event)) } = c.new-line.ensures ∙ (λ i. record { event = event_of c.args.event; answer = c.in-Ok.ensures.twin i }) in
    kept_one _ d.base d.core c.answered_twice.new.core d.journal.items c.push_reserved.new.self.items d.cut d.seats (d.cut + c.len-records.result + 1) (event_of c.args.event) c.new-line.result d.token c.tell.new.token c.self.invariant
    (λ full. c.if-is_full.ensures.0 (many ∙ full)) (λ spent. c.if-is_full.ensures.1 (ap (λ n. d.cut + n) many ∙ spent)) (ap (λ n. d.cut + n + 1) many)
    line c.in-Ok.ensures.after (c.push_reserved.ensures.items ∙ ap (λ l. l ++ c.new-line.result ∷ []) c.reserve.ensures.items) c.tell.ensures.kept

pub returns-in-Ok-clause-rising : goal.returns-in-Ok-clause-rising
returns-in-Ok-clause-rising g c =
    let d = c.self.inside in
    below_next d.journal.items d.seats (next_number c.args.self.now) d.token c.args.seat.now.told c.self.invariant.keeper (ap next_number (sym c.self.view_is)) c.tell.ensures.stands

pub returns-in-Ok-clause-stands : goal.returns-in-Ok-clause-stands
returns-in-Ok-clause-stands g c =
    let d = c.self.inside in
    stands_now _ d.base d.core d.journal.items d.cut d.seats d.token c.args.self.now c.args.seat.now.told c.self.invariant c.self.view_is c.tell.ensures.stands

pub returns-in-Ok-clause-step : goal.returns-in-Ok-clause-step
returns-in-Ok-clause-step g c =
    let d = c.self.inside in
    let many = c.len-records.ensures ∙ d.journal.ok.0 in
    let line : c.new-line.result ≡ record { event = event_of c.args.event; answer = legal.answer_of (step d.core (event_of c.args.event)) } = c.new-line.ensures ∙ (λ i. record { event = event_of c.args.event; answer = c.in-Ok.ensures.twin i }) in
    step_told _ d.base d.core d.journal.items d.cut d.seats (d.cut + c.len-records.result + 1) (event_of c.args.event) _ c.new-line.result d.token c.args.seat.now.told _ c.self.invariant
    (ap (λ n. d.cut + n + 1) many) c.in-Ok.ensures.answer line c.tell.ensures.stands (ap (λ (s : Calls). s.told) c.tell.ensures.told)
