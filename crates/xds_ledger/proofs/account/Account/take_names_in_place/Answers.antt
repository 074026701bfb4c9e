use Rattle.std.proofs.Common.{◌≡◌, sym, ◌∙◌}
use Rattle.xds_ledger.specs.Ledgers.{Account, Names, noted}
use Rattle.xds_ledger.proofs.InPlace.{names_in_place, note_taken_back}
use Rattle.xds_ledger.proofs.account.Account.take_names_in_place.Goals as goal

pub returns-clause-ok : goal.returns-clause-ok
returns-clause-ok g c =
    let names : Names = c.args.names in
    let a = c.self.inside in
    let b = c.self-2.inside in
    let before : Account = record { beliefs = a.beliefs; nonce = a.nonce; accepted = a.accepted; sent = a.sent; refused = a.refused } in
    let middle : Account = record { beliefs = b.beliefs; nonce = b.nonce; accepted = b.accepted; sent = b.sent; refused = b.refused } in
    let note : middle ≡ noted before names.touched = c.self-2.view_is ∙ c.in_ok-note.ensures.ok ∙ (λ i. noted (sym c.self.view_is i) (c.touched-touched.ensures i)) in
    names_in_place c.args.self.now before middle names c.new-start.result c.in_ok-changes.changes c.change.new.self
    c.self.view_is note c.new-start.ensures c.in_ok-changes.ensures.ok c.in_default.ensures.ok

pub returns-in-Err-clause-err : goal.returns-in-Err-clause-err
returns-in-Err-clause-err g c =
    let names : Names = c.args.names in
    let a = c.self.inside in
    let b = c.self-2.inside in
    let before : Account = record { beliefs = a.beliefs; nonce = a.nonce; accepted = a.accepted; sent = a.sent; refused = a.refused } in
    let middle : Account = record { beliefs = b.beliefs; nonce = b.nonce; accepted = b.accepted; sent = b.sent; refused = b.refused } in
    let note : middle ≡ noted before names.touched = c.self-2.view_is ∙ c.in_ok-note.ensures.ok ∙ (λ i. noted (sym c.self.view_is i) (c.touched-touched.ensures i)) in
    note_taken_back c.args.self.now before middle c.forget.new.self names.touched c.change.new.self c.self.view_is note c.in-Err.ensures.err c.forget.ensures
