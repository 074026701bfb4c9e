use Rattle.std.proofs.Common.{◌∙◌, ap}
use Rattle.xds_node.specs.Holdings.{past_of}
use Rattle.xds_node.proofs.Keeping.{kept_cut, goes_on, piece_kept, piece_is, left_is}
use Rattle.xds_node.proofs.node.desk.Desk.cut.Goals as goal

pub invariant_of-self : goal.invariant_of-self
invariant_of-self g c =
    let d = c.self.inside in
    kept_cut _ d.base d.core c.replace.new.dest d.journal.items c.replace-2.new.dest.items d.cut d.seats c.len.result d.token c.share.new.token c.self.invariant
    (c.replace.ensures.after ∙ c.in_ok-present.ensures.ok) ((λ i. (c.replace-2.ensures.after i).items) ∙ c.new.ensures.items) (c.len.ensures ∙ d.journal.ok.0) c.share.ensures.kept

pub returns-clause-ok : goal.returns-clause-ok
returns-clause-ok g c =
    let d = c.self.inside in (
      piece_is _ d.base d.core c.replace.result d.journal.items c.replace-2.result.items d.cut d.seats d.token c.share.result c.args.self.now c.self.invariant c.replace.ensures.value (λ i. (c.replace-2.ensures.value i).items) c.share.ensures.share c.self.view_is,
      left_is _ d.base d.core c.replace.new.dest d.journal.items c.replace-2.new.dest.items d.cut d.seats d.token c.share.new.token c.args.self.now c.self.invariant
          (c.replace.ensures.after ∙ c.in_ok-present.ensures.ok) ((λ i. (c.replace-2.ensures.after i).items) ∙ c.new.ensures.items) c.share.ensures.kept c.self.view_is,
    )

pub invariant_of-result : goal.invariant_of-result
invariant_of-result g c =
    let d = c.self.inside in
    piece_kept _ d.base d.core c.replace.result d.journal.items c.replace-2.result.items d.cut d.seats d.token c.share.result c.self.invariant c.replace.ensures.value (λ i. (c.replace-2.ensures.value i).items) c.share.ensures.share

pub returns-clause-goes_on : goal.returns-clause-goes_on
returns-clause-goes_on g c =
    let d = c.self.inside in
    goes_on _ d.base d.core c.replace.result d.journal.items d.cut d.seats d.token _ c.self.invariant c.replace.ensures.value (ap past_of c.share.ensures.share)
