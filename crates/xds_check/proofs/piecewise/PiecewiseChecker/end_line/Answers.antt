use Rattle.std.proofs.Common.{◌≡◌, [], ◌++◌, sym, ap, ◌∙◌, List, ℕ}
use Rattle.std.proofs.lemmas.Result.{on_ok_weaker, IfErr-weaker}
use Rattle.xds_check.proofs.PieceByPiece.{held_none, read_line_more, end_refused}
use Rattle.xds_check.proofs.piecewise.PiecewiseChecker.end_line.Goals as goal

pub returns-then-is_empty-clause-read : goal.returns-then-is_empty-clause-read
returns-then-is_empty-clause-read c =
    let held = c.replace-held.result in
    let part = c.args.part.now in
    let none : c.args.self.now.held.items ≡ [] = sym (λ i. (c.replace-held.ensures.value i).items) ∙ held_none held.len held.items c.is_empty.result c.is_empty.ensures held.ok.0 c.if-is_empty.true in
    let empty : c.replace-held.new.dest.items ≡ [] = (λ i. (c.replace-held.ensures.after i).items) ∙ c.new.ensures.items in
    on_ok_weaker c.take_line.result (λ t bytes r.
    read_line_more bytes part part c.args.self.now (record { checker = c.take_line.new.checker; held = c.replace-held.new.dest }) r c.requires.one (sym (ap (λ (l : List ℕ). l ++ part) none)) t empty) c.take_line.ensures.taken

pub returns-then-is_empty-clause-refused : goal.returns-then-is_empty-clause-refused
returns-then-is_empty-clause-refused c =
    let held = c.replace-held.result in
    let part = c.args.part.now in
    let none : c.args.self.now.held.items ≡ [] = sym (λ i. (c.replace-held.ensures.value i).items) ∙ held_none held.len held.items c.is_empty.result c.is_empty.ensures held.ok.0 c.if-is_empty.true in
    IfErr-weaker c.take_line.result _ _ (λ e why. end_refused part part c.args.self.now e c.requires.one (sym (ap (λ (l : List ℕ). l ++ part) none)) why) c.take_line.ensures.refused

pub returns-clause-read : goal.returns-clause-read
returns-clause-read c =
    let part = c.args.part.now in
    let text : c.as_slice.result.now ≡ c.args.self.now.held.items ++ part =
    c.as_slice.ensures.value ∙ c.in_ok-extend_from_slice.ensures.items ∙ (λ i. (c.replace-held.ensures.value i).items ++ part) in
    let empty : c.replace-held.new.dest.items ≡ [] = (λ i. (c.replace-held.ensures.after i).items) ∙ c.new.ensures.items in
    on_ok_weaker c.take_line-2.result (λ t bytes r.
    read_line_more bytes part c.as_slice.result.now c.args.self.now (record { checker = c.take_line-2.new.checker; held = c.replace-held.new.dest }) r c.requires.one text t empty) c.take_line-2.ensures.taken

pub returns-clause-refused : goal.returns-clause-refused
returns-clause-refused c =
    let part = c.args.part.now in
    let text : c.as_slice.result.now ≡ c.args.self.now.held.items ++ part =
    c.as_slice.ensures.value ∙ c.in_ok-extend_from_slice.ensures.items ∙ (λ i. (c.replace-held.ensures.value i).items ++ part) in
    IfErr-weaker c.take_line-2.result _ _ (λ e why. end_refused part c.as_slice.result.now c.args.self.now e c.requires.one text why) c.take_line-2.ensures.refused
