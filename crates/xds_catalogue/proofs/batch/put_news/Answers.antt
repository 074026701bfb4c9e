use Rattle.std.proofs.Common.{◌≡◌, ◌∷◌, [], ◌++◌, sym, ap, subst, ◌∙◌}
use Rattle.xds_catalogue.specs.Tables.{IsSoundBut, former_numbers, held_by, with_write, all_taken_back, with_counts}
use Rattle.xds_catalogue.proofs.Leftovers.{one_more_left}
use Rattle.xds_catalogue.proofs.OneWrite.{joined-news, joined-old}
use Rattle.xds_catalogue.proofs.Sound.{fresh, with_write-sound}
use Rattle.xds_catalogue.proofs.Undoing.{all_taken_back-same, all_taken_back-put}
use Rattle.xds_catalogue.proofs.batch.put_news.Goals as goal

pub put-requires-clause-fresh : goal.put-requires-clause-fresh
put-requires-clause-fresh g c = fresh _ _ c.requires.sound

pub returns-then-not-is_news-clause-joins : goal.returns-then-not-is_news-clause-joins
returns-then-not-is_news-clause-joins g c = sym (joined-old (held_by c.args.tables.now) c.args.write c.requires.sound.named (sym c.is_news.ensures ∙ c.if-not-is_news.true))

pub returns-in_err-put-clause-back : goal.returns-in_err-put-clause-back
returns-in_err-put-clause-back g c = λ changes greatest.
    let t = c.args.tables.now in
    (λ i. with_counts (all_taken_back (c.in_err-put.ensures.err i) (c.in_ok-push.ensures.items i)) changes greatest)
    ∙ all_taken_back-same t c.args.write c.args.displaced.now.items c.in_ok-aside.aside changes greatest c.in_ok-aside.ensures.ok (fresh _ t c.requires.sound)

pub returns-clause-sound : goal.returns-clause-sound
returns-clause-sound g c =
    let t = c.args.tables.now in
    let above = sym c.is_news.ensures ∙ c.if-not-is_news.false in
    let after : with_write t c.args.write ≡ c.put.new.self = sym c.in_ok-put.ensures.ok in
    let pushed : c.args.displaced.now.items ++ c.in_ok-aside.aside ∷ [] ≡ c.push.new.self.items = sym c.in_ok-push.ensures.items in
    subst (IsSoundBut (former_numbers c.push.new.self.items)) after
    (subst (λ ds. IsSoundBut (former_numbers ds) (with_write t c.args.write)) pushed
    (with_write-sound (former_numbers c.args.displaced.now.items) (former_numbers (c.args.displaced.now.items ++ c.in_ok-aside.aside ∷ [])) t c.args.write c.requires.sound (c.requires.room above) c.in_ok-put.ensures.stamped above
    (λ k. one_more_left c.args.displaced.now.items c.in_ok-aside.aside _ k c.in_ok-aside.ensures.ok.change)))

pub returns-clause-joins : goal.returns-clause-joins
returns-clause-joins g c = ap held_by c.in_ok-put.ensures.ok ∙ sym (joined-news (held_by c.args.tables.now) c.args.write c.requires.sound.named (sym c.is_news.ensures ∙ c.if-not-is_news.false))

pub returns-clause-back : goal.returns-clause-back
returns-clause-back g c = λ changes greatest.
    let t = c.args.tables.now in
    (λ i. with_counts (all_taken_back (c.in_ok-put.ensures.ok i) (c.in_ok-push.ensures.items i)) changes greatest)
    ∙ all_taken_back-put t c.args.write c.args.displaced.now.items c.in_ok-aside.aside changes greatest c.in_ok-aside.ensures.ok (fresh _ t c.requires.sound)
