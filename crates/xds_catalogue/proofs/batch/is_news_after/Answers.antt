use Rattle.std.proofs.Common.{sym, ap, ◌∙◌}
use Rattle.std.specs.Prelude.{◌&&◌}
use Rattle.xds_resource.specs.Best.{best}
use Rattle.xds_catalogue.specs.Changes.{surpasses}
use Rattle.xds_catalogue.proofs.Batches.{is_news-both}
use Rattle.xds_catalogue.proofs.batch.is_news_after.Goals as goal

pub returns-then-is_news : goal.returns-then-is_news
returns-then-is_news g c =
    let rest = surpasses c.args.write.now (best c.args.before.now c.args.write.now.name) in
    c.surpasses_all.ensures ∙ ap (λ b. b && rest) (sym (sym c.is_news.ensures ∙ c.if-is_news.true)) ∙ sym (is_news-both c.args.tables.now.named.entries c.args.before.now c.args.write.now c.requires)

pub returns-else-is_news : goal.returns-else-is_news
returns-else-is_news g c =
    let rest = surpasses c.args.write.now (best c.args.before.now c.args.write.now.name) in
    c.if-is_news.false ∙ ap (λ b. b && rest) (sym (sym c.is_news.ensures ∙ c.if-is_news.false)) ∙ sym (is_news-both c.args.tables.now.named.entries c.args.before.now c.args.write.now c.requires)
