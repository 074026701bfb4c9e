use Rattle.std.proofs.Common.{◌≡◌, ◌++◌, ◌∙◌, ℕ, List, codes, decimal}
use Rattle.xds_stats.specs.Html.{client_html}
use Rattle.xds_stats.specs.Statuses.{variant_word}
use Rattle.xds_stats.proofs.html.row_html.Goals as goal

-- a text that was put together of some parts is that of equal parts
same_text : (stream client named variant word since cells text : List ℕ) → client ≡ named → variant ≡ word
    → text ≡ codes "<tr><td>" ++ (stream ++ (codes "</td>" ++ (client ++ (codes "<td>" ++ (variant ++ (codes "</td><td>" ++ (since ++ (codes "</td>" ++ (cells ++ codes "</tr>\n")))))))))
    → text ≡ codes "<tr><td>" ++ (stream ++ (codes "</td>" ++ (named ++ (codes "<td>" ++ (word ++ (codes "</td><td>" ++ (since ++ (codes "</td>" ++ (cells ++ codes "</tr>\n")))))))))
same_text stream client named variant word since cells text told worded is =
    is ∙ (λ i. codes "<tr><td>" ++ (stream ++ (codes "</td>" ++ (told i ++ (codes "<td>" ++ (worded i ++ (codes "</td><td>" ++ (since ++ (codes "</td>" ++ (cells ++ codes "</tr>\n"))))))))))

pub returns : goal.returns
returns c =
    same_text (decimal c.args.stream) c.as_str-client.result.now (client_html c.args.status.now) c.variant_word-variant.result.now
    (variant_word c.args.status.now.variant) c.args.since.now c.args.cells.now _ (c.as_str-client.ensures.value ∙ c.in_ok-client.ensures)
    c.variant_word-variant.ensures c.in_ok-format.ensures.ok
