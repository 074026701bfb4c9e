use Rattle.std.proofs.Common.{◌≡◌, ◌++◌, ◌∙◌, ℕ, List, codes, decimal}
use Rattle.xds_stats.specs.Statuses.{client_json, variant_word}
use Rattle.xds_stats.proofs.status_text.stream_text.Goals as goal

-- a text that was put together of some parts is that of equal parts
same_text : (stream client named variant word since types text : List ℕ) → client ≡ named → variant ≡ word
    → text ≡ codes "{\"stream\":" ++ (stream ++ (codes "," ++ (client ++ (codes ",\"variant\":\"" ++ (variant ++ (codes "\",\"since\":\"" ++ (since ++ (codes "\",\"types\":[" ++ (types ++ codes "]}")))))))))
    → text ≡ codes "{\"stream\":" ++ (stream ++ (codes "," ++ (named ++ (codes ",\"variant\":\"" ++ (word ++ (codes "\",\"since\":\"" ++ (since ++ (codes "\",\"types\":[" ++ (types ++ codes "]}")))))))))
same_text stream client named variant word since types text told worded is =
    is ∙ (λ i. codes "{\"stream\":" ++ (stream ++ (codes "," ++ (told i ++ (codes ",\"variant\":\"" ++ (worded i ++ (codes "\",\"since\":\"" ++ (since ++ (codes "\",\"types\":[" ++ (types ++ codes "]}"))))))))))

pub returns : goal.returns
returns c =
    same_text (decimal c.args.stream) c.as_str-client.result.now (client_json c.args.status.now) c.variant_word-variant.result.now
    (variant_word c.args.status.now.variant) c.args.since.now c.args.types.now _ (c.as_str-client.ensures.value ∙ c.in_ok-client.ensures) c.variant_word-variant.ensures
    c.in_ok-format.ensures.ok
