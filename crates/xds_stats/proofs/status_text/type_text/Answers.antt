use Rattle.std.proofs.Common.{◌≡◌, ◌++◌, ◌∙◌, ℕ, List, codes, decimal}
use Rattle.xds_resource.specs.Types.{row}
use Rattle.xds_stats.specs.Statuses.{rejected_json, state_json, told_json}
use Rattle.xds_stats.proofs.status_text.type_text.Goals as goal

-- a text that was put together of some parts is that of equal parts
same_text : (kind word names told sent rejected reason state since text : List ℕ) → kind ≡ word → told ≡ sent → rejected ≡ reason → state ≡ since
    → text ≡ codes "{\"type\":\"" ++ (kind ++ (codes "\",\"names\":" ++ (names ++ (codes "," ++ (told ++ (codes "," ++ (rejected ++ (codes "," ++ (state ++ codes "}")))))))))
    → text ≡ codes "{\"type\":\"" ++ (word ++ (codes "\",\"names\":" ++ (names ++ (codes "," ++ (sent ++ (codes "," ++ (reason ++ (codes "," ++ (since ++ codes "}")))))))))
same_text kind word names told sent rejected reason state since text a b d e is =
    is ∙ (λ i. codes "{\"type\":\"" ++ (a i ++ (codes "\",\"names\":" ++ (names ++ (codes "," ++ (b i ++ (codes "," ++ (d i ++ (codes "," ++ (e i ++ codes "}"))))))))))

pub returns : goal.returns
returns c =
    same_text c.word-kind.result.now (row c.args.kind).word (decimal c.args.status.now.names) c.as_str-told.result.now (told_json c.args.status.now)
    c.as_str-rejected.result.now (rejected_json c.args.status.now) c.as_str-state.result.now (state_json c.args.status.now c.args.since.now) _
    c.word-kind.ensures (c.as_str-told.ensures.value ∙ c.in_ok-told.ensures) (c.as_str-rejected.ensures.value ∙ c.in_ok-rejected.ensures)
    (c.as_str-state.ensures.value ∙ c.in_ok-state.ensures) c.in_ok-format.ensures.ok
