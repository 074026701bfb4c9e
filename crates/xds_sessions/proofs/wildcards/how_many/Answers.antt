use Rattle.std.proofs.Common.{length, sym, ap, ◌∙◌}
use Rattle.std.specs.FinMap as finmap
use Rattle.std.proofs.lemmas.List.{length-map}
use Rattle.xds_sessions.proofs.wildcards.how_many.Goals as goal

pub returns : goal.returns
returns g c = c.len.ensures.value ∙ sym (length-map c.iter.result _) ∙ ap length c.iter.ensures ∙ sym (finmap.len-entries c.args.kept.now)
