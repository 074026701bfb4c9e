use Rattle.std.proofs.Common.{sym, ap, ◌∙◌}
use Rattle.std.specs.Prelude.{unwrap_or}
use Rattle.std.specs.Option.{option_map}
use Rattle.std.specs.FinMap as finmap
use Rattle.xds_ledger.specs.Overlay.{told_in}
use Rattle.xds_ledger.proofs.Overlaying.{believed_at}
use Rattle.xds_ledger.proofs.believed.Beliefs.get.Goals as goal

pub returns-in-Some : goal.returns-in-Some
returns-in-Some c =
    let q = c.args.name.now in
    c.by_difference.ensures ∙ ap (λ o. unwrap_or o (told_in c.self.inside.base q)) (sym (ap (option_map (λ v. v.now)) c.in-Some.is) ∙ c.get.ensures)
    ∙ sym (believed_at c.self.inside.base c.self.inside.changed q) ∙ ap (λ m. finmap.get m q) c.self.view_is

pub returns-in-None : goal.returns-in-None
returns-in-None c =
    let q = c.args.name.now in
    c.told_in.ensures ∙ ap (λ o. unwrap_or o (told_in c.self.inside.base q)) (sym (ap (option_map (λ v. v.now)) c.in-None.is) ∙ c.get.ensures)
    ∙ sym (believed_at c.self.inside.base c.self.inside.changed q) ∙ ap (λ m. finmap.get m q) c.self.view_is
