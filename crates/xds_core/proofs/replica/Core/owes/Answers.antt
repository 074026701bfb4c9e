use Rattle.std.proofs.Common.{Some, sym, ap, ◌∙◌}
use Rattle.std.specs.Option.{option_map}
use Rattle.std.specs.FinMap as finmap
use Rattle.xds_events.specs.Streams.{looked_at, owes_some}
use Rattle.xds_core.specs.Talks.{Followed}
use Rattle.xds_core.proofs.Fitting.{looked}
use Rattle.xds_core.proofs.replica.Core.owes.Goals as goal

pub owes-requires : goal.owes-requires
owes-requires c = c.self.invariant.fitting.fits c.args.number c.in_ok-stream.stream.now (sym c.get.ensures ∙ ap (option_map (λ s. s.now)) c.in_ok-stream.was)

pub returns : goal.returns
returns c =
    ap Some c.owes.ensures
    ∙ ap (option_map (λ k. owes_some c.self.inside.held k.stream (looked_at c.args.which))) (sym (ap (option_map (λ s. s.now)) c.in_ok-stream.was))
    ∙ looked c.self.inside.streams c.args.self.now.streams c.args.number (λ s. owes_some c.self.inside.held s (looked_at c.args.which)) (option_map (λ s. s.now) c.get.result) (ap (λ k. k.streams) c.self.view_is) c.get.ensures
    ∙ ap (λ k. option_map (λ s. owes_some k.store s (looked_at c.args.which)) (finmap.get c.args.self.now.streams c.args.number)) c.self.view_is

pub returns-in_err-stream : goal.returns-in_err-stream
returns-in_err-stream c =
    c.from_residual.ensures
    ∙ sym (ap (option_map (λ (k : Followed). owes_some c.self.inside.held k.stream (looked_at c.args.which))) (ap (option_map (λ s. s.now)) c.in_err-stream.was))
    ∙ looked c.self.inside.streams c.args.self.now.streams c.args.number (λ s. owes_some c.self.inside.held s (looked_at c.args.which)) (option_map (λ s. s.now) c.get.result) (ap (λ k. k.streams) c.self.view_is) c.get.ensures
    ∙ ap (λ k. option_map (λ s. owes_some k.store s (looked_at c.args.which)) (finmap.get c.args.self.now.streams c.args.number)) c.self.view_is
