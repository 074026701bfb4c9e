use Rattle.std.proofs.Common.{Some, sym, ap, ◌∙◌}
use Rattle.std.specs.Prelude.{is_some}
use Rattle.std.specs.Option.{option_map}
use Rattle.std.specs.FinMap as finmap
use Rattle.xds_resource.specs.Types.{types}
use Rattle.xds_events.specs.Streams.{first_due}
use Rattle.xds_core.specs.Talks.{Followed}
use Rattle.xds_core.proofs.FirstDue.{due_is}
use Rattle.xds_core.proofs.Fitting.{looked}
use Rattle.xds_core.proofs.replica.Core.due.Goals as goal

pub sends-requires : goal.sends-requires
sends-requires c = c.self.invariant.fitting.fits c.args.number c.in_ok-stream.stream.now (sym c.get.ensures ∙ ap (option_map (λ s. s.now)) c.in_ok-stream.was)

pub returns : goal.returns
returns c =
    ap Some (c.sends.ensures ∙ due_is c.self.inside.held c.in_ok-stream.stream.now.stream)
    ∙ ap (option_map (λ k. is_some (first_due c.self.inside.held k.stream types))) (sym (ap (option_map (λ s. s.now)) c.in_ok-stream.was))
    ∙ looked c.self.inside.streams c.args.self.now.streams c.args.number (λ s. is_some (first_due c.self.inside.held s types)) (option_map (λ s. s.now) c.get.result) (ap (λ k. k.streams) c.self.view_is) c.get.ensures
    ∙ ap (λ k. option_map (λ s. is_some (first_due k.store s types)) (finmap.get c.args.self.now.streams c.args.number)) c.self.view_is

pub returns-in_err-stream : goal.returns-in_err-stream
returns-in_err-stream c =
    c.from_residual.ensures
    ∙ sym (ap (option_map (λ (k : Followed). is_some (first_due c.self.inside.held k.stream types))) (ap (option_map (λ s. s.now)) c.in_err-stream.was))
    ∙ looked c.self.inside.streams c.args.self.now.streams c.args.number (λ s. is_some (first_due c.self.inside.held s types)) (option_map (λ s. s.now) c.get.result) (ap (λ k. k.streams) c.self.view_is) c.get.ensures
    ∙ ap (λ k. option_map (λ s. is_some (first_due k.store s types)) (finmap.get c.args.self.now.streams c.args.number)) c.self.view_is
