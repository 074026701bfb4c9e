use Rattle.std.proofs.Common.{◌≡◌, ◌⊎◌, ◌<◌, ◌∙◌, List, length, get_or, map, subst}
use Rattle.std.specs.Prelude.{All, IfErr}
use Rattle.xds_resource.specs.declared.refusal.Refusal.TheVariants.{OutOfMemory, FrameTooLong}
use Rattle.xds_resource.proofs.Refusing.{err_is}
use Rattle.xds_message.specs.Messages.{Request}
use Rattle.xds_client.specs.declared.subscription.StreamVariant.TheVariants.{Sotw}
use Rattle.xds_client.specs.Subscribing.{Fits, sotw_text}
use Rattle.xds_client.proofs.Askings.{one_asked, one_untellable}
use Rattle.xds_client.proofs.opening.sotw_frames.Goals as goal

pub returns-in_err-push_asking-clause-refused : goal.returns-in_err-push_asking-clause-refused
returns-in_err-push_asking-clause-refused c =
    let x = c.request-item.result in
    let i = c.loop-request.request-index in
    let within = subst (λ (l : List Request). i < length l) c.deref-request-items.ensures.value c.loop-request-test.true in
    let at = subst (λ (l : List Request). x ≡ get_or l i x) c.deref-request-items.ensures.value c.request-item.is in
    let exit = c.in_err-push_asking in
    err_is (λ r. IfErr r (λ e. (e ≡ OutOfMemory) ⊎ ((e ≡ FrameTooLong) × ¬ All (Fits Sotw) (map sotw_text c.args.requests.now.items)))) c.from_residual-in_err-push_asking.result exit.field-0.0
    c.from_residual-in_err-push_asking.ensures.1
    (one_untellable Sotw sotw_text c.args.requests.now.items i x c.as_str.result.now within at (c.as_str.ensures.value ∙ c.in_ok-text.ensures.text)
    exit.field-0.0 exit.ensures.refused)

pub loop-request-preserved : goal.loop-request-preserved
loop-request-preserved c =
    let x = c.request-item.result in
    let i = c.loop-request.request-index in
    let within = subst (λ (l : List Request). i < length l) c.deref-request-items.ensures.value c.loop-request-test.true in
    let at = subst (λ (l : List Request). x ≡ get_or l i x) c.deref-request-items.ensures.value c.request-item.is in
    one_asked Sotw sotw_text c.args.requests.now.items i x c.as_str.result.now within at (c.as_str.ensures.value ∙ c.in_ok-text.ensures.text)
    c.loop-request.bytes.items c.push_asking.new.bytes.items _ _ c.in_ok-push_asking.ensures.pushed c.loop-request.invariant
