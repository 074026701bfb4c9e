use Rattle.std.proofs.Common.{◌≡◌, ◌⊎◌, ap, map}
use Rattle.std.specs.Prelude.{IfErr}
use Rattle.xds_resource.specs.declared.refusal.Refusal.TheVariants.{OutOfMemory, FrameTooLong}
use Rattle.xds_resource.proofs.Refusing.{err_is}
use Rattle.xds_client.specs.declared.subscription.StreamVariant.TheVariants.{Sotw, Delta}
use Rattle.xds_client.specs.Subscribing.{OpeningFits, sotw_text, delta_text}
use Rattle.xds_client.proofs.Askings.{unopened}
use Rattle.xds_client.proofs.opening.open.Goals as goal

pub returns-in_err-frames-in-Sotw-clause-refused : goal.returns-in_err-frames-in-Sotw-clause-refused
returns-in_err-frames-in-Sotw-clause-refused c =
    let exit = c.in_err-frames-in-Sotw in
    err_is (λ r. IfErr r (λ e. (e ≡ OutOfMemory) ⊎ ((e ≡ FrameTooLong) × ¬ OpeningFits c.args.wish.now))) c.from_residual-in_err-frames-in-Sotw.result exit.field-0.0 c.from_residual-in_err-frames-in-Sotw.ensures.1
    (unopened c.args.wish.now Sotw _ exit.field-0.0 c.in-Sotw.is (ap (map sotw_text) c.in_ok-client-in-Sotw.ensures.requests) exit.ensures.refused)

pub returns-in_err-frames-in-Delta-clause-refused : goal.returns-in_err-frames-in-Delta-clause-refused
returns-in_err-frames-in-Delta-clause-refused c =
    let exit = c.in_err-frames-in-Delta in
    err_is (λ r. IfErr r (λ e. (e ≡ OutOfMemory) ⊎ ((e ≡ FrameTooLong) × ¬ OpeningFits c.args.wish.now))) c.from_residual-in_err-frames-in-Delta.result exit.field-0.0 c.from_residual-in_err-frames-in-Delta.ensures.1
    (unopened c.args.wish.now Delta _ exit.field-0.0 c.in-Delta.is (ap (map delta_text) c.in_ok-client-in-Delta.ensures.requests) exit.ensures.refused)
