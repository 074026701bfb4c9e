use Rattle.std.proofs.Common.{Some, ap, sym, ◌∙◌}
use Rattle.std.proofs.lemmas.Result.{err_from_is_err_and}
use Rattle.serde_json.specs.View.{view}
use Rattle.xds_resource.specs.declared.types.TypeName.TheVariants.{Cluster, Endpoint, Listener, Route, Secret}
use Rattle.xds_resource.proofs.Naming.{IsRefused-front, IsRefused-untyped, IsRefused-typed}
use Rattle.xds_resource.proofs.any.AnyResource.parse.Goals as goal

pub returns-in_err-value-clause-refused : goal.returns-in_err-value-clause-refused
returns-in_err-value-clause-refused c =
    let p = err_from_is_err_and c.from_residual.result c.from_residual.ensures.1 in
    rw (p.1, p.2) (λ other. IsRefused-front c.args.text.now _ (c.in_err-value.ensures.given other))

pub returns-in_default-clause-refused : goal.returns-in_default-clause-refused
returns-in_default-clause-refused c = λ _. IsRefused-untyped c.args.text.now (view c.in_ok-value.value) c.in_ok-value.ensures.reads (sym c.in_default.ensures)

pub returns-in_err-of_object-in-Cluster-clause-refused :
    goal.returns-in_err-of_object-in-Cluster-clause-refused
returns-in_err-of_object-in-Cluster-clause-refused c =
    let p = err_from_is_err_and c.from_residual-in_err-of_object-in-Cluster.result c.from_residual-in_err-of_object-in-Cluster.ensures.1 in
    rw (p.1, p.2)
    (λ other. IsRefused-typed c.args.text.now (view c.in_ok-value.value) Cluster _ c.in_ok-value.ensures.reads (sym c.in-Some.ensures ∙ ap Some c.in-Cluster.is)
    (c.in_err-of_object-in-Cluster.ensures.of_text c.args.text.now c.in_ok-value.ensures.reads other))

pub returns-in_err-of_object-in-Endpoint-clause-refused :
    goal.returns-in_err-of_object-in-Endpoint-clause-refused
returns-in_err-of_object-in-Endpoint-clause-refused c =
    let p = err_from_is_err_and c.from_residual-in_err-of_object-in-Endpoint.result c.from_residual-in_err-of_object-in-Endpoint.ensures.1 in
    rw (p.1, p.2)
    (λ other. IsRefused-typed c.args.text.now (view c.in_ok-value.value) Endpoint _ c.in_ok-value.ensures.reads (sym c.in-Some.ensures ∙ ap Some c.in-Endpoint.is)
    (c.in_err-of_object-in-Endpoint.ensures.of_text c.args.text.now c.in_ok-value.ensures.reads other))

pub returns-in_err-of_object-in-Listener-clause-refused :
    goal.returns-in_err-of_object-in-Listener-clause-refused
returns-in_err-of_object-in-Listener-clause-refused c =
    let p = err_from_is_err_and c.from_residual-in_err-of_object-in-Listener.result c.from_residual-in_err-of_object-in-Listener.ensures.1 in
    rw (p.1, p.2)
    (λ other. IsRefused-typed c.args.text.now (view c.in_ok-value.value) Listener _ c.in_ok-value.ensures.reads (sym c.in-Some.ensures ∙ ap Some c.in-Listener.is)
    (c.in_err-of_object-in-Listener.ensures.of_text c.args.text.now c.in_ok-value.ensures.reads other))

pub returns-in_err-of_object-in-Route-clause-refused :
    goal.returns-in_err-of_object-in-Route-clause-refused
returns-in_err-of_object-in-Route-clause-refused c =
    let p = err_from_is_err_and c.from_residual-in_err-of_object-in-Route.result c.from_residual-in_err-of_object-in-Route.ensures.1 in
    rw (p.1, p.2)
    (λ other. IsRefused-typed c.args.text.now (view c.in_ok-value.value) Route _ c.in_ok-value.ensures.reads (sym c.in-Some.ensures ∙ ap Some c.in-Route.is)
    (c.in_err-of_object-in-Route.ensures.of_text c.args.text.now c.in_ok-value.ensures.reads other))

pub returns-in_err-of_object-in-Secret-clause-refused :
    goal.returns-in_err-of_object-in-Secret-clause-refused
returns-in_err-of_object-in-Secret-clause-refused c =
    let p = err_from_is_err_and c.from_residual-in_err-of_object-in-Secret.result c.from_residual-in_err-of_object-in-Secret.ensures.1 in
    rw (p.1, p.2)
    (λ other. IsRefused-typed c.args.text.now (view c.in_ok-value.value) Secret _ c.in_ok-value.ensures.reads (sym c.in-Some.ensures ∙ ap Some c.in-Secret.is)
    (c.in_err-of_object-in-Secret.ensures.of_text c.args.text.now c.in_ok-value.ensures.reads other))
