use Rattle.std.proofs.Common.{◌≡◌, ℕ, List, Bor, Option, Some, sym, subst, ap, ◌∙◌}
use Rattle.std.specs.Prelude.{IfOk}
use Rattle.std.specs.Option.{option_map}
use Rattle.std.specs.FinMap as finmap
use Rattle.xds_resource.specs.Names.{put_all}
use Rattle.xds_catalogue.specs.Holdings.{Latest}
use Rattle.xds_ledger.specs.declared.entry.Entry.{Entry}
use Rattle.xds_ledger.specs.Overlay.{Differences}
use Rattle.xds_ledger.specs.Sharing.{base_names}
use Rattle.xds_ledger.proofs.SharedNames.{none_put, put_under}
use Rattle.xds_ledger.proofs.rebasing.believed_where_listed.Goals as goal

pub returns-in-Some-clause-ok : goal.returns-in-Some-clause-ok
returns-in-Some-clause-ok c =
    let held : List ℕ → Option (Option Entry) = λ name. Some (finmap.get c.args.beliefs.now name) in
    let f : List ℕ → ℕ → Option (Option Entry) = λ name number. held name in
    let added = c.names.result.1.now in
    subst (λ x. IfOk c.with_believed-in-Some.result (λ m. m ≡ x))
    (ap (λ (m : Differences). put_all f m (finmap.entries c.in-Some.base.now)) (c.in_ok-all.ensures.ok ∙ ap (λ (m : Differences). put_all f m (finmap.entries added)) c.new-none.ensures)
    ∙ ap (λ (o : Option (Bor Latest)). put_all f (put_all f finmap.empty (finmap.entries added)) (finmap.entries (base_names (option_map (λ m. m.now) o)))) (sym c.in-Some.is)
    ∙ put_under held finmap.empty (option_map (λ m. m.now) c.names.result.0) added ∙ ap (λ (m : Latest). put_all f finmap.empty (finmap.entries m)) c.names.ensures)
    c.with_believed-in-Some.ensures.ok

pub returns-in-None-clause-ok : goal.returns-in-None-clause-ok
returns-in-None-clause-ok c =
    let held : List ℕ → Option (Option Entry) = λ name. Some (finmap.get c.args.beliefs.now name) in
    let f : List ℕ → ℕ → Option (Option Entry) = λ name number. held name in
    let added = c.names.result.1.now in
    c.in_ok-all.ensures.ok ∙ ap (λ (m : Differences). put_all f m (finmap.entries added)) c.new-none.ensures ∙ sym (none_put f (put_all f finmap.empty (finmap.entries added)))
    ∙ ap (λ (o : Option (Bor Latest)). put_all f (put_all f finmap.empty (finmap.entries added)) (finmap.entries (base_names (option_map (λ m. m.now) o)))) (sym c.in-None.is)
    ∙ put_under held finmap.empty (option_map (λ m. m.now) c.names.result.0) added ∙ ap (λ (m : Latest). put_all f finmap.empty (finmap.entries m)) c.names.ensures
