use Rattle.std.proofs.Common.{◌≡◌, [], ◌∷◌, ◌++◌, sym, ap, ◌∙◌, subst, append_assoc}
use Rattle.std.specs.List.Sorted.{IsStrictlySortedBy}
use Rattle.std.specs.Map.{keys_of}
use Rattle.std.specs.String.{string_cmp}
use Rattle.xds_json.proofs.VersionLemmas.{Pair, text_put_last}
use Rattle.xds_json.proofs.versions.members_of.Goals as goal

pub loop-name-preserved : goal.loop-name-preserved
loop-name-preserved c =
    let done = c.loop-name.invariant.0 in
    let e : Pair = (c.in-Some.name.now, c.in-Some.version.now) in
    let left = c.next.new.self in
    let all : c.args.entries.now.entries ≡ done ++ e ∷ left = c.loop-name.invariant.1 ∙ ap (λ es. done ++ es) c.in-Some.ensures.steps in
    let last = text_put_last done e left (subst (λ es. IsStrictlySortedBy string_cmp (keys_of es)) all c.iter-name-items.ensures.ordered) in
    (done ++ e ∷ [], all ∙ sym (append_assoc done (e ∷ []) left), c.in_ok-put.ensures.ok ∙ rw (c.as_str-in-loop-name.ensures.value, c.in_ok-value.ensures, c.as_str.ensures.value, c.loop-name.invariant.2) last)
