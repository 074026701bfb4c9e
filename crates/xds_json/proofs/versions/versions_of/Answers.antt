use Rattle.std.proofs.Common.{◌≡◌, [], ◌∷◌, ◌++◌, None, refl, sym, ap, ◌∙◌, subst, append_assoc}
use Rattle.std.specs.FinMap as finmap
use Rattle.std.specs.List.Sorted.{IsStrictlySortedBy}
use Rattle.std.specs.Map.{keys_of}
use Rattle.std.specs.String.{string_cmp}
use Rattle.serde_json.specs.Find.{as_str}
use Rattle.serde_json.specs.View.{view, members_view}
use Rattle.serde_json.proofs.Views.{Entry, put_last}
use Rattle.xds_json.specs.Versions.{text_members}
use Rattle.xds_json.proofs.VersionLemmas.{entries-empty, text_members-insert, no_text_members}
use Rattle.xds_json.proofs.versions.versions_of.Goals as goal

pub loop-name-init : goal.loop-name-init
loop-name-init c =
    ([], sym (c.into_iter-name-iterator.ensures.into_iter_gives ∙ c.iter-name-items.ensures.rest), ap text_members (sym (ap finmap.entries c.new-versions.ensures ∙ entries-empty)))

pub loop-name-preserved : goal.loop-name-preserved
loop-name-preserved c =
    let done = c.loop-name.invariant.0 in
    let e : Entry = (c.in-Some.name.now, c.in-Some.version.now) in
    let left = c.next.new.self in
    let all : c.args.members.now.entries ≡ done ++ e ∷ left = c.loop-name.invariant.1 ∙ ap (λ es. done ++ es) c.in-Some.ensures.steps in
    let last = put_last done e left (subst (λ es. IsStrictlySortedBy string_cmp (keys_of es)) all c.iter-name-items.ensures.ordered) in
    let stored = rw c.as_str-in-loop-name.ensures.value at c.in_ok-insert.ensures.ok in (
      done ++ e ∷ [],
      all ∙ sym (append_assoc done (e ∷ []) left),
      text_members-insert _ _ _ c.in-Some-as_str.text.now _ c.loop-name.versions c.insert.new.self last c.loop-name.invariant.2 c.in-Some-as_str.ensures stored,
    )

pub returns-in_default : goal.returns-in_default
returns-in_default c = λ other.
    let done = c.loop-name.invariant.0 in
    let e : Entry = (c.in-Some.name.now, c.in-Some.version.now) in
    let all : c.args.members.now.entries ≡ done ++ e ∷ c.next.new.self = c.loop-name.invariant.1 ∙ ap (λ es. done ++ es) c.in-Some.ensures.steps in
    let none : as_str (view c.in-Some.version.now) ≡ None = sym c.in_default.ensures in
    (refl, λ y is. no_text_members done e c.next.new.self none (finmap.entries y) (sym (ap members_view all) ∙ is))
