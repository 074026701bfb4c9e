use Rattle.std.proofs.Common.{◌≡◌, ◌-◌, ◌<◌, ◌≤◌, suc, length, get_or, drop, Less, nat_cmp, subst, sym, ap, ◌∙◌, arith}
use Rattle.std.proofs.lemmas.List.{drop_all}
use Rattle.std.specs.Cmp.Lexicographic.{slice_cmp}
use Rattle.xds_json.proofs.Places.{AreBehind, back, get_or_any, one_back}
use Rattle.xds_json.proofs.reading.place_of.Goals as goal

pub places-init : goal.places-init
places-init c =
    let es = c.args.found.now.items in
    let all : length es ≤ c.len-at.result = omega arith in
    (omega arith, subst (AreBehind c.args.key.now) (sym (drop_all c.len-at.result es all)) tt)

pub returns-then-at-eq0 : goal.returns-then-at-eq0
returns-then-at-eq0 c =
    let es = c.args.found.now.items in
    let none : c.places.at ≡ 0 = omega arith in
    record { within = omega arith; after = λ i is e. absurd (omega (arith, is)); before = subst (λ n. AreBehind c.args.key.now (drop n es)) none c.places.invariant.1 }

pub returns-in-Greater : goal.returns-in-Greater
returns-in-Greater c =
    let es = c.args.found.now.items in
    let key = c.args.key.now in
    let last = c.index-last.result.now in
    let i = c.places.at - 1 in
    let there : slice_cmp nat_cmp last.0.now key ≡ Less = back key last.0.now (sym c.cmp.ensures ∙ c.in-Greater.is) in
    let within : i < length es = omega (arith, c.places.invariant.0) in
    record {
      within = c.places.invariant.0;
      after = λ j is e.
          let same : j ≡ i = omega (arith, is) in
          let here : get_or es j e ≡ last = ap (λ n. get_or es n e) same ∙ get_or_any es i e last within ∙ sym c.index-last.ensures in
          subst (λ x. slice_cmp nat_cmp x.0.now key ≡ Less) (sym here) there;
      before = c.places.invariant.1;
    }

pub places-preserved : goal.places-preserved
places-preserved c =
    let es = c.args.found.now.items in
    let key = c.args.key.now in
    let last = c.index-last.result.now in
    let i = c.places.at - 1 in
    let before : slice_cmp nat_cmp key last.0.now ≡ Less = sym c.cmp.ensures ∙ c.in-Less.is in
    let within : i < length es = omega (arith, c.places.invariant.0) in
    let next : c.places.at ≡ suc i = omega arith in
    (omega (arith, c.places.invariant.0), one_back key es i last within (subst (λ x. slice_cmp nat_cmp key x.0.now ≡ Less) c.index-last.ensures before) (subst (λ n. AreBehind key (drop n es)) next c.places.invariant.1))
