-- The numbers that changes leave over.
use Rattle.std.proofs.Common.{◌≡◌, ◌⊎◌, inl, inr, ℕ, List, [], ◌∷◌, ◌++◌, Option, Some, None, sym, ap, ◌∙◌}
use Rattle.std.proofs.lemmas.Option.{same_Some}
use Rattle.std.specs.Prelude.{◌↔◌}
use Rattle.std.specs.Option.{option_map}
use Rattle.xds_catalogue.specs.Tables.{NumberedWrite, PutAside, IsAmong, former_number, former_numbers}

-- of one change, that had a number before or none
pub one_left : (o : Option ℕ) (n k : ℕ) → o ≡ Some n → IsAmong k (n ∷ []) ↔ (IsAmong k [] ⊎ (o ≡ Some k))
one_left o n k is = (λ among. elim among [ inl same ↦ inr (is ∙ ap Some (sym same)) | inr none ↦ absurd none ], λ either. elim either [ inl none ↦ absurd none | inr here ↦ inl (same_Some k n (sym here ∙ is)) ])

pub none_left_over : (o : Option ℕ) (k : ℕ) → o ≡ None → IsAmong k [] ↔ (IsAmong k [] ⊎ (o ≡ Some k))
none_left_over o k is = (λ none. absurd none, λ either. elim either [ inl none ↦ none | inr here ↦ absurd cc ])

among_append : (k : ℕ) (ms ns : List ℕ) → IsAmong k (ms ++ ns) ↔ (IsAmong k ms ⊎ IsAmong k ns)
among_append k [] ns = (λ among. inr among, λ either. elim either [ inl none ↦ absurd none | inr among ↦ among ])
among_append k (m ∷ ms) ns = (
  λ among. elim among [
    | inl is ↦ inl (inl is)
    | inr rest ↦ elim ((among_append k ms ns).0 rest) [ inl left ↦ inl (inr left) | inr right ↦ inr right ]
  ],
  λ either. elim either [
    | inl first ↦ elim first [ inl is ↦ inl is | inr left ↦ inr ((among_append k ms ns).1 (inl left)) ]
    | inr right ↦ inr ((among_append k ms ns).1 (inr right))
  ],
)

pub among_former : (k : ℕ) (f : Option NumberedWrite) → IsAmong k (former_number f) ↔ (option_map (λ e. e.change) f ≡ Some k)
among_former k None = (λ none. absurd none, λ e. absurd cc)
among_former k (Some e) = (λ among. elim among [ inl is ↦ ap Some (sym is) | inr none ↦ absurd none ], λ is. inl (same_Some k e.change (sym is)))

former_numbers-push : (ds : List PutAside) (d : PutAside) (k : ℕ) → IsAmong k (former_numbers (ds ++ d ∷ [])) ↔ (IsAmong k (former_numbers ds) ⊎ IsAmong k (former_number d.former))
former_numbers-push [] d k = (
  λ among. elim ((among_append k (former_number d.former) []).0 among) [ inl here ↦ inr here | inr none ↦ absurd none ],
  λ either. elim either [
    | inl none ↦ absurd none
    | inr here ↦ (among_append k (former_number d.former) []).1 (inl here)
  ],
)
former_numbers-push (x ∷ ds) d k =
    let step = among_append k (former_number x.former) (former_numbers (ds ++ d ∷ [])) in
    let whole = among_append k (former_number x.former) (former_numbers ds) in (
      λ among. elim (step.0 among) [
        | inl here ↦ inl (whole.1 (inl here))
        | inr rest ↦ elim ((former_numbers-push ds d k).0 rest) [ inl old ↦ inl (whole.1 (inr old)) | inr new ↦ inr new ]
      ],
      λ either. elim either [
        | inl old ↦ elim (whole.0 old) [ inl here ↦ step.1 (inl here) | inr rest ↦ step.1 (inr ((former_numbers-push ds d k).1 (inl rest))) ]
        | inr new ↦ step.1 (inr ((former_numbers-push ds d k).1 (inr new)))
      ],
    )

-- of one change more
pub one_more_left : (ds : List PutAside) (d : PutAside) (o : Option ℕ) (k : ℕ) → option_map (λ e. e.change) d.former ≡ o → IsAmong k (former_numbers (ds ++ d ∷ [])) ↔ (IsAmong k (former_numbers ds) ⊎ (o ≡ Some k))
one_more_left ds d o k is = (
  λ among. elim ((former_numbers-push ds d k).0 among) [
    | inl old ↦ inl old
    | inr new ↦ inr (sym is ∙ (among_former k d.former).0 new)
  ],
  λ either. elim either [
    | inl old ↦ (former_numbers-push ds d k).1 (inl old)
    | inr here ↦ (former_numbers-push ds d k).1 (inr ((among_former k d.former).1 (is ∙ here)))
  ],
)
