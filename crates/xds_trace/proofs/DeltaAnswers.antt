-- That a delta response says what its offer says.
use Rattle.std.proofs.Common.{◌≡◌, ℕ, List, [], ◌∷◌, map, Bool, true, false, ◌&&◌, ◌||◌, Some, refl, sym, ap, subst, ◌∙◌}
use Rattle.std.proofs.Math.Bool.{or-true}
use Rattle.std.specs.Prelude.{is_some, bytes_eq, option_map}
use Rattle.std.specs.Option.{option_and_then}
use Rattle.std.specs.List.{filter, filter_map, cons_option}
use Rattle.std.specs.FinMap as finmap
use Rattle.xds_resource.specs.declared.types.TypeName.{TypeName}
use Rattle.xds_resource.specs.Writes.{StampedWrite, version_of}
use Rattle.xds_resource.proofs.NameMaps.{has_text, has_text-keys, bytes_eq_tells, bytes_eq_same}
use Rattle.xds_resource.proofs.MadeMaps.{EachFound, each_found}
use Rattle.xds_interest.specs.Interests.{Selection, covers, has_name}
use Rattle.xds_catalogue.specs.Holdings.{Entries}
use Rattle.xds_ledger.specs.declared.variant.VariantName.TheVariants.{Delta}
use Rattle.xds_ledger.specs.declared.entry.Due.{Due}
use Rattle.xds_ledger.specs.declared.entry.Due.TheVariants.{Stated, Removed}
use Rattle.xds_ledger.specs.Owed.{Beliefs}
use Rattle.xds_ledger.specs.Offers.{Offer, offer}
use Rattle.xds_sessions.specs.DeltaPolls.{is_statement, is_removal, resource_of, resource_at}
use Rattle.xds_check.specs.Answers.{Statement}
use Rattle.xds_ledger.proofs.SomethingOwed.{is_some_of}
use Rattle.xds_trace.specs.Making.{Naming, labelled_of}
use Rattle.xds_trace.proofs.Offering.{shown_by, stated_is_present}
use Rattle.xds_trace.proofs.Answering.{IsRight, AllRight, IsKept, name_kept, body_kept, names_of}

module _ (named : Naming) (t : TypeName) (m : Entries) (s : Selection) (b : Beliefs) (kept : IsKept named t m) where
  abbrev delta_offer : Offer
  delta_offer = offer Delta t s m b

  abbrev states : List ℕ × Due → Bool
  states e = is_statement e.1

  abbrev removes : List ℕ × Due → Bool
  removes e = is_removal e.1

  abbrev names_in : (List ℕ × Due → Bool) → List (List ℕ × Due) → List (List ℕ)
  names_in says es = map (λ (e : List ℕ × Due). e.0) (filter says es)

  abbrev stated_from : List (List ℕ × Due) → List Statement
  stated_from es = map (labelled_of named t) (filter_map (resource_at m) (names_in states es))

  -- what is stated of a name
  abbrev statement_at : List ℕ → StampedWrite → List ℕ → Statement
  statement_at q w body = labelled_of named t (record { name = w.name; version = version_of w; body = body })

  -- a name that is stated has a live write
  pub record IsStated (q : List ℕ) : Type 0 where
    pub write : StampedWrite
    pub body : List ℕ
    pub found : finmap.get m q ≡ Some write
    pub body_is : write.body ≡ Some body
    pub covered : covers s q write.groups ≡ true
    pub stated : finmap.get delta_offer q ≡ Some (Stated (version_of write))

  is_stated : (q version : List ℕ) → finmap.get delta_offer q ≡ Some (Stated version) → IsStated q
  is_stated q version is =
      let shown = shown_by s q (finmap.get m q) version (stated_is_present Delta t s m b q version is) in
      let body = is_some_of shown.write.body shown.live in
      record { write = shown.write; body = body.0; found = shown.found; body_is = body.1; covered = shown.covered; stated = is ∙ ap (λ v. Some (Stated v)) shown.version_is }

  resource_is : (q : List ℕ) (x : IsStated q) → resource_at m q ≡ Some (record { name = x.write.name; version = version_of x.write; body = x.body })
  resource_is q x =
      ap (option_and_then resource_of) x.found ∙ ap (option_map (λ body. record { name = x.write.name; version = version_of x.write; body = body })) x.body_is

  called_is : (q : List ℕ) (x : IsStated q) → named t x.body ≡ q
  called_is q x = body_kept kept q x.body x.write x.found x.body_is ∙ name_kept kept q x.write x.found

  right_is : (q : List ℕ) (x : IsStated q) → IsRight m s delta_offer (statement_at q x.write x.body)
  right_is q x =
      let called = called_is q x in record {
        write = x.write;
        found = ap (finmap.get m) called ∙ x.found;
        body = x.body_is;
        covered = ap (λ name. covers s name x.write.groups) called ∙ x.covered;
        label = (λ i. bytes_eq_same x.write.name i && bytes_eq_same (version_of x.write) i);
        stated = ap (finmap.get delta_offer) called ∙ x.stated;
      }

  with_first : (q : List ℕ) (x : IsStated q) (names : List (List ℕ))
      → map (labelled_of named t) (filter_map (resource_at m) (q ∷ names)) ≡ statement_at q x.write x.body ∷ map (labelled_of named t) (filter_map (resource_at m) names)
  with_first q x names = ap (λ o. map (labelled_of named t) (cons_option o (filter_map (resource_at m) names))) (resource_is q x)

  right_next : (q : List ℕ) (d : Due) (es : List (List ℕ × Due)) → finmap.get delta_offer q ≡ Some d → AllRight m s delta_offer (stated_from es) → AllRight m s delta_offer (stated_from ((q, d) ∷ es))
  right_next q (Stated version) es found right =
      let x = is_stated q version found in subst (AllRight m s delta_offer) (sym (with_first q x (names_in states es))) (right_is q x, right)
  right_next q Removed es found right = right

  right_from : (es : List (List ℕ × Due)) → EachFound delta_offer es → AllRight m s delta_offer (stated_from es)
  right_from [] found = tt
  right_from (e ∷ es) found = right_next e.0 e.1 es found.0 (right_from es found.1)

  -- rule: best-writes
  pub delta_right : AllRight m s delta_offer (stated_from (finmap.entries delta_offer))
  delta_right = right_from (finmap.entries delta_offer) (each_found delta_offer)

  -- ---- removed names

  removed_next : (q name : List ℕ) (d : Due) (es : List (List ℕ × Due)) (same : Bool) → bytes_eq name q ≡ same → finmap.get delta_offer q ≡ Some d
      → (has_name (names_in removes es) name ≡ true → finmap.get delta_offer name ≡ Some Removed) → has_name (names_in removes ((q, d) ∷ es)) name ≡ true → finmap.get delta_offer name ≡ Some Removed
  removed_next q name (Stated version) es same is found rest among = rest among
  removed_next q name Removed es true is found rest among = ap (finmap.get delta_offer) (bytes_eq_tells name q is) ∙ found
  removed_next q name Removed es false is found rest among = rest (ap (λ b. b || has_name (names_in removes es) name) (sym is) ∙ among)

  removed_from : (es : List (List ℕ × Due)) → EachFound delta_offer es → (name : List ℕ) → has_name (names_in removes es) name ≡ true → finmap.get delta_offer name ≡ Some Removed
  removed_from [] found name among = absurd cc
  removed_from (e ∷ es) found name among = removed_next e.0 name e.1 es (bytes_eq name e.0) refl found.0 (removed_from es found.1 name) among

  -- rule: no-live-removal
  pub delta_removed : (name : List ℕ) → has_name (names_in removes (finmap.entries delta_offer)) name ≡ true → finmap.get delta_offer name ≡ Some Removed
  delta_removed name among = removed_from (finmap.entries delta_offer) (each_found delta_offer) name among

  -- ---- that each name is told

  abbrev told_by : List (List ℕ × Due) → List ℕ → Bool
  told_by es name = has_name (names_of (stated_from es)) name || has_name (names_in removes es) name

  told_first : (q name : List ℕ) (d : Due) (es : List (List ℕ × Due)) → finmap.get delta_offer q ≡ Some d → name ≡ q → told_by ((q, d) ∷ es) name ≡ true
  told_first q name (Stated version) es found same =
      let x = is_stated q version found in
      ap (λ l. has_name (names_of l) name || has_name (names_in removes es) name) (with_first q x (names_in states es))
      ∙ ap (λ b. (b || has_name (names_of (stated_from es)) name) || has_name (names_in removes es) name) (ap (bytes_eq name) (called_is q x) ∙ ap (λ n. bytes_eq n q) same ∙ bytes_eq_same q)
  told_first q name Removed es found same =
      ap (λ b. has_name (names_of (stated_from es)) name || (b || has_name (names_in removes es) name)) (ap (λ n. bytes_eq n q) same ∙ bytes_eq_same q) ∙ or-true (has_name (names_of (stated_from es)) name)

  or_more : (a b c : Bool) → (b || c) ≡ true → ((a || b) || c) ≡ true
  or_more true b c is = refl
  or_more false b c is = is

  or_between : (a b c : Bool) → (a || c) ≡ true → (a || (b || c)) ≡ true
  or_between true b c is = refl
  or_between false b c is = ap (λ x. b || x) is ∙ or-true b

  told_later : (q name : List ℕ) (d : Due) (es : List (List ℕ × Due)) → finmap.get delta_offer q ≡ Some d → told_by es name ≡ true → told_by ((q, d) ∷ es) name ≡ true
  told_later q name (Stated version) es found rest =
      let x = is_stated q version found in
      ap (λ l. has_name (names_of l) name || has_name (names_in removes es) name) (with_first q x (names_in states es))
      ∙ or_more (bytes_eq name (named t x.body)) (has_name (names_of (stated_from es)) name) (has_name (names_in removes es) name) rest
  told_later q name Removed es found rest = or_between (has_name (names_of (stated_from es)) name) (bytes_eq name q) (has_name (names_in removes es) name) rest

  told_next : (e : List ℕ × Due) (name : List ℕ) (es : List (List ℕ × Due)) (same : Bool) → bytes_eq name e.0 ≡ same → finmap.get delta_offer e.0 ≡ Some e.1
      → (has_text (map (λ x. x.0) es) name ≡ true → told_by es name ≡ true) → (same || has_text (map (λ x. x.0) es) name) ≡ true → told_by (e ∷ es) name ≡ true
  told_next e name es true is found rest among = told_first e.0 name e.1 es found (bytes_eq_tells name e.0 is)
  told_next e name es false is found rest among = told_later e.0 name e.1 es found (rest among)

  told_from : (name : List ℕ) (es : List (List ℕ × Due)) → EachFound delta_offer es → has_text (map (λ x. x.0) es) name ≡ true → told_by es name ≡ true
  told_from name [] found among = absurd cc
  told_from name (e ∷ es) found among = told_next e name es (bytes_eq name e.0) refl found.0 (told_from name es found.1) among

  pub delta_tells : (name : List ℕ) → is_some (finmap.get delta_offer name) ≡ true → told_by (finmap.entries delta_offer) name ≡ true
  delta_tells name said = told_from name (finmap.entries delta_offer) (each_found delta_offer) (has_text-keys delta_offer name ∙ said)
