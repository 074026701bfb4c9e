-- That a response says what its offer says: what it states are live writes of the catalogue that the interest covers, with their
-- bodies and labels; what it removes is what the offer removes; and it tells of each name of which the offer does.
use Rattle.std.proofs.Common.{◌≡◌, ℕ, List, [], ◌∷◌, map, Bool, true, false, ◌&&◌, ◌||◌, Option, Some, None, refl, sym, ap, subst, ◌∙◌}
use Rattle.std.proofs.Math.Bool.{or-true}
use Rattle.std.specs.Prelude.{if◌then◌else◌, is_some, bytes_eq, IfSome, ⊤}
use Rattle.std.specs.Option.{option_map_or}
use Rattle.std.specs.List.{filter, filter_map, cons_option}
use Rattle.std.specs.FinMap as finmap
use Rattle.xds_resource.specs.declared.types.TypeName.{TypeName}
use Rattle.xds_resource.specs.Writes.{StampedWrite, version_of}
use Rattle.xds_resource.proofs.NameMaps.{has_text, has_text-keys, bytes_eq_tells, bytes_eq_same}
use Rattle.xds_resource.proofs.MadeMaps.{EachFound, each_found}
use Rattle.xds_interest.specs.Interests.{Selection, covers, has_name}
use Rattle.xds_interest.proofs.Choices.{and_first, and_second}
use Rattle.xds_catalogue.specs.Holdings.{Entries, IsCatalogue}
use Rattle.xds_catalogue.specs.Content.{is_live, is_shown}
use Rattle.xds_ledger.specs.declared.variant.VariantName.TheVariants.{StateOfTheWorld}
use Rattle.xds_ledger.specs.declared.entry.Due.TheVariants.{Stated}
use Rattle.xds_ledger.specs.Owed.{Beliefs}
use Rattle.xds_ledger.specs.Offers.{Offer, offer}
use Rattle.xds_check.specs.Answers.{Statement}
use Rattle.xds_check.specs.Rules.{is_label_of}
use Rattle.xds_ledger.proofs.SomethingOwed.{is_some_of}
use Rattle.xds_trace.specs.Making.{Naming, IsCalled, statement_of}
use Rattle.xds_trace.proofs.Offering.{shown_by, present_by, present_is_stated, sotw_is_present}

-- a resource of a response is that of a live write which the interest covers, and the offer states its version
pub record IsRight (m : Entries) (s : Selection) (o : Offer) (x : Statement) : Type 0 where
  pub write : StampedWrite
  pub found : finmap.get m x.name ≡ Some write
  pub body : write.body ≡ Some x.body
  pub covered : covers s x.name write.groups ≡ true
  pub label : option_map_or (is_label_of write) x.label true ≡ true
  pub stated : finmap.get o x.name ≡ Some (Stated (version_of write))

abbrev pub AllRight : Entries → Selection → Offer → List Statement → Type 0
AllRight m s o [] = ⊤
AllRight m s o (x ∷ xs) = IsRight m s o x × AllRight m s o xs

abbrev pub names_of : List Statement → List (List ℕ)
names_of xs = map (λ x. x.name) xs

-- what is held of a name: the write has that name, and so has its body
pub record IsKept (named : Naming) (t : TypeName) (m : Entries) : Type 0 where
  pub catalogue : IsCatalogue m
  pub called : (q : List ℕ) → IfSome (finmap.get m q) (IsCalled named t)

module _ {named : Naming} {t : TypeName} {m : Entries} (kept : IsKept named t m) where
  pub name_kept : (q : List ℕ) (w : StampedWrite) → finmap.get m q ≡ Some w → w.name ≡ q
  name_kept q w found = subst (λ o. IfSome o (λ v. v.name ≡ q)) found (kept.catalogue q)

  pub body_kept : (q body : List ℕ) (w : StampedWrite) → finmap.get m q ≡ Some w → w.body ≡ Some body → named t body ≡ w.name
  body_kept q body w found is = subst (λ o. IfSome o (λ b. named t b ≡ w.name)) is (subst (λ o. IfSome o (IsCalled named t)) found (kept.called q))

-- ---- state of the world

module _ (named : Naming) (t : TypeName) (m : Entries) (s : Selection) (b : Beliefs) (kept : IsKept named t m) where
  abbrev sotw_offer : Offer
  sotw_offer = offer StateOfTheWorld t s m b

  abbrev spoken : StampedWrite → Bool
  spoken w = is_some (finmap.get sotw_offer w.name)

  -- the resources that the writes behind some entries are stated as
  abbrev stated_from : List (List ℕ × StampedWrite) → List Statement
  stated_from es = map (statement_of named t) (filter_map (λ (w : StampedWrite). w.body) (filter spoken (filter (is_shown s) (map (λ (e : List ℕ × StampedWrite). e.1) es))))

  abbrev next : Bool → Bool → Option (List ℕ) → List Statement → List Statement
  next true true (Some body) rest = statement_of named t body ∷ rest
  next true true None rest = rest
  next true false body rest = rest
  next false said body rest = rest

  stated_body : (body : Option (List ℕ)) (bodies : List (List ℕ)) → map (statement_of named t) (cons_option body bodies) ≡ next true true body (map (statement_of named t) bodies)
  stated_body None bodies = refl
  stated_body (Some x) bodies = refl

  stated_next : (w : StampedWrite) (es : List (List ℕ × StampedWrite)) (shown said : Bool) → is_shown s w ≡ shown → spoken w ≡ said
      → map (statement_of named t) (filter_map (λ (v : StampedWrite). v.body) (filter spoken (if is_shown s w then w ∷ filter (is_shown s) (map (λ (e : List ℕ × StampedWrite). e.1) es) else filter (is_shown s) (map (λ (e : List ℕ × StampedWrite). e.1) es))))
      ≡ next shown said w.body (stated_from es)
  stated_next w es true true sh sa =
      ap (λ b. map (statement_of named t) (filter_map (λ (v : StampedWrite). v.body) (filter spoken (if b then w ∷ filter (is_shown s) (map (λ (e : List ℕ × StampedWrite). e.1) es) else filter (is_shown s) (map (λ (e : List ℕ × StampedWrite). e.1) es))))) sh
      ∙ ap (λ b. map (statement_of named t) (filter_map (λ (v : StampedWrite). v.body) (if b then w ∷ filter spoken (filter (is_shown s) (map (λ (e : List ℕ × StampedWrite). e.1) es)) else filter spoken (filter (is_shown s) (map (λ (e : List ℕ × StampedWrite). e.1) es))))) sa
      ∙ stated_body w.body (filter_map (λ (v : StampedWrite). v.body) (filter spoken (filter (is_shown s) (map (λ (e : List ℕ × StampedWrite). e.1) es))))
  stated_next w es true false sh sa =
      ap (λ b. map (statement_of named t) (filter_map (λ (v : StampedWrite). v.body) (filter spoken (if b then w ∷ filter (is_shown s) (map (λ (e : List ℕ × StampedWrite). e.1) es) else filter (is_shown s) (map (λ (e : List ℕ × StampedWrite). e.1) es))))) sh
      ∙ ap (λ b. map (statement_of named t) (filter_map (λ (v : StampedWrite). v.body) (if b then w ∷ filter spoken (filter (is_shown s) (map (λ (e : List ℕ × StampedWrite). e.1) es)) else filter spoken (filter (is_shown s) (map (λ (e : List ℕ × StampedWrite). e.1) es))))) sa
  stated_next w es false said sh sa =
      ap (λ b. map (statement_of named t) (filter_map (λ (v : StampedWrite). v.body) (filter spoken (if b then w ∷ filter (is_shown s) (map (λ (e : List ℕ × StampedWrite). e.1) es) else filter (is_shown s) (map (λ (e : List ℕ × StampedWrite). e.1) es))))) sh

  right_body : (q body : List ℕ) (w : StampedWrite) → finmap.get m q ≡ Some w → is_shown s w ≡ true → spoken w ≡ true → w.body ≡ Some body → IsRight m s sotw_offer (statement_of named t body)
  right_body q body w found shown said is =
      let same : w.name ≡ q = name_kept kept q w found in
      let called : named t body ≡ w.name = body_kept kept q body w found is in
      let there : finmap.get m w.name ≡ Some w = ap (finmap.get m) same ∙ found in
      let covered : covers s w.name w.groups ≡ true = and_second (is_live w) (covers s w.name w.groups) shown in
      let due = is_some_of (finmap.get sotw_offer w.name) said in
      let stated : finmap.get sotw_offer w.name ≡ Some (Stated (version_of w)) =
      due.1 ∙ ap Some (present_is_stated StateOfTheWorld t s m b w.name (version_of w) due.0 (present_by s m w.name w there (and_first (is_live w) (covers s w.name w.groups) shown) covered) due.1) in
      record {
        write = w;
        found = ap (finmap.get m) called ∙ there;
        body = is;
        covered = ap (λ name. covers s name w.groups) called ∙ covered;
        label = refl;
        stated = ap (finmap.get sotw_offer) called ∙ stated;
      }

  right_next : (q : List ℕ) (w : StampedWrite) (shown said : Bool) (body : Option (List ℕ)) (rest : List Statement) → finmap.get m q ≡ Some w → is_shown s w ≡ shown → spoken w ≡ said → w.body ≡ body
      → AllRight m s sotw_offer rest → AllRight m s sotw_offer (next shown said body rest)
  right_next q w true true (Some body) rest found sh sa is right = (right_body q body w found sh sa is, right)
  right_next q w true true None rest found sh sa is right = right
  right_next q w true false body rest found sh sa is right = right
  right_next q w false said body rest found sh sa is right = right

  right_from : (es : List (List ℕ × StampedWrite)) → EachFound m es → AllRight m s sotw_offer (stated_from es)
  right_from [] found = tt
  right_from (e ∷ es) found =
      subst (AllRight m s sotw_offer) (sym (stated_next e.1 es (is_shown s e.1) (spoken e.1) refl refl))
      (right_next e.0 e.1 (is_shown s e.1) (spoken e.1) e.1.body (stated_from es) found.0 refl refl refl (right_from es found.1))

  -- rule: best-writes
  pub sotw_right : AllRight m s sotw_offer (stated_from (finmap.entries m))
  sotw_right = right_from (finmap.entries m) (each_found m)

  -- ---- that each name is told

  later_next : (q : List ℕ) (shown said : Bool) (body : Option (List ℕ)) (rest : List Statement) → has_name (names_of rest) q ≡ true → has_name (names_of (next shown said body rest)) q ≡ true
  later_next q true true (Some body) rest is = ap (λ b. bytes_eq q (named t body) || b) is ∙ or-true (bytes_eq q (named t body))
  later_next q true true None rest is = is
  later_next q true false body rest is = is
  later_next q false said body rest is = is

  first_next : (q body : List ℕ) (w : StampedWrite) (rest : List Statement) (o : Option (List ℕ)) → finmap.get m q ≡ Some w → w.body ≡ Some body → o ≡ Some body → has_name (names_of (next true true o rest)) q ≡ true
  first_next q body w rest None found is same = absurd cc
  first_next q body w rest (Some x) found is same =
      let this : x ≡ body = cc in
      let called : named t x ≡ q = ap (named t) this ∙ body_kept kept q body w found is ∙ name_kept kept q w found in
      ap (λ n. bytes_eq q n || has_name (names_of rest) q) called ∙ ap (λ b. b || has_name (names_of rest) q) (bytes_eq_same q)

  told_next : (q : List ℕ) (e : List ℕ × StampedWrite) (w : StampedWrite) (rest : List Statement) (shown said : Bool) → finmap.get m q ≡ Some w → e.1 ≡ w → (body : List ℕ) → w.body ≡ Some body
      → shown ≡ true → said ≡ true → has_name (names_of (next shown said e.1.body rest)) q ≡ true
  told_next q e w rest true true found same body is sh sa = first_next q body w rest e.1.body found is (ap (λ (v : StampedWrite). v.body) same ∙ is)
  told_next q e w rest true false found same body is sh sa = absurd cc
  told_next q e w rest false said found same body is sh sa = absurd cc

  one_way : (q : List ℕ) (e : List ℕ × StampedWrite) (es : List (List ℕ × StampedWrite)) (w : StampedWrite) (body : List ℕ) (here : Bool) → bytes_eq q e.0 ≡ here → finmap.get m e.0 ≡ Some e.1 → finmap.get m q ≡ Some w
      → is_shown s w ≡ true → spoken w ≡ true → w.body ≡ Some body → (has_text (map (λ x. x.0) es) q ≡ true → has_name (names_of (stated_from es)) q ≡ true) → (here || has_text (map (λ x. x.0) es) q) ≡ true
      → has_name (names_of (next (is_shown s e.1) (spoken e.1) e.1.body (stated_from es))) q ≡ true
  one_way q e es w body true here found_here found sh sa is rest among =
      let same : Some e.1 ≡ Some w = sym found_here ∙ ap (finmap.get m) (sym (bytes_eq_tells q e.0 here)) ∙ found in
      let this : e.1 ≡ w = cc in
      told_next q e w (stated_from es) (is_shown s e.1) (spoken e.1) found this body is (ap (is_shown s) this ∙ sh) (ap spoken this ∙ sa)
  one_way q e es w body false here found_here found sh sa is rest among = later_next q (is_shown s e.1) (spoken e.1) e.1.body (stated_from es) (rest among)

  told_from : (q : List ℕ) (w : StampedWrite) (body : List ℕ) → finmap.get m q ≡ Some w → is_shown s w ≡ true → spoken w ≡ true → w.body ≡ Some body → (es : List (List ℕ × StampedWrite)) → EachFound m es
      → has_text (map (λ x. x.0) es) q ≡ true → has_name (names_of (stated_from es)) q ≡ true
  told_from q w body found sh sa is [] each among = absurd cc
  told_from q w body found sh sa is (e ∷ es) each among =
      ap (λ l. has_name (names_of l) q) (stated_next e.1 es (is_shown s e.1) (spoken e.1) refl refl)
      ∙ one_way q e es w body (bytes_eq q e.0) refl each.0 found sh sa is (told_from q w body found sh sa is es each.1) among

  pub sotw_tells : (q : List ℕ) → is_some (finmap.get sotw_offer q) ≡ true → has_name (names_of (stated_from (finmap.entries m))) q ≡ true
  sotw_tells q said =
      let due = is_some_of (finmap.get sotw_offer q) said in
      let there = sotw_is_present t s m b q due.0 due.1 in
      let shown = shown_by s q (finmap.get m q) there.0 there.1 in
      let same : shown.write.name ≡ q = name_kept kept q shown.write shown.found in
      let body = is_some_of shown.write.body shown.live in
      let sh : is_shown s shown.write ≡ true = (λ i. shown.live i && covers s (same i) shown.write.groups) ∙ shown.covered in
      told_from q shown.write body.0 shown.found sh (ap (λ n. is_some (finmap.get sotw_offer n)) same ∙ said) body.1 (finmap.entries m) (each_found m)
      (has_text-keys m q ∙ ap is_some shown.found)
