-- What the names of a request say, in either variant: the requests are kept, and a name that waits by the lines does so by the
-- session.
use Rattle.std.proofs.Common.{◌≡◌, ℕ, List, [], ◌∷◌, ◌++◌, Bool, true, false, ◌&&◌, ◌||◌, not, Option, Some, None, refl, sym, ap, ◌∙◌}
use Rattle.std.specs.Prelude.{if◌then◌else◌, is_some, bytes_eq}
use Rattle.std.specs.FinMap as finmap
use Rattle.std.specs.FinSet as set
use Rattle.std.proofs.lemmas.List.Folds.{list_any-append}
use Rattle.xds_resource.specs.declared.types.TypeName.{TypeName}
use Rattle.xds_resource.specs.Writes.{text_cmp}
use Rattle.xds_interest.specs.Interests.{Selection, reaches, is_star, has_name, names_among}
use Rattle.xds_interest.specs.SotW.{is_named, listed}
use Rattle.xds_interest.specs.Delta.{Mention}
use Rattle.xds_interest.specs.Touched.{exactly_one}
use Rattle.xds_interest.specs.Touches.{touches, delta_touch}
use Rattle.xds_interest.specs.Asked.{Asked, sotw_asked, sotw_kept, delta_asked, delta_kept, everything}
use Rattle.xds_interest.proofs.Choices.{and_first, and_second}
use Rattle.xds_interest.proofs.Texts.{contains-from_texts}
use Rattle.xds_interest.proofs.SotwLaws.{contains-listed, has_name-names_among}
use Rattle.xds_interest.proofs.DeltaLaws.{delta_star_is_no_name}
use Rattle.xds_interest.proofs.AskedLaws.{sotw_is_kept, delta_is_kept, contains-names_after, sotw_touch_is_a_set}
use Rattle.xds_message.specs.Messages.{Request}
use Rattle.xds_message.specs.DeltaMessages.{DeltaRequest}
use Rattle.xds_ledger.specs.declared.variant.VariantName.TheVariants.{StateOfTheWorld, Delta}
use Rattle.xds_ledger.specs.Ledgers.{Account, settled}
use Rattle.xds_ledger.specs.Sessions.{Session, Names, sotw_names, delta_names}
use Rattle.xds_sessions.specs.DeltaPolls.{mention}
use Rattle.xds_check.specs.declared.asking.Asking.{Asking}
use Rattle.xds_check.specs.declared.asking.Asking.TheVariants as askings
use Rattle.xds_check.specs.Answers.{lists_in, mentions_in}
use Rattle.xds_check.specs.Lines.{Sent, lists, mentions, pending_in_sotw, pending_in_delta}
use Rattle.std.proofs.lemmas.List.Concat.{flat_map-append}
use Rattle.std.proofs.Math.Bool.{or-true}
use Rattle.xds_trace.proofs.Pending.{Waits, waits_settled, waits_on, waits_anew}
use Rattle.xds_trace.proofs.Agreeing.{Agrees, NamesAgree, account_taken}

by_explicit : (s : Selection) (name : List ℕ) → set.contains s.names name ≡ true → reaches s name ≡ true
by_explicit s name is = ap (λ b. s.star || b) is ∙ or-true s.star

nothing_there : {X : Type 0} (name : List ℕ) → finmap.get (finmap.empty {X = X} {R = text_cmp}) name ≡ None
nothing_there name = finmap.get-empty text_cmp name

-- ---- state of the world

lists_more : (qs : List Asking) (m : Request) → lists (qs ++ askings.Sotw m ∷ []) ≡ lists qs ++ m.resource_names ∷ []
lists_more qs m = flat_map-append lists_in qs (askings.Sotw m ∷ [])

mentions_still : (qs : List Asking) (m : Request) → mentions qs ≡ [] → mentions (qs ++ askings.Sotw m ∷ []) ≡ []
mentions_still qs m none = flat_map-append mentions_in qs (askings.Sotw m ∷ []) ∙ ap (λ l. l ++ []) none

is_named_by : (names : List (List ℕ)) (name : List ℕ) → has_name names name ≡ true → is_named names ≡ true
is_named_by [] name is = absurd cc
is_named_by (x ∷ xs) name is = refl

-- a name that a list has is explicit then
sotw_explicit : (t : TypeName) (a : Asked) (names : List (List ℕ)) (name : List ℕ) → has_name (names_among t names) name ≡ true → set.contains (sotw_asked t a names).interest.names name ≡ true
sotw_explicit t a names name is =
    let among : (not (is_star t name) && has_name names name) ≡ true = sym (has_name-names_among t names name) ∙ is in
    let some : is_named names ≡ true = is_named_by names name (and_second (not (is_star t name)) (has_name names name) among) in
    ap (λ b. set.contains (if b then listed t names else everything t).names name) (ap (λ b. a.named || b) some ∙ or-true a.named) ∙ contains-listed t names name ∙ among

module _ (cluster : List ℕ) (t : TypeName) (x : Session) (has : Bool) (rs : List Sent) (qs : List Asking) (P : List ℕ → Bool) (m : Request) (old : Selection)
    (agrees : Agrees StateOfTheWorld cluster t x has rs qs P) (same : old.names ≡ x.asked.interest.names) where
  abbrev said : Names
  said = sotw_names t x.asked m.resource_names

  -- rule: awaited-names
  sotw_waits : (name : List ℕ) (before : Bool) → P name ≡ before → has_name (names_among t m.resource_names) name ≡ true → (before || not (set.contains old.names name)) ≡ true
      → Waits false (account_taken StateOfTheWorld t x (askings.Sotw m) said) name
  sotw_waits name true is listed_now or =
      waits_on false (settled StateOfTheWorld t x.account m.response_nonce (is_some m.error_detail)) said.asked.interest said.touched said.mentioned finmap.empty name (nothing_there name)
      (by_explicit said.asked.interest name (sotw_explicit t x.asked m.resource_names name listed_now))
      (waits_settled StateOfTheWorld t x.account m.response_nonce (is_some m.error_detail) name (agrees.waits name is))
  sotw_waits name false is listed_now or =
      let explicit : set.contains said.asked.interest.names name ≡ true = sotw_explicit t x.asked m.resource_names name listed_now in
      let apart : exactly_one (set.contains x.asked.interest.names name) (set.contains said.asked.interest.names name) ≡ true =
      (λ i. exactly_one (set.contains (sym same i) name) (explicit i)) ∙ only_new (set.contains old.names name) or in
      let touched : touches said.touched name ≡ true =
      sotw_touch_is_a_set x.asked.interest said.asked.interest name ∙ ap (λ b. exactly_one x.asked.interest.star said.asked.interest.star || b) apart ∙ or-true (exactly_one x.asked.interest.star said.asked.interest.star) in
      waits_anew false (settled StateOfTheWorld t x.account m.response_nonce (is_some m.error_detail)) said.asked.interest said.touched said.mentioned finmap.empty name (nothing_there name)
      (by_explicit said.asked.interest name explicit) explicit touched
    where
      only_new : (b : Bool) → not b ≡ true → exactly_one b true ≡ true
      only_new true not_so = absurd cc
      only_new false not_so = refl

  pub sotw_names_agree : NamesAgree StateOfTheWorld cluster t x has rs qs P (askings.Sotw m) said agrees (λ name. pending_in_sotw t old m name (P name))
  sotw_names_agree = record {
    begun = refl;
    asked =
        (ap (λ a. sotw_asked t a m.resource_names) agrees.asked.0 ∙ sotw_is_kept t cluster (lists qs) m.resource_names ∙ ap (sotw_kept t cluster) (sym (lists_more qs m)), mentions_still qs m agrees.asked.1);
    explicit = λ name is. sotw_explicit t x.asked m.resource_names name (and_first (has_name (names_among t m.resource_names) name) _ is);
    waits = λ name is. sotw_waits name (P name) refl (and_first (has_name (names_among t m.resource_names) name) _ is) (and_second (has_name (names_among t m.resource_names) name) _ is);
  }

-- ---- delta

mentions_more : (qs : List Asking) (m : DeltaRequest) → mentions (qs ++ askings.Delta m ∷ []) ≡ mentions qs ++ mention m ∷ []
mentions_more qs m = flat_map-append mentions_in qs (askings.Delta m ∷ [])

lists_still : (qs : List Asking) (m : DeltaRequest) → lists qs ≡ [] → lists (qs ++ askings.Delta m ∷ []) ≡ []
lists_still qs m none = flat_map-append lists_in qs (askings.Delta m ∷ []) ∙ ap (λ l. l ++ []) none

-- the star is no explicit name of what is kept
kept_unstarred : (t : TypeName) (cluster : List ℕ) (ms : List Mention) (name : List ℕ) (starry : Bool) → is_star t name ≡ starry → set.contains (delta_kept t cluster ms).interest.names name ≡ true → starry ≡ false
kept_unstarred t cluster ms name false star is = refl
kept_unstarred t cluster [] name true star is = absurd (differ (sym (set.contains-empty text_cmp name) ∙ is))
  where
    differ : false ≡ true → ⊥
    differ e = cc
kept_unstarred t cluster (m ∷ ms) name true star is = absurd (differ (sym (delta_star_is_no_name t name star (m ∷ ms)) ∙ is))
  where
    differ : false ≡ true → ⊥
    differ e = cc

subscribed_now : (starry sub unsub c : Bool) → (not starry && sub) ≡ true → ((not starry && sub) || (not unsub && c)) ≡ true
subscribed_now starry sub unsub c is = ap (λ b. b || (not unsub && c)) is

still_explicit : (starry sub unsub c : Bool) → starry ≡ false → c ≡ true → not (unsub && not sub) ≡ true → ((not starry && sub) || (not unsub && c)) ≡ true
still_explicit true sub unsub c star is left = absurd cc
still_explicit false true unsub c star is left = refl
still_explicit false false true c star is left = absurd cc
still_explicit false false false c star is left = is

among_both : (starry sub unsub : Bool) → (not starry && sub) ≡ true → (not starry && (sub || unsub)) ≡ true
among_both true sub unsub is = absurd cc
among_both false true unsub is = refl
among_both false false unsub is = absurd cc

unheld : {X : Type 0} (o : Option X) → not (is_some o) ≡ true → o ≡ None
unheld None is = refl
unheld (Some x) is = absurd cc

module _ (cluster : List ℕ) (t : TypeName) (x : Session) (has : Bool) (rs : List Sent) (qs : List Asking) (P : List ℕ → Bool) (m : DeltaRequest)
    (agrees : Agrees Delta cluster t x has rs qs P) where
  abbrev told_names : Names
  told_names = delta_names t x.asked (mention m) m.initial_resource_versions

  abbrev settled_now : Account
  settled_now = settled Delta t x.account m.response_nonce (is_some m.error_detail)

  -- a name that the request subscribes
  subscribed : (name : List ℕ) → has_name (names_among t m.resource_names_subscribe) name ≡ true → (not (is_star t name) && has_name m.resource_names_subscribe name) ≡ true
  subscribed name is = sym (has_name-names_among t m.resource_names_subscribe name) ∙ is

  new_explicit : (name : List ℕ) → has_name (names_among t m.resource_names_subscribe) name ≡ true → set.contains told_names.asked.interest.names name ≡ true
  new_explicit name is =
      contains-names_after t (mention m) x.asked.interest.names name
      ∙ subscribed_now (is_star t name) (has_name m.resource_names_subscribe name) (has_name m.resource_names_unsubscribe name) (set.contains x.asked.interest.names name) (subscribed name is)

  old_explicit : (name : List ℕ) → P name ≡ true → not (has_name m.resource_names_unsubscribe name && not (has_name m.resource_names_subscribe name)) ≡ true → set.contains told_names.asked.interest.names name ≡ true
  old_explicit name is left =
      let before : set.contains x.asked.interest.names name ≡ true = agrees.explicit name is in
      let kept : set.contains (delta_kept t cluster (mentions qs)).interest.names name ≡ true = ap (λ (a : Asked). set.contains a.interest.names name) (sym agrees.asked.0) ∙ before in
      contains-names_after t (mention m) x.asked.interest.names name
      ∙ still_explicit (is_star t name) (has_name m.resource_names_subscribe name) (has_name m.resource_names_unsubscribe name) (set.contains x.asked.interest.names name)
      (kept_unstarred t cluster (mentions qs) name (is_star t name) refl kept) before left

  named_touch : (name : List ℕ) → has_name (names_among t m.resource_names_subscribe) name ≡ true → set.contains (delta_touch t (mention m)).names name ≡ true
  named_touch name is =
      contains-from_texts (names_among t (m.resource_names_subscribe ++ m.resource_names_unsubscribe)) name ∙ has_name-names_among t (m.resource_names_subscribe ++ m.resource_names_unsubscribe) name
      ∙ ap (λ b. not (is_star t name) && b) (list_any-append (bytes_eq name) m.resource_names_subscribe m.resource_names_unsubscribe)
      ∙ among_both (is_star t name) (has_name m.resource_names_subscribe name) (has_name m.resource_names_unsubscribe name) (subscribed name is)

  said_of_it : (name : List ℕ) (begun : Bool) → has_name (names_among t m.resource_names_subscribe) name ≡ true → set.contains (if begun then (delta_touch t (mention m)).names else told_names.asked.interest.names) name ≡ true
  said_of_it name true is = named_touch name is
  said_of_it name false is = new_explicit name is

  unversioned : (name : List ℕ) (begun : Bool) → (begun || not (is_some (finmap.get m.initial_resource_versions name))) ≡ true → finmap.get (if begun then finmap.empty else m.initial_resource_versions) name ≡ None
  unversioned name true is = nothing_there name
  unversioned name false is = unheld (finmap.get m.initial_resource_versions name) is

  -- a request after the first says no versions
  later_unversioned : (name : List ℕ) (begun : Bool) → begun ≡ true → finmap.get (if begun then finmap.empty else m.initial_resource_versions) name ≡ None
  later_unversioned name true is = nothing_there name
  later_unversioned name false is = absurd cc

  begun_by : (name : List ℕ) (begun : Bool) → has ≡ begun → P name ≡ true → begun ≡ true
  begun_by name true is waits = refl
  begun_by name false is waits = absurd (differ (sym ((agrees.fresh is).1 name) ∙ waits))
    where
      differ : false ≡ true → ⊥
      differ e = cc

  -- rule: awaited-names
  delta_waits : (name : List ℕ) (anew : Bool) → (has_name (names_among t m.resource_names_subscribe) name && (has || not (is_some (finmap.get m.initial_resource_versions name)))) ≡ anew
      → (anew || (P name && not (has_name m.resource_names_unsubscribe name && not (has_name m.resource_names_subscribe name)))) ≡ true
      → (set.contains told_names.asked.interest.names name ≡ true) × Waits true (account_taken Delta t x (askings.Delta m) told_names) name
  delta_waits name true is or =
      let listed_now : has_name (names_among t m.resource_names_subscribe) name ≡ true = and_first (has_name (names_among t m.resource_names_subscribe) name) _ is in
      let free : (x.asked.begun || not (is_some (finmap.get m.initial_resource_versions name))) ≡ true =
      ap (λ b. b || not (is_some (finmap.get m.initial_resource_versions name))) agrees.begun ∙ and_second (has_name (names_among t m.resource_names_subscribe) name) _ is in
      let touched : touches (delta_touch t (mention m)) name ≡ true = ap (λ b. (delta_touch t (mention m)).all || b) (named_touch name listed_now) ∙ or-true (delta_touch t (mention m)).all in (
        new_explicit name listed_now,
        waits_anew true settled_now told_names.asked.interest told_names.touched told_names.mentioned told_names.versions name (unversioned name x.asked.begun free)
            (by_explicit told_names.asked.interest name (new_explicit name listed_now)) (said_of_it name x.asked.begun listed_now) touched,
      )
  delta_waits name false is or =
      let waited : P name ≡ true = and_first (P name) _ or in
      let left : not (has_name m.resource_names_unsubscribe name && not (has_name m.resource_names_subscribe name)) ≡ true = and_second (P name) _ or in
      let begun : x.asked.begun ≡ true = agrees.begun ∙ begun_by name has refl waited in (
        old_explicit name waited left,
        waits_on true settled_now told_names.asked.interest told_names.touched told_names.mentioned told_names.versions name (later_unversioned name x.asked.begun begun)
            (by_explicit told_names.asked.interest name (old_explicit name waited left)) (waits_settled Delta t x.account m.response_nonce (is_some m.error_detail) name (agrees.waits name waited)),
      )

  pub delta_names_agree : NamesAgree Delta cluster t x has rs qs P (askings.Delta m) told_names agrees (λ name. pending_in_delta t has m name (P name))
  delta_names_agree = record {
    begun = refl;
    asked = (ap (λ a. delta_asked t a (mention m)) agrees.asked.0 ∙ delta_is_kept t cluster (mentions qs) (mention m) ∙ ap (delta_kept t cluster) (sym (mentions_more qs m)), lists_still qs m agrees.asked.1);
    explicit = λ name is. (delta_waits name (has_name (names_among t m.resource_names_subscribe) name && (has || not (is_some (finmap.get m.initial_resource_versions name)))) refl is).0;
    waits = λ name is. (delta_waits name (has_name (names_among t m.resource_names_subscribe) name && (has || not (is_some (finmap.get m.initial_resource_versions name)))) refl is).1;
  }
