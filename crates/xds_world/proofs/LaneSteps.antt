-- What keeps a lane abreast: an answer, a change, a first request, and a response that is sent.
use Rattle.std.proofs.Common.{◌≡◌, ◌⊎◌, inl, inr, ℕ, suc, List, [], ◌∷◌, Bool, true, false, ◌&&◌, ◌||◌, not, Option, Some, None, refl, sym, ap, subst, ◌∙◌, ◌≤◌, arith}
use Rattle.std.specs.Prelude.{bytes_eq, if◌then◌else◌, is_some, is_none, option_map}
use Rattle.std.specs.Option.{option_map_or}
use Rattle.std.specs.List.{list_any}
use Rattle.std.specs.FinMap as finmap
use Rattle.std.specs.FinSet as set
use Rattle.std.proofs.Math.Bool.{and-false}
use Rattle.std.proofs.lemmas.Bool.{or_parts}
use Rattle.std.proofs.lemmas.List.Folds.{list_any-append}
use Rattle.xds_resource.specs.declared.types.TypeName.{TypeName}
use Rattle.xds_resource.specs.Types.{row}
use Rattle.xds_resource.specs.Stamps.{max_counter}
use Rattle.xds_resource.specs.Writes.{text_cmp}
use Rattle.xds_resource.proofs.NameMaps.{bytes_eq_same, same_names, get-tabulated, absent_key}
use Rattle.xds_interest.specs.Interests.{Selection, in_cluster, reaches, star_text, has_name}
use Rattle.xds_interest.specs.SotW.{is_named, listed}
use Rattle.xds_interest.specs.Asked.{Asked, IsStarOfComplete, unasked, everything, sotw_asked, delta_asked}
use Rattle.xds_interest.specs.Touched.{exactly_one}
use Rattle.xds_interest.specs.Touches.{Touch, touches, sotw_touch}
use Rattle.xds_interest.proofs.AskedLaws.{sotw_touch_is_a_set}
use Rattle.xds_interest.proofs.SotwLaws.{list_any-is_star}
use Rattle.xds_interest.proofs.Texts.{contains-from_texts}
use Rattle.xds_message.specs.Messages.{Identity}
use Rattle.xds_message.specs.declared.draft.Draft.{Draft}
use Rattle.xds_ledger.specs.declared.variant.VariantName.{VariantName}
use Rattle.xds_ledger.specs.declared.variant.VariantName.TheVariants.{StateOfTheWorld, Delta}
use Rattle.xds_ledger.specs.declared.entry.Entry.{Entry}
use Rattle.xds_ledger.specs.declared.entry.Entry.TheVariants.{Told, Unsure}
use Rattle.xds_ledger.specs.declared.entry.Due.TheVariants.{Stated}
use Rattle.xds_ledger.specs.Variants.{is_whole}
use Rattle.xds_ledger.specs.Offers.{Offer}
use Rattle.xds_ledger.specs.Ledgers.{Account, nonce_text, settled, answered, accept, reject}
use Rattle.xds_ledger.specs.Believing.{Sent, was_touched, touched_since, believed_accepted}
use Rattle.xds_ledger.specs.Sessions.{Session, Names, unopened, is_stale, taken, send}
use Rattle.xds_ledger.specs.Laws.{with_sent}
use Rattle.xds_ledger.proofs.BeliefsByName.{accepted_by_name}
use Rattle.xds_core.specs.Streams as streams
use Rattle.xds_core.specs.Streams.{Message, variant_of, url_of, nonce_of, session_after}
use Rattle.xds_cache.specs.Shelves.{Wants, Holding, Cache, Shelf, texts, interest, is_wanted, wants_some, wants_after, wanting, connected, kept_of, cached_version, cached_versions}
use Rattle.xds_cache.specs.Faults.{Test}
use Rattle.xds_cache.specs.Deliveries.{Delivery, fault_in, cache_after, taking, rejecting, delivered}
use Rattle.xds_cache.specs.Sends.{sotw_request, sotw_opening, delta_request, delta_opening}
use Rattle.xds_cache.proofs.Interests.{wants_what_is_reached, shown_by_name, kept_by_name, holds_what_is_wanted, change_is_asked, first_change_is_asked, first_is_asked, no_texts}
use Rattle.xds_world.specs.Knows.{TypedWrite}
use Rattle.xds_world.proofs.Replicas.{never, some_is, mapped_some}
use Rattle.xds_world.proofs.Folding.{names_of, rejects_in, answer_of, take_is, names_reach, names_resume, believed_by_name, nothing_resumed, believed_quiet, folded, AllTaken, NoneAnswers, touched_by, unsettled, begun_folded, never_stale, sending_folded, untouched_folded, touched_folded}
use Rattle.xds_world.proofs.ByOneName.{IsTold, IsNone, Says, resumed_after, believed_after, version_held, IsOfVersion, held_after, kept_after, not_told, touched_not_told, by_touch, told_accepted, none_accepted, told_changed, none_changed, told_resumed, none_resumed, held_made, kept_made}
use Rattle.xds_world.proofs.Queues.{nonces_differ}
use Rattle.xds_world.proofs.Lanes.{variant_in, delivery, stated_in, is_removed_in, whole_in, reply, IsAt, IsMade, asking, Delivers, Awaits, TouchedIsUnsure, IsWithin, AllMade, Abreast, asked_of, asks_begun, none_sent, asks_if_sent, awaited, nothing_sent, awaits_none, taken_if_plain, after_reply}

-- ---- an answer

-- the client's shelf after a response that it rejects
rejected : (v : VariantName) (cluster : List ℕ) (all : List TypedWrite) (t : TypeName) (s after : Session) (sent : Sent) (f : Shelf) (d : Draft) → f.asked ≡ true → after.asked ≡ asking v cluster t f.wants → after.account ≡ reject s.account sent
    → Delivers v all t s.account.nonce sent f.wants d → Abreast v cluster all t s (Some d) f → Abreast v cluster all t after None (rejecting f (delivery t d))
rejected v cluster all t s after sent f d asked again account delivers lane =
    let quiet : after.account.sent ≡ None = ap (λ (a : Account). a.sent) account in
    let believed : (q : List ℕ) → finmap.get s.account.beliefs q ≡ finmap.get after.account.beliefs q = λ q. ap (λ (a : Account). finmap.get a.beliefs q) (sym account) in
    record {
      asks = inl (asked, again);
      awaits = awaits_none v all t after.account.nonce after.account.sent f.wants (delivery t d).nonce quiet (delivers.nonce ∙ ap (λ (a : Account). nonce_text a.nonce) (sym account));
      touched = λ x is. absurd (none_sent after.account.sent x quiet is);
      told = λ q u is. lane.told q u (believed q ∙ is);
      none = λ q counted is. lane.none q (λ whole. ap (λ (a : Account). a.accepted) (sym account) ∙ counted whole) (believed q ∙ is);
      within = lane.within;
      made = lane.made;
    }

not_whole : (b : Bool) → b ≡ false → b ≡ true → ⊥
not_whole b is not = let never : false ≡ true = sym is ∙ not in absurd cc

-- and after one that it takes
accepted : (v : VariantName) (cluster : List ℕ) (all : List TypedWrite) (t : TypeName) (s after : Session) (sent : Sent) (f : Shelf) (d : Draft) → s.account.sent ≡ Some sent → f.asked ≡ true → after.asked ≡ asking v cluster t f.wants → after.account ≡ accept v t s.account sent
    → Delivers v all t s.account.nonce sent f.wants d → Abreast v cluster all t s (Some d) f → Abreast v cluster all t after None (taking t f (delivery t d))
accepted v cluster all t s after sent f d has asked again account delivers lane =
    let whole : Bool = is_whole v t in
    let r : Delivery = delivery t d in
    let cache : Cache = cache_after t f.wants r.whole r.removed (stated_in t d) f.cache in
    let quiet : after.account.sent ≡ None = ap (λ (a : Account). a.sent) account in
    let shown : (q : List ℕ) → finmap.get cache q ≡ held_after whole (is_wanted t f.wants q) (is_removed_in t d q) (finmap.get (stated_in t d) q) (finmap.get f.cache q) =
    λ q. shown_by_name t f.wants r.whole r.removed (stated_in t d) f.cache q
    ∙ ap (λ b. held_after b (is_wanted t f.wants q) (is_removed_in t d q) (finmap.get (stated_in t d) q) (finmap.get f.cache q)) (whole_in t d ∙ ap (λ k. is_whole k t) delivers.speaks) in
    let believed : (q : List ℕ) → finmap.get after.account.beliefs q ≡ believed_accepted whole (was_touched sent q) (finmap.get sent.offer q) (finmap.get s.account.beliefs q) =
    λ q. ap (λ (a : Account). finmap.get a.beliefs q) account ∙ accepted_by_name whole sent s.account.beliefs q in
    record {
      asks = inl (asked, again);
      awaits = awaits_none v all t after.account.nonce after.account.sent f.wants r.nonce quiet (delivers.nonce ∙ ap (λ (a : Account). nonce_text a.nonce) (sym account));
      touched = λ x is. absurd (none_sent after.account.sent x quiet is);
      told = λ q u is.
          subst (λ o. (h : Holding) × (o ≡ Some h) × IsAt v all t q u h) (sym (shown q))
          (told_accepted (IsAt v all t q) whole (was_touched sent q) (is_wanted t f.wants q) (is_removed_in t d q) (finmap.get sent.offer q) (finmap.get s.account.beliefs q) (finmap.get (stated_in t d) q) (finmap.get f.cache q) (delivers.says q)
          (λ version. delivers.wanted q version) (λ version. lane.touched sent has q version) (lane.within q) (lane.told q) u (sym (believed q) ∙ is));
      none = λ q counted is.
          shown q
          ∙ none_accepted (IsAt v all t q) whole (was_touched sent q) (is_wanted t f.wants q) (is_removed_in t d q) (finmap.get sent.offer q) (finmap.get s.account.beliefs q) (finmap.get (stated_in t d) q) (finmap.get f.cache q) (delivers.says q)
          (λ partial. lane.none q (λ complete. absurd (not_whole whole partial complete))) (sym (believed q) ∙ is);
      within = λ q unwanted. (holds_what_is_wanted t f.wants r.whole r.removed (stated_in t d) f.cache q unwanted).0;
      made = λ q h is. held_made (IsMade v all t q) whole (is_wanted t f.wants q) (is_removed_in t d q) (finmap.get (stated_in t d) q) (finmap.get f.cache q) h (delivers.made q) (lane.made q) (sym (shown q) ∙ is);
    }

delivered_by : (v : VariantName) (cluster : List ℕ) (all : List TypedWrite) (t : TypeName) (s after : Session) (sent : Sent) (f : Shelf) (d : Draft) (fault : Option (List ℕ)) → s.account.sent ≡ Some sent → f.asked ≡ true → after.asked ≡ asking v cluster t f.wants
    → after.account ≡ answered v t s.account sent (is_some fault) → Delivers v all t s.account.nonce sent f.wants d → Abreast v cluster all t s (Some d) f
    → Abreast v cluster all t after None (option_map_or (λ x. rejecting f (delivery t d)) fault (taking t f (delivery t d)))
delivered_by v cluster all t s after sent f d None has asked again account delivers lane = accepted v cluster all t s after sent f d has asked again account delivers lane
delivered_by v cluster all t s after sent f d (Some x) has asked again account delivers lane = rejected v cluster all t s after sent f d asked again account delivers lane

-- the client took the response and answered it
pub abreast_delivered : (v : VariantName) (cluster : List ℕ) (all : List TypedWrite) (t : TypeName) (test : Test) (s : Session) (f : Shelf) (d : Draft) → Abreast v cluster all t s (Some d) f
    → Abreast v cluster all t (session_after t s (reply t test f d)) None (delivered t test f (delivery t d))
abreast_delivered v cluster all t test s f d lane =
    let sent = awaited v all t s.account.nonce s.account.sent f.wants f.nonce d lane.awaits in
    let asked = asks_if_sent v cluster t s f sent.0 sent.1 lane.asks in
    let after = after_reply v cluster t test s f d sent.0 sent.2.speaks asked.1 sent.1 sent.2.nonce in
    delivered_by v cluster all t s (session_after t s (reply t test f d)) sent.0 f d (fault_in t test (delivery t d)) sent.1 asked.0 (after.0 ∙ asked.1) after.1 sent.2 lane

-- ---- a change

-- A request by which a client that keeps this wants these texts: one of Delta has no nonce, one of the state of the world the last one.
pub record IsChange (v : VariantName) (t : TypeName) (f : Shelf) (w : Wants) (m : Message) : Type 0 where
  pub variant : variant_of m ≡ v
  pub url : url_of m ≡ (row t).url
  pub nonce : (nonce_of m ≡ []) ⊎ (nonce_of m ≡ f.nonce)
  pub asks : (cluster : List ℕ) → (names_of t (asking v cluster t f.wants) m).asked ≡ asking v cluster t w
  -- where it is the first of its type on a stream
  pub opens : (cluster : List ℕ) → wants_some f.wants ≡ false → wants_some w ≡ true → (names_of t (unasked cluster) m).asked ≡ asking v cluster t w
  pub resumes : (cluster : List ℕ) → (names_of t (unasked cluster) m).versions ≡ finmap.empty

in_date : (b c d : Bool) → not (b && (c && d && false)) ≡ true
in_date true true true = refl
in_date true true false = refl
in_date true false d = refl
in_date false c d = refl

-- a client's last nonce is in date
taken_last : (v : VariantName) (all : List TypedWrite) (t : TypeName) (s : Session) (w : Wants) (last : List ℕ) (down : Option Draft) (o : Option Sent) → s.account.sent ≡ o → Awaits v all t s.account.nonce o w last down → not (is_stale s last) ≡ true
taken_last v all t s w last down None has is =
    ap (λ b. not (s.asked.begun && (is_none s.account.sent && not (bytes_eq last []) && not b))) (ap (λ x. bytes_eq x (nonce_text s.account.nonce)) (nothing_sent v all t s.account.nonce None w last down refl is).1 ∙ bytes_eq_same (nonce_text s.account.nonce))
    ∙ in_date s.asked.begun (is_none s.account.sent) (not (bytes_eq last []))
taken_last v all t s w last down (Some sent) has is = ap (λ o. not (s.asked.begun && (is_none o && not (bytes_eq last []) && not (bytes_eq last (nonce_text s.account.nonce))))) has ∙ never_stale s.asked.begun

-- the request is taken
pub change_taken : (v : VariantName) (all : List TypedWrite) (t : TypeName) (s : Session) (f : Shelf) (down : Option Draft) (nonce : List ℕ) → (nonce ≡ []) ⊎ (nonce ≡ f.nonce) → Awaits v all t s.account.nonce s.account.sent f.wants f.nonce down → not (is_stale s nonce) ≡ true
change_taken v all t s f down nonce (inl none) awaits = ap (λ x. not (is_stale s x)) none ∙ taken_if_plain s
change_taken v all t s f down nonce (inr last) awaits = ap (λ x. not (is_stale s x)) last ∙ taken_last v all t s f.wants f.nonce down s.account.sent refl awaits

-- and settles nothing
unsettled_by : (v k : VariantName) (all : List TypedWrite) (t : TypeName) (a : Account) (f : Shelf) (down : Option Draft) (nonce : List ℕ) (rejects : Bool) (o : Option Sent) → (nonce ≡ []) ⊎ (nonce ≡ f.nonce) → a.sent ≡ o → Awaits v all t a.nonce o f.wants f.nonce down
    → settled k t a nonce rejects ≡ a
unsettled_by v k all t a f down nonce rejects None is has awaits = unsettled k t a nonce rejects has
unsettled_by v k all t a f None nonce rejects (Some sent) is has awaits = absurd awaits
unsettled_by v k all t a f (Some d) nonce rejects (Some sent) is has awaits =
    ap (λ b. if b then option_map_or (λ x. answered k t a x rejects) a.sent a else a) (ap (λ b. is_some a.sent && b) (other is) ∙ and-false (is_some a.sent))
  where
    other : (nonce ≡ []) ⊎ (nonce ≡ f.nonce) → bytes_eq nonce (nonce_text a.nonce) ≡ false
    other (inl none) = (λ i. bytes_eq (none i) (nonce_text (awaits.0.numbered.1 i))) ∙ nonces_differ awaits.0.numbered.0 [] awaits.0.numbered.2 (0, omega arith, refl)
    other (inr last) = ap (λ x. bytes_eq x (nonce_text a.nonce)) last ∙ awaits.1

delivers_touched : (v : VariantName) (all : List TypedWrite) (t : TypeName) (n : ℕ) (sent : Sent) (w after : Wants) (touched : Touch) (d : Draft) → ((q : List ℕ) → touches touched q ≡ false → is_wanted t after q ≡ is_wanted t w q)
    → Delivers v all t n sent w d → Delivers v all t n (touched_since sent touched) after d
delivers_touched v all t n sent w after touched d same is = record {
  speaks = is.speaks;
  nonce = is.nonce;
  numbered = is.numbered;
  says = is.says;
  made = is.made;
  wanted = λ q u states untouched.
      let parts = or_parts (list_any (λ x. touches x q) sent.touched) (touches touched q || false) (sym (list_any-append (λ x. touches x q) sent.touched (touched ∷ [])) ∙ untouched) in
      same q (or_parts (touches touched q) false parts.1).0 ∙ is.wanted q u states parts.0;
}

awaits_touched : (v : VariantName) (all : List TypedWrite) (t : TypeName) (n : ℕ) (o : Option Sent) (w after : Wants) (last : List ℕ) (touched : Touch) (d : Option Draft) → ((q : List ℕ) → touches touched q ≡ false → is_wanted t after q ≡ is_wanted t w q)
    → Awaits v all t n o w last d → Awaits v all t n (option_map (λ x. touched_since x touched) o) after last d
awaits_touched v all t n None w after last touched None same is = is
awaits_touched v all t n None w after last touched (Some d) same is = absurd is
awaits_touched v all t n (Some sent) w after last touched None same is = absurd is
awaits_touched v all t n (Some sent) w after last touched (Some d) same is = (delivers_touched v all t n sent w after touched d same is.0, is.1)

star_stands : (v : VariantName) (cluster : List ℕ) (t : TypeName) (w : Wants) → IsStarOfComplete t (asking v cluster t w)
star_stands v cluster t w incomplete = list_any-is_star t (texts w) ∙ ap (λ c. c && has_name (texts w) star_text) incomplete

pub one_of_both : (a b : Bool) → (a || b) ≡ true → (a ≡ true) ⊎ (b ≡ true)
one_of_both true b is = inl refl
one_of_both false b is = inr is

-- a name that was touched before, or is touched now
still_unsure : (v : VariantName) (t : TypeName) (s after : Session) (sent : Sent) (touched : Touch) → ((name version : List ℕ) → touches touched name ≡ true → finmap.get after.account.beliefs name ≡ Some (Told version) → ⊥)
    → ((name version : List ℕ) → finmap.get after.account.beliefs name ≡ Some (Told version) → (touches touched name ≡ true) ⊎ (finmap.get s.account.beliefs name ≡ Some (Told version))) → TouchedIsUnsure v t s sent → TouchedIsUnsure v t after (touched_since sent touched)
still_unsure v t s after sent touched now kept before name version whole was told =
    elim (one_of_both (list_any (λ x. touches x name) sent.touched) (touches touched name || false) (sym (list_any-append (λ x. touches x name) sent.touched (touched ∷ [])) ∙ was)) [
      | inl earlier ↦
          elim (kept name version told) [
            | inl new ↦ now name version new told
            | inr old ↦ before name version whole earlier old
          ]
      | inr new ↦ now name version (last_of (touches touched name) new) told
    ]
  where
    last_of : (b : Bool) → (b || false) ≡ true → b ≡ true
    last_of true is = refl
    last_of false is = is

-- the client wants something else of a type that it asked for, and its request is taken
pub abreast_changed : (v : VariantName) (cluster : List ℕ) (all : List TypedWrite) (t : TypeName) (w : Wants) (m : Message) (s : Session) (down : Option Draft) (f : Shelf) → f.asked ≡ true → IsChange v t f w m → Abreast v cluster all t s down f
    → Abreast v cluster all t (session_after t s m) down (wanting t w true f)
abreast_changed v cluster all t w m s down f asked change lane =
    let names : Names = names_of t s.asked m in
    let before : s.asked ≡ asking v cluster t f.wants = asked_of v cluster t s f asked lane.asks in
    let begun : s.asked.begun ≡ true = ap (λ (a : Asked). a.begun) before in
    let stands : IsStarOfComplete t s.asked = subst (IsStarOfComplete t) (sym before) (star_stands v cluster t f.wants) in
    let after : names.asked ≡ asking v cluster t w = ap (λ a. (names_of t a m).asked) before ∙ change.asks cluster in
    let in_time : not (is_stale s (nonce_of m)) ≡ true = change_taken v all t s f down (nonce_of m) change.nonce lane.awaits in
    let account : settled (variant_of m) t s.account (nonce_of m) (rejects_in m) ≡ s.account = unsettled_by v (variant_of m) all t s.account f down (nonce_of m) (rejects_in m) s.account.sent change.nonce refl lane.awaits in
    let is : session_after t s m ≡ taken (variant_of m) t s (answer_of m) names = take_is t s m in_time in
    let same : (name : List ℕ) → touches names.touched name ≡ false → is_wanted t w name ≡ is_wanted t f.wants name =
    λ name untouched. sym (wants_what_is_reached t cluster w name) ∙ ap (λ (a : Asked). reaches a.interest name) (sym after) ∙ names_reach t s.asked m name begun stands untouched ∙ ap (λ (a : Asked). reaches a.interest name) before
    ∙ wants_what_is_reached t cluster f.wants name in
    let believed : (name : List ℕ) → finmap.get (session_after t s m).account.beliefs name ≡ believed_after (touches names.touched name) (is_wanted t w name) (set.contains names.mentioned name) (finmap.get s.account.beliefs name) =
    λ name. believed_quiet t s m s.account name account in_time (names_resume t s.asked m begun)
    ∙ ap (λ c. believed_after (touches names.touched name) c (set.contains names.mentioned name) (finmap.get s.account.beliefs name)) (ap (λ (a : Asked). reaches a.interest name) after ∙ wants_what_is_reached t cluster w name) in
    let sent_is : (session_after t s m).account.sent ≡ option_map (λ x. touched_since x names.touched) s.account.sent = ap (λ x. x.account.sent) is ∙ ap (λ (a : Account). option_map (λ x. touched_since x names.touched) a.sent) account in
    record {
      asks = inl (refl, ap (λ x. x.asked) is ∙ after);
      awaits = subst (λ n. Awaits v all t n (session_after t s m).account.sent w f.nonce down) (sym (ap (λ x. x.account.nonce) is ∙ ap (λ (a : Account). a.nonce) account))
          (subst (λ o. Awaits v all t s.account.nonce o w f.nonce down) (sym sent_is) (awaits_touched v all t s.account.nonce s.account.sent f.wants w f.nonce names.touched down same lane.awaits));
      touched = λ x now.
          let from = mapped_some (λ y. touched_since y names.touched) s.account.sent x (sym sent_is ∙ now) in
          subst (TouchedIsUnsure v t (session_after t s m)) (sym from.2)
          (still_unsure v t s (session_after t s m) from.0 names.touched
          (λ name u touches_it told. touched_not_told (touches names.touched name) (is_wanted t w name) (set.contains names.mentioned name) (finmap.get s.account.beliefs name) u touches_it (sym (believed name) ∙ told))
          (λ name u told. by_touch (touches names.touched name) (is_wanted t w name) (set.contains names.mentioned name) (finmap.get s.account.beliefs name) u (sym (believed name) ∙ told)) (lane.touched from.0 from.1));
      told = λ name u told.
          subst (λ o. (h : Holding) × (o ≡ Some h) × IsAt v all t name u h) (sym (kept_by_name t w f.cache name))
          (told_changed (IsAt v all t name) (touches names.touched name) (is_wanted t f.wants name) (is_wanted t w name) (set.contains names.mentioned name) (finmap.get s.account.beliefs name) (finmap.get f.cache name) (same name) (lane.within name) (lane.told name) u
          (sym (believed name) ∙ told));
      none = λ name counted nothing.
          kept_by_name t w f.cache name
          ∙ none_changed (touches names.touched name) (is_wanted t w name) (set.contains names.mentioned name) (finmap.get s.account.beliefs name) (finmap.get f.cache name)
          (lane.none name (λ whole. sym (ap (λ x. x.account.accepted) is ∙ ap (λ (a : Account). a.accepted) account) ∙ counted whole)) (sym (believed name) ∙ nothing);
      within = λ name unwanted. (holds_what_is_wanted t w false finmap.empty finmap.empty f.cache name unwanted).1;
      made = λ name h held. kept_made (IsMade v all t name) (is_wanted t w name) (finmap.get f.cache name) h (lane.made name) (sym (kept_by_name t w f.cache name) ∙ held);
    }

-- ---- a first request

untold : (touched reached mentioned : Bool) (u : List ℕ) → believed_after touched reached mentioned None ≡ Some (Told u) → ⊥
untold touched reached mentioned u is = not_told touched reached mentioned None u (λ e. absurd cc) is

partial : (whole accepted : Bool) → accepted ≡ false → (whole ≡ true → accepted ≡ true) → whole ≡ false
partial true accepted is counted = sym (counted refl) ∙ is
partial false accepted is counted = refl

-- what it leaves of a name that isn't resumed
abbrev fresh : TypeName → List ℕ → Message → List ℕ → Option Entry
fresh t cluster m q =
    let names = names_of t (unasked cluster) m in
    believed_after (touches names.touched q) (reaches names.asked.interest q) (set.contains names.mentioned q) None

-- it is taken
abreast_first : (v : VariantName) (cluster : List ℕ) (all : List TypedWrite) (t : TypeName) (m : Message) (f : Shelf) → f.asked ≡ true → f.nonce ≡ [] → (names_of t (unasked cluster) m).asked ≡ asking v cluster t f.wants
    → ((q : List ℕ) → IsTold (IsAt v all t q) (resumed_after (finmap.get (names_of t (unasked cluster) m).versions q) (fresh t cluster m q)) (finmap.get f.cache q))
    → ((q : List ℕ) → is_whole v t ≡ false → IsNone (resumed_after (finmap.get (names_of t (unasked cluster) m).versions q) (fresh t cluster m q)) (finmap.get f.cache q)) → IsWithin t f → AllMade v all t f
    → Abreast v cluster all t (session_after t (unopened cluster) m) None f
abreast_first v cluster all t m f asked nonce asks told none within made =
    let names : Names = names_of t (unasked cluster) m in
    let is : session_after t (unopened cluster) m ≡ taken (variant_of m) t (unopened cluster) (answer_of m) names = take_is t (unopened cluster) m refl in
    let believed : (q : List ℕ) → finmap.get (session_after t (unopened cluster) m).account.beliefs q ≡ resumed_after (finmap.get names.versions q) (fresh t cluster m q) =
    λ q. ap (λ x. finmap.get x.account.beliefs q) is ∙ believed_by_name (variant_of m) t (unopened cluster) (answer_of m) names q
    ∙ ap (λ e. resumed_after (finmap.get names.versions q) (believed_after (touches names.touched q) (reaches names.asked.interest q) (set.contains names.mentioned q) e)) (finmap.get-empty text_cmp q) in
    let quiet : (session_after t (unopened cluster) m).account.sent ≡ None = ap (λ x. x.account.sent) is in
    record {
      asks = inl (asked, ap (λ x. x.asked) is ∙ asks);
      awaits = awaits_none v all t (session_after t (unopened cluster) m).account.nonce (session_after t (unopened cluster) m).account.sent f.wants f.nonce quiet (nonce ∙ ap (λ x. nonce_text x.account.nonce) (sym is));
      touched = λ sent some. absurd (none_sent (session_after t (unopened cluster) m).account.sent sent quiet some);
      told = λ q u b. told q u (sym (believed q) ∙ b);
      none = λ q counted b. none q (partial (is_whole v t) (session_after t (unopened cluster) m).account.accepted (ap (λ x. x.account.accepted) is) counted) (sym (believed q) ∙ b);
      within = within;
      made = made;
    }

-- ---- nothing wanted

no_keys : (w : Wants) (ks : List (List ℕ)) → texts w ≡ ks → is_named ks ≡ false → (q : List ℕ) → finmap.get w q ≡ None
no_keys w [] keys none q = absent_key w q (ap (λ ks. list_any (bytes_eq q) ks) keys)
no_keys w (k ∷ ks) keys none q = absurd cc

empty_wants : (w : Wants) → wants_some w ≡ false → w ≡ finmap.empty
empty_wants w none = same_names w finmap.empty (λ q. no_keys w (texts w) refl none q ∙ sym (finmap.get-empty text_cmp q))

pub nothing_wanted : (t : TypeName) (w : Wants) (q : List ℕ) → wants_some w ≡ false → is_wanted t w q ≡ false
nothing_wanted t w q none = (λ i. is_some (absent q i) || ((row t).is_complete && is_some (absent star_text i))) ∙ and-false (row t).is_complete
  where
    absent : (n : List ℕ) → finmap.get w n ≡ None
    absent n = no_keys w (texts w) refl none n

if_none : (b : Bool) → kept_after b None ≡ None
if_none true = refl
if_none false = refl

-- nothing is held, and nothing is believed
pub abreast_unopened : (v : VariantName) (cluster : List ℕ) (all : List TypedWrite) (t : TypeName) (f : Shelf) → f.asked ≡ false → wants_some f.wants ≡ false → f.nonce ≡ [] → ((q : List ℕ) → finmap.get f.cache q ≡ None) → Abreast v cluster all t (unopened cluster) None f
abreast_unopened v cluster all t f not_asked none nonce empty = record {
  asks = inr (not_asked, refl, none, nonce);
  awaits = nonce;
  touched = λ sent is. absurd (none_sent None sent refl is);
  told = λ q u is. let never : None ≡ Some (Told u) = sym (finmap.get-empty text_cmp q) ∙ is in absurd cc;
  none = λ q counted is. empty q;
  within = λ q unwanted. empty q;
  made = λ q h is. absurd (never h (sym (empty q) ∙ is));
}

-- a change that is the first request of its type on a stream
pub abreast_asked : (v : VariantName) (cluster : List ℕ) (all : List TypedWrite) (t : TypeName) (w : Wants) (m : Message) (f : Shelf) → IsChange v t f w m → wants_some f.wants ≡ false → wants_some w ≡ true → f.nonce ≡ [] → IsWithin t f
    → Abreast v cluster all t (session_after t (unopened cluster) m) None (wanting t w true f)
abreast_asked v cluster all t w m f change none some nonce within =
    let names : Names = names_of t (unasked cluster) m in
    let absent : (q : List ℕ) → finmap.get (kept_of t w f.cache) q ≡ None = λ q. kept_by_name t w f.cache q ∙ ap (kept_after (is_wanted t w q)) (within q (nothing_wanted t f.wants q none)) ∙ if_none (is_wanted t w q) in
    let unresumed : (q : List ℕ) → resumed_after (finmap.get names.versions q) (fresh t cluster m q) ≡ fresh t cluster m q = λ q. ap (λ x. resumed_after (finmap.get x q) (fresh t cluster m q)) (change.resumes cluster) ∙ nothing_resumed (fresh t cluster m q) q in
    abreast_first v cluster all t m (wanting t w true f) refl nonce (change.opens cluster none some)
    (λ q u told. absurd (untold (touches names.touched q) (reaches names.asked.interest q) (set.contains names.mentioned q) u (sym (unresumed q) ∙ told))) (λ q whole is. absent q) (λ q unwanted. absent q)
    (λ q h held. absurd (never h (sym (absent q) ∙ held)))

-- ---- the requests of a client

-- the first list of the state of the world on a stream names something
listed_first : (cluster : List ℕ) (t : TypeName) (w : Wants) → wants_some w ≡ true → sotw_asked t (unasked cluster) (texts w) ≡ asking StateOfTheWorld cluster t w
listed_first cluster t w some = λ i. record { begun = true; named = some i; interest = in_cluster cluster (if some i then listed t (texts w) else everything t) }

pub sotw_changes : (t : TypeName) (who : Option Identity) (w : Wants) (asked : Bool) (f : Shelf) → IsChange StateOfTheWorld t f w (streams.Sotw (sotw_request t who (wanting t w asked f) None))
sotw_changes t who w asked f = record { variant = refl; url = refl; nonce = inr refl; asks = λ cluster. refl; opens = λ cluster none some. listed_first cluster t w some; resumes = λ cluster. refl }

pub delta_changes : (t : TypeName) (who : Option Identity) (subscribe unsubscribe : Wants) (f : Shelf) → IsChange Delta t f (wants_after subscribe unsubscribe f.wants) (streams.Delta (delta_request t who subscribe unsubscribe finmap.empty))
delta_changes t who subscribe unsubscribe f =
    let kept : Selection → Asked = λ x. record { begun = true; named = false; interest = x } in
    record {
      variant = refl;
      url = refl;
      nonce = inl refl;
      asks = λ cluster. ap kept (sym (change_is_asked t cluster subscribe unsubscribe f.wants));
      opens = λ cluster none some.
          ap kept
          (subst (λ (x : Wants). wants_some (wants_after subscribe unsubscribe x) ≡ true → (delta_asked t (unasked cluster) (record { subscribe = texts subscribe; unsubscribe = texts unsubscribe })).interest ≡ interest t cluster (wants_after subscribe unsubscribe x))
          (sym (empty_wants f.wants none)) (first_change_is_asked t cluster subscribe unsubscribe) some);
      resumes = λ cluster. refl;
    }

-- the request of a type at the start of a stream
abbrev pub opening_of : VariantName → TypeName → Option Identity → Shelf → Message
opening_of StateOfTheWorld t who f = streams.Sotw (sotw_opening t who f)
opening_of Delta t who f = streams.Delta (delta_opening t who f)

all_true : (touched reached mentioned : Bool) (e : Option Entry) → touched ≡ true → reached ≡ true → mentioned ≡ true → believed_after touched reached mentioned e ≡ None → ⊥
all_true touched reached mentioned e t c m is = let unsure : Some Unsure ≡ None = sym (λ i. believed_after (t i) (c i) (m i) e) ∙ is in absurd cc

explicit : (star named : Bool) → star ≡ false → (star || named) ≡ true → named ≡ true
explicit true named none is = absurd cc
explicit false named none is = is

newly : (star named : Bool) → named ≡ true → (exactly_one false star || exactly_one false named) ≡ true
newly true named is = refl
newly false named is = ap (λ b. exactly_one false b) is

-- a name that is wanted of an incomplete type is named by the first request of the state of the world
first_names : (cluster : List ℕ) (t : TypeName) (w : Wants) (name : List ℕ) → (row t).is_complete ≡ false → is_wanted t w name ≡ true
    → (touches (sotw_touch (unasked cluster).interest (interest t cluster w)) name ≡ true) × (reaches (interest t cluster w) name ≡ true) × (set.contains (interest t cluster w).names name ≡ true)
first_names cluster t w name partial wanted =
    let star : (interest t cluster w).star ≡ false = list_any-is_star t (texts w) ∙ ap (λ c. c && has_name (texts w) star_text) partial in
    let reached : reaches (interest t cluster w) name ≡ true = wants_what_is_reached t cluster w name ∙ wanted in
    let named : set.contains (interest t cluster w).names name ≡ true = explicit (interest t cluster w).star (set.contains (interest t cluster w).names name) star reached in (
      sotw_touch_is_a_set (unasked cluster).interest (interest t cluster w) name
          ∙ ap (λ b. exactly_one false (interest t cluster w).star || exactly_one b (set.contains (interest t cluster w).names name)) (contains-from_texts [] name) ∙ newly (interest t cluster w).star (set.contains (interest t cluster w).names name) named,
      reached,
      named,
    )

held_by_name : (cache : Cache) (q : List ℕ) → finmap.get (cached_versions cache) q ≡ version_held (finmap.get cache q)
held_by_name cache q = get-tabulated (cached_version cache) (finmap.keys cache) q (λ absent. ap version_held (absent_key cache q absent))

pub abreast_opened : (v : VariantName) (cluster : List ℕ) (all : List TypedWrite) (t : TypeName) (who : Option Identity) (f : Shelf) → wants_some f.wants ≡ true → IsWithin t f → AllMade v all t f
    → Abreast v cluster all t (session_after t (unopened cluster) (opening_of v t who f)) None (connected f)
abreast_opened StateOfTheWorld cluster all t who f some within made =
    let m : Message = opening_of StateOfTheWorld t who f in
    let names : Names = names_of t (unasked cluster) m in
    let after : names.asked ≡ asking StateOfTheWorld cluster t f.wants = listed_first cluster t f.wants some in
    abreast_first StateOfTheWorld cluster all t m (connected f) some refl after
    (λ q u told. absurd (untold (touches names.touched q) (reaches names.asked.interest q) (set.contains names.mentioned q) u (sym (nothing_resumed (fresh t cluster m q) q) ∙ told)))
    (λ q partial is. by_wanted q partial (is_wanted t f.wants q) refl (sym (nothing_resumed (fresh t cluster m q) q) ∙ is)) within made
  where
    by_wanted : (q : List ℕ) → (row t).is_complete ≡ false → (b : Bool) → is_wanted t f.wants q ≡ b → fresh t cluster (opening_of StateOfTheWorld t who f) q ≡ None → finmap.get f.cache q ≡ None
    by_wanted q partial false wanted none = within q wanted
    by_wanted q partial true wanted none =
        let names : Names = names_of t (unasked cluster) (opening_of StateOfTheWorld t who f) in
        let after : names.asked ≡ asking StateOfTheWorld cluster t f.wants = listed_first cluster t f.wants some in
        let first = first_names cluster t f.wants q partial wanted in
        absurd
        (all_true (touches names.touched q) (reaches names.asked.interest q) (set.contains names.mentioned q) None (ap (λ (a : Asked). touches (sotw_touch (unasked cluster).interest a.interest) q) after ∙ first.0)
        (ap (λ (a : Asked). reaches a.interest q) after ∙ first.1) (ap (λ (a : Asked). set.contains a.interest.names q) after ∙ first.2) none)
abreast_opened Delta cluster all t who f some within made =
    let m : Message = opening_of Delta t who f in
    let names : Names = names_of t (unasked cluster) m in
    abreast_first Delta cluster all t m (connected f) some refl
    (ap (λ x. record { begun = true; named = false; interest = x }) (ap (λ l. (delta_asked t (unasked cluster) (record { subscribe = texts f.wants; unsubscribe = l })).interest) no_texts ∙ first_is_asked t cluster f.wants some))
    (λ q. subst (λ o. IsTold IsOfVersion (resumed_after o (fresh t cluster m q)) (finmap.get f.cache q)) (sym (held_by_name f.cache q))
    (told_resumed (fresh t cluster m q) (finmap.get f.cache q) (untold (touches names.touched q) (reaches names.asked.interest q) (set.contains names.mentioned q))))
    (λ q whole. subst (λ o. IsNone (resumed_after o (fresh t cluster m q)) (finmap.get f.cache q)) (sym (held_by_name f.cache q)) (none_resumed (fresh t cluster m q) (finmap.get f.cache q))) within made

-- ---- a response is sent

-- the replica sent a response, while these requests are under way to it
pub abreast_sent : (v : VariantName) (cluster : List ℕ) (all : List TypedWrite) (t : TypeName) (s : Session) (ups : List Message) (f : Shelf) (o : Offer) (d : Draft) (k : ℕ) → s.account.sent ≡ None → s.asked.begun ≡ true → IsStarOfComplete t s.asked
    → AllTaken t s ups → NoneAnswers (suc k) ups → suc k ≤ max_counter → bytes_eq f.nonce (nonce_text (suc k)) ≡ false → variant_in d ≡ v → (delivery t d).nonce ≡ nonce_text (suc k)
    → ((name : List ℕ) → Says (IsAt v all t name) (finmap.get o name) (is_removed_in t d name) (finmap.get (stated_in t d) name)) → ((name : List ℕ) (h : Holding) → finmap.get (stated_in t d) name ≡ Some h → IsMade v all t name h)
    → ((name version : List ℕ) → finmap.get o name ≡ Some (Stated version) → reaches s.asked.interest name ≡ true) → Abreast v cluster all t (folded t s ups) None f → Abreast v cluster all t (folded t (send s o (suc k)) ups) (Some d) f
abreast_sent v cluster all t s ups f o d k none begun stands taken apart bounded other speaks nonce says made reached lane =
    let after : Session = folded t s ups in
    let asked = asks_begun v cluster t after f (begun_folded t s ups begun) lane.asks in
    let sent : Sent = record { offer = o; touched = touched_by t s ups } in
    subst (λ x. Abreast v cluster all t x (Some d) f) (sym (sending_folded t s o [] (suc k) ups none taken apart))
    (record {
      asks = inl asked;
      awaits = (
        record {
          speaks = speaks;
          nonce = nonce;
          numbered = (k, refl, bounded);
          says = says;
          made = made;
          wanted = λ name u states untouched.
              sym (wants_what_is_reached t cluster f.wants name) ∙ ap (λ (a : Asked). reaches a.interest name) (sym asked.1) ∙ untouched_folded t s ups name begun stands taken untouched ∙ reached name u states;
        },
        other,
      );
      touched = λ x is. subst (TouchedIsUnsure v t (with_sent after o (touched_by t s ups) (suc k))) (some_is sent x is) (λ name u whole touches_it told. touched_folded t s ups name u begun taken none touches_it told);
      told = lane.told;
      none = lane.none;
      within = lane.within;
      made = lane.made;
    })
