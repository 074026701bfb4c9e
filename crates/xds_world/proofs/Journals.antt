-- The journals of replicas are legal, and tell exactly what happened there.
use Rattle.std.proofs.Common.{◌≡◌, inl, inr, ℕ, List, [], ◌∷◌, ◌++◌, map, true, ◌&&◌, not, Option, Some, None, Ok, refl, sym, ap, subst, ◌∙◌, append-nil, append_assoc}
use Rattle.std.specs.Prelude.{◌==◌, if◌then◌else◌, is_none, nat_lt}
use Rattle.std.specs.Option.{option_map_or}
use Rattle.std.specs.Ordering.{nat_cmp}
use Rattle.std.specs.Cmp.{nat_cmp_total}
use Rattle.std.specs.FinMap as finmap
use Rattle.std.specs.FinMap.{FinMap, nat_cmp-IsAntisymmetric}
use Rattle.std.proofs.lemmas.Bool.{ne_eqb}
use Rattle.std.proofs.lemmas.Bool.Decides.{eqb_tells}
use Rattle.std.proofs.lemmas.List.{map-append}
use Rattle.xds_resource.specs.Stamps.{max_writer}
use Rattle.xds_catalogue.proofs.Lookups.{get-inserted}
use Rattle.xds_core.specs.Events.{Event, Reply}
use Rattle.xds_core.specs.Steps.{Core, step, fresh as fresh_core}
use Rattle.xds_core.specs.Legal.{Record, IsLegal, replayed, answer_of, left_by, after as after_event}
use Rattle.xds_cache.specs.Faults.{Test}
use Rattle.xds_script.specs.Happenings.{Happening}
use Rattle.xds_world.specs.Worlds.{Site, World, empty_world, recorded, happens, after}
use Rattle.xds_world.specs.Journal.{event_at, event_here, events_from}
use Rattle.xds_world.specs.Claims.{JournalsAreLegal, JournalsTellAll}
use Rattle.xds_world.proofs.Replicas.{answered, some_is, never, none_there, both_parts}
use Rattle.xds_world.proofs.Origins.{SitesCome, sites_come}

-- a journal with one record more
legal_more : (c : Core) (rs : List Record) (r : Record) → IsLegal c rs → answer_of (step (replayed c rs) r.event) ≡ r.answer → IsLegal c (rs ++ r ∷ [])
legal_more c [] r legal is = (is, tt)
legal_more c (x ∷ rs) r legal is = (legal.0, legal_more (after_event c x.event) rs r legal.1 is)

replayed_more : (c : Core) (rs : List Record) (r : Record) → replayed c (rs ++ r ∷ []) ≡ after_event (replayed c rs) r.event
replayed_more c [] r = refl
replayed_more c (x ∷ rs) r = replayed_more (after_event c x.event) rs r

-- of one replica
abbrev pub IsJournal : ℕ → Site → Type 0
IsJournal r s = IsLegal (fresh_core r) s.journal × (replayed (fresh_core r) s.journal ≡ s.core)

abbrev pub AllJournals : FinMap nat_cmp Site → Type 0
AllJournals sites = (r : ℕ) (s : Site) → finmap.get sites r ≡ Some s → IsJournal r s

recorded_is : (r : ℕ) (s : Site) (e : Event) (q : Reply × Core) → step s.core e ≡ Ok q → IsJournal r s → IsJournal r (recorded s e q)
recorded_is r s e q is journal = (
  legal_more (fresh_core r) s.journal (record { event = e; answer = Ok q.0 }) journal.0 (ap (λ c. answer_of (step c e)) journal.1 ∙ ap answer_of is),
  replayed_more (fresh_core r) s.journal (record { event = e; answer = Ok q.0 }) ∙ ap (λ c. after_event c e) journal.1 ∙ ap (left_by s.core) is,
)

put_journal : (sites : FinMap nat_cmp Site) (r : ℕ) (site : Site) → IsJournal r site → AllJournals sites → AllJournals (finmap.insert sites r site)
put_journal sites r site is all q s has =
    elim (get-inserted nat_cmp_total nat_cmp-IsAntisymmetric sites r site q) [
      | inl same ↦ subst (λ n. IsJournal n s) same.0 (subst (IsJournal r) (some_is site s (sym same.1 ∙ has)) is)
      | inr other ↦ all q s (sym other.1 ∙ has)
    ]

journals_come : (w left : World) (o : Option (ℕ × Event)) → SitesCome w left o → AllJournals w.sites → AllJournals left.sites
journals_come w left o (inl added) all = subst AllJournals (sym added.2) (put_journal w.sites added.0 (record { core = fresh_core added.0; journal = [] }) (tt, refl) all)
journals_come w left o (inr (inl stepped)) all =
    let made = answered w stepped.0 stepped.1 stepped.2 stepped.3 in
    subst AllJournals (sym (stepped.4 ∙ ap (λ x. x.1.sites) made.4)) (put_journal w.sites stepped.0 (recorded made.0 stepped.1 made.1) (recorded_is stepped.0 made.0 stepped.1 made.1 made.3 (all stepped.0 made.0 made.2)) all)
journals_come w left o (inr (inr same)) all = subst AllJournals (sym same.0) all

journals_or : (test : Test) (w : World) (h : Happening) (hs : List Happening) (o : Option World) → happens test w h ≡ o → AllJournals w.sites → ((x : World) → AllJournals x.sites → AllJournals (after test x hs).sites) → AllJournals (after test (option_map_or (λ x. x) o w) hs).sites
journals_or test w h hs None is all later = later w all
journals_or test w h hs (Some x) is all later = later x (journals_come w x (event_at w h) (sites_come test w x h is) all)

journals_after : (test : Test) (hs : List Happening) (w : World) → AllJournals w.sites → AllJournals (after test w hs).sites
journals_after test [] w all = all
journals_after test (h ∷ hs) w all = journals_or test w h hs (happens test w h) refl all (journals_after test hs)

pub journals_are_legal : (test : Test) (hs : List Happening) → JournalsAreLegal test hs
journals_are_legal test hs = journals_after test hs empty_world (λ r s has. absurd (never s (sym (finmap.get-empty nat_cmp r) ∙ has)))

-- ---- what journals tell

-- the events of a replica's journal; none where there is no such replica
abbrev told : Option Site → List Event
told o = option_map_or (λ s. map (λ x. x.event) s.journal) o []

module _ (w left : World) (r q : ℕ) (site : Site) (sites : left.sites ≡ finmap.insert w.sites q site) where
  -- a replica that changed, by the event there
  told_put : (e : Event) → told (Some site) ≡ told (finmap.get w.sites q) ++ e ∷ [] → told (finmap.get left.sites r) ≡ told (finmap.get w.sites r) ++ event_here r (Some (q, e))
  told_put e is =
      ap (λ m. told (finmap.get m r)) sites
      ∙ elim (get-inserted nat_cmp_total nat_cmp-IsAntisymmetric w.sites q site r) [
        | inl here ↦ ap told here.1 ∙ is ∙ ap (λ n. told (finmap.get w.sites n) ++ e ∷ []) here.0 ∙ ap (λ b. told (finmap.get w.sites r) ++ (if b then e ∷ [] else [])) (sym (is_same here.0))
        | inr other ↦ ap told other.1 ∙ sym (append-nil (told (finmap.get w.sites r))) ∙ ap (λ b. told (finmap.get w.sites r) ++ (if b then e ∷ [] else [])) (sym (ne_eqb q r other.0))
      ]
    where
      is_same : q ≡ r → (q == r) ≡ true
      is_same e = elim (eqb_tells q r) [ inl same ↦ same.0 | inr other ↦ absurd (other.1 e) ]

  -- and one that came
  told_added : told (Some site) ≡ told (finmap.get w.sites q) → told (finmap.get left.sites r) ≡ told (finmap.get w.sites r)
  told_added is =
      ap (λ m. told (finmap.get m r)) sites
      ∙ elim (get-inserted nat_cmp_total nat_cmp-IsAntisymmetric w.sites q site r) [
        | inl here ↦ ap told here.1 ∙ is ∙ ap (λ n. told (finmap.get w.sites n)) here.0
        | inr other ↦ ap told other.1
      ]

told_come : (w left : World) (r : ℕ) (o : Option (ℕ × Event)) → SitesCome w left o → told (finmap.get left.sites r) ≡ told (finmap.get w.sites r) ++ event_here r o
told_come w left r o (inl added) =
    let none = none_there (finmap.get w.sites added.0) (both_parts (nat_lt 0 added.0 && not (nat_lt max_writer added.0)) (is_none (finmap.get w.sites added.0)) added.1).1 in
    told_added w left r added.0 (record { core = fresh_core added.0; journal = [] }) added.2 (ap told (sym none)) ∙ sym (append-nil (told (finmap.get w.sites r))) ∙ ap (λ p. told (finmap.get w.sites r) ++ event_here r p) (sym added.3)
told_come w left r o (inr (inl stepped)) =
    let e : Event = stepped.1 in
    let made = answered w stepped.0 e stepped.2 stepped.3 in
    told_put w left r stepped.0 (recorded made.0 e made.1) (stepped.4 ∙ ap (λ x. x.1.sites) made.4) e (map-append (λ (x : Record). x.event) made.0.journal (record { event = e; answer = Ok made.1.0 } ∷ []) ∙ ap (λ p. told p ++ e ∷ []) (sym made.2))
    ∙ ap (λ p. told (finmap.get w.sites r) ++ event_here r p) (sym stepped.5)
told_come w left r o (inr (inr same)) =
    ap (λ m. told (finmap.get m r)) same.0 ∙ sym (append-nil (told (finmap.get w.sites r))) ∙ ap (λ p. told (finmap.get w.sites r) ++ event_here r p) (sym same.1)

told_or : (test : Test) (w : World) (r : ℕ) (h : Happening) (hs : List Happening) (o : Option World) → happens test w h ≡ o → ((x : World) → told (finmap.get (after test x hs).sites r) ≡ told (finmap.get x.sites r) ++ events_from test x r hs)
    → told (finmap.get (after test (option_map_or (λ x. x) o w) hs).sites r) ≡ told (finmap.get w.sites r) ++ option_map_or (λ x. event_here r (event_at w h) ++ events_from test x r hs) o (events_from test w r hs)
told_or test w r h hs None is later = later w
told_or test w r h hs (Some x) is later =
    later x ∙ ap (λ es. es ++ events_from test x r hs) (told_come w x r (event_at w h) (sites_come test w x h is)) ∙ append_assoc (told (finmap.get w.sites r)) (event_here r (event_at w h)) (events_from test x r hs)

told_after : (test : Test) (hs : List Happening) (w : World) (r : ℕ) → told (finmap.get (after test w hs).sites r) ≡ told (finmap.get w.sites r) ++ events_from test w r hs
told_after test [] w r = sym (append-nil (told (finmap.get w.sites r)))
told_after test (h ∷ hs) w r = told_or test w r h hs (happens test w h) refl (λ x. told_after test hs x r)

pub journals_tell_all : (test : Test) (hs : List Happening) → JournalsTellAll test hs
journals_tell_all test hs r s has = ap told (sym has) ∙ told_after test hs empty_world r ∙ ap (λ o. told o ++ events_from test empty_world r hs) (finmap.get-empty nat_cmp r)
