-- The headline holds of runs, and a settled client shows exactly what its replica holds.
use Rattle.std.proofs.Common.{◌≡◌, ℕ, List, [], ◌∷◌, ◌++◌, true, false, ◌&&◌, Some, refl, sym, ap, ◌∙◌}
use Rattle.std.specs.Prelude.{option_map}
use Rattle.std.specs.Option.{option_map_or, option_and_then}
use Rattle.std.specs.FinMap as finmap
use Rattle.xds_resource.specs.declared.types.TypeName.{TypeName}
use Rattle.xds_resource.specs.Writes.{StampedWrite}
use Rattle.xds_resource.specs.Best.{best}
use Rattle.xds_catalogue.proofs.Catalogues.{best-entries_of}
use Rattle.xds_message.specs.Drafts.{message_of}
use Rattle.xds_cache.specs.Shelves.{Cache, Wants, interest, is_wanted}
use Rattle.xds_cache.specs.Clients.{shelf, view}
use Rattle.xds_cache.specs.Faults.{Test}
use Rattle.xds_cache.specs.Rest.{rest_receive}
use Rattle.xds_script.specs.declared.event.AnswerFate.TheVariants.{Arrives}
use Rattle.xds_script.specs.Happenings.{RestPoll}
use Rattle.xds_world.specs.Worlds.{Site, Link, Peer, World, at_site, poll_of, poll_event, happens, world}
use Rattle.xds_world.specs.Knows.{knows, wants, cluster as cluster_of, link}
use Rattle.xds_world.specs.Claims.{writes_of, shown_of, content_at, IsExact, Shows, IsPoll, is_rejected, is_rejected_by, rejects, is_quiet, owes_nothing, is_settled_on, is_settled}
use Rattle.xds_world.proofs.Replicas.{IsRestPoll, rest_poll_is}
use Rattle.xds_world.proofs.Headline.{headline, put_more}
use Rattle.xds_world.proofs.Polled.{polled_is_exact}
use Rattle.xds_runs.specs.Runs.{Moment, Runs, is_number, runs}
use Rattle.xds_runs.specs.Claims.{PutResourcesThen, IsPartOf, AreOneWorld, held, DeltaShowsWhatIsHeld, SotwShowsWhatIsHeld, PollShowsWhatIsHeld}
use Rattle.xds_runs.proofs.Within.{wide, answers_there}
use Rattle.xds_runs.proofs.Events.{rest_there}
use Rattle.xds_runs.proofs.Moments.{One, one_of}

part_of : (test : Test) (s : Runs) (x : One test s) → IsPartOf s.now (world test x.happenings)
part_of test s x = record {
  clients = ap (λ v. v.peers) x.made;
  replicas = λ r y is. ap (λ v. finmap.get v.sites r) x.made ∙ x.inside.here r y is;
}

pub are_one_world : (test : Test) (store : ℕ) (ms : List Moment) → is_number store ≡ true → PutResourcesThen ms → AreOneWorld test store ms
are_one_world test store ms number put =
    let x = one_of test store ms number put in
    record { happenings = x.happenings; resources = x.resources; headline = headline test x.happenings x.resources; part = part_of test (runs test store ms) x }

-- ---- what is to be shown

-- by other lists with the same best writes
same_content : (t : TypeName) (vs ws : List StampedWrite) (j k : List ℕ) (v w : Wants) → ((name : List ℕ) → best vs name ≡ best ws name) → j ≡ k → v ≡ w → (name : List ℕ) → content_at t vs j v name ≡ content_at t ws k w name
same_content t vs ws j k v w same clusters wishes name = λ i. option_and_then (shown_of (interest t (clusters i) (wishes i)) name) (same name i)

same_exact : (t : TypeName) (vs ws : List StampedWrite) (j k : List ℕ) (v w : Wants) (cache : Cache) → ((name : List ℕ) → best vs name ≡ best ws name) → j ≡ k → v ≡ w → IsExact t vs j v cache → IsExact t ws k w cache
same_exact t vs ws j k v w cache same clusters wishes exact name = exact name ∙ same_content t vs ws j k v w same clusters wishes name

same_shown : (t : TypeName) (vs ws : List StampedWrite) (j k : List ℕ) (v w : Wants) (cache : Cache) → ((name : List ℕ) → best vs name ≡ best ws name) → j ≡ k → v ≡ w → Shows t vs j v cache → Shows t ws k w cache
same_shown t vs ws j k v w cache same clusters wishes shows = (
  λ complete name. shows.0 complete name ∙ ap (option_map (λ h. h.body)) (same_content t vs ws j k v w same clusters wishes name),
  (λ name h is. shows.1.0 name h (same_content t vs ws j k v w same clusters wishes name ∙ is), λ name unwanted. shows.1.1 name (ap (λ x. is_wanted t x name) wishes ∙ unwanted)),
)

-- what a replica of the run knows and what it holds have the same best writes
best_held : (test : Test) (s : Runs) (x : One test s) (r : ℕ) (site : Site) (t : TypeName) → finmap.get s.now.sites r ≡ Some site → (name : List ℕ) → best (writes_of t (knows test x.happenings r)) name ≡ best (held site.core.store t) name
best_held test s x r site t has name =
    let h = headline test x.happenings x.resources in
    sym (ap (λ m. best (finmap.values m) name) (h.holds r site t ((part_of test s x).replicas r site has)) ∙ best-entries_of (writes_of t (knows test x.happenings r)) name)

-- ---- clients on streams

-- what it is that a client is settled, where its replica is there
settled_by : (w : World) (c : ℕ) (t : TypeName) (p : Peer) (l : Link) (site : Site) → finmap.get w.peers c ≡ Some p → p.link ≡ Some l → finmap.get w.sites l.replica ≡ Some site → is_settled w c t ≡ (is_quiet t l && owes_nothing t l.stream site)
settled_by w c t p l site has linked there =
    ap (λ o. option_map_or (λ q. option_map_or (is_settled_on w t) q.link false) o false) has ∙ ap (λ o. option_map_or (is_settled_on w t) o false) linked
    ∙ ap (λ o. is_quiet t l && option_map_or (owes_nothing t l.stream) o false) there

-- the client as it is in the one world
record Client (test : Test) (s : Runs) (x : One test s) (c : ℕ) (t : TypeName) (p : Peer) (l : Link) : Type 0 where
  has : finmap.get (world test x.happenings).peers c ≡ Some p
  linked : link test x.happenings c ≡ Some l.replica
  settled : is_settled (world test x.happenings) c t ≡ true
  placed : cluster_of test x.happenings c ≡ p.client.cluster
  wanted : wants test x.happenings c t ≡ (shelf p.client t).wants

client_there : (test : Test) (s : Runs) (x : One test s) (c : ℕ) (t : TypeName) (p : Peer) (l : Link) (site : Site) → finmap.get s.now.peers c ≡ Some p → p.link ≡ Some l → finmap.get s.now.sites l.replica ≡ Some site → is_settled s.now c t ≡ true
    → Client test s x c t p l
client_there test s x c t p l site has linked there settled =
    let h = headline test x.happenings x.resources in
    let part = part_of test s x in
    let has_there : finmap.get (world test x.happenings).peers c ≡ Some p = ap (λ m. finmap.get m c) part.clients ∙ has in
    let followed = h.followed c p has_there in
    record {
      has = has_there;
      linked = followed.0 ∙ ap (option_map (λ k. k.replica)) linked;
      settled = settled_by (world test x.happenings) c t p l site has_there linked (part.replicas l.replica site there) ∙ sym (settled_by s.now c t p l site has linked there) ∙ settled;
      placed = followed.1;
      wanted = followed.2 t;
    }

pub delta_shows : (test : Test) (store : ℕ) (ms : List Moment) → is_number store ≡ true → PutResourcesThen ms → DeltaShowsWhatIsHeld test store ms
delta_shows test store ms number put c p l site t has kind linked there settled =
    let x = one_of test store ms number put in
    let y = client_there test (runs test store ms) x c t p l site has linked there settled in
    same_exact t (writes_of t (knows test x.happenings l.replica)) (held site.core.store t) (cluster_of test x.happenings c) p.client.cluster (wants test x.happenings c t) (shelf p.client t).wants (view p.client t)
    (best_held test (runs test store ms) x l.replica site t there) y.placed y.wanted ((headline test x.happenings x.resources).exact c l.replica p t y.has kind y.linked y.settled)

pub sotw_shows : (test : Test) (store : ℕ) (ms : List Moment) → is_number store ≡ true → PutResourcesThen ms → SotwShowsWhatIsHeld test store ms
sotw_shows test store ms number put c p l site t has kind linked there settled =
    let x = one_of test store ms number put in
    let y = client_there test (runs test store ms) x c t p l site has linked there settled in
    same_shown t (writes_of t (knows test x.happenings l.replica)) (held site.core.store t) (cluster_of test x.happenings c) p.client.cluster (wants test x.happenings c t) (shelf p.client t).wants (view p.client t)
    (best_held test (runs test store ms) x l.replica site t there) y.placed y.wanted ((headline test x.happenings x.resources).agrees c l.replica p t y.has kind y.linked y.settled)

-- ---- clients that poll

-- whether an answer is rejected, by what was answered
rejected_by : (test : Test) (w left : World) (c r : ℕ) (t : TypeName) (x : IsRestPoll test w left c r t Arrives) (v u : World) → finmap.get v.peers c ≡ Some x.peer → at_site v r (poll_event t x.request) ≡ Some (x.reply.0, u)
    → rejects test v c r t ≡ is_rejected (rest_receive test x.peer.client t (option_map message_of x.draft))
rejected_by test w left c r t x v u has answers =
    ap (λ o. option_map_or (λ p. option_map_or (λ q. option_map_or (is_rejected_by test p t) (at_site v r (poll_event t q)) false) (poll_of p t) false) o false) has
    ∙ ap (λ o. option_map_or (λ q. option_map_or (is_rejected_by test x.peer t) (at_site v r (poll_event t q)) false) o false) x.asks ∙ ap (λ o. option_map_or (is_rejected_by test x.peer t) o false) answers
    ∙ ap (λ a. is_rejected_by test x.peer t (a, u)) x.says

pub poll_shows : (test : Test) (store : ℕ) (ms : List Moment) → is_number store ≡ true → PutResourcesThen ms → PollShowsWhatIsHeld test store ms
poll_shows test store ms number put c r p q site t left has there possible takes polled =
    let s : Runs = runs test store ms in
    let x = one_of test store ms number put in
    let part = part_of test s x in
    let h = headline test x.happenings x.resources in
    let has_there : finmap.get (world test x.happenings).peers c ≡ Some p = ap (λ m. finmap.get m c) part.clients ∙ has in
    let y = rest_there s.store s.taken s.stored test s.now left x.sites x.pool c r t Arrives possible x.inside in
    let poll = rest_poll_is test s.now left c r t Arrives possible in
    let answers = answers_there s.store s.taken s.stored s.now x.sites x.pool r (poll_event t poll.request) poll.reply poll.answers x.inside in
    let is : IsPoll test (x.happenings ++ RestPoll c r t Arrives ∷ []) c r t Arrives =
    record { before = x.happenings; rest = []; among = refl; left = wide left y.after x.pool; possible = ap (λ v. happens test v (RestPoll c r t Arrives)) x.made ∙ y.happened; polling = p; asks = has_there; polled = q; has = polled } in
    let same : rejects test (world test x.happenings) c r t ≡ rejects test s.now c r t =
    rejected_by test s.now left c r t poll (world test x.happenings) (wide poll.reply.1 answers.after x.pool) (ap (λ m. finmap.get m c) part.clients ∙ poll.has) (ap (λ v. at_site v r (poll_event t poll.request)) x.made ∙ answers.answers)
    ∙ sym (rejected_by test s.now left c r t poll s.now poll.reply.1 poll.has poll.answers) in
    let followed = h.followed c p has_there in
    same_shown t (writes_of t (knows test x.happenings r)) (held site.core.store t) (cluster_of test x.happenings c) p.client.cluster (wants test x.happenings c t) (shelf p.client t).wants (view q.client t)
    (best_held test s x r site t there) followed.1 (followed.2 t)
    (polled_is_exact test (x.happenings ++ RestPoll c r t Arrives ∷ []) (put_more x.happenings (RestPoll c r t Arrives) x.resources tt) c r t is (same ∙ takes))
