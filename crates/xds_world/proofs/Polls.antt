-- A poll without a stream: what a replica answers, and what the client makes of it.
use Rattle.std.proofs.Common.{◌≡◌, ℕ, Bool, true, Option, Some, None, Result, Ok, Err, refl, sym, ap, ◌∙◌}
use Rattle.std.specs.Prelude.{IfOk, option_map}
use Rattle.std.specs.Option.{option_and_then}
use Rattle.std.specs.Ordering.{nat_cmp}
use Rattle.std.specs.FinMap as finmap
use Rattle.std.specs.FinMap.{FinMap}
use Rattle.xds_resource.specs.declared.refusal.Refusal.{Refusal}
use Rattle.xds_resource.specs.declared.types.TypeName.{TypeName}
use Rattle.xds_message.specs.Drafts.{Drafted}
use Rattle.xds_message.specs.Messages.{Request}
use Rattle.xds_core.specs.Events as events
use Rattle.xds_core.specs.Events.{Reply}
use Rattle.xds_core.proofs.StreamSteps.{put_twice, put_back}
use Rattle.xds_cache.specs.Shelves.{wants_some}
use Rattle.xds_cache.specs.Faults.{Test}
use Rattle.xds_cache.specs.Clients.{Client, shelf}
use Rattle.xds_script.specs.declared.event.AnswerFate.{AnswerFate}
use Rattle.xds_script.specs.declared.event.AnswerFate.TheVariants.{Arrives, Lost}
use Rattle.xds_script.specs.declared.event.ClientKind.{ClientKind}
use Rattle.xds_script.specs.declared.event.ClientKind.TheVariants.{Sotw, Delta, Rest}
use Rattle.xds_script.specs.Happenings as happenings
use Rattle.xds_world.specs.Worlds.{Peer, World, with_peer, at_site, poll_of, poll_event, answer_taken, rested, rest_polled, happens}
use Rattle.xds_world.proofs.EveryEvent.{polls_as}
use Rattle.xds_world.proofs.RestPolls.{asked_is, poll_says, answer_kind}
use Rattle.xds_world.proofs.Polled.{takes_some}
use Rattle.xds_world.specs.AnyClients.{answering}
use Rattle.xds_world.specs.Calls.{Gave, Happened}
use Rattle.xds_world.specs.Peers.{peer_answered}
use Rattle.xds_world.specs.Parts.{peer_event, rested_in}
use Rattle.xds_world.proofs.Steps.{read_reply, peers_stay, edited}

-- what a poll is answered
pub rest_read : {X : Type 0} (seen : X → Reply) (w w1 : World) (r : ℕ) (t : TypeName) (q : Request) (o : Option X) (d : Option (Option Drafted)) → d ≡ option_and_then (λ x. rested_in (seen x)) o
    → Gave seen w o w1 (at_site w r (poll_event t q)) → Gave events.Rested w d w1 (at_site w r (poll_event t q))
rest_read seen w w1 r t q o d is gave = read_reply seen events.Rested rested_in (λ y. refl) w w1 (at_site w r (poll_event t q)) (λ y says. poll_says w r t q y w1 says) o d is gave

-- a client that asks
abbrev Asking : World → ℕ → TypeName → Request → Type 0
Asking w c t q = (p : Peer) × (finmap.get w.peers c ≡ Some p) × (poll_of p t ≡ Some q)

asking : (t : TypeName) (q : Request) (o : Option Peer) → Some q ≡ option_and_then (λ p. poll_of p t) o → (p : Peer) × (o ≡ Some p) × (poll_of p t ≡ Some q)
asking t q None is = absurd cc
asking t q (Some p) is = (p, refl, sym is)

rest_is : (test : Test) (w : World) (c r : ℕ) (t : TypeName) (q : Request) (fate : AnswerFate) (at : Asking w c t q) → happens test w (happenings.RestPoll c r t fate) ≡ option_and_then (rested test fate c t at.0) (at_site w r (poll_event t q))
rest_is test w c r t q fate at = ap (option_and_then (λ p. rest_polled test w c r t fate p)) at.1 ∙ ap (option_and_then (λ y. option_and_then (rested test fate c t at.0) (at_site w r (poll_event t y)))) at.2

-- one who polls takes the answer, or rejects it
answering_as : (test : Test) (k : ClientKind) (t : TypeName) (d : Option Drafted) (c x : Client) → k ≡ Rest → answer_taken test Arrives c t d ≡ Some x → answering test k t d c ≡ Some x
answering_as test Rest t d c x is takes = takes
answering_as test Sotw t d c x is takes = absurd cc
answering_as test Delta t d c x is takes = absurd cc

pub rest_arrives : (test : Test) (w w1 w2 : World) (c r : ℕ) (t : TypeName) (q : Request) (d : Option Drafted) (b : Bool) → Some q ≡ option_and_then (λ p. poll_of p t) (finmap.get w.peers c) → Gave events.Rested w (Some d) w1 (at_site w r (poll_event t q))
    → Happened w1 b w2 (peer_event w1 c (peer_answered test t d)) → Happened w b w2 (happens test w (happenings.RestPoll c r t Arrives))
rest_arrives test w w1 w2 c r t q d b asks gave answered =
    let at = asking t q (finmap.get w.peers c) asks in
    let p : Peer = at.0 in
    let some : wants_some (shelf p.client t).wants ≡ true = (asked_is p.kind p.client t q at.2).0 in
    let takes = takes_some test Arrives p.client t d some (λ y is. answer_kind w r t q d w1 gave y is) in
    let left : Peer = record p { client = takes.0 } in
    let makes : peer_answered test t d p ≡ Some left = ap (option_map (λ x. record p { client = x })) (answering_as test p.kind t d p.client takes.0 (polls_as p.kind p.client t q at.2) takes.1) in
    edited w w1 w2 c r (poll_event t q) (events.Rested d) p left (peer_answered test t d) b (happens test w (happenings.RestPoll c r t Arrives)) at.1 makes gave answered
    (rest_is test w c r t q Arrives at ∙ ap (option_and_then (rested test Arrives c t p)) gave ∙ ap (option_map (λ x. with_peer w1 c (record p { client = x }))) takes.1)

-- the same where the client may find no memory
pub rest_within : (test : Test) (w w1 w2 : World) (c r : ℕ) (t : TypeName) (q : Request) (d : Option Drafted) → Some q ≡ option_and_then (λ p. poll_of p t) (finmap.get w.peers c) → Gave events.Rested w (Some d) w1 (at_site w r (poll_event t q))
    → (x : Result Bool Refusal) → IfOk x (λ b. Happened w1 b w2 (peer_event w1 c (peer_answered test t d))) → IfOk x (λ b. Happened w b w2 (happens test w (happenings.RestPoll c r t Arrives)))
rest_within test w w1 w2 c r t q d asks gave (Ok b) answered = rest_arrives test w w1 w2 c r t q d b asks gave answered
rest_within test w w1 w2 c r t q d asks gave (Err e) answered = answered

-- who is put where it is changes nothing
put_there : (m : FinMap nat_cmp Peer) (c : ℕ) (p : Peer) → finmap.get m c ≡ Some p → finmap.insert m c p ≡ m
put_there m c p has = sym (put_twice m c p p) ∙ put_back m c p p has

-- an answer that is lost leaves the clients
pub rest_lost : (test : Test) (w w1 : World) (c r : ℕ) (t : TypeName) (q : Request) (d : Option Drafted) → Some q ≡ option_and_then (λ p. poll_of p t) (finmap.get w.peers c) → Gave events.Rested w (Some d) w1 (at_site w r (poll_event t q))
    → Happened w true w1 (happens test w (happenings.RestPoll c r t Lost))
rest_lost test w w1 c r t q d asks gave =
    let at = asking t q (finmap.get w.peers c) asks in
    let has : finmap.get w1.peers c ≡ Some at.0 = ap (λ m. finmap.get m c) (peers_stay w r (poll_event t q) (events.Rested d) w1 gave) ∙ at.1 in
    rest_is test w c r t q Lost at ∙ ap (option_and_then (rested test Lost c t at.0)) gave ∙ (λ i. Some (record w1 { peers = put_there w1.peers c at.0 has i }))
