-- A poll that gives a response: its line breaks no rule, and the stream then follows it.
use Rattle.std.proofs.Common.{◌≡◌, ◌≢◌, ℕ, ◌+◌, List, ◌∷◌, Some, refl, sym, ap, subst, ◌∙◌}
use Rattle.std.specs.Prelude.{is_some, decimal}
use Rattle.std.specs.FinMap as finmap
use Rattle.xds_resource.specs.declared.types.TypeName.{TypeName}
use Rattle.xds_resource.specs.PerType.{at}
use Rattle.xds_resource.specs.Stamps.{max_counter}
use Rattle.xds_catalogue.specs.Holdings.{Entries}
use Rattle.xds_message.specs.declared.draft.Draft.{Draft}
use Rattle.xds_ledger.specs.declared.variant.VariantName.{VariantName}
use Rattle.xds_ledger.specs.declared.variant.VariantName.TheVariants as variants
use Rattle.xds_ledger.specs.Offers.{Offer}
use Rattle.xds_core.specs.Stores.{Store}
use Rattle.xds_core.specs.Streams as streams
use Rattle.xds_core.specs.Streams.{Stream, response_of}
use Rattle.xds_check.specs.declared.line.Line.{Line}
use Rattle.xds_check.specs.declared.line.Line.TheVariants as lines
use Rattle.xds_check.specs.Answers.{Answer}
use Rattle.xds_check.specs.Rules.{KeepsRules}
use Rattle.xds_trace.specs.Making.{Naming, answer_of}
use Rattle.xds_trace.proofs.Writes.{Holds}
use Rattle.xds_trace.proofs.StreamLines.{Hears, IsHeard, IsCounted, Follows}
use Rattle.xds_trace.proofs.Judging.{IsSent, offer_is}
use Rattle.xds_trace.proofs.StreamPolls.{IsDue, IsPolled}
use Rattle.xds_trace.proofs.StreamAnswers.{is_sent, wanted_is, answer_keeps, follows_sent}

-- what is to be shown of the line of a response
abbrev pub Sends : ℕ → List Line → Answer → Stream → Type 0
Sends n ls a after = KeepsRules ls (lines.Response n a) × Follows n after (lines.Response n a ∷ ls)

answer_step : (n : ℕ) (ls : List Line) (s : Stream) (v : VariantName) (a : Answer) (m : Entries) (o : Offer) → Hears v n s ls → IsCounted n s.count ls → s.variant ≡ Some v → IsDue v a.kind (at s.sessions a.kind) m o → s.count ≢ max_counter
    → a.nonce ≡ decimal (s.count + 1) → IsSent n ls v (at s.sessions a.kind).asked.interest m (at s.sessions a.kind).account.beliefs a → Sends n ls a (streams.sent s a.kind o)
answer_step n ls s v a m o hears counted spoken due more nonce_is known = (
  answer_keeps n ls s v a m o hears counted due more nonce_is known,
  follows_sent n ls s v a m o hears counted due more nonce_is spoken (offer_is n ls v (at s.sessions a.kind).asked.interest m (at s.sessions a.kind).account.beliefs a known ∙ sym due.offer_is)
      (λ q said. known.told q (ap (λ z. is_some (finmap.get z q)) (sym due.offer_is) ∙ said)),
)

module _ (named : Naming) (n : ℕ) (ls : List Line) (replica : ℕ) (store : Store) (s : Stream) (holds : Holds named store ls) (counted : IsCounted n s.count ls) (t : TypeName) (o : Offer) (more : s.count ≢ max_counter) where
  known_of : (v : VariantName) → Hears v n s ls → IsDue v t (at s.sessions t) (at store t).entries o
      → IsSent n ls v (at s.sessions t).asked.interest (at store t).entries (at s.sessions t).account.beliefs (answer_of named (response_of replica store s.sessions t o (s.count + 1) v))
  known_of v hears due =
      subst (λ z. IsSent n ls v (at s.sessions t).asked.interest (at store t).entries (at s.sessions t).account.beliefs (answer_of named (response_of replica store s.sessions t z (s.count + 1) v))) (sym due.offer_is)
      (is_sent named n ls replica store s.sessions t (s.count + 1) holds v (wanted_is v n ls s hears t))

  sends_in : (v : VariantName) → Hears v n s ls → s.variant ≡ Some v → IsDue v t (at s.sessions t) (at store t).entries o
      → Sends n ls (answer_of named (response_of replica store s.sessions t o (s.count + 1) v)) (streams.sent s t o)
  sends_in variants.StateOfTheWorld hears spoken due =
      answer_step n ls s variants.StateOfTheWorld (answer_of named (response_of replica store s.sessions t o (s.count + 1) variants.StateOfTheWorld)) (at store t).entries o hears counted spoken due more refl (known_of variants.StateOfTheWorld hears due)
  sends_in variants.Delta hears spoken due =
      answer_step n ls s variants.Delta (answer_of named (response_of replica store s.sessions t o (s.count + 1) variants.Delta)) (at store t).entries o hears counted spoken due more refl (known_of variants.Delta hears due)

-- the line of what a poll sent
pub sent_keeps : (named : Naming) (n : ℕ) (ls : List Line) (replica : ℕ) (store : Store) (s : Stream) (d : Draft) (after : Stream) → Holds named store ls → Follows n s ls → IsPolled replica store s d after → Sends n ls (answer_of named d) after
sent_keeps named n ls replica store s d after holds follows polled =
    let hears : Hears polled.variant n s ls = subst (λ p. IsHeard p n s ls) polled.spoken follows.heard in
    let sends = sends_in named n ls replica store s holds follows.counted polled.kind polled.this polled.more polled.variant hears polled.spoken polled.due in
    subst (λ x. Sends n ls (answer_of named d) x) (sym polled.after_is) (subst (λ x. Sends n ls (answer_of named x) (streams.sent s polled.kind polled.this)) (sym polled.draft_is) sends)
