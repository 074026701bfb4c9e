use Rattle.std.proofs.Common.{◌≡◌, ℕ, List, [], map, string_bytes, Bor, refl, ap, ◌∙◌}
use Rattle.std.specs.List.{filter_map}
use Rattle.xds_resource.specs.Writes.{StampedWrite}
use Rattle.xds_resource.proofs.NameMaps.{texts_of}
use Rattle.xds_interest.specs.Interests.{Selection}
use Rattle.xds_catalogue.specs.Content.{live_at, content}
use Rattle.xds_ledger.specs.Texts.{interest_version}
use Rattle.xds_sessions.proofs.SotwMade.{body_of}
use Rattle.xds_sessions.proofs.NamedRests.{named_version, named_bodies}
use Rattle.xds_sessions.proofs.rest.named.Goals as goal

abbrev shown_writes : List (Bor StampedWrite) → List StampedWrite
shown_writes ws = map (λ w. w.now) ws

pub returns-clause-ok : goal.returns-clause-ok
returns-clause-ok g c = λ s unstarred names.
    let h = c.args.catalogue.now in
    let texts : List (List ℕ) = map string_bytes c.args.names.now in
    let ordered : List (List ℕ) = texts_of c.in_ok-ordered.ordered.items in
    let shown : List StampedWrite = shown_writes c.in_ok-shown.shown.items in
    let version : string_bytes c.in_ok-version.version ≡ interest_version c.args.replica h.changes s =
    c.in_ok-version.ensures.text ∙ (λ i. interest_version c.args.replica (c.changes.ensures i) c.nothing-nobody.result)
    ∙ named_version c.args.replica h.changes c.nothing-nobody.result s (ap (λ (n : Selection). n.star) c.nothing-nobody.ensures) unstarred in
    let live : shown ≡ filter_map (live_at h.entries) ordered = c.in_ok-shown.ensures.ok ∙ ap (λ xs. filter_map (live_at h.entries) (texts_of xs)) c.deref.ensures.value in
    let bodies : filter_map body_of shown ≡ filter_map body_of (content h.entries s) =
    named_bodies h s texts ordered shown (filter_map body_of shown) c.live_under.ensures.named unstarred names c.in_ok-ordered.ensures.texts c.in_ok-ordered.ensures.ascending live refl in
    c.in_ok-draft.ensures.ok
    ∙ (λ i. record { kind = g.T.ResourceType.TYPE; version_info = version i; nonce = []; bodies = (ap (λ ws. filter_map body_of (shown_writes ws)) c.deref-2.ensures.value ∙ bodies) i })
