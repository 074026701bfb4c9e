-- A poll without a stream: one that wants the names of a list, and one of the star.
use Rattle.std.proofs.Common.{◌≡◌, ℕ, List, [], ◌∷◌, ◌++◌, false, Some, None, Bor, refl, sym, ap, ◌∙◌}
use Rattle.std.specs.Prelude.{◌&&◌, bytes_eq, codes, if◌then◌else◌}
use Rattle.std.specs.List.{filter_map}
use Rattle.std.specs.List.Sorted.{IsStrictlySortedBy}
use Rattle.std.specs.FinSet as set
use Rattle.xds_resource.specs.declared.types.TypeName.{TypeName}
use Rattle.xds_resource.specs.Writes.{StampedWrite, text_cmp}
use Rattle.xds_interest.specs.Interests.{Selection}
use Rattle.xds_interest.specs.SotW.{sotw_interest}
use Rattle.xds_interest.proofs.Ordered.{named_of_first}
use Rattle.xds_catalogue.specs.Holdings.{Holdings, IsCatalogue}
use Rattle.xds_catalogue.specs.Content.{live_at, content}
use Rattle.xds_catalogue.proofs.InOrder.{content-names, texts_ascend}
use Rattle.xds_message.specs.Drafts.{Drafted}
use Rattle.xds_ledger.specs.Texts.{replica_version, at_cluster, interest_version}
use Rattle.xds_sessions.specs.Rest.{asked_once, whole, unless_present}
use Rattle.xds_sessions.proofs.SotwMade.{body_of}

-- without the star the version is the same, whatever the cluster
unstarred_version : (replica changes : ℕ) (s : Selection) → s.star ≡ false → replica_version replica changes ++ codes ".named" ≡ interest_version replica changes s
unstarred_version replica changes s unstarred = sym (ap (λ b. replica_version replica changes ++ (if b then at_cluster s.cluster else codes ".named")) unstarred)

pub named_version : (replica changes : ℕ) (nobody s : Selection) → nobody.star ≡ false → s.star ≡ false → interest_version replica changes nobody ≡ interest_version replica changes s
named_version replica changes nobody s none unstarred = sym (unstarred_version replica changes nobody none) ∙ unstarred_version replica changes s unstarred

-- what stands live under the names of a list in order is what a client sees that wants these names
pub named_bodies : (h : Holdings) (s : Selection) (texts ordered : List (List ℕ)) (shown : List StampedWrite) (bodies : List (List ℕ)) → IsCatalogue h.entries → s.star ≡ false → s.names ≡ set.from_list texts
    → set.from_list {R = text_cmp} ordered ≡ set.from_list texts → IsStrictlySortedBy text_cmp ordered → shown ≡ filter_map (live_at h.entries) ordered → bodies ≡ filter_map body_of shown
    → bodies ≡ filter_map body_of (content h.entries s)
named_bodies h s texts ordered shown bodies named unstarred names same ascending live made =
    made ∙ ap (filter_map body_of) (live ∙ content-names h.entries s ordered named unstarred (same ∙ sym names) (texts_ascend ordered ascending))

-- the names of a first list that isn't the star
pub asked_names : (t : TypeName) (texts : List (List ℕ)) (cluster : List ℕ) → (sotw_interest t (texts ∷ [])).star ≡ false → (asked_once t texts cluster).names ≡ set.from_list texts
asked_names t texts cluster unstarred = named_of_first t texts unstarred

-- it is answered in any case
pub named_answer : (replica : ℕ) (t : TypeName) (h : Holdings) (s : Selection) (version : List ℕ) (d : Drafted) → s.star ≡ false → d ≡ whole replica t h s → Some d ≡ unless_present replica t h s version
named_answer replica t h s version d unstarred is =
    ap (λ (x : Drafted). Some x) is
    ∙ sym (ap (λ b. if (b && bytes_eq version (interest_version replica h.changes s)) then None else Some (whole replica t h s)) unstarred)
