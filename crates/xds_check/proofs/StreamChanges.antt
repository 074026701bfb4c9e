-- What is kept of one stream is taken out, changed and put back.
use Rattle.std.proofs.Common.{◌≡◌, ◌≢◌, inl, inr, ℕ, List, Bool, true, Option, Some, sym, ap, ◌∙◌, eq-eqb, ne_eqb}
use Rattle.std.proofs.lemmas.List.{nil_from_length}
use Rattle.std.specs.Prelude.{◌==◌, not, if◌then◌else◌}
use Rattle.std.specs.List.{list_all}
use Rattle.std.specs.Option.{unwrap_or}
use Rattle.std.specs.Cmp.{nat_cmp_total}
use Rattle.std.specs.FinMap as finmap
use Rattle.std.specs.FinMap.{nat_cmp-IsAntisymmetric}
use Rattle.xds_resource.specs.declared.types.TypeName.{TypeName}
use Rattle.xds_resource.specs.Writes.{text_cmp}
use Rattle.xds_catalogue.specs.Holdings.{Entries}
use Rattle.xds_catalogue.proofs.Lookups.{get-inserted, get-removed}
use Rattle.xds_check.specs.declared.asking.Asking.{Asking}
use Rattle.xds_check.specs.declared.line.Line.TheVariants as lines
use Rattle.xds_check.specs.Answers.{Answer}
use Rattle.xds_check.specs.Kept.{StreamTalk, Talks, unheard, talk_at, asked, told, IsHeard, is_missed, none_missed}

-- ---- one stream

abbrev put_talk : Talks → ℕ → StreamTalk → Talks
put_talk talks r k = finmap.insert (finmap.remove talks r) r k

changed_here : (talks : Talks) (r s : ℕ) (f : StreamTalk → StreamTalk) → r ≡ s → finmap.get (put_talk talks r (f (talk_at talks r))) s ≡ Some (f (talk_at talks r))
    → talk_at (put_talk talks r (f (talk_at talks r))) s ≡ (if r == s then f (talk_at talks s) else talk_at talks s)
changed_here talks r s f same has =
    ap (λ (o : Option StreamTalk). unwrap_or o unheard) has ∙ ap (λ n. f (talk_at talks n)) same ∙ sym (ap (λ (b : Bool). if b then f (talk_at talks s) else talk_at talks s) (eq-eqb r s same))

pub elsewhere : (talks : Talks) (r s : ℕ) → r ≢ s → finmap.get (finmap.remove talks r) s ≡ finmap.get talks s
elsewhere talks r s apart = elim (get-removed nat_cmp_total nat_cmp-IsAntisymmetric talks r s) [ inl here ↦ absurd (apart here.0) | inr there ↦ there.1 ]

changed : (talks : Talks) (r : ℕ) (f : StreamTalk → StreamTalk) (s : ℕ) → talk_at (put_talk talks r (f (talk_at talks r))) s ≡ (if r == s then f (talk_at talks s) else talk_at talks s)
changed talks r f s =
    elim (get-inserted nat_cmp_total nat_cmp-IsAntisymmetric (finmap.remove talks r) r (f (talk_at talks r)) s) [
      | inl here ↦ changed_here talks r s f here.0 here.1
      | inr there ↦
          ap (λ (o : Option StreamTalk). unwrap_or o unheard) (there.1 ∙ elsewhere talks r s there.0)
          ∙ sym (ap (λ (b : Bool). if b then f (talk_at talks s) else talk_at talks s) (ne_eqb r s there.0))
    ]

pub request_heard : (t : TypeName) (m : Entries) (talks now : Talks) (r : ℕ) (q : Asking) → now ≡ put_talk talks r (asked t q (talk_at talks r)) → IsHeard t m (lines.Request r q) talks now
request_heard t m talks now r q is s = ap (λ x. talk_at x s) is ∙ changed talks r (asked t q) s

pub answer_heard : (t : TypeName) (m : Entries) (talks now : Talks) (r : ℕ) (a : Answer) → now ≡ put_talk talks r (told t m a (talk_at talks r)) → IsHeard t m (lines.Response r a) talks now
answer_heard t m talks now r a is s = ap (λ x. talk_at x s) is ∙ changed talks r (told t m a) s

-- no name waits on a stream of which no line spoke
pub unheard_waits : (m : Entries) → none_missed m unheard ≡ true
unheard_waits m =
    ap (λ (es : List (List ℕ × Bool)). list_all (λ e. not (is_missed m unheard e.0)) es)
    (nil_from_length (finmap.entries unheard.waiting) (sym (finmap.len-entries unheard.waiting) ∙ finmap.len-empty text_cmp Bool))
