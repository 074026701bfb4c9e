-- The list of what a client may be owed: some names, and a mark up to which the catalogue's changes were looked at, so that a
-- look goes through these names and the changes above the mark, and through nothing else. This project's own.
--     Listed, listed_code   each listed name has a number
--     unlisted              no name, and every change is to be looked at
--     is_listed             whether a name is listed
--     from_mark             no name, and every change above a mark
--     is_since              whether the latest change of a name's entry is above a mark
--     IsPast                the name has no entry in the catalogue, or its latest change has a number
--     Fits                  the list suffices for a client of this variant, type and interest
--     KeepsSending          the second has the first's mark of the sending, and its own isn't below
--     StaysSufficient       wherever the first list sufficed at these holdings, the second does
--     changed_since         the names that changed since a mark, with the numbers of their latest changes
--     refreshed             once the changes above the mark were looked at
--     pruned                without the names that are owed nothing now
--     relisted              with these names alone, once all changes were looked at
--     with_name             with one name more
--     without_mark          with every change to be looked at again
--     with_sending          once a response was sent
--     without_sending       without the mark of the sending
--     IsWider               the second has every name of the first, and its marks aren't above
--     IsLater               the holdings came after others
use Rattle.std.specs.Prelude.{◌≡◌, ◌⊎◌, ℕ, ◌≤◌, List, Bool, false, nat_lt, if◌then◌else◌, Option, Some, None, is_some, IfSome, IsSomeAnd, refl}
use Rattle.std.specs.Coded.{Coded, code_by, coded×, coded_ℕ, coded_list, coded_option}
use Rattle.std.specs.Option.{option_map_or}
use Rattle.std.specs.FinMap as finmap
use Rattle.xds_resource.specs.declared.types.TypeName.{TypeName}
use Rattle.xds_resource.specs.Writes.{text_cmp}
use Rattle.xds_resource.specs.Names.{put_all}
use Rattle.xds_interest.specs.Interests.{Selection}
use Rattle.xds_catalogue.specs.Holdings.{Holdings, Latest}
use Rattle.xds_ledger.specs.declared.variant.VariantName.{VariantName}
use Rattle.xds_ledger.specs.Owed.{Beliefs, is_owed}

-- Each listed name has a number: that of the change by which it came into the list, or 0 where a request or an answer put it there.
pub record Listed : Type 0 where
  pub mark : ℕ
  pub names : finmap.FinMap text_cmp ℕ
  -- the mark when the response was sent that is unanswered, as long as its acceptance may leave of the other names what was present then
  pub sent_mark : Option ℕ

abbrev pub listed_code : Coded Listed
listed_code =
    code_by (ℕ × (finmap.FinMap text_cmp ℕ × Option ℕ)) (coded× coded_ℕ (coded× (finmap.code (coded_list coded_ℕ) coded_ℕ) (coded_option coded_ℕ))) (λ l. (l.mark, (l.names, l.sent_mark)))
    (λ p. record { mark = p.0; names = p.1.0; sent_mark = p.1.1 }) (λ _. refl)

-- no name, and every change is to be looked at
abbrev pub unlisted : Listed
unlisted = record { mark = 0; names = finmap.empty; sent_mark = None }

-- no name, and every change above a mark is to be looked at
abbrev pub from_mark : ℕ → Listed
from_mark mark = record { mark = mark; names = finmap.empty; sent_mark = None }

abbrev pub is_listed : Listed → List ℕ → Bool
is_listed l name = is_some (finmap.get l.names name)

-- whether the latest change of a name's entry is above a mark
abbrev pub is_since : Holdings → ℕ → List ℕ → Bool
is_since h mark name = option_map_or (nat_lt mark) (finmap.get h.latest name) false

-- the name has no entry in the catalogue, or its latest change has a number, and one that isn't above the mark
abbrev pub IsPast : Holdings → ℕ → List ℕ → Type 0
IsPast h mark name = (finmap.get h.entries name ≡ None) ⊎ IsSomeAnd (finmap.get h.latest name) (λ k. (1 ≤ k) × (k ≤ mark))

-- rule: owed
-- The list suffices for a client of this variant, type and interest, at a catalogue of these holdings: the mark is one of its
-- counts of changes, and a name that isn't listed and didn't change since is owed nothing that can be told.
pub record Fits (v : VariantName) (t : TypeName) (s : Selection) (h : Holdings) (b : Beliefs) (l : Listed) : Type 0 where
  pub counted : l.mark ≤ h.changes
  pub others : (name : List ℕ) → is_listed l name ≡ false → IsPast h l.mark name → is_owed v t s h.entries b name ≡ false

-- The second has the first's mark of the sending, and its own isn't below the first's.
pub record KeepsSending (old new : Listed) : Type 0 where
  pub sent_mark : new.sent_mark ≡ old.sent_mark
  pub mark : old.mark ≤ new.mark

-- wherever the first list sufficed at these holdings, the second does
pub record StaysSufficient (h : Holdings) (old new : Listed) : Type 0 where
  pub fits : (v : VariantName) (t : TypeName) (s : Selection) (b : Beliefs) → Fits v t s h b old → Fits v t s h b new
  pub sending : old.mark ≤ h.changes → KeepsSending old new

-- ---- how a list changes

-- the names that changed since a mark, with the numbers of their latest changes
abbrev pub changed_since : Holdings → ℕ → Latest
changed_since h mark = finmap.retain_keys h.latest (is_since h mark)

-- once the changes above the mark were looked at: their names are listed, and the mark is the count of changes
abbrev pub refreshed : Holdings → Listed → Listed
refreshed h l = record { mark = h.changes; names = put_all (λ name number. Some number) (changed_since h l.mark) (finmap.entries l.names); sent_mark = l.sent_mark }

-- without the names that are owed nothing now
abbrev pub pruned : VariantName → TypeName → Selection → Holdings → Beliefs → Listed → Listed
pruned v t s h b l = record l { names = put_all (λ name number. if is_owed v t s h.entries b name then Some number else None) finmap.empty (finmap.entries l.names) }

-- with these names alone, once all changes up to this count were looked at
abbrev pub relisted : ℕ → Latest → Listed → Listed
relisted changes names l = record l { mark = changes; names = names }

-- with one name more
abbrev pub with_name : Listed → List ℕ → Listed
with_name l name = record l { names = finmap.insert l.names name 0 }

-- with every change to be looked at again
abbrev pub without_mark : Listed → Listed
without_mark l = record l { mark = 0; sent_mark = None }

-- once a response was sent
abbrev pub with_sending : Listed → Listed
with_sending l = record l { sent_mark = Some l.mark }

-- without the mark of the sending
abbrev pub without_sending : Listed → Listed
without_sending l = record l { sent_mark = None }

-- The second has every name of the first, and its mark isn't above, so that it suffices where the first does. If it has a mark of
-- the sending, that is the first's, and its own isn't below either.
pub record IsWider (l wide : Listed) : Type 0 where
  pub mark : wide.mark ≤ l.mark
  pub sending : IfSome wide.sent_mark (λ m. (l.sent_mark ≡ Some m) × (l.mark ≤ wide.mark))
  pub names : (name : List ℕ) → is_listed wide name ≡ false → is_listed l name ≡ false

-- ---- how a catalogue changes

-- The holdings came after others: an entry whose latest change isn't above the count of changes of those is theirs, with its
-- number, and a name that has no entry had none.
pub record IsLater (h later : Holdings) : Type 0 where
  pub grows : h.changes ≤ later.changes
  pub past : (name : List ℕ) (mark : ℕ) → mark ≤ h.changes → IsPast later mark name → IsPast h mark name
  pub same : (name : List ℕ) → IsPast later h.changes name → finmap.get later.entries name ≡ finmap.get h.entries name
