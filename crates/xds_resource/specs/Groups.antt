-- Groups: the texts that a write may list, so that the star of a client covers it only where the client's node is of a
-- cluster among them. This project's own.
--     max_groups         at most this many groups
--     max_group          a group has at most this many bytes
--     is_group           a text that may be a group: neither empty nor too long
--     placed             an ascending list with a text put in its place, byte by byte, unless it is there
--     grouped            each text of a list once, in ascending order
--     group_conditions   why a list of texts is no list of groups
--     groups_of          the groups that a list of texts comes to: in whatever order, and a doubled one once
--     IsGroups           a list of groups as it is kept, which comes to itself
--     has_group          whether a text is among the groups
--     Ascend             the groups ascend, none of them twice
use Rattle.std.specs.Prelude.{◌≡◌, ℕ, List, [], ◌∷◌, map, length, T, Bool, ◌&&◌, not, nat_lt, bytes_eq, Result, Ok}
use Rattle.std.specs.List.{list_all, list_any}
use Rattle.std.specs.FinMap.Entries.{by_order, is_sorted}
use Rattle.xds_resource.specs.declared.refusal.Refusal.{Refusal}
use Rattle.xds_resource.specs.declared.refusal.Refusal.TheVariants.{BadGroup}
use Rattle.xds_resource.specs.Refusals.{unless_refused}
use Rattle.xds_resource.specs.Writes.{text_cmp}

-- rule: groups
-- at most this many groups
abbrev pub max_groups : ℕ
max_groups = 64

-- rule: groups
-- a group has at most this many bytes
abbrev pub max_group : ℕ
max_group = 1024

-- rule: groups
-- a text that may be a group: neither empty nor too long
abbrev pub is_group : List ℕ → Bool
is_group text = nat_lt 0 (length text) && not (nat_lt max_group (length text))

-- an ascending list with a text put in its place, byte by byte, unless it is there
abbrev pub placed : List ℕ → List (List ℕ) → List (List ℕ)
placed text [] = text ∷ []
placed text (t ∷ ts) = by_order (text_cmp text t) (text ∷ t ∷ ts) (t ∷ ts) (t ∷ placed text ts)

-- rule: groups
-- each text of a list once, in ascending order
abbrev pub grouped : List (List ℕ) → List (List ℕ)
grouped [] = []
grouped (text ∷ texts) = placed text (grouped texts)

-- rule: groups
-- why a list of texts is no list of groups
abbrev pub group_conditions : List (List ℕ) → List (Bool × Refusal)
group_conditions texts = (not (list_all is_group texts), BadGroup) ∷ (nat_lt max_groups (length (grouped texts)), BadGroup) ∷ []

-- rule: groups
-- the groups that a list of texts comes to: in whatever order, and a doubled one once
abbrev pub groups_of : List (List ℕ) → Result (List (List ℕ)) Refusal
groups_of texts = unless_refused (group_conditions texts) (grouped texts)

-- rule: groups
-- a list of groups as it is kept, which comes to itself
abbrev pub IsGroups : List (List ℕ) → Type 0
IsGroups groups = groups_of groups ≡ Ok groups

-- rule: groups
-- whether a text is among the groups
abbrev pub has_group : List (List ℕ) → List ℕ → Bool
has_group groups text = list_any (bytes_eq text) groups

-- the groups ascend, none of them twice
abbrev pub Ascend : List (List ℕ) → Type 0
Ascend groups = T (is_sorted text_cmp (map (λ group. (group, tt {0})) groups))
