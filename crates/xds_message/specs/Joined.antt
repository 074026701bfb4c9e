-- The text of an object as it is joined member by member. This project's own.
--     with_first         the members with one more in front, where there is a value
--     members_in_order   the members in the order of the list, with a value at a key where there is one
--     text_with          the text once these members and the closing brace stand behind it; `later`
--     JoinsMember        what is left to be written after a member was, whatever follows
--     behind_commas      texts that stand behind others, each with a comma before it
--     with_commas        texts with commas between them
use Rattle.std.specs.Prelude.{◌≡◌, ℕ, List, [], ◌∷◌, ◌++◌, Bool, Option, Some, None}
use Rattle.serde_json.specs.Data.{Data, Members, no_members, member}
use Rattle.serde_json.specs.Written.{members_text}
use Rattle.xds_message.specs.Written.{Fields}

abbrev pub with_first : List ℕ → Option Data → Members → Members
with_first key None ms = ms
with_first key (Some d) ms = member key d ms

-- the members in the order of the list, with a value at a key where there is one
abbrev pub members_in_order : Fields → Members
members_in_order [] = no_members
members_in_order (f ∷ fs) = with_first f.0 f.1 (members_in_order fs)

-- the text once these members and the closing brace stand behind it; `later`: whether a member stands before
abbrev pub text_with : List ℕ → Bool → Fields → List ℕ
text_with text later fs = text ++ members_text later (members_in_order fs)

-- What is left to be written after a member was, whatever follows.
abbrev pub JoinsMember : List ℕ → Bool → List ℕ × Option Data → List ℕ → Bool → Type 0
JoinsMember old old_later f new new_later = (fs : Fields) → text_with new new_later fs ≡ text_with old old_later (f ∷ fs)

-- texts that stand behind others, each with a comma before it
abbrev pub behind_commas : List (List ℕ) → List ℕ
behind_commas [] = []
behind_commas (text ∷ texts) = 44 ∷ text ++ behind_commas texts

-- texts with commas between them
abbrev pub with_commas : List (List ℕ) → List ℕ
with_commas [] = []
with_commas (text ∷ texts) = text ++ behind_commas texts
