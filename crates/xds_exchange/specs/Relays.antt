-- The rule over a channel from one thread to another: what was put is what was taken, and then what the channel holds. One pass at
-- most may put, and it has the list of what was put; the same goes for what was taken. This project's own.
--     log                     what was told of the two ends of a channel
--     item_of                 a message as a list: its item, or nothing where it is the mark of the end
--     items_of                the items of some messages
--     Fits                    a pass knows what its end put or took
--     AllFit                  each pass of a channel knows so
--     Relayed                 what was put on a channel is what was taken, and then the messages under way
use Rattle.std.specs.Prelude.{◌≡◌, ℕ, Bool, true, List, [], ◌∷◌, ◌++◌, Option, Some, None}
use Rattle.std.specs.List.{flat_map}
use mathlib.Core.Option.{some}
use lib.ListN.{get_elem?}
use Rattle.xds_exchange.specs.declared.rule.Log.{Log}

abbrev pub log : {T : Type 0} → Bool → Bool → List T → List T → Log T
log puts takes put taken = record { puts = puts; takes = takes; put = put; taken = taken }

-- A message is an item, or the mark of the end, which is none.
abbrev pub item_of : {T : Type 0} → Option T → List T
item_of (Some x) = x ∷ []
item_of None = []

abbrev pub items_of : {T : Type 0} → List (Option T) → List T
items_of messages = flat_map item_of messages

-- what holds of a pass: who may put is the one, and knows all that was put; who may take is the other, and knows all that was taken
abbrev pub Fits : {T : Type 0} → ℕ → ℕ → List T → List T → ℕ → Log T → Type 0
Fits putter taker put taken pass v = (v.puts ≡ true → (pass ≡ putter) × (v.put ≡ put)) × (v.takes ≡ true → (pass ≡ taker) × (v.taken ≡ taken))

abbrev pub AllFit : {T : Type 0} → ℕ → ℕ → List T → List T → List (Log T) → Type 0
AllFit putter taker put taken views = (pass : ℕ) (v : Log _) → get_elem? views pass ≡ some v → Fits putter taker put taken pass v

pub record Relayed {T : Type 0} (messages : List (Option T)) (views : List (Log T)) : Type 0 where
  pub putter : ℕ
  pub taker : ℕ
  pub put : List T
  pub taken : List T
  pub in_order : put ≡ taken ++ items_of messages
  pub fit : AllFit putter taker put taken views
