-- What clients want and hold, name by name, and that their interests are those that a server makes of their requests. This
-- project's own.
--     WantsWhatIsReached   what is wanted is what the interest reaches
--     ListIsInterest       a list is the interest that it says by itself
--     ListIsAsked          state of the world: a server makes of each request what is wanted
--     FirstIsAsked         delta: of the first request on a stream, which subscribes all that is wanted
--     FirstChangeIsAsked   delta: of a change that is the first request of its type on a stream
--     ChangeIsAsked        a change is what a server makes of a request with its two lists, after the first request
--     WantedByName         what is wanted after a change, text by text
--     ShownByName          what is held after a response that is taken, name by name
--     KeptByName           what is held after a change, name by name
--     HoldsWhatIsWanted    nothing is held that isn't wanted
use Rattle.std.specs.Prelude.{◌≡◌, ℕ, List, [], Bool, true, false, ◌||◌, None}
use Rattle.std.specs.FinMap as finmap
use Rattle.xds_resource.specs.declared.types.TypeName.{TypeName}
use Rattle.xds_interest.specs.Interests.{reaches, in_cluster}
use Rattle.xds_interest.specs.SotW.{listed}
use Rattle.xds_interest.specs.Asked.{Asked, unasked, sotw_asked, delta_asked}
use Rattle.xds_cache.specs.Shelves.{Wants, Cache, texts, interest, is_wanted, wants_some, wants_of, wants_after, marked_after, kept, kept_of}
use Rattle.xds_cache.specs.Deliveries.{shown_after, cache_after}

-- what is wanted is what the interest reaches
abbrev pub WantsWhatIsReached : Type 0
WantsWhatIsReached = (t : TypeName) (cluster : List ℕ) (w : Wants) (name : List ℕ) → reaches (interest t cluster w) name ≡ is_wanted t w name

-- a list is the interest that it says by itself
abbrev pub ListIsInterest : Type 0
ListIsInterest = (t : TypeName) (cluster : List ℕ) (names : List (List ℕ)) → interest t cluster (wants_of names) ≡ in_cluster cluster (listed t names)

-- rule: listed-names
-- State of the world: a server makes of each request what is wanted. The first one on a stream names something.
abbrev pub ListIsAsked : Type 0
ListIsAsked =
    (t : TypeName) (a : Asked) (w : Wants) → (a.named || wants_some w) ≡ true → (sotw_asked t a (texts w)).interest ≡ interest t a.interest.cluster w

-- rule: delta-names
-- delta: of the first request on a stream, which subscribes all that is wanted
abbrev pub FirstIsAsked : Type 0
FirstIsAsked =
    (t : TypeName) (cluster : List ℕ) (w : Wants) → wants_some w ≡ true
    → (delta_asked t (unasked cluster) (record { subscribe = texts w; unsubscribe = [] })).interest ≡ interest t cluster w

-- rule: delta-names
-- delta: of a change that is the first request of its type on a stream, where nothing was wanted before
abbrev pub FirstChangeIsAsked : Type 0
FirstChangeIsAsked =
    (t : TypeName) (cluster : List ℕ) (subscribe unsubscribe : Wants) → wants_some (wants_after subscribe unsubscribe finmap.empty) ≡ true
    → (delta_asked t (unasked cluster) (record { subscribe = texts subscribe; unsubscribe = texts unsubscribe })).interest
    ≡ interest t cluster (wants_after subscribe unsubscribe finmap.empty)

-- rule: delta-names
-- a change is what a server makes of a request with its two lists, after the first request
abbrev pub ChangeIsAsked : Type 0
ChangeIsAsked =
    (t : TypeName) (cluster : List ℕ) (subscribe unsubscribe before : Wants)
    → interest t cluster (wants_after subscribe unsubscribe before)
    ≡ (delta_asked t (record { begun = true; named = false; interest = interest t cluster before }) (record { subscribe = texts subscribe; unsubscribe = texts unsubscribe })).interest

-- rule: delta-names
-- what is wanted after a change, text by text
abbrev pub WantedByName : Type 0
WantedByName = (subscribe unsubscribe before : Wants) (name : List ℕ) → finmap.get (wants_after subscribe unsubscribe before) name ≡ marked_after subscribe unsubscribe before name

-- rule: whole-response
-- what is held after a response that is taken, name by name
abbrev pub ShownByName : Type 0
ShownByName =
    (t : TypeName) (w : Wants) (whole : Bool) (removed : Wants) (stated held : Cache) (name : List ℕ)
    → finmap.get (cache_after t w whole removed stated held) name ≡ shown_after t w whole removed stated held name

-- what is held after a change, name by name
abbrev pub KeptByName : Type 0
KeptByName = (t : TypeName) (w : Wants) (held : Cache) (name : List ℕ) → finmap.get (kept_of t w held) name ≡ kept t w held name

-- nothing is held that isn't wanted
abbrev pub HoldsWhatIsWanted : Type 0
HoldsWhatIsWanted =
    (t : TypeName) (w : Wants) (whole : Bool) (removed : Wants) (stated held : Cache) (name : List ℕ) → is_wanted t w name ≡ false
    → (finmap.get (cache_after t w whole removed stated held) name ≡ None) × (finmap.get (kept_of t w held) name ≡ None)
