-- That what is kept for the clients of a cluster that want everything is what each of them is told.
use Rattle.std.proofs.Common.{arith, ◌≡◌, ◌<◌, ◌≤◌, ◌+◌, ◌⊎◌, ℕ, List, Bool, true, false, cond, Option, Some, None, Result, Ok, Err, refl, sym, ap, ◌∙◌, subst, inl, inr}
use Rattle.std.specs.Prelude.{IfSome, IfOk, OnOk, OnErr, bytes_eq, is_some, if◌then◌else◌, option_map}
use Rattle.std.specs.Option.{option_or, option_and_then, option_map_or}
use Rattle.std.specs.FinMap as finmap
use Rattle.std.proofs.lemmas.Cmp.{nat_list_cmp_total}
use Rattle.xds_resource.specs.declared.refusal.Refusal.{Refusal}
use Rattle.xds_resource.specs.declared.types.TypeName.{TypeName}
use Rattle.xds_resource.specs.Writes.{text_cmp}
use Rattle.xds_resource.specs.Names.{put_all}
use Rattle.xds_resource.proofs.MadeMaps.{get-put_all}
use Rattle.xds_resource.proofs.NameMaps.{bytes_eq_tells, get-insert, same_names}
use Rattle.xds_interest.specs.Interests.{Selection}
use Rattle.xds_catalogue.specs.Holdings.{Entries, Latest}
use Rattle.xds_ledger.specs.declared.variant.VariantName.{VariantName}
use Rattle.xds_ledger.specs.declared.entry.Due.{Due}
use Rattle.xds_ledger.specs.declared.entry.Due.TheVariants.{Stated}
use Rattle.xds_ledger.specs.Owed.{Beliefs, present, owed as owed_by, owed_of, is_owed}
use Rattle.xds_ledger.specs.Offers.{Offer, offered, offer}
use Rattle.xds_ledger.specs.Sessions.{Session}
use Rattle.xds_ledger.specs.Variants.{is_delta, is_whole, is_told}
use Rattle.xds_ledger.proofs.ByName.{offer_says_it}
use Rattle.xds_ledger.proofs.SaysSomething.{owed_is_said}
use Rattle.xds_sessions.specs.declared.wildcards.Wildcard.{Wildcard}
use Rattle.xds_sessions.specs.Wildcards.{all_of, first_offer, IsFirst, IsShared, most_shared}

-- nothing is kept
pub none_shared : {S : Type 0} (P : List ℕ → Wildcard S → Type 0) (kept : finmap.FinMap text_cmp (Wildcard S)) → kept ≡ finmap.empty → (cluster : List ℕ) → IfSome (finmap.get kept cluster) (P cluster)
none_shared {S} P kept is cluster =
    let none : finmap.get kept cluster ≡ None = ap (λ (k : finmap.FinMap text_cmp (Wildcard S)). finmap.get k cluster) is ∙ finmap.get-empty text_cmp cluster in
    subst (λ (o : Option (Wildcard S)). IfSome o (P cluster)) (sym none) tt

-- one more is kept
more_at : {S : Type 0} (P : List ℕ → Wildcard S → Type 0) (cluster q : List ℕ) (w : Wildcard S) (held : Option (Wildcard S)) (same : Bool)
    → bytes_eq cluster q ≡ same → P cluster w → IfSome held (P q) → IfSome (cond same (Some w) held) (P q)
more_at P cluster q w held true equal shared before = subst (λ (c : List ℕ). P c w) (bytes_eq_tells cluster q equal) shared
more_at P cluster q w held false equal shared before = before

one_more : {S : Type 0} (P : List ℕ → Wildcard S → Type 0) (kept new : finmap.FinMap text_cmp (Wildcard S)) (cluster : List ℕ) (w : Wildcard S)
    → new ≡ finmap.insert kept cluster w → P cluster w → ((q : List ℕ) → IfSome (finmap.get kept q) (P q)) → (q : List ℕ) → IfSome (finmap.get new q) (P q)
one_more {S} P kept new cluster w is shared held q =
    subst (λ (o : Option (Wildcard S)). IfSome o (P q)) (sym (ap (λ (k : finmap.FinMap text_cmp (Wildcard S)). finmap.get k q) is ∙ get-insert kept cluster w q))
    (more_at P cluster q w (finmap.get kept q) (bytes_eq cluster q) refl shared (held q))

-- one more is kept, or there was no memory for it
pub kept_more : {S A : Type 0} (P : List ℕ → Wildcard S → Type 0) (kept new : finmap.FinMap text_cmp (Wildcard S)) (cluster : List ℕ) (w : Wildcard S) (r : Result A Refusal)
    → OnOk r (new ≡ finmap.insert kept cluster w) → OnErr r (new ≡ kept) → P cluster w → ((q : List ℕ) → IfSome (finmap.get kept q) (P q)) → (q : List ℕ) → IfSome (finmap.get new q) (P q)
kept_more P kept new cluster w (Ok x) done left shared held = one_more P kept new cluster w done shared held
kept_more {S} P kept new cluster w (Err e) done left shared held = λ q. subst (λ (k : finmap.FinMap text_cmp (Wildcard S)). IfSome (finmap.get k q) (P q)) (sym left) (held q)

-- where there was room for one more, there are not too many
one_counted : (n : ℕ) (b : Bool) → n < most_shared → cond b n (n + 1) ≤ most_shared
one_counted n true room = omega arith
one_counted n false room = omega arith

few_one_more : {S : Type 0} (kept new : finmap.FinMap text_cmp (Wildcard S)) (cluster : List ℕ) (w : Wildcard S)
    → new ≡ finmap.insert kept cluster w → finmap.len kept < most_shared → finmap.len new ≤ most_shared
few_one_more kept new cluster w is room =
    subst (λ (n : ℕ). n ≤ most_shared) (sym (ap finmap.len is ∙ finmap.len-insert nat_list_cmp_total kept cluster w)) (one_counted (finmap.len kept) (finmap.contains_key kept cluster) room)

below : (n : ℕ) → n < most_shared → n ≤ most_shared
below n room = omega arith

pub few_kept : {S : Type 0} (kept : finmap.FinMap text_cmp (Wildcard S)) → finmap.len kept < most_shared → finmap.len kept ≤ most_shared
few_kept kept room = below (finmap.len kept) room

pub few_more : {S A : Type 0} (kept new : finmap.FinMap text_cmp (Wildcard S)) (cluster : List ℕ) (w : Wildcard S) (r : Result A Refusal)
    → OnOk r (new ≡ finmap.insert kept cluster w) → OnErr r (new ≡ kept) → finmap.len kept < most_shared → finmap.len new ≤ most_shared
few_more kept new cluster w (Ok x) done left room = few_one_more kept new cluster w done room
few_more kept new cluster w (Err e) done left room = subst (λ (n : ℕ). n ≤ most_shared) (sym (ap finmap.len left)) (few_kept kept room)

-- none is kept
pub few_none : {S : Type 0} (kept : finmap.FinMap text_cmp (Wildcard S)) → kept ≡ finmap.empty → finmap.len kept < most_shared
few_none {S} kept is = subst (λ (n : ℕ). n < most_shared) (sym (ap finmap.len is ∙ finmap.len-empty text_cmp (Wildcard S))) (omega arith)

-- a whole response is the same, whatever is believed
stated_at : (v : VariantName) (t : TypeName) (s : Selection) (m : Entries) (b : Beliefs) (q : List ℕ) → is_whole v t ≡ true → offered v t s m b q ≡ option_map Stated (present s m q)
stated_at v t s m b q whole = ap (λ (w : Bool). if w then option_map Stated (present s m q) else if is_owed v t s m b q then owed_of s m b q else None) whole

whole_alike : (v : VariantName) (t : TypeName) (s : Selection) (m : Entries) (b c : Beliefs) → is_whole v t ≡ true → offer v t s m b ≡ offer v t s m c
whole_alike v t s m b c whole =
    same_names _ _ (λ q. offer_says_it v t s m b q ∙ stated_at v t s m b q whole ∙ sym (stated_at v t s m c q whole) ∙ sym (offer_says_it v t s m c q))

first_of : (v : VariantName) (t : TypeName) (s : Selection) (m : Entries) (b : Beliefs) → (is_whole v t ≡ true) ⊎ (b ≡ finmap.empty) → offer v t s m finmap.empty ≡ offer v t s m b
first_of v t s m b (inl whole) = whole_alike v t s m finmap.empty b whole
first_of v t s m b (inr nothing) = ap (offer v t s m) (sym nothing)

-- what is kept is what a session is offered next
pub first_offered : (v : VariantName) (t : TypeName) (k : Session) (m : Entries) → IsFirst v t k → first_offer v t k.asked.interest.cluster m ≡ offer v t k.asked.interest m k.account.beliefs
first_offered v t k m first =
    first_of v t (all_of k.asked.interest.cluster) m k.account.beliefs first.whole ∙ ap (λ (s : Selection). offer v t s m k.account.beliefs) (sym first.wants_all)

-- ---- the names of an offer

abbrev pub put_no_number : Due → Option ℕ
put_no_number due = Some 0

there_alike : (o : Option Due) → is_some (option_or (option_and_then put_no_number o) None) ≡ is_some o
there_alike None = refl
there_alike (Some due) = refl

-- a map that was made of its names has the same
pub same_names_there : (o : Offer) (names : Latest) → names ≡ put_all (λ name due. put_no_number due) finmap.empty (finmap.entries o) → (q : List ℕ) → is_some (finmap.get names q) ≡ is_some (finmap.get o q)
same_names_there o names is q =
    ap (λ (m : Latest). is_some (finmap.get m q)) is
    ∙ ap is_some (get-put_all (λ name due. put_no_number due) finmap.empty o q ∙ ap (option_or (option_and_then put_no_number (finmap.get o q))) (finmap.get-empty text_cmp q))
    ∙ there_alike (finmap.get o q)

said_where_owed : (whole : Bool) (told : Due → Bool) (p : Option (List ℕ)) → option_map_or told (option_map Stated p) false ≡ true
    → is_some (if whole then option_map Stated p else (if option_map_or told (option_map Stated p) false then option_map Stated p else None)) ≡ true
said_where_owed whole told None owed = absurd cc
said_where_owed true told (Some v) owed = refl
said_where_owed false told (Some v) owed = ap (λ b. is_some (if b then Some (Stated v) else None)) owed

-- rule: owed
-- where nothing is believed, an offer speaks of all that is owed
nothing_else_owed : (v : VariantName) (t : TypeName) (s : Selection) (m : Entries) (b : Beliefs) (q : List ℕ) → finmap.get b q ≡ None → is_owed v t s m b q ≡ true → is_some (finmap.get (offer v t s m b) q) ≡ true
nothing_else_owed v t s m b q none owed =
    ap is_some (offer_says_it v t s m b q)
    ∙ (λ i. is_some (if is_whole v t then option_map Stated (present s m q) else (if option_map_or (is_told v t) (owed_by (none i) (present s m q)) false then owed_by (none i) (present s m q) else None)))
    ∙ said_where_owed (is_whole v t) (is_told v t) (present s m q) (sym (λ i. option_map_or (is_told v t) (owed_by (none i) (present s m q)) false) ∙ owed)

-- rule: owed
-- so the names that are shared are all that is owed to a client that wants everything and holds nothing
pub owed_is_shared : {S : Type 0} (v : VariantName) (t : TypeName) (IsSaid : Entries → Selection → Offer → S → Type 0) (k : Session) (m : Entries) (w : Wildcard S) (names : Latest) → IsShared v t IsSaid m k.asked.interest.cluster w → IsFirst v t k
    → k.account.beliefs ≡ finmap.empty → names ≡ w.names → (q : List ℕ) → is_owed v t k.asked.interest m k.account.beliefs q ≡ true → is_some (finmap.get names q) ≡ true
owed_is_shared v t IsSaid k m w names shared first nothing same q owed =
    ap (λ (n : Latest). is_some (finmap.get n q)) same ∙ shared.names_are q ∙ ap (λ (o : Offer). is_some (finmap.get o q)) (shared.offer_is ∙ first_offered v t k m first)
    ∙ nothing_else_owed v t k.asked.interest m k.account.beliefs q (ap (λ (b : Beliefs). finmap.get b q) nothing ∙ finmap.get-empty text_cmp q) owed

-- as a call gives them
pub names_are_owed : {S : Type 0} (v : VariantName) (t : TypeName) (IsSaid : Entries → Selection → Offer → S → Type 0) (k : Session) (m : Entries) (w : Wildcard S) (r : Option Latest) → IsShared v t IsSaid m k.asked.interest.cluster w → IsFirst v t k
    → k.account.beliefs ≡ finmap.empty → IfSome r (λ n. n ≡ w.names) → IfSome r (λ n. (q : List ℕ) → is_owed v t k.asked.interest m k.account.beliefs q ≡ true → is_some (finmap.get n q) ≡ true)
names_are_owed v t IsSaid k m w None shared first nothing same = tt
names_are_owed v t IsSaid k m w (Some names) shared first nothing same = owed_is_shared v t IsSaid k m w names shared first nothing same

-- a shared map that was made so
pub shared_as_made : (o : Offer) (names : Latest) (r : Result Latest Refusal) → names ≡ put_all (λ name due. put_no_number due) finmap.empty (finmap.entries o) → IfOk r (λ m. m ≡ names)
    → IfOk r (λ m. (q : List ℕ) → is_some (finmap.get m q) ≡ is_some (finmap.get o q))
shared_as_made o names (Err e) is made = tt
shared_as_made o names (Ok m) is made = same_names_there o m (made ∙ is)

-- rule: owed
-- an incremental offer speaks of all that is owed
pub owed_is_offered : (v : VariantName) (t : TypeName) (s : Selection) (m : Entries) (b : Beliefs) (o : Offer) (names : Latest) → is_delta v ≡ true → o ≡ offer v t s m b → ((q : List ℕ) → is_some (finmap.get names q) ≡ is_some (finmap.get o q))
    → (q : List ℕ) → is_owed v t s m b q ≡ true → is_some (finmap.get names q) ≡ true
owed_is_offered v t s m b o names delta is same q owed = same q ∙ ap (λ (x : Offer). is_some (finmap.get x q)) is ∙ owed_is_said v t s m b q delta owed
