-- What an accepted offer settles, and that sending commutes with taking.
use Rattle.std.proofs.Common.{◌≡◌, ℕ, List, [], ◌∷◌, ◌++◌, Bool, true, false, ◌||◌, ◌&&◌, Option, Some, None, refl, sym, ap, subst, ◌∙◌}
use Rattle.std.proofs.Math.Bool.{and-false}
use Rattle.std.specs.Prelude.{bytes_eq, is_some, option_map, if◌then◌else◌}
use Rattle.std.specs.Option.{option_map_or}
use Rattle.std.specs.FinMap as finmap
use Rattle.xds_resource.specs.declared.types.TypeName.{TypeName}
use Rattle.xds_resource.proofs.NameMaps.{bytes_eq_same}
use Rattle.xds_ledger.specs.declared.variant.VariantName.{VariantName}
use Rattle.xds_ledger.specs.declared.entry.Entry.{Entry}
use Rattle.xds_ledger.specs.declared.entry.Entry.TheVariants.{Told, Unsure}
use Rattle.xds_ledger.specs.declared.entry.Due.{Due}
use Rattle.xds_ledger.specs.declared.entry.Due.TheVariants.{Stated, Removed}
use Rattle.xds_ledger.specs.Variants.{is_whole, is_told}
use Rattle.xds_ledger.specs.Owed.{Beliefs, present, owed, is_owed, names_known}
use Rattle.xds_ledger.specs.Offers.{offer}
use Rattle.xds_ledger.specs.Ledgers.{Sent, Account, once_told, believed_accepted, beliefs_accepted, accept, reject, touch, resume, nonce_text}
use Rattle.xds_ledger.specs.Sessions.{Session}
use Rattle.xds_ledger.specs.Laws.{AcceptedOwesNothing, SendingCommutes, with_sent}
use Rattle.xds_ledger.proofs.Choosing.{none_passes}
use Rattle.xds_ledger.proofs.ByName.{offer_says_it}
use Rattle.xds_ledger.proofs.BeliefsByName.{accepted_by_name}

-- what was told at the version that is present is owed no more
told_now : (version : List ℕ) → owed (Some (Told version)) (Some version) ≡ None
told_now version = ap (λ b. if b then None else Some (Stated version)) (bytes_eq_same version)

stated_now : (version : List ℕ) (d : Due) → Stated version ≡ d → owed (once_told d) (Some version) ≡ None
stated_now version d is = subst (λ x. owed (once_told x) (Some version) ≡ None) is (told_now version)

removed_now : (d : Due) → Removed ≡ d → owed (once_told d) None ≡ None
removed_now d is = subst (λ x. owed (once_told x) None ≡ None) is refl

told_after : (told version : List ℕ) (d : Due) (b : Bool) → (if b then None else Some (Stated version)) ≡ Some d → owed (once_told d) (Some version) ≡ None
told_after told version d true e = absurd cc
told_after told version d false e = stated_now version d cc

-- what is owed of a name, once it is told, is owed no more
once_told_settles : (e : Option Entry) (p : Option (List ℕ)) (d : Due) → owed e p ≡ Some d → owed (once_told d) p ≡ None
once_told_settles None None d is = absurd cc
once_told_settles None (Some version) d is = stated_now version d cc
once_told_settles (Some (Told told)) None d is = removed_now d cc
once_told_settles (Some (Told told)) (Some version) d is = told_after told version d (bytes_eq told version) is
once_told_settles (Some Unsure) None d is = removed_now d cc
once_told_settles (Some Unsure) (Some version) d is = stated_now version d cc

partly_at : (tells : Due → Bool) (e : Option Entry) (p : Option (List ℕ)) (d : Due) (b : Bool) → tells d ≡ b → owed e p ≡ Some d
    → option_map_or tells (owed (believed_accepted false false (if b then Some d else None) e) p) false ≡ false
partly_at tells e p d true told is = ap (λ o. option_map_or tells o false) (once_told_settles e p d is)
partly_at tells e p d false untold is = ap (λ o. option_map_or tells o false) is ∙ untold

-- a response of what is owed and can be told
partly : (tells : Due → Bool) (e : Option Entry) (p : Option (List ℕ)) (o : Option Due) → owed e p ≡ o
    → option_map_or tells (owed (believed_accepted false false (if option_map_or tells o false then o else None) e) p) false ≡ false
partly tells e p None is = ap (λ o. option_map_or tells o false) is
partly tells e p (Some d) is = partly_at tells e p d (tells d) refl is

-- a response that is the whole
wholly : (tells : Due → Bool) (e : Option Entry) (p : Option (List ℕ)) → option_map_or tells (owed (believed_accepted true false (option_map Stated p) e) p) false ≡ false
wholly tells e None = refl
wholly tells e (Some version) = ap (λ o. option_map_or tells o false) (told_now version)

accepted_settles : (whole : Bool) (tells : Due → Bool) (e : Option Entry) (p : Option (List ℕ))
    → option_map_or tells (owed (believed_accepted whole false (if whole then option_map Stated p else if option_map_or tells (owed e p) false then owed e p else None) e) p) false ≡ false
accepted_settles true tells e p = wholly tells e p
accepted_settles false tells e p = partly tells e p (owed e p) refl

-- rule: accept-reject, rule: owed
pub accepted_owes_nothing : AcceptedOwesNothing
accepted_owes_nothing v t s m a =
    let b : Beliefs = a.beliefs in
    let sent : Sent = record { offer = offer v t s m b; touched = [] } in
    let no_name : (name : List ℕ) → is_owed v t s m (beliefs_accepted (is_whole v t) sent b) name ≡ false =
    λ name. ap (λ o. option_map_or (is_told v t) (owed o (present s m name)) false)
    (accepted_by_name (is_whole v t) sent b name ∙ ap (λ d. believed_accepted (is_whole v t) false d (finmap.get b name)) (offer_says_it v t s m b name))
    ∙ accepted_settles (is_whole v t) (is_told v t) (finmap.get b name) (present s m name) in
    (λ i. none_passes (is_owed v t s m (beliefs_accepted (is_whole v t) sent b)) no_name (names_known m (beliefs_accepted (is_whole v t) sent b)) i || and-false (is_whole v t) i)

settled_by : (v : VariantName) (t : TypeName) (a : Account) (rejects b : Bool) → Account
settled_by v t a rejects b = if b then option_map_or (λ sent. if rejects then reject a sent else accept v t a sent) a.sent a else a

pub sending_commutes : SendingCommutes
unfolding settled_by
sending_commutes v t s offer since nonce answer names quiet other =
    let out : Account = record s.account { nonce = nonce; sent = Some (record { offer = offer; touched = since }) } in
    let after : Account → Session =
    λ (a : Account). record { asked = names.asked; account = resume (touch a names.asked.interest names.touched names.mentioned) names.versions } in
    let unsettled : settled_by v t s.account answer.rejects (is_some s.account.sent && bytes_eq answer.nonce (nonce_text s.account.nonce)) ≡ s.account =
    ap (λ o. settled_by v t s.account answer.rejects (is_some o && bytes_eq answer.nonce (nonce_text s.account.nonce))) quiet in
    ap (λ b. after (settled_by v t out answer.rejects b)) other ∙ sym (ap (λ a. with_sent (after a) offer (since ++ names.touched ∷ []) nonce) unsettled)
