-- What a line changes, by what it says in a script.
use Rattle.std.proofs.Common.{◌≡◌, ◌≢◌, ℕ, List, length, Bool, true, false, Option, Some, None, Result, Ok, Err, refl, ap, sym, subst}
use Rattle.std.specs.Prelude.{is_err, nat_lt, if◌then◌else◌}
use Rattle.std.specs.Option.{option_map, option_to_list, ok_or}
use Rattle.xds_resource.specs.declared.refusal.Refusal.{Refusal}
use Rattle.xds_resource.specs.declared.refusal.Refusal.TheVariants.{OutOfMemory, BadScript, TooLong}
use Rattle.xds_script.specs.Commands.{Said}
use Rattle.xds_changes.specs.Changes.{Written, written_by, only_change, most_line, change_within, change_in}
use Rattle.xds_changes.specs.Inputs.{brought}

refused_by : (o : Option (Option Said)) (e : Refusal) → ok_or o BadScript ≡ Err e → only_change o ≡ Err e
refused_by None e h = let same : BadScript ≡ e = cc in ap Err same
refused_by (Some said) e h = cc

-- a line that is refused as one of a script is refused
pub line_refused : (o : Option (Option Said)) (e : Refusal) → (e ≢ OutOfMemory → ok_or o BadScript ≡ Err e) → e ≢ OutOfMemory → only_change o ≡ Err e
line_refused o e h other = refused_by o e (h other)

-- one that is skipped changes nothing
pub line_skipped : (o : Option (Option Said)) → ok_or o BadScript ≡ Ok None → only_change o ≡ Ok None
line_skipped None h = cc
line_skipped (Some None) h = refl
line_skipped (Some (Some said)) h = cc

-- one that says something has to be a change
pub line_said : (o : Option (Option Said)) (said : Said) → ok_or o BadScript ≡ Ok (Some said) → only_change o ≡ ok_or (option_map Some (written_by said)) BadScript
line_said None said h = cc
line_said (Some None) said h = cc
line_said (Some (Some other)) said h = let same : other ≡ said = cc in ap (λ s. ok_or (option_map Some (written_by s)) BadScript) same

by_limit : (b : Bool) (r : Result (Option Written) Refusal) (e : Refusal) → b ≡ true → e ≡ TooLong → (if b then Err TooLong else r) ≡ Err e
by_limit true r e long is = ap Err (sym is)
by_limit false r e long is = cc

within : (b : Bool) (r : Result (Option Written) Refusal) → b ≡ false → (if b then Err TooLong else r) ≡ r
within true r short = cc
within false r short = refl

-- a line that is too long is refused as that
pub long_line : (line : List ℕ) (e : Refusal) → nat_lt most_line (length line) ≡ true → e ≡ TooLong → change_in line ≡ Err e
long_line line e long is = by_limit (nat_lt most_line (length line)) (change_within line) e long is

-- one that isn't changes what it says
pub short_line : (line : List ℕ) → nat_lt most_line (length line) ≡ false → change_in line ≡ change_within line
short_line line short = within (nat_lt most_line (length line)) (change_within line) short

-- one that is read isn't wrong, and brings what was read
pub good_line : (r : Result (Option Written) Refusal) (change : Option Written) → r ≡ Ok change → (is_err r ≡ false) × (brought r ≡ option_to_list change)
good_line r change h = subst (λ (x : Result (Option Written) Refusal). (is_err x ≡ false) × (brought x ≡ option_to_list change)) (sym h) (refl, refl)
