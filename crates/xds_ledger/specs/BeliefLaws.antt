-- What is known of beliefs after an answer and after a request. This project's own.
--     AcceptedByName         once a response is accepted, each name is believed as the rule for it says
--     TakenByName            and so it is once names are taken
--     UntouchedKeepsBelief   a name that a request doesn't touch keeps what is believed of it
--     TouchedIsNotTold       what is believed of a name that a request touches is no version
use Rattle.std.specs.Prelude.{◌≡◌, ℕ, List, Bool, true, false, Some}
use Rattle.std.specs.FinMap as finmap
use Rattle.std.specs.FinSet as set
use Rattle.xds_resource.specs.Writes.{text_cmp}
use Rattle.xds_interest.specs.Interests.{Selection}
use Rattle.xds_interest.specs.Touches.{Touch, touches}
use Rattle.xds_ledger.specs.declared.entry.Entry.TheVariants.{Told}
use Rattle.xds_ledger.specs.Owed.{Beliefs}
use Rattle.xds_ledger.specs.Believing.{Sent, was_touched, believed_accepted, beliefs_accepted, believed_taken, beliefs_taken}

-- rule: accept-reject
-- once a response is accepted, each name is believed as the rule for it says
abbrev pub AcceptedByName : Type 0
AcceptedByName =
    (whole : Bool) (sent : Sent) (b : Beliefs) (name : List ℕ)
    → finmap.get (beliefs_accepted whole sent b) name ≡ believed_accepted whole (was_touched sent name) (finmap.get sent.offer name) (finmap.get b name)

-- and so it is once names are taken
abbrev pub TakenByName : Type 0
TakenByName =
    (s : Selection) (touched : Touch) (mentioned : set.FinSet text_cmp) (b : Beliefs) (name : List ℕ)
    → finmap.get (beliefs_taken s touched mentioned b) name ≡ believed_taken s touched mentioned b name

-- a name that a request doesn't touch keeps what is believed of it
abbrev pub UntouchedKeepsBelief : Type 0
UntouchedKeepsBelief =
    (s : Selection) (touched : Touch) (mentioned : set.FinSet text_cmp) (b : Beliefs) (name : List ℕ)
    → touches touched name ≡ false → finmap.get (beliefs_taken s touched mentioned b) name ≡ finmap.get b name

-- what is believed of a name that a request touches is no version
abbrev pub TouchedIsNotTold : Type 0
TouchedIsNotTold =
    (s : Selection) (touched : Touch) (mentioned : set.FinSet text_cmp) (b : Beliefs) (name version : List ℕ)
    → touches touched name ≡ true → finmap.get (beliefs_taken s touched mentioned b) name ≡ Some (Told version) → ⊥
