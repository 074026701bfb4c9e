-- Why a line of the server's input is no change: the first of its parts, from the left, that can't stand there. This project's own.
--     cause_text        how a cause is told
--     is_verb           a word that a change may begin with
--     IsTextCause       what is wrong of a text that is no resource
--     IsResourceCause   what is wrong of words that are no resource
--     IsGroupsCause     what is wrong of words that are no groups with a resource behind them
--     name_cause        what is wrong of words that are no name
--     deletion_cause    what is wrong of words that are no type with a name behind it
--     IsBehindNumber    what is wrong of the words behind the number of a replica
--     IsBehindVerb      what is wrong of the words behind the verb
--     IsWordsCause      what is wrong of the words of a line
--     IsCauseOf         what is wrong of a line
use Rattle.std.specs.Prelude.{◌≡◌, ◌⊎◌, ◌==◌, ◌||◌, ◌++◌, ℕ, List, [], ◌∷◌, length, Bool, true, false, if◌then◌else◌, bytes_eq, Option, Some, None, is_some, codes, decimal}
use Rattle.std.specs.Str.{IsUtf8}
use Rattle.xds_resource.specs.declared.refusal.Refusal.{Refusal}
use Rattle.xds_resource.specs.declared.refusal.Refusal.TheVariants.{BadName, BadGroup}
use Rattle.xds_resource.specs.Refusals.{number_of, name_of}
use Rattle.xds_resource.specs.Resources.{IsRefused}
use Rattle.xds_resource.specs.Types.{type_of_word}
use Rattle.xds_script.specs.Words.{Text, words, replica_number, text_of}
use Rattle.xds_script.specs.Commands.{resource_in, groups_in}
use Rattle.xds_causes.specs.declared.cause.Cause.{Cause}
use Rattle.xds_causes.specs.declared.cause.Cause.TheVariants.{NoText, UnknownCommand, NoNumber, NoSuchReplica, UnknownType, WrongWords, Refused}

-- how a cause is told
abbrev pub cause_text : Cause → List ℕ
cause_text NoText = codes "not UTF-8"
cause_text UnknownCommand = codes "unknown command"
cause_text NoNumber = codes "no number of a replica"
cause_text NoSuchReplica = codes "no such replica"
cause_text UnknownType = codes "unknown type"
cause_text WrongWords = codes "wrong words"
cause_text (Refused refusal) = decimal (number_of refusal) ++ codes " " ++ name_of refusal

-- a word that a change may begin with
abbrev pub is_verb : Text → Bool
is_verb word = bytes_eq word (codes "put") || bytes_eq word (codes "putin") || bytes_eq word (codes "delete")

-- what is wrong of a text that is no resource
abbrev pub IsTextCause : Option Text → Cause → Type 0
IsTextCause None c = c ≡ WrongWords
IsTextCause (Some text) c = ((e : Refusal) × IsRefused text e × (c ≡ Refused e)) ⊎ ((is_some (resource_in text) ≡ true) × (c ≡ WrongWords))

-- what is wrong of words that are no resource
abbrev pub IsResourceCause : List Text → Cause → Type 0
IsResourceCause ws c = IsTextCause (text_of ws) c

-- what is wrong of words that are no groups with a resource behind them
abbrev pub IsGroupsCause : List Text → Cause → Type 0
IsGroupsCause [] c = c ≡ WrongWords
IsGroupsCause (w ∷ ws) c =
    ((is_some (groups_in w) ≡ true) × IsResourceCause ws c) ⊎ ((is_some (groups_in w) ≡ false) × (c ≡ Refused BadGroup))

-- what is wrong of words that are no name
abbrev pub name_cause : List Text → Cause
name_cause [] = WrongWords
name_cause (w ∷ []) = if length w == 0 then Refused BadName else WrongWords
name_cause (w ∷ x ∷ ws) = WrongWords

-- what is wrong of words that are no type with a name behind it
abbrev pub deletion_cause : List Text → Cause
deletion_cause [] = WrongWords
deletion_cause (w ∷ ws) = if is_some (type_of_word w) then name_cause ws else UnknownType

-- what is wrong of the words behind the number of a replica
abbrev pub IsBehindNumber : Text → List Text → Cause → Type 0
IsBehindNumber verb ws c =
    ((bytes_eq verb (codes "put") ≡ true) × IsResourceCause ws c)
    ⊎ ((bytes_eq verb (codes "putin") ≡ true) × IsGroupsCause ws c)
    ⊎ ((bytes_eq verb (codes "delete") ≡ true) × (c ≡ deletion_cause ws))

-- what is wrong of the words behind the verb
abbrev pub IsBehindVerb : Text → List Text → Cause → Type 0
IsBehindVerb verb [] c = c ≡ WrongWords
IsBehindVerb verb (w ∷ ws) c =
    ((is_some (replica_number w) ≡ false) × (c ≡ NoNumber)) ⊎ ((is_some (replica_number w) ≡ true) × IsBehindNumber verb ws c)

-- what is wrong of the words of a line
abbrev pub IsWordsCause : List Text → Cause → Type 0
IsWordsCause [] c = c ≡ UnknownCommand
IsWordsCause (w ∷ ws) c = ((is_verb w ≡ false) × (c ≡ UnknownCommand)) ⊎ ((is_verb w ≡ true) × IsBehindVerb w ws c)

-- what is wrong of a line
abbrev pub IsCauseOf : List ℕ → Cause → Type 0
IsCauseOf line c = ((IsUtf8 line → ⊥) × (c ≡ NoText)) ⊎ (IsUtf8 line × IsWordsCause (words line) c)
