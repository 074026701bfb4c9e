-- The commands of scripts: one line each, the first word of which is its verb. This project's own.
--     word_of                          the word of a verb
--     verbs                            all verbs
--     verb_of                          the verb that is this word
--     only_replica                     a replica's number alone
--     only_client                      a client's number alone
--     read_two                         two words, each read in its own way
--     read_first                       the first word, and then the words behind it, each read in its own way
--     kind_of_word                     the kind of client that a word names
--     client_and_type                  a client's number and a type
--     client_and_poll                  a client, and what it polls: a replica, and a type
--     name_in                          a name is any word that isn't empty, and so is a cluster
--     cluster_if_any                   a client's cluster, if a word stands there
--     kind_and_cluster                 a client's kind, and its cluster, if a word stands there
--     is_name                          whether a word may be a name
--     names_in                         names, perhaps none
--     name_behind                      the name behind a mark
--     subscribed_in                    `+NAME`, a name to subscribe
--     unsubscribed_in                  `-NAME`, a name to unsubscribe
--     is_edit                          whether a word subscribes or unsubscribes a name
--     edits_in                         names to subscribe and to unsubscribe, one at least
--     type_if_any                      a type, if a word stands there
--     resource_in                      the resource that a text is, and its type
--     resource_behind                  the resource that the words behind make as a text, and its type
--     comma                            a comma
--     groups_in                        the groups that a word lists, with a comma between each two of them
--     groups_and_resource              groups, and a resource that is for them
--     Said                             what a line of a script says
--     said_of                          what a command says
--     says                             what a verb says with the words behind it
--     says_words                       what the words of a line say, of which the first is the verb
use Rattle.std.specs.Prelude.{ℕ, List, [], ◌∷◌, Bool, not, ◌&&◌, ◌||◌, ◌==◌, if◌then◌else◌, bytes_eq, Option, Some, None, is_some, option_map, codes, find}
use Rattle.std.specs.Option.{option_and_then}
use Rattle.std.specs.Result.{result_ok}
use Rattle.std.specs.List.{filter_map, list_all}
use Rattle.xds_resource.specs.declared.types.TypeName.{TypeName}
use Rattle.xds_resource.specs.Types.{type_of_word}
use Rattle.xds_resource.specs.Groups.{groups_of}
use Rattle.xds_resource.specs.Resources.{NamedBody, named_type, parsed, value_of}
use Rattle.xds_script.specs.declared.event.ClientKind.{ClientKind}
use Rattle.xds_script.specs.declared.event.ClientKind.TheVariants as kinds
use Rattle.xds_script.specs.declared.event.AnswerFate.TheVariants.{Arrives, Lost}
use Rattle.xds_script.specs.Happenings as happenings
use Rattle.xds_script.specs.Happenings.{Happening, Wish}
use Rattle.xds_script.specs.ModelSeen.{happening_of}
use Rattle.xds_script.specs.declared.command.Command.{Command}
use Rattle.xds_script.specs.declared.command.Command.TheVariants as commands
use Rattle.xds_script.specs.declared.command.CommandVerb.{CommandVerb}
use Rattle.xds_script.specs.declared.command.CommandVerb.TheVariants.{Replica, Client, Put, PutIn, Delete, Snapshot, Merge, Connect, Names, Change, Up, Down, Lose, Poll, Rest, RestLost, Settle, View, Content}
use Rattle.xds_script.specs.Lines.{pieces}
use Rattle.xds_script.specs.Words.{Text, is_empty, text_of, split_first, only, two, replica_number, whole_number}

-- ---- verbs

-- the word of a verb
abbrev pub word_of : CommandVerb → Text
word_of Replica = codes "replica"
word_of Client = codes "client"
word_of Put = codes "put"
word_of PutIn = codes "putin"
word_of Delete = codes "delete"
word_of Snapshot = codes "snapshot"
word_of Merge = codes "merge"
word_of Connect = codes "connect"
word_of Names = codes "names"
word_of Change = codes "change"
word_of Up = codes "up"
word_of Down = codes "down"
word_of Lose = codes "lose"
word_of Poll = codes "poll"
word_of Rest = codes "rest"
word_of RestLost = codes "restlost"
word_of Settle = codes "settle"
word_of View = codes "view"
word_of Content = codes "content"

abbrev pub verbs : List CommandVerb
verbs =
    Replica ∷ Client ∷ Put ∷ PutIn ∷ Delete ∷ Snapshot ∷ Merge ∷ Connect ∷ Names ∷ Change ∷ Up ∷ Down ∷ Lose ∷ Poll ∷ Rest ∷ RestLost ∷ Settle ∷ View ∷ Content ∷ []

-- the verb that is this word
abbrev pub verb_of : Text → Option CommandVerb
verb_of word = find (λ v. bytes_eq word (word_of v)) verbs

-- ---- what stands behind a verb

-- a replica or a client alone
abbrev pub only_replica : List Text → Option ℕ
only_replica ws = option_and_then replica_number (only ws)

abbrev pub only_client : List Text → Option ℕ
only_client ws = option_and_then whole_number (only ws)

-- two words, each read in its own way
abbrev pub read_two : {A B : Type 0} → (Text → Option A) → (Text → Option B) → List Text → Option (A × B)
read_two first second ws = option_and_then (λ p. option_and_then (λ a. option_map (λ b. (a, b)) (second p.1)) (first p.0)) (two ws)

-- the first word, and then the words behind it, each read in its own way
abbrev pub read_first : {A B : Type 0} → (Text → Option A) → (List Text → Option B) → List Text → Option (A × B)
read_first first rest ws = option_and_then (λ p. option_and_then (λ a. option_map (λ b. (a, b)) (rest p.1)) (first p.0)) (split_first ws)

abbrev pub kind_of_word : Text → Option ClientKind
kind_of_word w = if bytes_eq w (codes "sotw") then Some kinds.Sotw else if bytes_eq w (codes "delta") then Some kinds.Delta else if bytes_eq w (codes "rest") then Some kinds.Rest else None

abbrev pub client_and_type : List Text → Option (ℕ × TypeName)
client_and_type ws = read_two whole_number type_of_word ws

-- a client, and what it polls: a replica, and a type
abbrev pub client_and_poll : List Text → Option (ℕ × (ℕ × TypeName))
client_and_poll ws = read_first whole_number (read_two replica_number type_of_word) ws

-- a name is any word that isn't empty, and so is a cluster
abbrev pub name_in : Text → Option Text
name_in [] = None
name_in (b ∷ bs) = Some (b ∷ bs)

-- a client's cluster, if a word stands there
abbrev pub cluster_if_any : List Text → Option Text
cluster_if_any [] = Some []
cluster_if_any (w ∷ []) = name_in w
cluster_if_any (w ∷ x ∷ ws) = None

abbrev pub kind_and_cluster : List Text → Option (ClientKind × Text)
kind_and_cluster ws = read_first kind_of_word cluster_if_any ws

abbrev pub is_name : Text → Bool
is_name w = is_some (name_in w)

-- names, perhaps none
abbrev pub names_in : List Text → Option Wish
names_in ws = if list_all is_name ws then Some (happenings.Names ws) else None

-- the name behind a mark
abbrev pub name_behind : ℕ → Text → Option Text
name_behind mark [] = None
name_behind mark (b ∷ bs) = if b == mark then name_in bs else None

-- `+NAME`, a name to subscribe
abbrev pub subscribed_in : Text → Option Text
subscribed_in w = name_behind 43 w

-- `-NAME`, a name to unsubscribe
abbrev pub unsubscribed_in : Text → Option Text
unsubscribed_in w = name_behind 45 w

abbrev pub is_edit : Text → Bool
is_edit w = is_some (subscribed_in w) || is_some (unsubscribed_in w)

-- names to subscribe and to unsubscribe, one at least
abbrev pub edits_in : List Text → Option Wish
edits_in ws = if not (is_empty ws) && list_all is_edit ws then Some (happenings.Edits (filter_map subscribed_in ws) (filter_map unsubscribed_in ws)) else None

-- a type, if a word stands there
abbrev pub type_if_any : List Text → Option (Option TypeName)
type_if_any [] = Some None
type_if_any (w ∷ []) = option_map Some (type_of_word w)
type_if_any (w ∷ x ∷ ws) = None

-- the resource that a text is, and its type
abbrev pub resource_in : Text → Option (TypeName × NamedBody)
resource_in text = option_and_then (λ t. option_map (λ r. (t, r)) (result_ok (parsed t text))) (named_type (value_of text))

abbrev pub resource_behind : List Text → Option (TypeName × NamedBody)
resource_behind ws = option_and_then resource_in (text_of ws)

-- a comma
abbrev pub comma : ℕ
comma = 44

-- the groups that a word lists, with a comma between each two of them
abbrev pub groups_in : Text → Option (List Text)
groups_in word = result_ok (groups_of (pieces comma word))

-- groups, and a resource that is for them
abbrev pub groups_and_resource : List Text → Option (List Text × (TypeName × NamedBody))
groups_and_resource ws = read_first groups_in resource_behind ws

-- ---- commands

-- what a line of a script says: something happens, a client settles, or what a client shows or a replica holds live is printed
pub data Said : Type 0 where
  Happens : Happening → Said
  Settles : ℕ → TypeName → Said
  Shows : ℕ → TypeName → Said
  Lists : ℕ → TypeName → Said

abbrev pub said_of : Command → Said
said_of (commands.Event e) = Happens (happening_of e)
said_of (commands.Settle client kind) = Settles client kind
said_of (commands.View client kind) = Shows client kind
said_of (commands.Content replica kind) = Lists replica kind

-- what a verb says with the words behind it
abbrev pub says : CommandVerb → List Text → Option Said
says Replica ws = option_map (λ r. Happens (happenings.AddReplica r)) (only_replica ws)
says Client ws = option_map (λ p. Happens (happenings.AddClient p.0 p.1.0 p.1.1)) (read_first whole_number kind_and_cluster ws)
says Put ws = option_map (λ p. Happens (happenings.Put p.0 p.1.0 p.1.1 [])) (read_first replica_number resource_behind ws)
says PutIn ws = option_map (λ p. Happens (happenings.Put p.0 p.1.1.0 p.1.1.1 p.1.0)) (read_first replica_number groups_and_resource ws)
says Delete ws = option_map (λ p. Happens (happenings.Delete p.0 p.1.0 p.1.1)) (read_first replica_number (read_two type_of_word name_in) ws)
says Snapshot ws = option_map (λ r. Happens (happenings.Snapshot r)) (only_replica ws)
says Merge ws = option_map (λ p. Happens (happenings.Merge p.0 p.1)) (read_two replica_number whole_number ws)
says Connect ws = option_map (λ p. Happens (happenings.Connect p.0 p.1)) (read_two whole_number replica_number ws)
says Names ws = option_map (λ p. Happens (happenings.Change p.0 p.1.0 p.1.1)) (read_first whole_number (read_first type_of_word names_in) ws)
says Change ws = option_map (λ p. Happens (happenings.Change p.0 p.1.0 p.1.1)) (read_first whole_number (read_first type_of_word edits_in) ws)
says Up ws = option_map (λ c. Happens (happenings.Up c)) (only_client ws)
says Down ws = option_map (λ c. Happens (happenings.Down c)) (only_client ws)
says Lose ws = option_map (λ c. Happens (happenings.Lose c)) (only_client ws)
says Poll ws = option_map (λ p. Happens (happenings.Poll p.0 p.1)) (read_first whole_number type_if_any ws)
says Rest ws = option_map (λ p. Happens (happenings.RestPoll p.0 p.1.0 p.1.1 Arrives)) (client_and_poll ws)
says RestLost ws = option_map (λ p. Happens (happenings.RestPoll p.0 p.1.0 p.1.1 Lost)) (client_and_poll ws)
says Settle ws = option_map (λ p. Settles p.0 p.1) (client_and_type ws)
says View ws = option_map (λ p. Shows p.0 p.1) (client_and_type ws)
says Content ws = option_map (λ p. Lists p.0 p.1) (read_two replica_number type_of_word ws)

-- what the words of a line say, of which the first is the verb
abbrev pub says_words : List Text → Option Said
says_words ws = option_and_then (λ p. option_and_then (λ v. says v p.1) (verb_of p.0)) (split_first ws)
