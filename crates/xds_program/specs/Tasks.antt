-- What the program may be asked for, as contracts see it: texts as their bytes. This project's own.
--     variant_of_word   the variant that the programs call by this word
--     Plays             `xds play`: the replica whose trace is printed, and the file of a picture
--     Checks            `xds check`: whether a trace may be cut short, whether it is explained what is broken, and the file of a picture
--     Serves            `xds serve`: what is served, the number of the first replica, the folder of the traces, the file that is loaded, those of the store and of writes, whether it waits, the file of the token, whether it logs as JSON, the folder that is followed, whether it lints, the checker that it asks, and whether it passes what isn't checked
--     Watch             `xds client`: a client that subscribes on a stream
--     Look              `xds poll`: one look at a replica, over REST
--     Reads             `xds writes`: the file of the store that is read
--     Sees              `xds status`: where a server is asked, and the file of the token that is said
--     Gets              `xds get`: the same, and the replica, the type and the names of what it gets
--     Puts              `xds put`: the same, whether it only looks, and whether it makes all changes or none
--     Deletes           `xds delete`: the same, and the replica, the type and the names of what it deletes
--     Draws             a picture, the file that it is written into, and the status of the run that does
use Rattle.std.specs.Prelude.{ℕ, Bool, List, codes, Option, Some, None, if◌then◌else◌}
use Rattle.std.specs.Str.{bytes_eq}
use Rattle.std.specs.declared.net.socket_addr.SocketAddrV4.{SocketAddrV4}
use Rattle.xds_resource.specs.declared.types.TypeName.{TypeName}
use Rattle.xds_program.specs.declared.tasks.ServeTask.{ServeTask}
use Rattle.xds_program.specs.declared.tasks.AskedVariant.{AskedVariant}
use Rattle.xds_program.specs.declared.tasks.AskedVariant.TheVariants.{Sotw, Delta}

-- the variant that the programs call by this word
abbrev pub variant_of_word : List ℕ → Option AskedVariant
variant_of_word word =
    if bytes_eq word (codes "sotw") then Some Sotw else if bytes_eq word (codes "delta") then Some Delta else None

-- `xds play`: the replica whose trace is printed, and the file of a picture, if there are such
pub record Plays : Type 0 where
  pub trace : Option ℕ
  pub picture : Option (List ℕ)

-- `xds check`: whether a trace may be cut short, whether it is explained what is broken, and the file of a picture, if there is one
pub record Checks : Type 0 where
  pub so_far : Bool
  pub explain : Bool
  pub picture : Option (List ℕ)

-- `xds serve`: what is served, the number of the first replica, the folder of the traces, the file that is loaded, that of the store and that of writes, if there are such, whether nobody is answered until it is told to, the file of the token, if there is one, whether it logs as JSON, the folder whose resources are all that shall be held, if there is one, whether it lints, the checker that it asks, if there is one, whether it takes what isn't checked, and whether it refuses puts that make a response too long
pub record Serves : Type 0 where
  pub task : ServeTask
  pub first_number : Option ℕ
  pub folder : Option (List ℕ)
  pub load : Option (List ℕ)
  pub store : Option (List ℕ)
  pub writes : Option (List ℕ)
  pub hold : Bool
  pub admin_token : Option (List ℕ)
  pub log_json : Bool
  pub from_folder : Option (List ℕ)
  pub lint : Bool
  pub validate : Option SocketAddrV4
  pub pass_unvalidated : Bool
  pub refuse_beyond_frame : Bool

-- `xds client`: a client that subscribes on a stream
pub record Watch : Type 0 where
  pub addr : SocketAddrV4
  pub variant : AskedVariant
  pub kind : TypeName
  pub responses : ℕ
  pub seconds : Option ℕ
  pub cluster : List ℕ
  pub names : List (List ℕ)

-- `xds poll`: one look at a replica, over REST
pub record Look : Type 0 where
  pub addr : SocketAddrV4
  pub kind : TypeName
  pub seconds : Option ℕ
  pub version : List ℕ
  pub cluster : List ℕ
  pub names : List (List ℕ)

-- `xds writes`: the file of the store that is read
pub record Reads : Type 0 where
  pub store : List ℕ

-- `xds status`: where a server is asked, and the file of the token that is said, if there is one
pub record Sees : Type 0 where
  pub addr : SocketAddrV4
  pub token : Option (List ℕ)

-- `xds get`: where a server is asked, the file of the token that is said, the replica and the type of what it gets, if there are such, and the names
pub record Gets : Type 0 where
  pub addr : SocketAddrV4
  pub token : Option (List ℕ)
  pub replica : Option ℕ
  pub kind : Option TypeName
  pub names : List (List ℕ)

-- `xds put`: where a server is asked, the file of the token that is said, if there is one, whether it only looks at the changes, and whether it makes all of them or none
pub record Puts : Type 0 where
  pub addr : SocketAddrV4
  pub token : Option (List ℕ)
  pub dry_run : Bool
  pub all_or_nothing : Bool

-- `xds delete`: where a server is asked, the file of the token that is said, if there is one, the replica that deletes, the type, whether it only looks, and the names
pub record Deletes : Type 0 where
  pub addr : SocketAddrV4
  pub token : Option (List ℕ)
  pub replica : ℕ
  pub kind : TypeName
  pub dry_run : Bool
  pub names : List (List ℕ)

-- a picture, the file that it is written into, and the status of the run, if the picture can be written
pub record Draws : Type 0 where
  pub status : ℕ
  pub file : List ℕ
  pub svg : List ℕ
