-- How the values of the program are seen. This project's own.
--     asked_of   what a post asks, as the definitions have it
use Rattle.xds_core.specs.Seen.{event_of}
use Rattle.xds_rest.specs.Posts as posts
use Rattle.xds_rest.specs.declared.post.Asked.{Asked}
use Rattle.xds_rest.specs.declared.post.Asked.TheVariants.{Finished, Asks}

abbrev pub asked_of : Asked → posts.Asked
asked_of (Finished reply) = posts.Finished reply
asked_of (Asks event) = posts.Asks (event_of event)
