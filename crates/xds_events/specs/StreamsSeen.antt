-- How a request of the program is seen as a message. This project's own.
--     message_of   a request of either variant, as a message
use Rattle.xds_events.specs.Streams as streams
use Rattle.xds_events.specs.Streams.{Message}
use Rattle.xds_events.specs.declared.request.Request.{Request}
use Rattle.xds_events.specs.declared.request.Request.TheVariants as requests

abbrev pub message_of : Request → Message
message_of (requests.Sotw m) = streams.Sotw m
message_of (requests.Delta m) = streams.Delta m
