-- Whether a client is up or down, or one that polls. This project's own.
--     status_of   whether a peer is up, down, or without a stream
use Rattle.std.specs.Prelude.{if◌then◌else◌, is_some}
use Rattle.xds_world.specs.Worlds.{Peer, has_streams}
use Rattle.xds_world.specs.declared.peer.PeerStatus.{PeerStatus}
use Rattle.xds_world.specs.declared.peer.PeerStatus.TheVariants.{Up, Down, Rest}

abbrev pub status_of : Peer → PeerStatus
status_of p = if has_streams p.kind then (if is_some p.link then Up else Down) else Rest
