use Rattle.std.proofs.Common.{◌<◌, length, arith}
use Rattle.xds_message.proofs.JoinedLemmas.{list_joined_around}
use Rattle.xds_message.proofs.joining.join_list_ends.Goals as goal

pub returns-clause-ok : goal.returns-clause-ok
returns-clause-ok g c =
    let some : 0 < length c.args.items.now = grind (arith, c.is_empty.ensures, c.if-is_empty.ensures) in
    list_joined_around g.I.Join.json c.args.items.now _ _ _ _ _ c.args.later c.args.key.now some c.requires c.in_ok-join_key.ensures.ok c.in_ok-push_str.ensures.bytes c.in_ok-push_str-2.ensures.bytes
