use Rattle.std.proofs.Common.{codes}
use Rattle.xds_resource.specs.Resources.{value_of}
use Rattle.xds_message.specs.Written.{text_data}
use Rattle.xds_message.proofs.JoinedLemmas.{member_around}
use Rattle.xds_message.proofs.delta_draft.ends_of.Goals as goal

pub returns-clause-ok : goal.returns-clause-ok
returns-clause-ok c body =
    member_around (codes "resource") (value_of body) (codes "name", text_data c.args.name.now) (codes "version", text_data c.args.version.now) _ _ _ _ _ _ _ _ c.in_ok-head.ensures.ok c.in_ok-later.ensures.ok
    c.in_ok-join_key.ensures.ok c.new-tail.ensures.bytes c.in_ok-join_text.ensures.ok c.in_ok-push_str.ensures.bytes tt
