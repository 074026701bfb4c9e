use Rattle.xds_script.specs.Lines.{feed, pieces}
use Rattle.std.proofs.Common.{[], map}
use Rattle.xds_script.specs.Commands.{said_of}
use Rattle.xds_script.proofs.Scripting.{read_more, read_all, read_bad}
use Rattle.xds_script.proofs.script.read_script.Goals as goal

pub returns-in-Err-clause-refused : goal.returns-in-Err-clause-refused
returns-in-Err-clause-refused c =
    read_bad c.args.script.now c.loop-bytes.rest.now c.in-Some.bytes.now (pieces feed c.in-Some.following.now) c.loop-bytes.line (map said_of c.loop-bytes.commands.items) _ c.loop-bytes.invariant c.in-Some.ensures.split c.in-Err.ensures.refused

pub loop-bytes-preserved : goal.loop-bytes-preserved
loop-bytes-preserved c =
    read_more c.args.script.now c.loop-bytes.rest.now c.in-Some.following.now c.in-Some.bytes.now c.loop-bytes.line (map said_of c.loop-bytes.commands.items) _ c.loop-bytes.invariant c.in-Some.ensures.split c.in-Some.ensures.shorter
    c.in_default-take_line.ensures.good c.in_default-take_line.ensures.said

pub returns-in-Ok-clause-read : goal.returns-in-Ok-clause-read
returns-in-Ok-clause-read c =
    read_all c.args.script.now c.loop-bytes.rest.now c.loop-bytes.line (map said_of c.loop-bytes.commands.items) _ c.loop-bytes.invariant c.in_default.ensures.last
    c.in-Ok.ensures.good c.in-Ok.ensures.said

pub returns-in-Err-take_line-clause-refused : goal.returns-in-Err-take_line-clause-refused
returns-in-Err-take_line-clause-refused c =
    read_bad c.args.script.now c.loop-bytes.rest.now c.loop-bytes.rest.now [] c.loop-bytes.line (map said_of c.loop-bytes.commands.items) _ c.loop-bytes.invariant c.in_default.ensures.last c.in-Err-take_line.ensures.refused
