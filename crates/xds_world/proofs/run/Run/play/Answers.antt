use Rattle.std.proofs.Common.{map}
use Rattle.xds_script.specs.ModelSeen.{happening_of}
use Rattle.xds_world.proofs.Plays.{played_one, map_pushed}
use Rattle.xds_world.proofs.run.Run.play.Goals as goal

pub returns-clause-played : goal.returns-clause-played
returns-clause-played g c =
    let hs = map happening_of c.args.self.now.events.items in
    let h = happening_of c.args.event.now in
    let pushed = map_pushed happening_of c.args.self.now.events.items c.push.new.self.items c.in_ok-try_copy.field-0 h c.in_ok-push.ensures.items c.in_ok-try_copy.ensures.ok in
    played_one g.A.Accept.accepts c.args.self.now.state c.happen.new.self hs (map happening_of c.push.new.self.items) h c.in_ok-happen.field-0 c.requires c.puts_a_resource.ensures c.in_ok-happen.ensures.ok pushed
