use Rattle.std.proofs.Common.{map, string_bytes, sym, ap, ◌∙◌}
use Rattle.xds_resource.specs.Names.{put_each}
use Rattle.std.proofs.lemmas.List.{drop_all}
use Rattle.xds_cache.specs.Shelves.{marked}
use Rattle.xds_cache.proofs.Making.{put_each-wants_of}
use Rattle.xds_cache.proofs.wants.wants_of.Goals as goal

pub returns-clause-ok : goal.returns-clause-ok
returns-clause-ok c =
    sym (ap (λ rest. put_each marked c.loop-name.wants (map string_bytes rest)) (drop_all c.loop-name.name-index c.args.names.now c.loop-name-test.false))
    ∙ c.loop-name.invariant ∙ put_each-wants_of (map string_bytes c.args.names.now)
