use Rattle.std.proofs.Common.{◌≡◌, [], rules}
use Rattle.json.specs.Lex.{tokens}
use Rattle.json.specs.Json.{value}
use Rattle.serde_json.specs.Read.{max_depth}
use Rattle.xds_json.proofs.Grammars.{whole_read}
use Rattle.xds_json.proofs.reading.read_ordered.Goals as goal

pub returns-clause-reads : goal.returns-clause-reads
returns-clause-reads c =
    let none : c.read.new.reader ≡ [] = search rules in
    whole_read (value max_depth (tokens c.args.text.now)) _ (rw (c.in-Ok.ensures.ok, none) at (c.in_ok-value.ensures.reads max_depth c.requires))
