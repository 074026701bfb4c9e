-- The names of a list as a map that copies of the list share, and a few that were put since. This project's own.
--     base_names   the names that are shared, if some are
--     over         the names of both, of which those that were put since go before
use Rattle.std.specs.Prelude.{Option, Some, None}
use Rattle.std.specs.FinMap as finmap
use Rattle.xds_resource.specs.Names.{put_all}
use Rattle.xds_catalogue.specs.Holdings.{Latest}

-- the names that are shared, if some are
abbrev pub base_names : Option Latest → Latest
base_names None = finmap.empty
base_names (Some names) = names

-- the names of both, of which those that were put since go before
abbrev pub over : Option Latest → Latest → Latest
over base added = put_all (λ name number. Some number) (base_names base) (finmap.entries added)
