-- What options tell: the lemmas of geo_base, which laws and code above cite from here.
pub use Rattle.geo_base.proofs.Options.{at-found, at-some, if-any, if-found, if_ok_weaker, if_some_weaker, is_nothing, is_some-map, map_there, none-mapped, none-there, none_of, on_error, on_ok, one-found, option_map-same, or_none, some-there, some-with, some_and_of, some_of, some_weaker, there_with_fact}
