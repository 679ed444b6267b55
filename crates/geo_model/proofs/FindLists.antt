-- What is found in a list: the lemmas of geo_base, which laws and code above cite from here.
pub use Rattle.geo_base.proofs.FindLists.{any-contained, any-kept_some, any-map, find-Contains, find-map, find-pushed, find-pushed_hit, find_agree, found-before, found-still, found_in, found_passes, none_passes, some-passes}
