-- What is filtered: the lemmas of geo_base, which laws and code above cite from here.
pub use Rattle.geo_base.proofs.FilterLists.{count-kept, filter-filter, filter-map, filter_map-same, keeps_all, length-kept}
