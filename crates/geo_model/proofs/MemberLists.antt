-- What a list contains: the lemmas of geo_base, which laws and code above cite from here.
pub use Rattle.geo_base.proofs.MemberLists.{All-from_contained, Contains-cases, Contains-filter, Contains-filter_map, Contains-here, Contains-map, Contains-there, Origin, at_contained, filter-Contains, filter_map-Contains, flat_map_cases, in_flat_map, map-Contains, nothing_in, one_only, slot-contained, zip_members}
