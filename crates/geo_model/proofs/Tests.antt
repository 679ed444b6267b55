-- What tests tell: the lemmas of geo_base, which laws and code above cite from here.
pub use Rattle.geo_base.proofs.Tests.{bytes_eq-other, bytes_eq-same, filter_map-same, from_false_true, from_true_false, is_some-map, passes_apart, same_from_bytes_eq, same_or_other, same_tests, short_name-named, word_byte-not_zero, word_bytes-name_bytes}
