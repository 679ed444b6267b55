-- What holds of each item of a list: the lemmas of geo_base, which laws and code above cite from here.
pub use Rattle.geo_base.proofs.AllLists.{all_appended, all_kept, all_mapped, all_pushed, all_weaker, in_middle, of_each, pairs_head, pairs_tail, two_facts}
