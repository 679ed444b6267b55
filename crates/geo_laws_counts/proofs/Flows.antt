-- What stands in Raising.
pub use Rattle.geo_laws_counts.proofs.Raising.{add-cap, cap-add, each_of, flow_end, flow_first, flow_start, flow_step, set_at-value, sum-none}
