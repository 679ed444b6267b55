-- Which steps owe the log a place, handed on to the core.
pub use Rattle.geo_laws_owed.specs.OwedLaws.{is_answered_ok, is_close, is_open}
