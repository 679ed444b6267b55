-- The consumer of a taste that ends wants nothing: it is shown with the other changes of a taste.
pub use Rattle.geo_laws_making.proofs.Tastes.{wants_none}
