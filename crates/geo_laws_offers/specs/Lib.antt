pub mod OfferingLaws
