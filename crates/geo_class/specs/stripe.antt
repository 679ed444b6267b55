pub mod StripeMap
pub mod StripeLaws
pub mod Record
