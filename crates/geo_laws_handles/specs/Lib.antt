pub mod CloseLaws
pub mod OpenLaws
pub mod LeftLaws
pub mod RequestLaws
pub mod CommandLaws
pub mod FactLaws
