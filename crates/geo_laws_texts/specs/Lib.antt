pub mod ChainLaws
pub mod RecordLaws
pub mod LabelLaws
pub mod GeneratorLaws
pub mod Naming
