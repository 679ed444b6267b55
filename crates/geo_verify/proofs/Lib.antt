pub mod NumbersRead
pub mod Marks
pub mod SizesRead
pub mod StepsRead
pub mod WrittenOut
pub mod Makings
pub mod TracesRead
