pub mod TraceLaws
