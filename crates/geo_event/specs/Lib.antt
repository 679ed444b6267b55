pub mod EventQueue
