pub mod Tries
pub mod Views
pub mod Access
pub mod Join
pub mod JoinLaws
pub mod ShutLaws
pub mod GoneLaws
