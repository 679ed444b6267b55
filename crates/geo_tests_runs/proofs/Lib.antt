mod Disks
mod Idle
