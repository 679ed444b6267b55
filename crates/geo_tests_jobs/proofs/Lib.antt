mod Standing
mod Roles
mod Disks
