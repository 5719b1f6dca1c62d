mod Common
mod Waits
mod Running
mod Stepping
mod Passing
mod Serving
