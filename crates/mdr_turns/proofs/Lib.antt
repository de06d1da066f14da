mod Calling
mod Stepping
mod Ends
mod Taking
mod Messages
mod Legal
mod Behind
mod Resuming
