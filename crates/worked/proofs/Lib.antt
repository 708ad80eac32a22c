mod Refused
mod Walked
mod Taken
mod Played
mod Fresh
mod Limits
mod Computed
mod FullRing
