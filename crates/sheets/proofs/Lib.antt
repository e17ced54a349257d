mod Readings
mod Enterings
mod Models
mod Shorts
mod Follow
mod TokenRooms
