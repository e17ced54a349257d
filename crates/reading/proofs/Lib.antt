mod Layouts
mod Means
mod Keeping
mod Begins
mod Ends
mod Turns
mod Asks
mod Rooms
