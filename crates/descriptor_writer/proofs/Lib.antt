mod Claiming
mod Counted
mod Exits
mod Packets
mod Placed
