mod Accepted
mod Claims
mod Held
