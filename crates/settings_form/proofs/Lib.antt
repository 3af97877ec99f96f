mod Back
mod Bits
mod Examples
mod Exits
mod Passed
mod Promises
mod Read
mod Words
