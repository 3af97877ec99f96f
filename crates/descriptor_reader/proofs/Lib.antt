mod Chains
mod Exits
mod Gather
mod Judged
mod Rest
mod Settled
mod Step
