-- What the proofs of this crate's functions share: facts on plain numbers and lists, and what an answer of the code tells.
mod Since
mod Flags
mod Shortest
mod Room
mod Seeing
mod Stored
mod ReadingSteps
mod LocalReadings
mod WritingSteps
