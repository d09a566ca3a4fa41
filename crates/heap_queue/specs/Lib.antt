pub mod Order
pub mod Entries
pub mod Memory
pub mod Views
-- lemmas: on them rests the proof that the queue has a row of 64 places, which is a term in src/ and may cite no file of proofs/
pub mod Rows
pub mod Tallies
