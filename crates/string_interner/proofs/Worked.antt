-- Worked rows: what the definitions of `specs/` give for the values of known tables. No contract cites these; each shows
-- that a definition means what the world outside means by it, and is proved by computing where the definition computes.
pub mod Buckets
pub mod Buffer
pub mod Hasher
pub mod LoadFactor
pub mod Probing
pub mod Reading
pub mod SeededHash
pub mod Slots
pub mod Spelling
pub mod StdHasher
pub mod Strings
pub mod Tagged
pub mod Words
