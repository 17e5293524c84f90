-- A cue sheet and what reading it gives (SCOPE 6). `Scan` says what small functions of the code find; nobody has to believe it, for proofs tie it to `Sheet`.
pub mod Sheet
pub mod Scan
