mod Memory
mod Texts
mod Writes
mod Digits
mod Places
mod Fronts
mod Escapes
