mod Blocks
mod Bytes
mod Cells
