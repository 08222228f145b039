mod Validity
mod Counting
