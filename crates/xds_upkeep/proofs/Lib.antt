mod Lining
mod LiveWrites
mod Making
