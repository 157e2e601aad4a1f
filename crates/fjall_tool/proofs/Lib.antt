mod Cuts
mod Spellings
