mod Causes
mod Seeing
