mod Inside
mod MadeFlushes
mod Watermarks
