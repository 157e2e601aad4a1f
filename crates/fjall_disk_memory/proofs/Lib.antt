mod Names
mod Folders
mod Cuts
mod Crashed
mod Housed
mod Listed
mod Filled
mod Sent
