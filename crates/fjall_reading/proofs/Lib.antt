mod Paging
mod Leaving
mod Prefixing
mod Raising
mod Counting
mod Beginning
mod Ascents
