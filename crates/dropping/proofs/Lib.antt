mod Copied
mod Leaving
mod Without
