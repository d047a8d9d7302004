-- The lists are made beside the table, and a base is found by it.
mod Beside
mod Seek
