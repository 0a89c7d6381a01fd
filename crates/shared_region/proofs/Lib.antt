mod Entries
mod Seats
