mod Tables
mod Parties
mod Sums
