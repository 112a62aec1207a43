mod Seen
mod Reports
mod Arms
mod Events
mod First
mod Refused
