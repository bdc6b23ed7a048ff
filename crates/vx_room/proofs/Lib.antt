pub mod Latencies
mod RoomSteps
mod RoomLaw
mod RoomAlone
mod FitsByRoom
mod RoomRows
mod Covered
