pub mod ToldHits
