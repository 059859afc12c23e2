pub mod DrawingLemmas
