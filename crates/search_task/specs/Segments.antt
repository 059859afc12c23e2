-- The segments of track that lead from the spots, in one table. Those from a spot are found from
-- the last one on, back to the first.
use Rattle.std.specs.Prelude.{◌≡◌, ℕ, ◌+◌, Bool, true, false, ◌==◌, Some, List, [], ◌∷◌, ◌++◌, length, slice_get}
use Rattle.reach.specs.Search.{map_spots}
use Rattle.search_task.specs.declared.segments.Entry.{Entry}
use Rattle.search_task.specs.declared.segments.Chain.{Chain}
use Rattle.search_task.specs.declared.task.Segment.{Segment}

-- a segment, if it leads from a spot, before others
abbrev pub segment_if : Bool → Segment → List Segment → List Segment
segment_if true segment segments = segment ∷ segments
segment_if false segment segments = segments

-- the segments from a spot, in order
abbrev pub segments_from : ℕ → List Entry → List Segment
segments_from spot [] = []
segments_from spot (entry ∷ entries) = segment_if (entry.from == spot) entry.segment (segments_from spot entries)

-- a segment is added after those from a spot
pub record AddsSegment (from : ℕ) (segment : Segment) (old new : List Entry) : Type 0 where
  pub entry : Entry
  pub from_is : entry.from ≡ from
  pub segment_is : entry.segment ≡ segment
  pub more : new ≡ old ++ entry ∷ []

-- at a place in the table is the segment that has a place among those from a spot
pub record IsEntryAt (entries : List Entry) (there spot place : ℕ) : Type 0 where
  pub entry : Entry
  pub there_is : slice_get entries there ≡ Some entry
  pub from_is : entry.from ≡ spot
  pub place_is : entry.place ≡ place

-- a segment has its place among those from its spot, and the one before it is found
pub record HasPlace (entries : List Entry) (entry : Entry) : Type 0 where
  pub segment_is : slice_get (segments_from entry.from entries) entry.place ≡ Some entry.segment
  pub before : (place : ℕ) → place + 1 ≡ entry.place → IsEntryAt entries entry.before entry.from place

-- the segments from a spot are counted, and the last one is found
pub record IsChain (entries : List Entry) (spot : ℕ) (chain : Chain) : Type 0 where
  pub count : chain.count ≡ length (segments_from spot entries)
  pub last : (place : ℕ) → place + 1 ≡ chain.count → IsEntryAt entries chain.last spot place

-- each segment and each spot is so
pub record AreChained (entries : List Entry) (chains : List Chain) : Type 0 where
  pub long : length chains ≡ map_spots
  pub places : (there : ℕ) (entry : Entry) → slice_get entries there ≡ Some entry → HasPlace entries entry
  pub chains_are : (spot : ℕ) (chain : Chain) → slice_get chains spot ≡ Some chain → IsChain entries spot chain
