-- Names that are placed one after the other. What does not reach into the room of a name is not covered by it.
use Rattle.std.proofs.Common.{◌≡◌, ℕ, zero, suc, ◌<◌, ◌&&◌, ◌||◌, not, Bool, true, false, cond, List, [], ◌∷◌, ◌++◌, length}
use Rattle.std.proofs.Common.{get_or, map, ℤ, ◌+ℤ◌, ◌-ℤ◌, refl, sym, ap, ◌∙◌, arith}
use Rattle.std.specs.Prelude.{int_le, int_lt}
use Rattle.std.proofs.lemmas.Bool.{and_from, and_parts, or_parts, not-true, true≢false}
use Rattle.std.proofs.lemmas.Int.{ints}
use Rattle.std.proofs.lemmas.List.Elements.{All-nil, All-push}
use Rattle.std.proofs.lemmas.List.Folds.{list_any-append}
use Rattle.std.proofs.lemmas.List.Quantifiers.{all_pairs_push}
use Rattle.picture.specs.declared.frames.Frame.{Frame}
use Rattle.picture.specs.declared.names.PlacedName.{PlacedName}
use Rattle.picture.specs.Frames.{holds, is_free, is_within, meets, meets_any, overlap, reaching}
use Rattle.picture.specs.Names.{ArePlaced, AreApart, IsClearOf, IsInRoom, frame_of_name, name_room}

-- what is less than a number is less than a greater one
lt_le : (a b c : ℤ) → int_lt a b ≡ true → int_le b c ≡ true → int_lt a c ≡ true
lt_le a b c less most = by (int_lt a c) refl
  where
    by : (t : Bool) → int_lt a c ≡ t → int_lt a c ≡ true
    by true is = is
    by false is = absurd (omega (arith, ints))

-- what is at most a number is less than a greater one
le_lt : (a b c : ℤ) → int_le a b ≡ true → int_lt b c ≡ true → int_lt a c ≡ true
le_lt a b c most less = by (int_lt a c) refl
  where
    by : (t : Bool) → int_lt a c ≡ t → int_lt a c ≡ true
    by true is = is
    by false is = absurd (omega (arith, ints))

-- a stretch that overlaps one within a third overlaps that third
overlaps_more : (o oh f fh r rh : ℤ) → is_within r rh f fh ≡ true → overlap o oh f fh ≡ true → overlap o oh r rh ≡ true
overlaps_more o oh f fh r rh within over =
    let inside = and_parts (int_le (r -ℤ rh) (f -ℤ fh)) (int_le (f +ℤ fh) (r +ℤ rh)) within in
    let both = and_parts (int_lt (o -ℤ oh) (f +ℤ fh)) (int_lt (f -ℤ fh) (o +ℤ oh)) over in
    and_from (int_lt (o -ℤ oh) (r +ℤ rh)) (int_lt (r -ℤ rh) (o +ℤ oh))
    (lt_le (o -ℤ oh) (f +ℤ fh) (r +ℤ rh) both.0 inside.1)
    (le_lt (r -ℤ rh) (f -ℤ fh) (o +ℤ oh) inside.0 both.1)

-- a frame that overlaps one within a room reaches into the room
reaches_in : (room frame other : Frame) → holds room frame ≡ true → meets other frame ≡ true → meets other room ≡ true
reaches_in room frame other within over =
    let inside = and_parts (is_within room.middle.x room.across frame.middle.x frame.across)
    (is_within room.middle.y room.down frame.middle.y frame.down) within in
    let both = and_parts (overlap other.middle.x other.across frame.middle.x frame.across)
    (overlap other.middle.y other.down frame.middle.y frame.down) over in
    and_from (overlap other.middle.x other.across room.middle.x room.across)
    (overlap other.middle.y other.down room.middle.y room.down)
    (overlaps_more other.middle.x other.across frame.middle.x frame.across room.middle.x room.across inside.0 both.0)
    (overlaps_more other.middle.y other.down frame.middle.y frame.down room.middle.y room.down inside.1 both.1)

-- one that does not reach into the room overlaps none within it
misses : (room frame other : Frame) → holds room frame ≡ true → meets other room ≡ false → meets other frame ≡ false
misses room frame other within out = by (meets other frame) refl
  where
    by : (t : Bool) → meets other frame ≡ t → meets other frame ≡ false
    by true is = absurd (true≢false (sym (reaches_in room frame other within is) ∙ out))
    by false is = is

-- with one more in front of some that a frame does not overlap
clear_with : (room frame other : Frame) (others near : List Frame) (t : Bool) → meets other room ≡ t
    → holds room frame ≡ true → meets_any (cond t (other ∷ near) near) frame ≡ false
    → (meets_any near frame ≡ false → meets_any others frame ≡ false) → meets_any (other ∷ others) frame ≡ false
clear_with room frame other others near true is within none rest =
    let both = or_parts (meets other frame) (meets_any near frame) none in
    ap (λ (b : Bool). b || meets_any others frame) both.0 ∙ rest both.1
clear_with room frame other others near false is within none rest =
    ap (λ (b : Bool). b || meets_any others frame) (misses room frame other within is) ∙ rest none

-- a frame within a room that overlaps none of those that reach into it overlaps none at all
clear_of_all : (room frame : Frame) (others : List Frame) → holds room frame ≡ true
    → meets_any (reaching room others) frame ≡ false → meets_any others frame ≡ false
clear_of_all room frame [] within clear = refl
clear_of_all room frame (other ∷ others) within clear =
    clear_with room frame other others (reaching room others) (meets other room) refl within clear
    (clear_of_all room frame others within)

-- a frame that overlaps none of the frames of names overlaps that of each
apart_from_each : (frame : Frame) (names : List PlacedName) → meets_any (map frame_of_name names) frame ≡ false
    → (k : ℕ) (d : PlacedName) → k < length names → meets (get_or names k d).frame frame ≡ false
apart_from_each frame [] none k d low = absurd (omega arith)
apart_from_each frame (name ∷ names) none zero d low =
    (or_parts (meets name.frame frame) (meets_any (map frame_of_name names) frame) none).0
apart_from_each frame (name ∷ names) none (suc k) d low =
    apart_from_each frame names
    (or_parts (meets name.frame frame) (meets_any (map frame_of_name names) frame) none).1 k d (omega arith)

-- no names are placed
pub placed_none : (signs lines : List Frame) → ArePlaced signs lines []
placed_none signs lines =
    (All-nil IsInRoom, All-nil (IsClearOf signs), All-nil (IsClearOf lines), λ i j d lt low. absurd (omega arith))

-- names stay placed with one more that is free of what reaches into its room
pub placed_next : (signs lines : List Frame) (names : List PlacedName) (near : List Frame) (name : PlacedName)
    → ArePlaced signs lines names
    → near ≡ (reaching (name_room name.hex) signs ++ reaching (name_room name.hex) lines)
    ++ reaching (name_room name.hex) (map frame_of_name names)
    → is_free (name_room name.hex) near name.frame ≡ true
    → ArePlaced signs lines (names ++ name ∷ [])
placed_next signs lines names near name before same free =
    let room = name_room name.hex in
    let parts = and_parts (holds room name.frame) (not (meets_any near name.frame)) free in
    let within : holds room name.frame ≡ true = parts.0 in
    let clear : meets_any near name.frame ≡ false = not-true (meets_any near name.frame) parts.1 in
    let far = map frame_of_name names in
    let all = sym (list_any-append (λ (other : Frame). meets other name.frame)
    (reaching room signs ++ reaching room lines) (reaching room far))
    ∙ ap (λ (frames : List Frame). meets_any frames name.frame) (sym same) ∙ clear in
    let two = or_parts (meets_any (reaching room signs ++ reaching room lines) name.frame)
    (meets_any (reaching room far) name.frame) all in
    let some = sym (list_any-append (λ (other : Frame). meets other name.frame)
    (reaching room signs) (reaching room lines)) ∙ two.0 in
    let each = or_parts (meets_any (reaching room signs) name.frame) (meets_any (reaching room lines) name.frame) some in (
      All-push IsInRoom names name before.0 within,
      All-push (IsClearOf signs) names name before.1 (clear_of_all room name.frame signs within each.0),
      All-push (IsClearOf lines) names name before.2 (clear_of_all room name.frame lines within each.1),
      all_pairs_push AreApart names name before.3
          (apart_from_each name.frame names (clear_of_all room name.frame far within two.1)),
    )
