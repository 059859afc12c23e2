-- Names of players, and their seats.
use Rattle.std.proofs.Common.{◌≡◌, ℕ, suc, ◌+◌, ◌-◌, ◌<◌, ◌≤◌, Bool, true, false, not, ◌&&◌, ◌||◌, cond, List, [], ◌∷◌}
use Rattle.std.proofs.Common.{◌++◌, length, take, drop, get_or, Option, Some, None, refl, sym, ap, subst, ◌∙◌}
use Rattle.std.proofs.Common.{true≢false, length-take-le, arith, add-one, drop-cons}
use Rattle.std.proofs.lemmas.Bool.{and_parts, and_from, le-leb}
use Rattle.std.proofs.lemmas.Bool.Decides.{same_from_decides, Decides-eqb}
use Rattle.std.proofs.lemmas.List.{take-append-drop}
use Rattle.std.proofs.lemmas.List.Folds.{list_any-append}
use Rattle.std.proofs.lemmas.Slice.Eq.{bytes_eq-Decides}
use Rattle.std.proofs.Math.Seq.{take-append_seam, take-suc}
use Rattle.std.specs.Bool.{Decides}
use Rattle.std.specs.Cmp.Lexicographic.{pointwise}
use Rattle.std.specs.List.{list_any}
use Rattle.std.specs.Prelude.{nat_eq, nat_le, replicate, is_some}
use Rattle.order_grammar.specs.Words.{same_word}
use Rattle.order_grammar.specs.contracts.name.NamePartialEq.TheImpl as derived
use Rattle.std.specs.Map.{keys_of, lookup}
use Rattle.sheets.specs.File.{all_differ, players_from, seat_from, with_seats}
use Rattle.tables.specs.declared.seat.Seat.{Seat}

-- whether two names are equal, by the test that is derived for them
abbrev pub is_equal : List ℕ → List ℕ → Bool
is_equal a b = derived.eq-value.it a b

-- the letters of a name, with the room after them
filled : List ℕ → List ℕ
filled a = a ++ replicate (8 - length a) 0

-- the derived test compares the letters, with the room after them, and their number
by_room : (a b : List ℕ) → is_equal a b ≡ (pointwise nat_eq (filled a) (filled b) && nat_eq (length a) (length b))
unfolding filled
by_room a b = refl

-- texts are compared byte by byte
pointwise_is_same_word : (a b : List ℕ) → pointwise nat_eq a b ≡ same_word a b
pointwise_is_same_word [] [] = refl
pointwise_is_same_word [] (y ∷ b) = refl
pointwise_is_same_word (x ∷ a) [] = refl
pointwise_is_same_word (x ∷ a) (y ∷ b) = ap (λ t. nat_eq x y && t) (pointwise_is_same_word a b)

-- the letters are before the room
first_of_filled : (a : List ℕ) → take (length a) (filled a) ≡ a
unfolding filled
first_of_filled a = take-append_seam a (replicate (8 - length a) 0)

-- so they are the same where the texts are equal
same_decides : (a b : List ℕ) → Decides (same_word a b) (a ≡ b)
same_decides a b = subst (λ t. Decides t (a ≡ b)) (pointwise_is_same_word a b) (bytes_eq-Decides a b)

-- the derived test says whether the texts are the same
equal_texts : (a b : List ℕ) → is_equal a b ≡ true → a ≡ b
equal_texts a b h =
    let k : (pointwise nat_eq (filled a) (filled b) ≡ true) × (nat_eq (length a) (length b) ≡ true) =
    and_parts _ _ (sym (by_room a b) ∙ h) in
    let e : filled a ≡ filled b = (bytes_eq-Decides (filled a) (filled b)).0 k.0 in
    let n : length a ≡ length b = (Decides-eqb (length a) (length b)).0 k.1 in
    let t : take (length a) (filled a) ≡ take (length b) (filled b) = λ i. take (n i) (e i) in
    sym (first_of_filled a) ∙ t ∙ first_of_filled b

-- a name is equal to itself by the derived test
equal_itself : (a : List ℕ) → is_equal a a ≡ true
equal_itself a = by_room a a ∙ and_from _ _ ((bytes_eq-Decides (filled a) (filled a)).1 refl)
    ((Decides-eqb (length a) (length a)).1 refl)

-- so it is the test of the definitions
pub name_test : (a b : List ℕ) → is_equal a b ≡ same_word b a
name_test a b =
    same_from_decides {P = a ≡ b} (is_equal a b) (same_word b a)
    (equal_texts a b, λ e. subst (λ c. is_equal a c ≡ true) e (equal_itself a))
    (λ h. sym ((same_decides b a).0 h), λ e. (same_decides b a).1 (sym e))

-- players with their seats are those names
pub keys_of-seats : (seat : ℕ) (players : List (List ℕ)) → keys_of (with_seats seat players) ≡ players
keys_of-seats seat [] = refl
keys_of-seats seat (player ∷ players) = ap (λ (l : List (List ℕ)). player ∷ l) (keys_of-seats (seat + 1) players)

-- the seat that has a name is the name's
pub seat_looked_up : (seat : ℕ) (players : List (List ℕ)) (name : List ℕ) →
    lookup (is_equal name) (with_seats seat players) ≡ seat_from seat players name
seat_looked_up seat [] name = refl
seat_looked_up seat (player ∷ players) name = rw (name_test name player, seat_looked_up (seat + 1) players name) refl

-- one more player, at the head
seat_among_one : (t : Bool) (seat : Seat) (later : Option Seat) (others : Bool) → is_some later ≡ others
    → is_some (cond t (Some seat) later) ≡ (t || others)
seat_among_one true seat later others e = refl
seat_among_one false seat later others e = e

-- there is one where the name is among the others
seat_among : (test : List ℕ → Bool) (seat : ℕ) (players : List (List ℕ))
    → is_some (lookup test (with_seats seat players)) ≡ list_any test players
seat_among test seat [] = refl
seat_among test seat (player ∷ players) =
    seat_among_one (test player) (record { 0 = seat }) (lookup test (with_seats (seat + 1) players))
    (list_any test players)
    (seat_among test (seat + 1) players)

-- so for the entries of a map
pub seat_there : (entries : List (List ℕ × Seat)) (keys : List (List ℕ)) (name : List ℕ) (found : Option Seat)
    → entries ≡ with_seats 0 keys →
    found ≡ lookup (is_equal name) entries → list_any (is_equal name) keys ≡ is_some found
seat_there entries keys name found seated is =
    sym (seat_among (is_equal name) 0 keys) ∙ ap is_some (ap (lookup (is_equal name)) (sym seated) ∙ sym is)

-- a player more
with_seats-more : (seat : ℕ) (players : List (List ℕ)) (name : List ℕ) →
    with_seats seat (players ++ name ∷ []) ≡ with_seats seat players
    ++ (name, record { 0 = seat + length players }) ∷ []
with_seats-more seat [] name = ap (λ n. (name, record { 0 = n }) ∷ []) (let e : seat ≡ seat + 0 = omega arith in e)
with_seats-more seat (player ∷ players) name =
    ap (λ (l : List (List ℕ × Seat)). (player, record { 0 = seat }) ∷ l)
    (with_seats-more (seat + 1) players name
    ∙ ap (λ n. with_seats (seat + 1) players ++ (name, record { 0 = n }) ∷ [])
    (let e : seat + 1 + length players ≡ seat + length (player ∷ players) = omega arith in e))

-- one name twice
twice : (a l m n rest : Bool) → (a || l) ≡ true → (l ≡ true → rest ≡ false) → (not (m || (a || n)) && rest) ≡ false
twice true l true n rest h ih = refl
twice true l false n rest h ih = refl
twice false l true n rest h ih = refl
twice false l false true rest h ih = refl
twice false l false false rest h ih = ih h

-- names do not differ where one of them is among those before it
repeats : (before after : List (List ℕ)) (name : List ℕ) → list_any (is_equal name) before ≡ true
    → all_differ (before ++ name ∷ after) ≡ false
repeats [] after name h = absurd (true≢false (sym h))
repeats (player ∷ before) after name h =
    rw (list_any-append (same_word player) before (name ∷ after))
    (twice (same_word player name) (list_any (is_equal name) before) (list_any (same_word player) before)
    (list_any (same_word player) after) (all_differ (before ++ name ∷ after))
    (ap (λ t. t || list_any (is_equal name) before) (sym (name_test name player)) ∙ h) (repeats before after name))

-- one more name
more : (a l m rest longer : Bool) → (a || l) ≡ false → (not m && rest) ≡ true
    → (l ≡ false → rest ≡ true → longer ≡ true) →
    (not (m || (a || false)) && longer) ≡ true
more true l m rest longer h d ih = absurd (true≢false h)
more false l true rest longer h d ih = absurd (true≢false (sym d))
more false l false rest longer h d ih = ih h d

-- names still differ where the next is not among those before it
differs : (before : List (List ℕ)) (name : List ℕ) → list_any (is_equal name) before ≡ false
    → all_differ before ≡ true →
    all_differ (before ++ name ∷ []) ≡ true
differs [] name h d = refl
differs (player ∷ before) name h d =
    rw (list_any-append (same_word player) before (name ∷ []))
    (more (same_word player name) (list_any (is_equal name) before) (list_any (same_word player) before)
    (all_differ before) (all_differ (before ++ name ∷ []))
    (ap (λ t. t || list_any (is_equal name) before) (sym (name_test name player)) ∙ h) d (differs before name))

module _ (names keys : List (List ℕ)) (i : ℕ) (name : List ℕ) (within : i < length names)
    (is : name ≡ get_or names i name) (kept : keys ≡ take i names) where
  -- a name that is among those before it
  pub repeated : list_any (is_equal name) keys ≡ true → all_differ names ≡ false
  repeated h =
      let before : list_any (is_equal name) (take i names) ≡ true =
      subst (λ l. list_any (is_equal name) l ≡ true) kept h in
      let after : drop i names ≡ name ∷ drop (suc i) names =
      drop-cons names i name within ∙ ap (λ n. n ∷ drop (suc i) names) (sym is) in
      let whole : take i names ++ name ∷ drop (suc i) names ≡ names =
      ap (λ l. take i names ++ l) (sym after) ∙ take-append-drop i names in
      subst (λ l. all_differ l ≡ false) whole (repeats (take i names) (drop (suc i) names) name before)

  -- one more name is taken
  one_more : take (i + 1) names ≡ take i names ++ name ∷ []
  one_more = ap (λ n. take n names) (add-one i) ∙ take-suc names i name within
      ∙ ap (λ n. take i names ++ n ∷ []) (sym is)

  -- a name that is not goes after them, with the next seat
  pub now_seated : (old new : List (List ℕ × Seat)) → old ≡ with_seats 0 (take i names)
      → new ≡ old ++ (name, record { 0 = i }) ∷ [] →
      new ≡ with_seats 0 (take (i + 1) names)
  now_seated old new seated added =
      let size : length (take i names) ≡ i = length-take-le i names (omega arith) in
      let seat : 0 + length (take i names) ≡ i = omega arith in
      added ∙ ap (λ (l : List (List ℕ × Seat)). l ++ (name, record { 0 = i }) ∷ []) seated
      ∙ ap (λ n. with_seats 0 (take i names) ++ (name, record { 0 = n }) ∷ []) (sym seat)
      ∙ sym (with_seats-more 0 (take i names) name) ∙ ap (with_seats 0) (sym one_more)

  -- and they still differ
  pub now_differ : list_any (is_equal name) keys ≡ false → all_differ (take i names) ≡ true
      → all_differ (take (i + 1) names) ≡ true
  now_differ h d = subst (λ l. all_differ l ≡ true) (sym one_more)
      (differs (take i names) name (subst (λ l. list_any (is_equal name) l ≡ false) kept h) d)

-- names that do not differ are no players
refused : (a b d : Bool) (names : List (List ℕ)) → d ≡ false → None ≡ cond (a && (b && d)) (Some names) None
refused true true d names h = rw h refl
refused true false d names h = refl
refused false b d names h = refl

-- so nobody plays
pub no_players : (names : List (List ℕ)) → all_differ names ≡ false → None ≡ players_from names
no_players names h = refused (nat_le 3 (length names)) (nat_le (length names) 6) (all_differ names) names h

-- names that differ are players, if they are 3 to 6
pub all_play : (names keys : List (List ℕ)) → 3 ≤ length names → length names ≤ 6 → all_differ names ≡ true
    → keys ≡ names → Some keys ≡ players_from names
all_play names keys least most differ same =
    rw (le-leb 3 (length names) least, le-leb (length names) 6 most, differ)
    (ap (λ (all : List (List ℕ)). Some all) same)
