-- A file that is not refused names 3 to 6 players, and is not too long.
use Rattle.sheets.specs.File.{header_version, IsAccepted}
use Rattle.std.specs.Prelude.{is_some}
use Rattle.std.proofs.Common.{◌≡◌, ℕ, ◌&&◌, Bool, true, false, nat_le, nat_lt, cond, List, [], ◌∷◌, length, Option, ◌≤◌}
use Rattle.std.proofs.Common.{Some, None, Result, Ok, Err, IsOk, refl, subst, arith, rules, inl, inr}
use Rattle.std.proofs.lemmas.Bool.{and_parts, cases_Bool, ltb-false}
use Rattle.std.proofs.lemmas.Bool.Decides.{nat_tests}
use Rattle.order_grammar.specs.Line.{reading_of}
use Rattle.order_grammar.specs.declared.fault.Fault.{Fault}
use Rattle.order_grammar.specs.declared.order.Order.{Order}
use Rattle.order_grammar.specs.declared.order.Order.TheVariants as order
use Rattle.sheets.specs.File.{Content, all_differ, body_content, content_of, good_lines, lines_content}
use Rattle.sheets.specs.File.{players_content, players_in, players_named, players_of}
use Rattle.sheets.specs.Laws.{MayPlay, ThreeToSixPlay}
use Rattle.sheets.specs.Limits.{file_most, sheets_most}
use Rattle.sheets.specs.Text.{written_lines}
use Rattle.sheets.specs.declared.fault.FileFault.{FileFault}
use Rattle.sheets.specs.declared.fault.FileFault.TheVariants.{Header, Players, TooLong, TooManySheets}

-- what is said of content that is not refused: its players are 3 to 6
abbrev HasPlayers : Result Content FileFault → Type 0
HasPlayers content = IsOk content → MayPlay (length (players_in content))

-- nothing is said of what is refused
refused : (fault : FileFault) → HasPlayers (Err fault)
refused fault ok = absurd (search rules)

-- what is said of both is said of what a test chooses
chosen : (test : Bool) (one other : Result Content FileFault) → HasPlayers one → HasPlayers other
    → HasPlayers (cond test one other)
chosen true one other first second = first
chosen false one other first second = second

-- the players that are taken are as many as may play
from_names : (names players : List (List ℕ)) (fit : Bool)
    → (nat_le 3 (length names) && (nat_le (length names) 6 && all_differ names)) ≡ fit →
    cond fit (Some names) None ≡ Some players → MayPlay (length players)
from_names names players true fit taken =
    let parts = and_parts (nat_le 3 (length names)) (nat_le (length names) 6 && all_differ names) fit in
    let most : nat_le (length names) 6 ≡ true = (and_parts (nat_le (length names) 6) (all_differ names) parts.1).0 in
    let least : nat_le 3 (length names) ≡ true = parts.0 in
    let same : names ≡ players = cc in
    subst (λ (some : List (List ℕ)). MayPlay (length some)) same (grind (arith, nat_tests), grind (arith, nat_tests))
from_names names players false fit taken = cc

-- a line names as many as may play
from_line : (reading : Result Order Fault) (players : List (List ℕ)) → players_named reading ≡ Some players
    → MayPlay (length players)
from_line (Ok (order.Players names)) players named = from_names names.items players _ refl named
from_line (Ok other) players named = cc
from_line (Err fault) players named = cc

-- so has what the lines after the header say
from_body : (body : List (List ℕ)) (found : Option (List (List ℕ)))
    → ((players : List (List ℕ)) → found ≡ Some players → MayPlay (length players)) →
    HasPlayers (body_content body found)
from_body body None play = refused Players
from_body body (Some players) play =
    chosen (nat_lt sheets_most (good_lines players body)) (Err TooManySheets)
    (Ok (record { players = players; body = body })) (refused TooManySheets)
    (λ ok. play players refl)

from_players : (lines : List (List ℕ)) → HasPlayers (players_content lines)
from_players [] = refused Players
from_players (line ∷ lines) = from_body lines (players_named (reading_of line)) (from_line (reading_of line))

-- so has what the written lines say
from_lines : (lines : List (List ℕ)) → HasPlayers (lines_content lines)
from_lines [] = refused Header
from_lines (line ∷ lines) =
    chosen (is_some (header_version (reading_of line))) (players_content lines) (Err Header) (from_players lines) (refused Header)

-- a file that is not refused has 3 to 6 players
pub three_to_six_play_law : ThreeToSixPlay
unfolding content_of players_of
three_to_six_play_law file accepted =
    chosen (nat_lt file_most (length file)) (Err TooLong) (lines_content (written_lines file)) (refused TooLong)
    (from_lines (written_lines file)) accepted

-- and it is not too long
short_enough : (bytes : ℕ) (content : Result Content FileFault)
    → IsOk (cond (nat_lt file_most bytes) (Err TooLong) content) → bytes ≤ file_most
short_enough bytes content accepted =
    elim (cases_Bool (nat_lt file_most bytes)) [
      | inl long ↦ absurd (let wrong = rw long at accepted in cc)
      | inr short ↦ ltb-false file_most bytes short
    ]

pub accepted_short : (file : List ℕ) → IsAccepted file → length file ≤ file_most
unfolding content_of
accepted_short file accepted = short_enough (length file) (lines_content (written_lines file)) accepted
