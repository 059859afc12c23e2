-- The words for the closed borders of a hex, side after side.
use Rattle.std.proofs.Common.{◌≡◌, ap, sym, ◌∙◌, true, if◌then◌else◌, List, ℕ, ◌++◌}
use Rattle.std.specs.Prelude.{codes}
use Rattle.std.proofs.lemmas.List.{append-nil}
use Rattle.map_tables.specs.declared.hex.Hex.{Hex}
use Rattle.map_tables.specs.declared.side.Side.TheVariants.{SouthWest, West, NorthWest, NorthEast, East, SouthEast}
use Rattle.markup.specs.Written.{closing_of}
use Rattle.markup.specs.declared.writer.WriterPlace.{WriterPlace}
use Rattle.markup.specs.declared.writer.WriterPlace.TheVariants.{Between}
use Rattle.page_map.specs.ClosedWords.{has_closed_side, side_named, with_closed_sides}

-- the words are behind what was there
pub said_behind : (start within said : List ℕ) (spot : WriterPlace) (words : List ℕ) → within ≡ start → spot ≡ Between
    → said ≡ within ++ closing_of spot ++ words → said ≡ start ++ words
said_behind start within said spot words begun between is =
    is ∙ ap (λ place. within ++ closing_of place ++ words) between ∙ ap (λ text. text ++ words) (append-nil within)
    ∙ ap (λ text. text ++ words) begun

-- and then each side's
pub all_sides : (hex : Hex) (start said a b c d e f : List ℕ) → has_closed_side hex ≡ true
    → said ≡ start ++ codes "; closed border at side" → a ≡ said ++ side_named hex SouthWest
    → b ≡ a ++ side_named hex West → c ≡ b ++ side_named hex NorthWest → d ≡ c ++ side_named hex NorthEast
    → e ≡ d ++ side_named hex East → f ≡ e ++ side_named hex SouthEast → f ≡ with_closed_sides start hex
all_sides hex start said a b c d e f some is is_a is_b is_c is_d is_e is_f =
    is_f ∙ ap (λ text. text ++ side_named hex SouthEast) (is_e
    ∙ ap (λ text. text ++ side_named hex East) (is_d
    ∙ ap (λ text. text ++ side_named hex NorthEast) (is_c
    ∙ ap (λ text. text ++ side_named hex NorthWest) (is_b
    ∙ ap (λ text. text ++ side_named hex West) (is_a
    ∙ ap (λ text. text ++ side_named hex SouthWest) is)))))
    ∙ sym (ap (λ closed. if closed then start ++ codes "; closed border at side" ++ side_named hex SouthWest
    ++ side_named hex West ++ side_named hex NorthWest ++ side_named hex NorthEast ++ side_named hex East
    ++ side_named hex SouthEast else start) some)
