-- A token of the code as a word at its place.
use Rattle.std.specs.Prelude.{◌≡◌, ℕ, drop, List, [], ◌∷◌, Option, Some, None}
use Rattle.order_grammar.specs.Words.{Placed, placed_from}
use Rattle.order_grammar.specs.declared.words.Token.{Token}

-- the word that a token is
abbrev pub placed : Token → Placed
placed token = record { text = token.text.now; start = token.span.start; end = token.span.end }

-- the first of some words is given, and the others are left; nothing is given if there is none
abbrev pub GivesFirst : List Placed → Option Token → List Placed → Type 0
GivesFirst [] given left = (given ≡ None) × (left ≡ [])
GivesFirst (word ∷ words) given left =
    (token : Token) × (given ≡ Some token) × (placed token ≡ word) × (left ≡ words)

-- the first word of a text from a place on is given, if there is one, and the others come after it
abbrev pub GivesWord : List ℕ → ℕ → Option Token → Type 0
GivesWord text at None = placed_from at [] (drop at text) ≡ []
GivesWord text at (Some token) =
    placed_from at [] (drop at text) ≡ placed token ∷ placed_from token.span.end [] (drop token.span.end text)
