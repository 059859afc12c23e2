-- The two kinds of text that have lines, an order file and the text of a certificate. This says how
-- long a line may be and which words it may begin with, without the table of forms.
use Rattle.std.specs.Prelude.{ℕ, List, [], ◌∷◌, codes}
use Rattle.order_grammar.specs.Limits.{line_most, cert_line_most}

-- what each line of a kind of text must be
pub record TextKind : Type 0 where
  -- the most bytes, without its LF and a CR before that
  pub most : ℕ
  -- the words that its forms begin with
  pub first_words : List (List ℕ)

-- an order file
abbrev pub order_file : TextKind
order_file =
    record {
      most = line_most;
      first_words =
          codes "GAME" ∷ codes "PLAYERS" ∷ codes "SHEET" ∷ codes "TURN" ∷ codes "BUY"
          ∷ codes "BID" ∷ codes "LIMIT" ∷ codes "PAR" ∷ codes "SELL" ∷ codes "EXCHANGE" ∷ codes "COMPANY"
          ∷ codes "LAY" ∷ codes "TOKEN" ∷ codes "RUN" ∷ codes "PAY" ∷ codes "WITHHOLD" ∷ codes "TRAIN" ∷ codes "DISCARD"
          ∷ codes "PRIVATE" ∷ codes "RAISE" ∷ codes "OFFER" ∷ codes "CERT" ∷ codes "CLAIM" ∷ [];
    }

-- the words with which an order begins that may be under a condition: no line of the file, no head,
-- and no IF
abbrev pub play_words : List (List ℕ)
play_words =
    codes "BUY" ∷ codes "BID" ∷ codes "LIMIT" ∷ codes "PAR" ∷ codes "SELL" ∷ codes "EXCHANGE" ∷ codes "LAY"
    ∷ codes "TOKEN" ∷ codes "RUN" ∷ codes "PAY" ∷ codes "WITHHOLD" ∷ codes "TRAIN" ∷ codes "DISCARD" ∷ codes "PRIVATE"
    ∷ codes "RAISE" ∷ codes "OFFER" ∷ []

-- the text of a certificate
abbrev pub certificate : TextKind
certificate =
    record { most = cert_line_most; first_words = codes "CERTS" ∷ codes "CERT" ∷ codes "CLAIM" ∷ codes "MARKS" ∷ [] }
