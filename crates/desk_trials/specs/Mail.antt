-- Lines that look like mail: a header, a line that is quoted, the line above a quotation, or the
-- first of a signature.
use Rattle.std.specs.Prelude.{ℕ, Bool, ◌&&◌, ◌||◌, List, [], ◌∷◌, codes, nat_eq}
use Rattle.std.specs.List.{list_any, ends_with, starts_with}

-- how the headers of a mail begin, the lines that it quotes, and those of its signature
abbrev pub mail_heads : List (List ℕ)
mail_heads =
    codes "From:" ∷ codes "To:" ∷ codes "Cc:" ∷ codes "Date:" ∷ codes "Sent:" ∷ codes "Subject:"
    ∷ codes "Message-ID:" ∷ codes ">" ∷ codes "|" ∷ codes "--" ∷ codes "Sent from my " ∷ []

-- the line begins with one of these
abbrev pub begins_with_one : List ℕ → List (List ℕ) → Bool
begins_with_one line heads = list_any (λ head. starts_with nat_eq line head) heads

-- the line says who wrote what is quoted below it
abbrev pub is_above_quotation : List ℕ → Bool
is_above_quotation line = starts_with nat_eq line (codes "On ") && ends_with nat_eq line (codes " wrote:")

-- the line looks like mail
unfoldable pub is_mail : List ℕ → Bool
is_mail line = begins_with_one line mail_heads || is_above_quotation line
