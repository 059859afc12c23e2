-- The text of certificates that is written: `CERTS 1`, and for each group its CERT line, a CLAIM
-- line for each run, and MARKS lines, all full but the last.
use Rattle.std.specs.Prelude.{ℕ, zero, suc, Bool, List, [], ◌∷◌, ◌++◌, length, take, drop, codes}
use Rattle.std.specs.List.{flat_map}
use Rattle.certificate.specs.Digits.{digits_of}
use Rattle.legal_runs.specs.declared.claim.ClaimedRun.{ClaimedRun}
use Rattle.certificate.specs.declared.group.Group.{Group}
use Rattle.order_grammar.specs.Print.{spelling_of}
use Rattle.order_grammar.specs.declared.order.Order.{Order}
use Rattle.order_grammar.specs.declared.order.Order.TheVariants.{Certs, Cert, Claim}

-- a line with its LF
abbrev pub ended : List ℕ → List ℕ
ended line = line ++ 10 ∷ []

-- the line of an order
abbrev pub order_line : Order → List ℕ
order_line order = ended (spelling_of order)

-- a CLAIM line
abbrev pub claim_line : ClaimedRun → List ℕ
claim_line claimed = order_line (Claim claimed.kind claimed.run)

-- a MARKS line of the first of some bits: those of 1,000 digits, or all
abbrev pub marks_line : List Bool → List ℕ
marks_line bits = ended (codes "MARKS " ++ digits_of (take 4000 bits))

-- MARKS lines of bits, at most this many of them
abbrev pub marks_lines_within : ℕ → List Bool → List ℕ
marks_lines_within zero bits = []
marks_lines_within (suc count) [] = []
marks_lines_within (suc count) (bit ∷ bits) =
    marks_line (bit ∷ bits) ++ marks_lines_within count (drop 4000 (bit ∷ bits))

-- MARKS lines of all the bits, for which as many lines suffice as there are bits
abbrev pub marks_lines : List Bool → List ℕ
marks_lines bits = marks_lines_within (length bits) bits

-- the lines of a group before its marks
abbrev pub claim_text : Group → List ℕ
claim_text group =
    order_line (Cert group.round group.company group.claim.revenue) ++ flat_map claim_line group.claim.runs

-- the text of a group
abbrev pub group_text : Group → List ℕ
group_text group = claim_text group ++ marks_lines group.bits

-- the text of the certificates of groups
abbrev pub certificates_text : List Group → List ℕ
certificates_text groups = order_line Certs ++ flat_map group_text groups
