use Rattle.std.proofs.Common.{◌≡◌, ℕ, List, false, sym, ap, ◌∙◌}
use Rattle.std.proofs.lemmas.Bool.{OnTrue_at}
use Rattle.order_grammar.specs.Words.{first_of_words, same_word, words_of}
use Rattle.sheets.specs.Part.{head_word}
use Rattle.sheets.proofs.Heads.{no_head}
use Rattle.sheets.proofs.parts.is_head.Goals as goal

pub returns-else-begins_with_word : goal.returns-else-begins_with_word
returns-else-begins_with_word c =
    let first = first_of_words (words_of c.args.line.text.now) in
    let differs : same_word first (head_word c.args.round) ≡ false =
    ap (λ (word : List ℕ). same_word first word) (sym c.head_word.ensures) ∙ sym c.begins_with_word.ensures
    ∙ c.if-begins_with_word.false in
    c.if-begins_with_word.false
    ∙ sym (no_head c.read_in_version_where_spelt.ensures c.args.round c.args.line.version c.args.line.number
    c.args.line.text.now differs)

pub returns-then-is_plain_head : goal.returns-then-is_plain_head
returns-then-is_plain_head c = sym (OnTrue_at c.if-is_plain_head.true c.is_plain_head.ensures)
