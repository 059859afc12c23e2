use Rattle.std.proofs.Common.{◌≡◌, ◌==◌, not, Some, sym, ◌∙◌}
use Rattle.std.specs.List.{find}
use Rattle.order_grammar.proofs.FirstLemmas.{first_differs}
use Rattle.order_grammar.proofs.words.begins_otherwise.Goals as goal

pub returns-in-Some-len1-up : goal.returns-in-Some-len1-up
returns-in-Some-len1-up c =
    let line = c.args.line.now in
    let word = c.args.word.now in
    let found : find (λ b. not (b == 32)) line ≡ Some c.in-Some-len1-up.byte =
    sym c.first_byte.ensures ∙ c.in-Some-len1-up.is-0 in
    rw c.to_ascii_uppercase.ensures.value
    (first_differs line word c.in-Some-len1-up.byte found c.in-Some-len1-up.len_at_least)
